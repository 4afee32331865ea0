-- "Program": what it writes to standard output, as a function of its standard input.
use Rattle.std.specs.Prelude.{Ok, Err, ℕ, cond, List, [], ◌∷◌, ◌++◌, length, get_or, take, replicate, ltb}
use Rattle.record.specs.Answer.{Returned}
use Rattle.numbering.specs.Made.{digits}
use Rattle.numbering.specs.Rewrite.{Rewritten, rewrite_answer, rewrite, rewrite_leaves}

-- "10, tested before anything else: over 8,192 bytes"
abbrev pub most_input : ℕ
most_input = 8192

-- "Its output buffer is 65,536 bytes, which suffices."
abbrev pub buffer_size : ℕ
buffer_size = 65536

-- "A refusal prints `refused ` number ` at ` offset and a newline"
unfoldable pub refused_line : Returned → List ℕ
refused_line a =
    (0x72 ∷ 0x65 ∷ 0x66 ∷ 0x75 ∷ 0x73 ∷ 0x65 ∷ 0x64 ∷ 0x20 ∷ []) ++
    (digits a.number ++ ((0x20 ∷ 0x61 ∷ 0x74 ∷ 0x20 ∷ []) ++ (digits (get_or a.values 0 0) ++ (0x0A ∷ []))))

-- the bytes written, or the line of the refusal
unfoldable pub shown : Rewritten → List ℕ → List ℕ
shown (Ok t) out = take t.bytes out
shown (Err e) out = refused_line (rewrite_answer (Err e))

-- through rewrite, with a buffer
unfoldable pub output_with : List ℕ → List ℕ → List ℕ
output_with buffer s =
    cond (ltb most_input (length s)) (refused_line (record { number = 10; values = most_input ∷ [] }))
    (shown (rewrite s buffer) (rewrite_leaves s buffer))

unfoldable pub program_output : List ℕ → List ℕ
program_output s = output_with (replicate buffer_size 0) s
