-- Rewrite and the program by example: refusals, untouched bytes and lines; and the samples whose runs are computed.
use Rattle.std.specs.Prelude.{ℕ, ◌≡◌, refl, true, List, [], ◌∷◌, ◌++◌, map, replicate}
use Rattle.record.specs.Samples.{division, division_rewritten, call, call_rewritten, call_wide, call_wide_rewritten, loop, loop_rewritten, walk, walk_rewritten, comparison, comparison_rewritten, quotient, quotient_rewritten, join, join_rewritten}
use Rattle.record.specs.Hex.{hex}
use Rattle.record.specs.Text.{same_bytes}
use Rattle.numbering.specs.Program.{output_with}
use Rattle.numbering.specs.Rewrite.{rewrite_answer, rewrite, rewrite_leaves}
use Rattle.numbering.specs.Opened.{all_of_numbering}

-- the smallest record of each version, and a record of version 3, which check refuses
abbrev pub smallest : List ℕ
smallest = hex "00000006 01 00 0000 0000"

abbrev pub smallest_wide : List ℕ
smallest_wide = hex "00000006 02 00 0000 0000"

abbrev pub version_3 : List ℕ
version_3 = hex "00000006 03 00 0000 0000"

-- what rewrite returns: into outputs of 12, 10 and 9 bytes; a refusal of check comes before 9; bytes and saves of the loop
pub answers :
    map rewrite_answer
    (map (λ n. rewrite smallest (replicate n 0xEE)) (12 ∷ 10 ∷ 9 ∷ []) ++
    (rewrite version_3 [] ∷ rewrite smallest_wide (replicate 10 0) ∷ rewrite loop (replicate 200 0) ∷ [])) ≡
    record { number = 0; values = 10 ∷ 0 ∷ [] } ∷
    record { number = 0; values = 10 ∷ 0 ∷ [] } ∷
    record { number = 9; values = 10 ∷ [] } ∷
    record { number = 2; values = 4 ∷ [] } ∷
    record { number = 0; values = 10 ∷ 0 ∷ [] } ∷
    record { number = 0; values = 101 ∷ 1 ∷ [] } ∷
    []
unfolding all_of_numbering
answers = refl

abbrev pub prints : List ℕ → List ℕ
prints s = output_with (replicate 180 0xEE) s

-- what rewrite leaves in these outputs, and what the program writes
pub leaves :
    map (λ n. rewrite_leaves smallest (replicate n 0xEE)) (12 ∷ 10 ∷ 9 ∷ []) ++
    (rewrite_leaves version_3 (hex "EE EE EE") ∷
    map prints (smallest_wide ∷ [] ∷ version_3 ∷ replicate 8193 0 ∷ replicate 8192 0 ∷ [])) ≡
    hex "00000006 01 00 0000 0000 EE EE" ∷
    hex "00000006 01 00 0000 0000" ∷
    hex "EE EE EE EE EE EE EE EE EE" ∷
    hex "EE EE EE" ∷
    hex "00000006 02 00 0000 0000" ∷
    -- `refused 1 at 0`, `refused 2 at 4`, `refused 10 at 8192`; 8,192 bytes pass the test of 10
    hex "72 65 66 75 73 65 64 20 31 20 61 74 20 30 0A" ∷
    hex "72 65 66 75 73 65 64 20 32 20 61 74 20 34 0A" ∷
    hex "72 65 66 75 73 65 64 20 31 30 20 61 74 20 38 31 39 32 0A" ∷
    hex "72 65 66 75 73 65 64 20 31 20 61 74 20 30 0A" ∷
    []
unfolding all_of_numbering
leaves = refl

-- the samples whose runs are computed in the crate machine have these rewritings
pub samples :
    same_bytes (prints division) division_rewritten ∷
    same_bytes (prints call) call_rewritten ∷
    same_bytes (prints call_wide) call_wide_rewritten ∷
    same_bytes (prints loop) loop_rewritten ∷
    same_bytes (prints walk) walk_rewritten ∷
    same_bytes (prints comparison) comparison_rewritten ∷
    same_bytes (prints quotient) quotient_rewritten ∷
    same_bytes (prints join) join_rewritten ∷
    [] ≡
    true ∷ true ∷ true ∷ true ∷ true ∷ true ∷ true ∷ true ∷ []
unfolding all_of_numbering
samples = refl
