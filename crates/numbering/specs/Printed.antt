-- The program by example: its two sizes, the buffer that its output is of, and what it prints for each answer of rewrite.
use Rattle.std.specs.Prelude.{Ok, Err, ℕ, ◌≡◌, refl, List, [], ◌∷◌, map, replicate}
use Rattle.record.specs.Hex.{hex}
use Rattle.record.specs.declared.Refusal.TheVariants.{Length, Place}
use Rattle.record.specs.Answer.{fault_at}
use Rattle.numbering.specs.declared.RewriteError.TheVariants.{Refused, Room}
use Rattle.numbering.specs.Rewrite.{totals}
use Rattle.numbering.specs.Program.{most_input, buffer_size, shown, output_with, program_output}
use Rattle.numbering.specs.Opened.{all_of_numbering}

pub sizes : (most_input ≡ 8192) × (buffer_size ≡ 65536)
sizes = (refl, refl)

-- "Its output buffer is 65,536 bytes"
pub program_buffer : (s : List ℕ) → program_output s ≡ output_with (replicate 65536 0) s
unfolding program_output
program_buffer s = refl

-- as many bytes as were written; `refused 1 at 0`, `refused 8 at 8191`, `refused 9 at 65537`
pub shows :
    map (λ a. shown a (0xA0 ∷ 0xA1 ∷ 0xA2 ∷ [])) (Ok (totals 2 1) ∷ Err (Refused (fault_at Length 0)) ∷ Err (Refused (fault_at Place 8191)) ∷ Err (Room 65537) ∷ []) ≡
    (0xA0 ∷ 0xA1 ∷ []) ∷
    hex "72 65 66 75 73 65 64 20 31 20 61 74 20 30 0A" ∷
    hex "72 65 66 75 73 65 64 20 38 20 61 74 20 38 31 39 31 0A" ∷
    hex "72 65 66 75 73 65 64 20 39 20 61 74 20 36 35 35 33 37 0A" ∷
    []
unfolding all_of_numbering
shows = refl
