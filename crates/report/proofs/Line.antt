-- The line of a refusal, written part by part.
use Prim.Native.Nat.{ℕ, ◌+◌}
use mathlib.Core.Path.{◌≡◌, subst}
use mathlib.Core.List.{List, [], ◌∷◌, ◌++◌}
use Rattle.record.specs.Write.{be}
use Rattle.numbering.specs.Made.{digits}
use Rattle.numbering.specs.Program.{refused_line}
use Rattle.write_bytes.specs.Put.{put, Wrote}
use Rattle.write_bytes.proofs.Wrote.{wrote_append, wrote_number}

-- `refused `
abbrev pub refused : List ℕ
refused = 0x72 ∷ 0x65 ∷ 0x66 ∷ 0x75 ∷ 0x73 ∷ 0x65 ∷ 0x64 ∷ 0x20 ∷ []

-- ` at `
abbrev pub at : List ℕ
at = 0x20 ∷ 0x61 ∷ 0x74 ∷ 0x20 ∷ []

pub line_wrote :
    {l m n o t r : List ℕ} {i p q v u x : ℕ} (number value : ℕ) →
    x ≡ number →
    Wrote l m i p refused →
    Wrote m n p q (digits x) →
    Wrote n o q v at →
    Wrote o t v u (digits value) →
    r ≡ put t u (be 1 0x0A) →
    Wrote l r i (u + 1) (refused_line (record { number = number; values = value ∷ [] }))
unfolding be refused_line
line_wrote {m = m} {n = n} {p = p} {q = q} number value same a b c d e =
    wrote_append refused (digits number ++ (at ++ (digits value ++ be 1 0x0A))) a
    (wrote_append (digits number) (at ++ (digits value ++ be 1 0x0A))
    (subst (λ (k : ℕ). Wrote m n p q (digits k)) same b)
    (wrote_append at (digits value ++ be 1 0x0A) c
    (wrote_append (digits value) (be 1 0x0A) d (wrote_number 1 0x0A e))))
