-- `lvn_instr::literal_for` meets its contract: by the constant.
use Prim.Native.Nat.{ℕ}
use mathlib.Core.Logic.{inl, inr}
use mathlib.Core.Path.{◌≡◌, ap, ◌∙◌}
use lib.IntN.{ℤ}
use mir.Facts.{of_z-to_z}
use mir.Syntax.{w64}
use mir.Val.{to_z, of_z, Fits}
use borrow.Author.Rules.{rules}
use Rattle.record.specs.Answer.{literal_of}
use Rattle.record.specs.Record.{Lit}
use Rattle.lvn_instr.proofs.literal_for.Goals as goal

-- the literal of the int z, whose word is w
int_literal :
    (w : ℕ) (z : ℤ) → Fits w64 w → to_z w64 (of_z w64 z) ≡ z → z ≡ to_z w64 w →
    ◌≡◌ {A = Lit} (record { kind = 0; bits = of_z w64 (to_z w64 (of_z w64 z)) }) (record { kind = 0; bits = w })
int_literal w z f s e = ap (λ (n : ℕ). record { kind = 0; bits = n }) (ap (of_z w64) (s ∙ e) ∙ of_z-to_z {w = w64} f)

pub returns-in-Int : goal.returns-in-Int
unfolding literal_of
returns-in-Int c = let l = int_literal c.in-Int.w c.cast_signed.result (search rules) (search rules) c.cast_signed.ensures in
    elim c.in-Int.is [ inl p ↦ rw p l | inr p ↦ rw p l ]

pub returns-in-Bool : goal.returns-in-Bool
unfolding literal_of
returns-in-Bool c = rw c.in-Bool.is
