-- Answers read a second time: what stands at the place of an answer that was read, as the code has it, is that answer, and ends where it ends.
use Prim.Native.Nat.{ℕ, ◌+◌}
use mathlib.Core.Path.{◌≡◌, refl, sym, ap, ◌∙◌}
use mathlib.Core.List.{List}
use mathlib.Core.Bool.{Bool, true, false, cond, ◌||◌}
use native.Mathlib.Omega.{arith}
use lib.Dec.{eqb}
use borrow.Author.Tests.{leb-true, leb-false}
use Rattle.arith.specs.Value.{pointer, is_pointer}
use Rattle.record.specs.Reader.{num_at}
use Rattle.machine.specs.Machine.{value, go_on, halt}
use Rattle.running.specs.House.{nothing_byte, go_on_byte, halt_byte, value_type}
use Rattle.running.specs.Items.{plain_from, behind_type, answer_from, answer_end}
use Rattle.engine_cells.specs.declared.Cell.{Cell}
use Rattle.engine_cells.specs.Cells.{cell_value}
use Rattle.engine_cells.proofs.Store.{by_plain, by_pointer}
use Rattle.engine_house.specs.declared.Answer.TheVariants.{GoOn, Halt, Value}
use Rattle.engine_house.specs.Reads.{answer_there, answer_of, IsSet, end_of}
use Rattle.engine_house.proofs.Values.{no_pointer}

module _ (s : List ℕ) (at : ℕ) where
  abbrev first : ℕ
  first = num_at s at 1

  -- the cell of the value that the code reads there
  abbrev cell_again : Cell
  cell_again = record { kind = num_at s at 1; word = num_at s (at + 1) 8; offset = num_at s (at + 1 + 8) 8 }

  pub end_again : end_of (answer_there s at) at ≡ answer_end s at
  unfolding answer_end
  end_again = go (eqb first go_on_byte) (eqb first halt_byte)
    where
      go :
          (a b : Bool) →
          end_of (cond a GoOn (cond b Halt (Value cell_again))) at ≡
          cond a (at + 1) (cond b (at + 1) (cond (is_pointer first) (at + 1 + 8 + 8) (at + 1 + 8)))
      go true b = refl
      go false true = refl
      go false false = refl

  value_again :
      value_type first ≡ true → (b : Bool) → is_pointer first ≡ b →
      cell_value cell_again ≡ cond b (pointer first (num_at s (at + 1) 8) (num_at s (at + 1 + 8) 8)) (plain_from first (num_at s (at + 1) 8))
  value_again v true p = by_pointer first (num_at s (at + 1) 8) (num_at s (at + 1 + 8) 8) (omega (arith, leb-true 16 first p))
  value_again v false p =
      by_plain first (num_at s (at + 1) 8) (num_at s (at + 1 + 8) 8) (no_pointer first (rw v tt) (leb-false 16 first p))

  -- its first byte is as in `Sure`
  module _ (known : (eqb first go_on_byte || (eqb first halt_byte || value_type first)) ≡ true) where
    pub answer_again : answer_of (answer_there s at) ≡ answer_from s at
    unfolding answer_from
    answer_again = go (eqb first go_on_byte) (eqb first halt_byte) known
      where
        go :
            (a b : Bool) → (a || (b || value_type first)) ≡ true →
            answer_of (cond a GoOn (cond b Halt (Value cell_again))) ≡ cond a go_on (cond b halt (value (behind_type first s (at + 1))))
        go true b h = refl
        go false true h = refl
        go false false h = ap value (value_again h (is_pointer first) refl)

    pub set_again : IsSet (answer_there s at)
    set_again = go (eqb first go_on_byte) (eqb first halt_byte) known
      where
        go : (a b : Bool) → (a || (b || value_type first)) ≡ true → IsSet (cond a GoOn (cond b Halt (Value cell_again)))
        go true b h = tt
        go false true h = tt
        go false false h = λ e. let n : value_type nothing_byte ≡ true = ap value_type (sym e) ∙ h in absurd (cc n)
