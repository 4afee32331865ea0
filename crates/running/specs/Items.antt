-- Where each item of a store or a list of answers stands and what it holds, by its bytes alone: for code that reads it a second time, with
-- no tests.
use Rattle.std.specs.Prelude.{ℕ, zero, suc, ◌+◌, List, cond, not, eqb}
use Rattle.std.proofs.Math.Option.{Option, none, some}
use Rattle.arith.specs.Value.{Val, int, float, literal, char, bool, pointer, is_pointer}
use Rattle.record.specs.Reader.{num_at}
use Rattle.machine.specs.Machine.{Answer, value, go_on, halt}
use Rattle.running.specs.House.{nothing_byte, go_on_byte, halt_byte}

-- by type byte and word
unfoldable pub plain_from : ℕ → ℕ → Val
plain_from zero x = int x
plain_from (suc zero) x = bool (not (eqb x 0))
plain_from (suc (suc zero)) x = float x
plain_from (suc (suc (suc zero))) x = char x
plain_from (suc (suc (suc (suc t)))) x = literal x

-- t: the type byte, in front of `at`
module _ (t : ℕ) (s : List ℕ) (at : ℕ) where
  abbrev pub behind_type : Val
  behind_type = cond (is_pointer t) (pointer t (num_at s at 8) (num_at s (at + 8) 8)) (plain_from t (num_at s at 8))

  abbrev pub behind_end : ℕ
  behind_end = cond (is_pointer t) (at + 8 + 8) (at + 8)

module _ (s : List ℕ) (at : ℕ) where
  unfoldable pub stored_from : Option Val
  stored_from = cond (eqb (num_at s at 1) nothing_byte) none (some (behind_type (num_at s at 1) s (at + 1)))

  unfoldable pub stored_end : ℕ
  stored_end = cond (eqb (num_at s at 1) nothing_byte) (at + 1) (behind_end (num_at s at 1) s (at + 1))

  unfoldable pub answer_from : Answer
  answer_from =
      cond (eqb (num_at s at 1) go_on_byte) go_on
      (cond (eqb (num_at s at 1) halt_byte) halt
      (value (behind_type (num_at s at 1) s (at + 1))))

  unfoldable pub answer_end : ℕ
  answer_end =
      cond (eqb (num_at s at 1) go_on_byte) (at + 1)
      (cond (eqb (num_at s at 1) halt_byte) (at + 1)
      (behind_end (num_at s at 1) s (at + 1)))
