-- Document 02, Point 4: a step of a division, over the ints that its operands hold.
use Prim.Native.Nat.{ℕ}
use mathlib.Core.Path.{◌≡◌, refl}
use mathlib.Core.Logic.{◌≢◌}
use mathlib.Core.List.{[], ◌∷◌}
use mathlib.Core.Option.{some}
use Rattle.arith.specs.Word.{div_w}
use Rattle.arith.specs.Value.{int}
use Rattle.arith.specs.Code.{code1, code2, with_code, one_of, two_of}
use Rattle.arith.specs.Operation.{by_zero, as_int, with_both, apply2, eval}
use Rattle.arith.proofs.Operation.{divide_others, divide_stops}
use Rattle.record.specs.Record.{nm}
use Rattle.record.specs.Form.{form}
use Rattle.record.specs.Short.{gives}
use Rattle.machine.specs.Machine.{Context, at_division, Mach, goes, ends, tick, assign, finish, act, step}

module _ (ctx : Context) (m : Mach) (id x a b k n : ℕ) (p : m.store (nm a) ≡ some (int k)) (q : m.store (nm b) ≡ some (int n)) where
  pub quotient_step : n ≢ 0 → step ctx (gives id x 4 (a ∷ b ∷ [])) m ≡ goes (assign (tick m) (nm x) (int (div_w k n)))
  unfolding step tick act form one_of two_of with_code code1 code2 eval with_both apply2 as_int finish
  quotient_step h = rw (p, q) (rw (divide_others k n h) refl)

  pub zero_step : n ≡ 0 → step ctx (gives id x 4 (a ∷ b ∷ [])) m ≡ ends (at_division id by_zero) (tick m)
  unfolding step tick act form one_of two_of with_code code1 code2 eval with_both apply2 as_int finish
  zero_step e = rw (p, q) (rw ((divide_stops k n by_zero).1 e) refl)
