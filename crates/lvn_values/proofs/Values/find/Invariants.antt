-- What the loop keeps.
use Prim.Native.Nat.{◌-◌}
use mathlib.Core.Option.{some}
use mathlib.Core.Path.{◌≡◌}
use Rattle.arith.specs.Operation.{Expr}
use Rattle.numbering.specs.Number.{find}
use Rattle.numbering.specs.declared.ValNum.{ValNum}
use Rattle.lvn_values.specs.Table.{expr_at, vals_of}
use Rattle.lvn_values.proofs.Values.find.Given as goal

abbrev pub invariant-loop-i : goal.invariant-loop-i
invariant-loop-i _ l = (x : Expr ValNum) → expr_at l.e.head l.e.num ≡ some x →
    find (vals_of l.self.heads l.self.nums l.self.count) x l.i (l.self.count - l.i) ≡
    find (vals_of l.self.heads l.self.nums l.self.count) x 0 l.self.count
