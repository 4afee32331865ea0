-- What the loop keeps.
use Prim.Native.Nat.{◌-◌}
use mathlib.Core.Bool.{◌||◌}
use mathlib.Core.Path.{◌≡◌}
use lib.ListN.{length}
use Rattle.lvn_values.specs.Table.{holds}
use Rattle.lvn_values.proofs.holds.Given as goal

abbrev pub invariant-loop-y : goal.invariant-loop-y
invariant-loop-y l = l.hit || holds l.l l.x l.y-index (length l.l - l.y-index) ≡ holds l.l l.x 0 (length l.l)
