-- What the loop keeps: the mark of the bytes left, from the mark so far, is the mark of all.
use Prim.Native.Nat.{◌<◌}
use mathlib.Core.Path.{◌≡◌}
use lib.ListN.{drop}
use Rattle.check_names.specs.declared.TheConstants.{MARKS}
use Rattle.check_names.specs.Marks.{mark}
use Rattle.check_names.proofs.mark_of.Given as goal

abbrev pub invariant-loop-b : goal.invariant-loop-b
invariant-loop-b l = record {
  below : l.h < MARKS;
  same : mark l.h (drop l.b-index l.text) ≡ mark 0 l.text;
}
