-- What the loop keeps: the names left answer what all answer.
use Prim.Native.Nat.{◌-◌, ◌≤◌}
use mathlib.Core.Path.{◌≡◌}
use lib.ListN.{length}
use Rattle.record.specs.Text.{among}
use Rattle.record.specs.Decode.{behind, name_end}
use Rattle.read_layout.specs.Layout.{texts_from}
use Rattle.check_texts.proofs.used_in.Given as goal

abbrev pub invariant-loop : goal.invariant-loop
invariant-loop l = record {
  within : behind (name_end l.s) l.p (l.fn.before.count - l.counter) ≤ length l.s;
  same : among l.text (texts_from l.s l.p (l.fn.before.count - l.counter)) ≡ among l.text (texts_from l.s l.fn.before.from l.fn.before.count);
}
