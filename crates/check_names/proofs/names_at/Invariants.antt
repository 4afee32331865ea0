-- What the loop keeps: what the names left answer is what all answer, and each text seen has its mark.
use Prim.Native.Nat.{◌-◌}
use mathlib.Core.Path.{◌≡◌}
use mathlib.Core.List.{[]}
use lib.ListN.{length}
use Rattle.record.specs.Read.{names}
use Rattle.record.specs.Answer.{verdict}
use Rattle.record.specs.Decode.{behind, name_end}
use Rattle.read_layout.specs.Layout.{texts_from}
use Rattle.check_names.specs.declared.TheConstants.{MARKS}
use Rattle.check_names.proofs.Marks.{Marked}
use Rattle.check_names.proofs.names_at.Given as goal

abbrev pub invariant-loop-i : goal.invariant-loop-i
invariant-loop-i l = record {
  place : l.p ≡ behind (name_end l.s) l.at l.i;
  same : verdict (names l.lim (texts_from l.s l.at l.i) (l.count - l.i) l.s l.p) ≡ verdict (names l.lim [] l.count l.s l.at);
  long : length l.seen ≡ MARKS;
  marked : Marked l.seen (texts_from l.s l.at l.i);
}
