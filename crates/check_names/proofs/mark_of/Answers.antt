-- `check_names::mark_of` meets its contract: the mark of the bytes left, from the mark so far, is the mark of all.
use mathlib.Core.Path.{◌∙◌}
use native.Mathlib.Omega.{arith}
use Rattle.check_names.proofs.Marks.{mark_went, mark_done}
use Rattle.check_names.proofs.mark_of.Goals as goal

pub loop-b-preserved : goal.loop-b-preserved
loop-b-preserved c = let w = c.loop-b in
    record { below = omega arith; same = (rw c.from.ensures (mark_went c.args.text.now w.b-index w.h (omega arith))) ∙ w.invariant.same }

pub returns : goal.returns
returns c = let w = c.loop-b in
    (mark_done c.args.text.now w.b-index w.h (omega arith) ∙ w.invariant.same, w.invariant.below)
