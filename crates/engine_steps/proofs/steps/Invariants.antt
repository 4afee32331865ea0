-- What the loop keeps: how far the run has come; and its measure.
use Rattle.engine_steps.specs.Came.{Upto}
use Rattle.engine_steps.proofs.steps.Given as goal

abbrev pub invariant-loop-t : goal.invariant-loop-t
invariant-loop-t l = Upto l.g l.initial.cells l.cells l.initial.out l.out l.initial.t l.t

abbrev pub decreases-loop-t : goal.decreases-loop-t
decreases-loop-t l = l.t.more
