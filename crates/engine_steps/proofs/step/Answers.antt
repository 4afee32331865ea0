-- `engine_steps::step` meets its contract: with no event, and with one.
use Rattle.engine_steps.proofs.Came.{quiet_steps, quiet_calm}
use Rattle.engine_steps.proofs.step.Goals as goal

pub returns-then-quiet : goal.returns-then-quiet
returns-then-quiet c = let a = c.args in
    let moved = c.quiet_step.ensures in (
      quiet_steps a.g.now a.cells.now _ a.out.now a.p a.t _ moved c.requires.going,
      λ _. quiet_calm a.g.now a.cells.now _ a.out.now a.p a.t _ moved,
    )
