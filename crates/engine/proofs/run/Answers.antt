-- `engine::run` meets its contract: check decides, and an accepted record is run.
use mathlib.Core.Path.{sym, ◌∙◌}
use Rattle.record.proofs.Following.{handed_on}
use Rattle.running.specs.declared.RunError.TheVariants.{Refused}
use Rattle.engine.proofs.Begun.{refuses}
use Rattle.engine.proofs.run.Goals as goal

pub returns-in_err-check : goal.returns-in_err-check
returns-in_err-check c = let a = c.args in
    let f = c.in_err-check.field-0.0 in
    let r = refuses a.input.now a.store.now a.answers.now a.limit a.events.now a.left.now f (sym c.check.ensures ∙ c.in_err-check.was) in
    (handed_on c.from_residual.result (Refused f) c.from_residual.ensures.1 ∙ r.answer, (r.events_are, r.store_is))
