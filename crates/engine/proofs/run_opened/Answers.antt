-- `engine::run_opened` meets its contract: a list that reads begins the run, and one that does not is 13.
use mathlib.Core.Path.{sym, ap, ◌∙◌}
use Rattle.std.proofs.Common.{Err}
use Rattle.record.proofs.Following.{handed_on}
use Rattle.engine_pure.proofs.Works.{read_some, read_none}
use Rattle.engine.proofs.Begun.{answers_refused, begun}
use Rattle.engine.proofs.run_opened.Goals as goal

pub returns-in_err-answers : goal.returns-in_err-answers
returns-in_err-answers c = let a = c.args in
    let (n, u) = read_none _ _ _ c.in_err-answers.ensures.value in
    let e = handed_on c.from_residual.result c.in_err-answers.field-0.0 c.from_residual.ensures.1 ∙ ap Err u in
    rw e (answers_refused a.g.now c.requires (rw (sym n) at c.read_answers.ensures) a.store.now a.limit a.events.now a.left.now)

pub run_told-requires-clause-begun : goal.run_told-requires-clause-begun
run_told-requires-clause-begun c = let n = read_some _ _ _ c.in_ok-answers.ensures.value in
    begun c.args.g.now _ _ _ (rw (sym n) at c.read_answers.ensures) c.land.ensures
