-- `checker::check` meets its contract: a fault of reading is the answer, otherwise the second pass answers.
use mathlib.Core.Path.{sym, ◌∙◌}
use Rattle.record.proofs.Following.{handed_on}
use Rattle.checker.proofs.Laws.{typed_refused, typed_accepted}
use Rattle.checker.proofs.check.Goals as goal

pub returns-in_err-typed : goal.returns-in_err-typed
returns-in_err-typed c =
    handed_on c.from_residual-in_err-typed.result c.in_err-typed.field-0.0 c.from_residual-in_err-typed.ensures.1
    ∙ typed_refused _ _ _ (sym c.read.ensures ∙ c.in_ok-read.was) c.typed.ensures _ c.in_err-typed.was

pub returns : goal.returns
returns c = typed_accepted _ _ _ (sym c.read.ensures ∙ c.in_ok-read.was) c.typed.ensures _ c.in_ok-typed.was
