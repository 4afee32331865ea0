-- `name_text::part_of` meets its contract: the check, then the head, then the names.
use mathlib.Core.Path.{sym, ◌∙◌}
use native.Mathlib.Omega.{arith}
use Rattle.record.proofs.Following.{handed_on}
use Rattle.name_text.proofs.Laws.{not_checked, when_headed, when_not}
use Rattle.name_text.proofs.part_of.Goals as goal

pub returns-in_err-check : goal.returns-in_err-check
returns-in_err-check c = not_checked _ _ _ _ _ (handed_on c.from_residual.result _ c.from_residual.ensures.1)
    (sym c.check.ensures ∙ c.in_err-check.was)

pub returns-then-headed : goal.returns-then-headed
returns-then-headed c = (
  c.both.ensures.0
      ∙ when_headed _ _ _ _ (sym c.check.ensures ∙ c.in_ok-check.was) c.byte_or.ensures.0 (sym c.headed.ensures ∙ c.if-headed.true),
  c.both.ensures.1,
)

pub returns-else-headed : goal.returns-else-headed
returns-else-headed c = (
  when_not _ _ _ _ (sym c.check.ensures ∙ c.in_ok-check.was) c.byte_or.ensures.0 (sym c.headed.ensures ∙ c.if-headed.false),
  omega arith,
)
