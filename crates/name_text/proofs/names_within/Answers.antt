-- `name_text::names_within` meets its contract: what the names left answer is what all answer.
use mathlib.Core.Path.{sym, ◌∙◌}
use native.Mathlib.Omega.{arith}
use Rattle.record.proofs.Following.{handed_on, row_stopped, row_went, times_done}
use Rattle.numbering.specs.NameText.{name_part}
use Rattle.name_text.proofs.names_within.Goals as goal

pub returns-in_err-p : goal.returns-in_err-p
returns-in_err-p c = λ b. handed_on c.from_residual.result c.in_err-p.field-0.0 c.from_residual.ensures.1
    ∙ row_stopped (name_part b) _ _ _ _ (omega arith) _ (sym (c.name_within.ensures b) ∙ c.in_err-p.was)
    ∙ c.loop.invariant b

pub loop-preserved : goal.loop-preserved
loop-preserved c = λ b. row_went (name_part b) _ _ _ _ (omega arith) _ (sym (c.name_within.ensures b) ∙ c.in_ok-p.was)
    ∙ c.loop.invariant b

pub returns : goal.returns
returns c = λ b. times_done (λ left. name_part b) _ _ _ (omega arith) ∙ c.loop.invariant b
