-- `rewrite::rewrite` meets its contract: check decides, and an accepted record is rewritten.
use mathlib.Core.Path.{sym, ◌∙◌}
use Rattle.record.proofs.Following.{handed_on}
use Rattle.rewrite.proofs.Answers.{refused_result, refused_output}
use Rattle.rewrite.proofs.rewrite.Goals as goal

pub rewrite_accepted-requires : goal.rewrite_accepted-requires
rewrite_accepted-requires c = sym c.check.ensures ∙ c.in_ok-check.was

pub returns-in_err-check : goal.returns-in_err-check
returns-in_err-check c = let h = sym c.check.ensures ∙ c.in_err-check.was in
    (handed_on c.from_residual.result _ c.from_residual.ensures.1 ∙ refused_result _ _ h _, refused_output _ _ h _)
