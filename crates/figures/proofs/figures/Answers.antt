-- `figures::figures` meets its contract: check decides, and of an accepted record the figures are worked out.
use mathlib.Core.Path.{sym, ◌∙◌}
use Rattle.record.proofs.Following.{handed_on}
use Rattle.figures.proofs.Answers.{refused_result, refused_places}
use Rattle.figures.proofs.figures.Goals as goal

pub figures_accepted-requires : goal.figures_accepted-requires
figures_accepted-requires c = sym c.check.ensures ∙ c.in_ok-check.was

pub returns-in_err-check : goal.returns-in_err-check
returns-in_err-check c = let h = sym c.check.ensures ∙ c.in_err-check.was in
    (handed_on c.from_residual.result _ c.from_residual.ensures.1 ∙ refused_result _ _ h _, refused_places _ _ h _)
