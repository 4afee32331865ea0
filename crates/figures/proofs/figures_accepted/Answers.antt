-- `figures::figures_accepted` meets its contract: what is counted of the record laid open are its figures.
use mathlib.Core.Path.{sym, ◌∙◌}
use Rattle.figures.proofs.Answers.{accepted_result, accepted_places}
use Rattle.figures.proofs.figures_accepted.Goals as goal

pub returns : goal.returns
returns c = let p = c.requires in
    let h = c.with_opened.ensures in
    let r = rw (h.3, h.5) at h.7 in
    (r.0 ∙ accepted_result _ p _, sym h.6 ∙ r.1 ∙ accepted_places _ p _)
