-- `rewrite::rewrite_accepted` meets its contract: what is written of the record laid open is its rewriting.
use mathlib.Core.Path.{sym, ◌∙◌}
use Rattle.rewrite.proofs.Answers.{accepted_result, accepted_output}
use Rattle.rewrite.proofs.rewrite_accepted.Goals as goal

pub returns : goal.returns
returns c = let p = c.requires in
    let h = c.with_opened.ensures in
    let r = rw (h.3, h.5) at h.7 in
    (r.0 ∙ accepted_result _ p _, sym h.6 ∙ r.1 ∙ accepted_output _ p _)
