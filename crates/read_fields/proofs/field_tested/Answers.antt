-- `read_fields::field_tested` meets its contract: a field, and then its test.
use mathlib.Core.Path.{sym, ap, ◌∙◌}
use borrow.Author.Rules.{rules}
use Rattle.record.proofs.Following.{handed_on, tested_no, field_judged}
use Rattle.read_fields.specs.Answer.{res}
use Rattle.read_fields.proofs.field_tested.Goals as goal

pub returns-in_err-x : goal.returns-in_err-x
returns-in_err-x g c = let a = c.args in λ t is.
    ap res (handed_on c.from_residual.result c.in_err-x.field-0.0 c.from_residual.ensures.1)
    ∙ tested_no g.row.N t a.s.now a.at _ _ (sym c.field_at.ensures ∙ ap res c.in_err-x.was)

pub returns : goal.returns
returns g c = let a = c.args in λ t is.
    field_judged g.row.N t a.s.now a.at _ _ _ _
    (sym c.field_at.ensures ∙ ap res c.in_ok-x.was)
    (is _ _ (search rules) c.test.ensures) c.tested.ensures
