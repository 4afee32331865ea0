-- `name_text::name_within` meets its contract: field after field, as the definition reads them.
use mathlib.Core.Path.{sym, ap, ◌∙◌}
use Rattle.record.proofs.Following.{handed_on}
use Rattle.read_fields.specs.Answer.{res}
use Rattle.name_text.proofs.Laws.{type_past, length_past, text_last}
use Rattle.name_text.proofs.name_within.Goals as goal

pub returns-in_err-q : goal.returns-in_err-q
returns-in_err-q c = λ b. handed_on c.from_residual.result c.in_err-q.field-0.0 c.from_residual.ensures.1
    ∙ type_past b _ _ _ (sym c.field_at.ensures ∙ ap res c.in_err-q.was)

pub returns-in_err-n : goal.returns-in_err-n
returns-in_err-n c = λ b. handed_on c.from_residual-in_err-n.result c.in_err-n.field-0.0 c.from_residual-in_err-n.ensures.1
    ∙ length_past b _ _ _ _ (sym c.field_at.ensures ∙ ap res c.in_ok-q.was) _ (sym c.field_at-2.ensures ∙ ap res c.in_err-n.was)

pub returns : goal.returns
returns c = λ b. text_last b _ _ _ _ (sym c.field_at.ensures ∙ ap res c.in_ok-q.was) _ _ _
    (sym c.field_at-2.ensures ∙ ap res c.in_ok-n.was) c.skip_at.ensures
