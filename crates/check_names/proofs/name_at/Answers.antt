-- `check_names::name_at` meets its contract: type, length and text, as the definition reads them.
use mathlib.Core.Path.{sym, ap, ◌∙◌}
use native.Mathlib.Omega.{arith}
use Rattle.record.proofs.Following.{handed_on}
use Rattle.read_fields.specs.Answer.{res}
use Rattle.check_names.proofs.Laws.{type_ends, length_tells, type_refused, length_refused, text_last}
use Rattle.check_names.proofs.name_at.Goals as goal

pub returns-in_err-q : goal.returns-in_err-q
returns-in_err-q c = let a = c.args in
    handed_on c.from_residual.result c.in_err-q.field-0.0 c.from_residual.ensures.1
    ∙ type_refused a.lim _ a.s.now a.p _ (sym c.type_field.ensures ∙ ap res c.in_err-q.was)

pub returns-in_err-n : goal.returns-in_err-n
returns-in_err-n c = let a = c.args in
    handed_on c.from_residual-in_err-n.result c.in_err-n.field-0.0 c.from_residual-in_err-n.ensures.1
    ∙ length_refused a.lim _ a.s.now a.p _ _ (sym c.type_field.ensures ∙ ap res c.in_ok-q.was) _
    (sym c.text_length_at.ensures ∙ ap res c.in_err-n.was)

pub text_at-requires : goal.text_at-requires
text_at-requires c = let a = c.args in
    let s = a.s.now in
    let q = type_ends s a.p _ _ (sym c.type_field.ensures ∙ ap res c.in_ok-q.was) in
    let t = length_tells a.lim.text s _ _ _ (sym c.text_length_at.ensures ∙ ap res c.in_ok-n.was) in
    (t.0, omega (arith, q, t.1, c.requires))

pub returns : goal.returns
returns c = let a = c.args in
    text_last a.lim _ a.s.now a.p _ _ (sym c.type_field.ensures ∙ ap res c.in_ok-q.was) _ _ _
    (sym c.text_length_at.ensures ∙ ap res c.in_ok-n.was) c.text_at.ensures
