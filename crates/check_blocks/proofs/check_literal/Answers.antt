-- `check_blocks::check_literal` meets its contract: its kind, then its bits.
use mathlib.Core.Path.{sym, ap, ◌∙◌}
use Rattle.record.specs.Reader.{field}
use Rattle.record.specs.Tests.{at_most, literal_test}
use Rattle.record.specs.Answer.{verdict}
use Rattle.record.specs.Read.{literal}
use Rattle.record.proofs.Following.{handed_on, read_no, read_is, made}
use Rattle.read_fields.specs.Answer.{res}
use Rattle.check_blocks.proofs.check_literal.Goals as goal

pub returns-in_err-kind : goal.returns-in_err-kind
unfolding literal
returns-in_err-kind c = let a = c.args in
    handed_on c.from_residual.result c.in_err-kind.field-0.0 c.from_residual.ensures.1
    ∙ read_no (field 1 (at_most 3)) _ a.s.now a.at _ (sym (rw c.from.ensures at c.limited.ensures) ∙ ap res c.in_err-kind.was)

pub returns : goal.returns
unfolding literal
returns c = let a = c.args in
    read_is (field 1 (at_most 3)) _ a.s.now a.at _ _ _
    (sym (rw c.from.ensures at c.limited.ensures) ∙ ap res c.in_ok-kind.was)
    (c.verdict.ensures ∙ ap verdict c.bits_at.ensures ∙ sym (made (field 8 (literal_test _)) _ a.s.now _))
