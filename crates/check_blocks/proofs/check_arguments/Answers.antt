-- `check_blocks::check_arguments` meets its contract: their count, then the names.
use mathlib.Core.Path.{sym, ap, ◌∙◌}
use Rattle.record.specs.Reader.{field, times}
use Rattle.record.specs.Tests.{count_test}
use Rattle.record.specs.Read.{name_index, arguments}
use Rattle.record.proofs.Following.{handed_on, read_no, read_is, made, indexes_verdict}
use Rattle.read_fields.specs.Answer.{res}
use Rattle.check_blocks.proofs.check_arguments.Goals as goal

pub returns-in_err-count : goal.returns-in_err-count
unfolding arguments
returns-in_err-count c = let a = c.args in
    handed_on c.from_residual.result c.in_err-count.field-0.0 c.from_residual.ensures.1
    ∙ read_no (field 1 (count_test a.sh)) _ a.s.now a.at _ (sym c.count_at.ensures ∙ ap res c.in_err-count.was)

pub returns : goal.returns
unfolding arguments
returns c = let a = c.args in
    read_is (field 1 (count_test a.sh)) _ a.s.now a.at _ _ _
    (sym c.count_at.ensures ∙ ap res c.in_ok-count.was)
    (c.indexes_at.ensures ∙ sym (indexes_verdict a.n _ _ _)
    ∙ sym (made (times _ (λ left. name_index a.n)) _ a.s.now _))
