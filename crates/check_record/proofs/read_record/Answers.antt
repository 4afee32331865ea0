-- `check_record::read_record` meets its contract: the length, the contents and the end, as the definition reads them.
use mathlib.Core.Path.{sym, ap, ◌∙◌}
use Rattle.record.specs.Read.{read, end}
use Rattle.record.proofs.Following.{handed_on, read_no, read_is, stopped, passed, made}
use Rattle.read_fields.specs.Answer.{res}
use Rattle.check_record.proofs.read_record.Goals as goal

pub returns-in_err-p : goal.returns-in_err-p
unfolding read
returns-in_err-p c =
    handed_on c.from_residual.result c.in_err-p.field-0.0 c.from_residual.ensures.1
    ∙ read_no _ _ _ _ _ (sym c.length_at.ensures ∙ ap res c.in_err-p.was)

pub returns-in_err-q : goal.returns-in_err-q
unfolding read
returns-in_err-q c =
    handed_on c.from_residual-in_err-q.result c.in_err-q.field-0.0 c.from_residual-in_err-q.ensures.1
    ∙ read_is _ _ _ _ _ _ _ (sym c.length_at.ensures ∙ ap res c.in_ok-p.was)
    (stopped _ _ _ _ _ (sym c.contents_at.ensures ∙ c.in_err-q.was))

pub returns : goal.returns
unfolding read
returns c = read_is _ _ _ _ _ _ _ (sym c.length_at.ensures ∙ ap res c.in_ok-p.was)
    (passed _ _ _ _ _ _ (sym c.contents_at.ensures ∙ c.in_ok-q.was) (λ r.
    c.end_at.ensures ∙ sym (made end (λ e. r) _ _)))
