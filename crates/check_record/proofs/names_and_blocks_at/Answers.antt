-- `check_record::names_and_blocks_at` meets its contract: part after part, as the definition reads them.
use mathlib.Core.Path.{sym, ap, ◌∙◌}
use Rattle.record.proofs.Following.{handed_on, read_no, read_is, stopped, passed}
use Rattle.read_fields.specs.Answer.{res}
use Rattle.check_record.specs.Parts.{names_and_blocks}
use Rattle.check_record.proofs.names_and_blocks_at.Goals as goal

pub returns-in_err-p : goal.returns-in_err-p
unfolding names_and_blocks
returns-in_err-p c =
    handed_on c.from_residual.result c.in_err-p.field-0.0 c.from_residual.ensures.1
    ∙ stopped _ _ _ _ _ (sym c.names_at.ensures ∙ c.in_err-p.was)

pub returns-in_err-blocks : goal.returns-in_err-blocks
unfolding names_and_blocks
returns-in_err-blocks c =
    handed_on c.from_residual-in_err-blocks.result c.in_err-blocks.field-0.0 c.from_residual-in_err-blocks.ensures.1
    ∙ passed _ _ _ _ _ _ (sym c.names_at.ensures ∙ c.in_ok-p.was) (λ xs.
    read_no _ _ _ _ _ (sym c.limited.ensures ∙ ap res c.in_err-blocks.was))

pub returns : goal.returns
unfolding names_and_blocks
returns c = passed _ _ _ _ _ _ (sym c.names_at.ensures ∙ c.in_ok-p.was) (λ xs.
    read_is _ _ _ _ _ _ _ (sym c.limited.ensures ∙ ap res c.in_ok-blocks.was)
    c.check_blocks.ensures)
