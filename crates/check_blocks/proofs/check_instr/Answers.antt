-- `check_blocks::check_instr` meets its contract: its id, its code, then its operands.
use mathlib.Core.Path.{sym, ap, ◌∙◌}
use Rattle.record.specs.Read.{instr}
use Rattle.record.proofs.Following.{handed_on, read_no, read_is, stopped, passed, here_is, shaped}
use Rattle.read_fields.specs.Answer.{res}
use Rattle.check_blocks.proofs.check_instr.Goals as goal

pub returns-in_err-p : goal.returns-in_err-p
unfolding instr
returns-in_err-p c =
    handed_on c.from_residual.result c.in_err-p.field-0.0 c.from_residual.ensures.1
    ∙ here_is _ _ _ _ (stopped _ _ _ _ _ (sym c.skip_at.ensures ∙ c.in_err-p.was))

pub returns-in_err-code : goal.returns-in_err-code
unfolding instr
returns-in_err-code c =
    handed_on c.from_residual-in_err-code.result c.in_err-code.field-0.0 c.from_residual-in_err-code.ensures.1
    ∙ here_is _ _ _ _
    (passed _ _ _ _ _ _ (sym c.skip_at.ensures ∙ c.in_ok-p.was) (λ id.
    read_no _ _ _ _ _ (sym c.code_at.ensures ∙ ap res c.in_err-code.was)))

pub returns : goal.returns
unfolding instr
returns c = here_is _ _ _ _
    (passed _ _ _ _ _ _ (sym c.skip_at.ensures ∙ c.in_ok-p.was) (λ id.
    read_is _ _ _ _ _ _ _
    (sym c.code_at.ensures ∙ ap res c.in_ok-code.was)
    (shaped _ _ _ _ _ _ _ _ _ c.check_operands.ensures c.shape_of.ensures)))
