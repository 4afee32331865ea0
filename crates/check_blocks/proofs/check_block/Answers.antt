-- `check_blocks::check_block` meets its contract: its count, its saves, then its instructions.
use mathlib.Core.Path.{sym, ap, ◌∙◌}
use lib.Dec.{eqb}
use Rattle.record.specs.Reader.{times}
use Rattle.record.specs.Read.{instr, block}
use Rattle.record.proofs.Following.{handed_on, read_no, read_is, made}
use Rattle.read_fields.specs.Answer.{res}
use Rattle.check_blocks.proofs.check_block.Goals as goal

pub returns-in_err-count : goal.returns-in_err-count
unfolding block
returns-in_err-count c =
    handed_on c.from_residual.result c.in_err-count.field-0.0 c.from_residual.ensures.1
    ∙ read_no _ _ _ _ _ (sym c.limited.ensures ∙ ap res c.in_err-count.was)

pub returns-in_err-q : goal.returns-in_err-q
unfolding block
returns-in_err-q c =
    handed_on c.from_residual-in_err-q.result c.in_err-q.field-0.0 c.from_residual-in_err-q.ensures.1
    ∙ read_is _ _ _ _ _ _ _ (sym c.limited.ensures ∙ ap res c.in_ok-count.was)
    (read_no _ _ _ _ _ (sym c.saves_at.ensures ∙ ap res c.in_err-q.was))

pub returns : goal.returns
unfolding block
returns c = let a = c.args in
    read_is _ _ _ _ _ _ _ (sym c.limited.ensures ∙ ap res c.in_ok-count.was)
    (read_is _ _ _ _ _ _ _
    (sym c.saves_at.ensures ∙ ap res c.in_ok-q.was)
    (c.check_instrs.ensures ∙ sym (made (times _ (λ left. instr a.of.width a.of.names a.of.blocks (eqb left 0))) _ _ _)))
