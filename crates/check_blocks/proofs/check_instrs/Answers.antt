-- `check_blocks::check_instrs` meets its contract: the rest from here gives the whole answer.
use mathlib.Core.Path.{sym, ◌∙◌}
use native.Mathlib.Omega.{arith}
use lib.Dec.{eqb}
use Rattle.record.specs.Read.{instr}
use Rattle.record.proofs.Following.{handed_on, times_stopped, times_went, times_done}
use Rattle.check_blocks.proofs.check_instrs.Goals as goal

pub returns-in_err-p : goal.returns-in_err-p
returns-in_err-p c = let a = c.args in
    let l = c.loop-left in
    handed_on c.from_residual.result c.in_err-p.field-0.0 c.from_residual.ensures.1
    ∙ times_stopped (λ k. instr a.of.width a.of.names a.of.blocks (eqb k 0)) a.s.now l.p l.left (omega (arith, c.loop-left-test.true)) _ (sym c.check_instr.ensures ∙ c.in_err-p.was)
    ∙ l.invariant

pub loop-left-preserved : goal.loop-left-preserved
loop-left-preserved c = let a = c.args in
    let l = c.loop-left in
    times_went (λ k. instr a.of.width a.of.names a.of.blocks (eqb k 0)) a.s.now l.p l.left (omega (arith, c.loop-left-test.true)) _ (sym c.check_instr.ensures ∙ c.in_ok-p.was)
    ∙ l.invariant

pub returns : goal.returns
returns c = let a = c.args in
    let l = c.loop-left in
    times_done (λ k. instr a.of.width a.of.names a.of.blocks (eqb k 0)) a.s.now l.p l.left (omega (arith, c.loop-left-test.false)) ∙ l.invariant
