-- `check_blocks::check_blocks` meets its contract: the rest from here gives the whole answer.
use Prim.Native.Nat.{◌+◌, ◌-◌}
use mathlib.Core.Path.{◌≡◌, sym, ap, ◌∙◌}
use native.Mathlib.Omega.{arith}
use Rattle.record.specs.Reader.{times}
use Rattle.record.specs.Read.{block}
use Rattle.record.specs.Answer.{verdict}
use Rattle.record.proofs.Following.{handed_on, times_stopped, times_went, times_done}
use Rattle.check_blocks.proofs.check_blocks.Goals as goal

pub returns-in_err-p : goal.returns-in_err-p
returns-in_err-p c = let a = c.args in
    let l = c.loop in
    handed_on c.from_residual.result c.in_err-p.field-0.0 c.from_residual.ensures.1
    ∙ times_stopped (λ k. block a.lim a.of.width a.of.names a.of.blocks) a.s.now l.p (a.of.blocks - l.counter) (omega arith) _ (sym c.check_block.ensures ∙ c.in_err-p.was)
    ∙ l.invariant

pub loop-preserved : goal.loop-preserved
loop-preserved c = let a = c.args in
    let l = c.loop in
    let one : a.of.blocks - (l.counter + 1) ≡ a.of.blocks - l.counter - 1 = omega arith in
    ap (λ n. verdict (times n (λ k. block a.lim a.of.width a.of.names a.of.blocks) a.s.now c.in_ok-p.p)) one
    ∙ times_went (λ k. block a.lim a.of.width a.of.names a.of.blocks) a.s.now l.p (a.of.blocks - l.counter) (omega arith) _ (sym c.check_block.ensures ∙ c.in_ok-p.was)
    ∙ l.invariant

pub returns : goal.returns
returns c = let a = c.args in
    let l = c.loop in
    times_done (λ k. block a.lim a.of.width a.of.names a.of.blocks) a.s.now l.p (a.of.blocks - l.counter) (omega arith) ∙ l.invariant
