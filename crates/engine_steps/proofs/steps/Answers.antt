-- `engine_steps::steps` meets its contract: each turn is one step more.
use mathlib.Core.Path.{sym, ◌∙◌}
use native.Mathlib.Omega.{arith}
use Rattle.engine_quiet.specs.Spot.{code_at}
use Rattle.engine_quiet.proofs.Bodies.{code_inside}
use Rattle.engine_steps.specs.Came.{is_over, waits}
use Rattle.engine_steps.proofs.Came.{stands, faces, coded, quiet_by, waiting_by, upto_nothing, upto_step}
use Rattle.engine_steps.proofs.steps.Goals as goal

pub loop-t-init : goal.loop-t-init
loop-t-init c = let a = c.args in upto_nothing a.g.now a.cells.now a.out.now a.t c.requires.ready c.requires.fit

pub overflow_add-p : goal.overflow_add-p
overflow_add-p c = omega (arith, code_inside (faces (stands c.requires.grounded c.loop-t.invariant.ready c.in-Ok.is)))

pub loop-t-preserved : goal.loop-t-preserved
loop-t-preserved c = let a = c.args in
    let l = c.loop-t in
    let p = c.in-Ok.p in
    let e = coded p.at c.requires.grounded c.u8_at.ensures c.op_of-op.ensures in
    let went = waiting_by a.g.now.s.now p l.t c.op_of-op.result e ∙ sym c.waits.ensures ∙ c.if-waits.false in
    upto_step a.g.now a.cells.now l.cells _ a.out.now l.out _ a.t l.t _ p l.invariant c.in-Ok.is (omega (arith, c.if-t-eq0.false))
    c.step.ensures.0 went (λ h. c.step.ensures.1 (quiet_by (code_at a.g.now.s.now p.at) c.op_of-op.result e ∙ h))

pub returns-in_default : goal.returns-in_default
returns-in_default c = record { upto = c.loop-t.invariant; rests = is_over _ c.in_default.is }

pub returns-then-waits : goal.returns-then-waits
returns-then-waits c = let p = c.in-Ok.p in
    let e = coded p.at c.requires.grounded c.u8_at.ensures c.op_of-op.ensures in
    let waiting = waiting_by c.args.g.now.s.now p c.loop-t.t c.op_of-op.result e ∙ sym c.waits.ensures ∙ c.if-waits.true in
    record { upto = c.loop-t.invariant; rests = waits p c.in-Ok.is waiting }
