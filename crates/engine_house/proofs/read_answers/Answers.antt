-- `engine_house::read_answers` meets its contract: the answers still to come give the whole list.
use native.Mathlib.Omega.{arith}
use Rattle.engine_house.proofs.Answers.{list_went, list_moved, list_stopped, list_done}
use Rattle.engine_house.proofs.read_answers.Goals as goal

pub returns-in_err-p : goal.returns-in_err-p
returns-in_err-p c = let l = c.loop-p in
    rw c.from_residual.ensures
    (list_stopped c.args.s.now l.p l.n l.invariant.rest c.loop-p-test.true l.invariant.before _ c.answer_at.ensures c.in_err-p.was)

pub loop-p-smaller : goal.loop-p-smaller
loop-p-smaller c = let l = c.loop-p in
    let h = c.loop-p-test.true in
    let m = list_moved c.args.s.now l.p l.n l.invariant.rest h l.invariant.before _ c.answer_at.ensures _ c.in_ok-p.was in
    omega (arith, m, h)

pub loop-p-preserved : goal.loop-p-preserved
loop-p-preserved c = let l = c.loop-p in
    let s = c.args.s.now in
    let h = c.loop-p-test.true in
    let i = l.invariant in
    let m = list_moved s l.p l.n i.rest h i.before _ c.answer_at.ensures _ c.in_ok-p.was in
    record {
      before = omega (arith, m, i.before);
      few = omega (arith, h, i.before);
      rest = list_went s l.p l.n i.rest h i.before _ c.answer_at.ensures _ c.in_ok-p.was;
    }

pub returns : goal.returns
returns c = let l = c.loop-p in
    list_done c.args.s.now l.p l.n l.invariant.rest c.loop-p-test.false l.invariant.few
