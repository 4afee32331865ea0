-- `engine_house::put_cells` meets its contract: what is left to write from here gives the whole.
use native.Mathlib.Omega.{arith}
use Rattle.engine_house.proofs.Written.{held_less}
use Rattle.engine_house.proofs.put_cells.Goals as goal

pub loop-x-preserved : goal.loop-x-preserved
loop-x-preserved g c = let l = c.loop-x in
    let a = c.args in
    record {
      near = omega (arith, c.put_held-q.ensures.1, l.invariant.near);
      rest = held_less a.cells.now l.x a.n c.loop-x-test.true c.put_held-q.ensures.0 l.invariant.rest;
    }
