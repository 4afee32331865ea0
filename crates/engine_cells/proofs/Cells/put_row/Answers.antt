-- `engine_cells::Cells::put_row` meets its contract.
use native.Mathlib.Omega.{arith}
use Rattle.engine_cells.specs.Cells.{store_in}
use Rattle.engine_cells.proofs.Rows.{row_went, row_done}
use Rattle.engine_cells.proofs.Cells.put_row.Goals as goal

pub loop-i-preserved : goal.loop-i-preserved
loop-i-preserved g c = let a = c.args in
    let l = c.loop-i in
    record {
      few = omega (arith, l.invariant.few, c.put_value-q.ensures.1);
      rest =
          λ m f.
          l.invariant.rest m
          (row_went m a.self.now a.s.now a.at a.n l.i c.be.result c.be.ensures.0 (omega (arith, c.loop-i-test.true, c.from-i-end.ensures))
          c.put_value-q.ensures.0 f);
    }

pub returns : goal.returns
returns g c = let a = c.args in
    let l = c.loop-i in
    l.invariant.rest l.out (row_done l.out l.q (store_in a.self.now) a.s.now a.at a.n l.i (omega (arith, c.loop-i-test.false, c.from-i-end.ensures)))
