-- `engine_house::put_held` meets its contract: FF for nothing, or the value.
use native.Mathlib.Omega.{arith}
use Rattle.write_bytes.proofs.Wrote.{wrote_number}
use Rattle.engine_house.proofs.Written.{nothing_written, value_written}
use Rattle.engine_house.proofs.put_held.Goals as goal

pub returns-then-get : goal.returns-then-get
returns-then-get g c = let a = c.args in
    (nothing_written a.cells.now a.x _ c.get.ensures c.if-get.true (wrote_number 1 255 c.put_u8.ensures), omega arith)

pub returns : goal.returns
returns g c = let a = c.args in (
  value_written a.cells.now a.x _ c.get.ensures c.if-get.false c.put_value.ensures.0,
  c.put_value.ensures.1,
)
