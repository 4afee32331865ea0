-- `write_instrs::put_row` meets its contract: what is left to write gives the whole answer.
use native.Mathlib.Omega.{arith}
use lib.ListN.{get_or}
use Rattle.write_bytes.proofs.Wrote.{wrote_number, rest_all, rest_less, rest_none}
use Rattle.write_instrs.proofs.Written.{row_less, row_none}
use Rattle.write_instrs.proofs.put_row.Goals as goal

pub loop-x-init : goal.loop-x-init
loop-x-init c = (omega arith, rest_all)

pub loop-x-preserved : goal.loop-x-preserved
loop-x-preserved c = let l = c.loop-x in
    let xs = c.args.row.now in (
      omega (arith, l.invariant.0),
      rest_less _ _ _ (row_less xs l.x-index c.loop-x-test.true) (wrote_number 2 (get_or xs l.x-index 0) c.put_u16.ensures) l.invariant.1,
    )

pub returns : goal.returns
returns c = let l = c.loop-x in
    let xs = c.args.row.now in
    (rest_none _ (row_none xs l.x-index c.loop-x-test.false) l.invariant.1, omega (arith, l.invariant.0, c.loop-x-test.false, l.auto.x-index-end))
