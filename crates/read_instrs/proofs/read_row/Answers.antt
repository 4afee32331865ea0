-- `read_instrs::read_row` meets its contract: the first i stand in the row.
use mathlib.Core.Path.{refl}
use native.Mathlib.Omega.{arith}
use Rattle.record.specs.Decode.{items, number_from}
use Rattle.read_instrs.proofs.Rows.{items_set}
use Rattle.read_instrs.proofs.read_row.Goals as goal

pub loop-i-init : goal.loop-i-init
unfolding items
loop-i-init c = refl

pub loop-i-preserved : goal.loop-i-preserved
unfolding number_from
loop-i-preserved c = let l = c.loop-i in
    items_set (number_from c.args.s.now) l.x-items c.args.at _ l.i c.u16_at.result
    (omega (arith, c.loop-i-test.true, l.auto.x-items)) refl c.u16_at.ensures l.invariant
