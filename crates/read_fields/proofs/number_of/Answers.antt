-- `read_fields::number_of` meets its contract: byte by byte.
use Rattle.std.proofs.Common.{◌+◌}
use native.Mathlib.Omega.{arith}
use Rattle.read_fields.proofs.Laws.{num_step, fits_word}
use Rattle.read_fields.proofs.number_of.Goals as goal

pub overflow_add-x : goal.overflow_add-x
overflow_add-x g c =
    let f = fits_word c.loop-i.i g.row.N c.loop-i.x c.loop-i-test.true c.requires.0 c.loop-i.invariant.1 in
    omega (arith, f, c.from.ensures, c.type_inv.s (c.args.at + c.loop-i.i))

pub loop-i-preserved : goal.loop-i-preserved
loop-i-preserved g c =
    let i = c.loop-i.invariant in
    num_step c.args.s.now c.loop-i.i c.args.at c.loop-i.x c.from.result i.0 i.1 c.from.ensures
    (omega (arith, c.from.ensures, c.type_inv.s (c.args.at + c.loop-i.i)))
