-- `write_instrs::put_operands` meets its contract: its parts, one behind the other.
use native.Mathlib.Omega.{arith}
use Rattle.write_instrs.proofs.Written.{operands_wrote}
use Rattle.write_instrs.proofs.put_operands.Goals as goal

pub returns : goal.returns
returns c = (
  operands_wrote c.args.sh c.args.i.now c.then_some.ensures c.then_some-2.ensures
      c.put_two-p.ensures.0 c.put_value-q.ensures.0 c.put_two-r.ensures.0 (rw c.as_slice.ensures.0 at c.put_row.ensures.0),
  omega (
    arith,
    c.put_two-p.ensures.1,
    c.put_value-q.ensures.1,
    c.put_two-r.ensures.1,
    c.put_row.ensures.1,
    c.as_slice.ensures.1,
  ),
)
