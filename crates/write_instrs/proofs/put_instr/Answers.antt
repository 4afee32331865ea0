-- `write_instrs::put_instr` meets its contract: its id, its code, then what stands behind it.
use native.Mathlib.Omega.{arith}
use Rattle.write_bytes.proofs.Numbers.{width_most}
use Rattle.write_instrs.proofs.Written.{instr_wrote}
use Rattle.write_instrs.proofs.put_instr.Goals as goal

pub returns : goal.returns
returns c = (
  instr_wrote c.args.w c.from-code.result c.shape_of.result c.args.i c.from-code.ensures (rw c.from.ensures at c.shape_of.ensures)
      c.put_word.ensures c.put_u8.ensures c.put_operands.ensures.0,
  omega (arith, width_most c.requires.1.0, c.put_operands.ensures.1),
)
