-- `read_layout::instr_end` meets its contract: its operands follow the id and the code.
use native.Mathlib.Omega.{arith}
use Rattle.read_layout.proofs.Ends.{instr_past}
use Rattle.read_layout.proofs.instr_end.Goals as goal

pub returns : goal.returns
returns c = (instr_past _ _ _ _ _ c.byte_or.ensures.0 c.operands_end.ensures.0, omega (arith, c.operands_end.ensures.1))
