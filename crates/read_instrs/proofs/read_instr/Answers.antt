-- `read_instrs::read_instr` meets its contract: its id, its code, then what stands behind it.
use native.Mathlib.Omega.{arith}
use Rattle.read_instrs.proofs.Again.{readable_parts, read_again}
use Rattle.write_bytes.proofs.Numbers.{width_most}
use Rattle.read_instrs.proofs.read_instr.Goals as goal

pub overflow_add-at : goal.overflow_add-at
overflow_add-at c = record { fits = omega (arith, width_most c.requires.1.0) }

pub overflow_add-at-2 : goal.overflow_add-at-2
overflow_add-at-2 c = record { fits = omega (arith, width_most c.requires.1.0) }

pub overflow_add-at-3 : goal.overflow_add-at-3
overflow_add-at-3 c = record { fits = omega (arith, width_most c.requires.1.0) }

pub read_operands-requires : goal.read_operands-requires
read_operands-requires c = let a = c.args in (
  omega (arith, width_most c.requires.1.0),
  readable_parts a.w a.s.now a.at _ _ c.read_id-id.ensures.0 c.u8_at-code.ensures c.requires.1.1,
)

pub returns : goal.returns
returns c = let a = c.args in
    read_again a.w a.s.now a.at _ _ c.read_id-id.ensures.0 c.u8_at-code.ensures (width_most c.requires.1.0)
    c.read_id-id.ensures.1 c.read_operands.ensures
