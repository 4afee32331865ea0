-- `write_instrs::put_value` meets its contract: by whether there is a literal.
use native.Mathlib.Omega.{arith}
use Rattle.record.specs.View.{instr_of}
use Rattle.write_instrs.proofs.Written.{literal_there, args_there}
use Rattle.write_instrs.proofs.put_value.Goals as goal

pub returns-then-literal : goal.returns-then-literal
unfolding instr_of
returns-then-literal c = let a = c.args in
    (literal_there a.literal (instr_of a.i.now) c.if-literal.true c.put_literal.ensures.0, omega (arith, c.put_literal.ensures.1))

pub returns-else-literal : goal.returns-else-literal
unfolding instr_of
returns-else-literal c = let a = c.args in
    (args_there a.literal (instr_of a.i.now) c.if-literal.false (rw c.as_slice.ensures.0 at c.put_args.ensures.0), omega (arith, c.put_args.ensures.1))
