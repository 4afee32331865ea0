-- `write_instrs::put_args` meets its contract: their count, then the row.
use native.Mathlib.Omega.{arith}
use Rattle.write_instrs.proofs.Written.{args_wrote}
use Rattle.write_instrs.proofs.put_args.Goals as goal

pub returns : goal.returns
returns c = (args_wrote c.args.args.now c.put_u8.ensures c.put_row.ensures.0, omega (arith, c.put_row.ensures.1, c.requires.1))
