-- `write_instrs::put_two` meets its contract: by whether it is there.
use native.Mathlib.Omega.{arith}
use Rattle.write_bytes.proofs.Wrote.{wrote_nothing, wrote_number}
use Rattle.write_instrs.proofs.put_two.Goals as goal

pub returns-in-Some : goal.returns-in-Some
returns-in-Some c = (rw c.in-Some.is (wrote_number 2 c.in-Some.x c.put_u16.ensures), omega arith)

pub returns-in-None : goal.returns-in-None
returns-in-None c = (rw c.in-None.is wrote_nothing, omega arith)
