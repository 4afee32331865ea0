-- `engine_report::put_returned` meets its contract: its writes, one behind the other.
use Rattle.std.proofs.Common.{refl, arith}
use Rattle.write_bytes.proofs.Wrote.{rest_all, rest_less, rest_none, wrote_number}
use Rattle.engine_report.proofs.Head.{value_put, values_end, returned_first}
use Rattle.engine_report.proofs.put_returned.Goals as goal

pub loop-v-init : goal.loop-v-init
loop-v-init c = (refl, omega (arith, c.put_u8.auto.out), rest_less _ _ _ refl (wrote_number 1 _ c.put_u8.ensures) rest_all)

pub loop-v-preserved : goal.loop-v-preserved
loop-v-preserved c =
    (omega arith, omega (arith, c.put_u64.auto.out), value_put _ _ c.loop-v-test.true c.put_u64.ensures c.loop-v.invariant.2)

pub returns-clause-bytes : goal.returns-clause-bytes
returns-clause-bytes c = returned_first c.args.out.now _ _ _ _ (rest_none _ (values_end _ _ c.loop-v-test.false) c.loop-v.invariant.2).out (omega arith) (omega arith)
