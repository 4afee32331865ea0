-- What the loop keeps: the values left are behind what is written.
use Rattle.std.proofs.Common.{◌≡◌, ◌+◌, ◌*◌, ◌++◌, length, drop}
use Rattle.record.specs.Write.{be}
use Rattle.write_bytes.proofs.Wrote.{Rest}
use Rattle.engine_report.proofs.Head.{values_bytes}
use Rattle.engine_report.proofs.put_returned.Given as goal

abbrev pub invariant-loop-v : goal.invariant-loop-v
invariant-loop-v l =
    (l.end ≡ 1 + 8 * l.v-index)
    × (length l.out ≡ length l.fn.out)
    × Rest l.out l.end (values_bytes (drop l.v-index l.values)) l.fn.out 0 (be 1 l.number ++ values_bytes l.values)
