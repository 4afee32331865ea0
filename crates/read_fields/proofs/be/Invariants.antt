-- What the loop keeps: the number of the bytes passed.
use Rattle.std.proofs.Common.{◌≡◌, ◌^◌, ◌<◌}
use Rattle.record.specs.Reader.{num_at}
use Rattle.read_fields.proofs.be.Given as goal

abbrev pub invariant-loop-i : goal.invariant-loop-i
invariant-loop-i g l = (l.x ≡ num_at l.s l.at l.i) × (l.x < 256 ^ l.i)
