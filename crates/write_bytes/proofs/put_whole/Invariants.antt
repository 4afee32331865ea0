-- What the loop keeps, and its measure.
use Rattle.std.proofs.Common.{◌≡◌, ◌+◌, ◌-◌, ◌≤◌, length, take}
use Rattle.write_bytes.specs.Put.{Wrote}
use Rattle.write_bytes.proofs.put_whole.Given as goal

abbrev pub invariant-loop-n : goal.invariant-loop-n
invariant-loop-n l =
    Wrote l.fn.out l.out l.at (l.at + l.n) (take l.n l.text) × (l.n ≤ length l.text) × (length l.out ≡ length l.fn.out)

abbrev pub decreases-loop-n : goal.decreases-loop-n
decreases-loop-n l = length l.text - l.n
