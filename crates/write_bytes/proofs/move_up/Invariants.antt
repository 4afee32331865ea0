-- What the loop keeps.
use Rattle.std.proofs.Common.{◌≡◌, length}
use Rattle.write_bytes.proofs.Moved.{moved}
use Rattle.write_bytes.proofs.move_up.Given as goal

abbrev pub invariant-loop-left : goal.invariant-loop-left
invariant-loop-left l = (length l.out ≡ length l.fn.out) × (l.out ≡ moved l.fn.out l.from l.to l.n l.left)
