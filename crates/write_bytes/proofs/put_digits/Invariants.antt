-- What the loop keeps: the digits that are left, put before those that stand, give the whole.
use mathlib.Core.Path.{◌≡◌}
use Rattle.numbering.specs.Made.{digits}
use Rattle.write_bytes.specs.Put.{put}
use Rattle.write_bytes.proofs.Digits.{last_digits}
use Rattle.write_bytes.proofs.put_digits.Given as goal

abbrev pub invariant-loop-i : goal.invariant-loop-i
invariant-loop-i l = put l.out l.at (last_digits l.i l.left) ≡ put l.initial.out l.at (digits l.k)
