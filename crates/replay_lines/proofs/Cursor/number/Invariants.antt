-- Of `replay_lines::Cursor::number`: the number is what is read of it and the digits that are left. Each turn reads a byte.
use Rattle.std.proofs.Common.{◌≡◌, length}
use Rattle.replay_lines.specs.Decimal.{decimal, behind_digits}
use Rattle.replay_lines.proofs.Decimal.{value_after, behind}
use Rattle.replay_lines.proofs.Cursor.number.Given as goal

abbrev pub invariant-loop-c : goal.invariant-loop-c
invariant-loop-c l =
    (value_after l.value l.self.rest.now ≡ decimal l.fn.self.rest.now)
    × (behind l.self.rest.now ≡ behind_digits l.fn.self.rest.now)

abbrev pub decreases-loop-c : goal.decreases-loop-c
decreases-loop-c l = length l.self.rest.now
