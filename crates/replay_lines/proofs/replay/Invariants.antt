-- Of each line counted a byte at least is read.
use Rattle.std.proofs.Common.{◌+◌, ◌≤◌, length}
use Rattle.replay_lines.proofs.replay.Given as goal

abbrev pub invariant-loop-list : goal.invariant-loop-list
invariant-loop-list g l = l.same + l.other + length l.list.rest.now ≤ length l.text

abbrev pub decreases-loop-list : goal.decreases-loop-list
decreases-loop-list g l = length l.list.rest.now
