-- What the loop keeps: whether those so far are all fill.
use Rattle.std.proofs.Common.{◌≡◌, take}
use Rattle.std.specs.List.{list_all}
use Rattle.replay_lines.proofs.are_filled.Given as goal

abbrev pub invariant-loop-x : goal.invariant-loop-x
invariant-loop-x g l = l.filled ≡ list_all (λ x. g.T.PartialEq.eq x l.fill) (take l.x-index l.all)
