-- What the loop keeps, and its measure.
use Prim.Native.Nat.{◌+◌, ◌-◌, ◌≤◌}
use lib.ListN.{length}
use Rattle.engine_house.proofs.Answers.{ListLoop}
use Rattle.engine_house.proofs.read_answers.Given as goal

abbrev pub invariant-loop-p : goal.invariant-loop-p
invariant-loop-p l = record { before : l.n + 5 ≤ l.p; few : l.n ≤ length l.s; rest : ListLoop l.s l.p l.n }

abbrev pub decreases-loop-p : goal.decreases-loop-p
decreases-loop-p l = length l.s - l.p
