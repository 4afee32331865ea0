-- What the loop keeps: landing at the block looked at is landing at the first.
use mathlib.Core.Path.{◌≡◌}
use Rattle.running.specs.Steps.{land}
use Rattle.engine_quiet.specs.Spot.{blocks_of}
use Rattle.engine_quiet.proofs.land.Given as goal

abbrev pub invariant-loop-c : goal.invariant-loop-c
invariant-loop-c l = land (blocks_of l.g) l.c ≡ land (blocks_of l.g) l.b
