-- What the loop keeps.
use mathlib.Core.Path.{◌≡◌}
use Rattle.numbering.specs.State.{start}
use Rattle.lvn_state.specs.View.{state_of}
use Rattle.lvn_state.proofs.LvnState.restart.Given as goal

abbrev pub invariant-loop-i : goal.invariant-loop-i
invariant-loop-i _ l = state_of l.self ≡ start l.i l.k
