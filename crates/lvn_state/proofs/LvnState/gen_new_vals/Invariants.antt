-- What the loop keeps: the rest of the arguments, seen from here, gives the whole answer.
use Rattle.lvn_state.specs.View.{state_of}
use Rattle.lvn_state.proofs.Seen.{Seeing}
use Rattle.lvn_state.proofs.LvnState.gen_new_vals.Given as goal

abbrev pub invariant-loop-x : goal.invariant-loop-x
invariant-loop-x g l = Seeing g.row.M g.row.N (state_of l.initial.self) l.args (state_of l.self) l.x-index
