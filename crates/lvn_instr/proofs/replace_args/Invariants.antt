-- What the loop keeps: the names before here are replaced, and the others still stand.
use mathlib.Core.List.{map}
use mathlib.Core.Path.{◌≡◌}
use lib.ListN.{take, drop}
use Rattle.record.specs.Record.{nm}
use Rattle.numbering.specs.State.{State, home_of}
use Rattle.lvn_state.specs.View.{state_of}
use Rattle.lvn_instr.proofs.replace_args.Given as goal

abbrev pub invariant-loop-x : goal.invariant-loop-x
invariant-loop-x _ l =
    ((s : State) → s.env ≡ (state_of l.st).env → s.locs ≡ (state_of l.st).locs →
    map nm (take l.x-index l.args) ≡ map (home_of s) (map nm (take l.x-index l.initial.args))) ×
    (drop l.x-index l.args ≡ drop l.x-index l.initial.args)
