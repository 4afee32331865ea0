-- `lvn_state::LvnState::gen_new_vals` meets its contract.
use mathlib.Core.Path.{sym, ◌∙◌}
use native.Mathlib.Omega.{arith}
use Rattle.lvn_state.specs.View.{state_of}
use Rattle.lvn_state.proofs.Seen.{name_low, next_low, seeing_more, seen_all}
use Rattle.lvn_state.proofs.LvnState.gen_new_vals.Goals as goal

pub see-requires : goal.see-requires
see-requires _ c = let h = c.loop-x-test.true in (omega arith, (name_low c.loop-x.invariant h, next_low c.loop-x.invariant h))

pub loop-x-preserved : goal.loop-x-preserved
loop-x-preserved _ c = seeing_more c.loop-x.invariant c.loop-x-test.true _ c.see.ensures

pub returns : goal.returns
returns _ c = let l = c.loop-x in
    sym (seen_all (state_of l.self) c.args.args.now l.x-index (omega arith)) ∙ l.invariant.seen
