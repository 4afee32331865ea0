-- `lvn_state::LvnState::see` meets its contract.
use mathlib.Core.Path.{◌∙◌}
use Rattle.lvn_state.specs.View.{state_of}
use Rattle.lvn_state.proofs.Steps.{unseen, seen}
use Rattle.lvn_state.proofs.LvnState.see.Goals as goal

pub returns-then-is_none : goal.returns-then-is_none
returns-then-is_none _ c = c.give.ensures ∙ unseen (state_of c.args.self.now) c.args.x c.number.result c.number.ensures.0 c.if-is_none.ensures

pub returns-else-is_none : goal.returns-else-is_none
returns-else-is_none _ c = seen (state_of c.args.self.now) c.args.x c.number.result c.number.ensures.0 c.if-is_none.ensures
