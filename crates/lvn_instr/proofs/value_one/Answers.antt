-- `lvn_instr::value_one` meets its contract.
use mathlib.Core.Path.{◌∙◌}
use Rattle.arith.specs.Operation.{one}
use Rattle.lvn_state.specs.View.{state_of}
use Rattle.lvn_instr.proofs.Alike.{value_alike}
use Rattle.lvn_instr.proofs.Values.{one_value, one_ok}
use Rattle.lvn_instr.proofs.value_one.Goals as goal

pub returns : goal.returns
returns g c = let a = c.args in
    let s = state_of a.st.now in
    let x = c.operand.ensures in
    let r = c.simplify_one.ensures in
    ((λ u h. one_value s a.o _ r x.0 x.1.0 ∙ value_alike u s h (one a.o a.x)), one_ok s a.o _ r x.0 x.1.0 65535 x.1.1)
