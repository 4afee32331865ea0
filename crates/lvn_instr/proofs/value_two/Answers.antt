-- `lvn_instr::value_two` meets its contract.
use mathlib.Core.Path.{◌∙◌}
use Rattle.arith.specs.Operation.{two}
use Rattle.lvn_state.specs.View.{state_of}
use Rattle.lvn_instr.proofs.Alike.{value_alike}
use Rattle.lvn_instr.proofs.Values.{two_value, two_ok}
use Rattle.lvn_instr.proofs.value_two.Goals as goal

pub returns : goal.returns
returns g c = let a = c.args in
    let s = state_of a.st.now in
    let x = c.operand.ensures in
    let y = c.operand-2.ensures in
    let r = c.simplify_two.ensures in
    ((λ u h. two_value s a.o _ _ r x.0 y.0 x.1.0 y.1.0 ∙ value_alike u s h (two a.o a.x a.y)), two_ok s a.o _ _ r x.0 y.0 x.1.0 y.1.0 65535 x.1.1 y.1.1)
