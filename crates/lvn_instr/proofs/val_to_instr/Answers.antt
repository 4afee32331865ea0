-- `lvn_instr::val_to_instr` meets its contract: by the form of the value.
use mathlib.Core.Path.{◌∙◌}
use Rattle.record.specs.View.{instr_of}
use Rattle.numbering.specs.Number.{val_to_instr}
use Rattle.lvn_state.specs.View.{state_of}
use Rattle.lvn_instr.proofs.Alike.{one_alike, two_alike}
use Rattle.lvn_instr.proofs.val_to_instr.Goals as goal

pub returns-in-Constant : goal.returns-in-Constant
unfolding val_to_instr
returns-in-Constant _ c = λ s e. rw c.in-Constant.is c.make_const_instr.ensures

pub returns-in-One : goal.returns-in-One
unfolding val_to_instr
returns-in-One _ c = let a = c.args in
    λ s e. rw c.in-One.is (c.make_one_instr.ensures ∙ one_alike s (state_of a.st.now) e (instr_of a.i.now) c.in-One.o c.in-One.a)

pub returns-in-Two : goal.returns-in-Two
unfolding val_to_instr
returns-in-Two _ c = let a = c.args in
    let v = c.in-Two in
    λ s e. rw v.is (c.make_two_instr.ensures ∙ two_alike s (state_of a.st.now) e (instr_of a.i.now) v.o v.a v.b)
