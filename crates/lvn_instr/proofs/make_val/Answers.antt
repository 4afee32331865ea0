-- `lvn_instr::make_val` meets its contract: by the operation.
use Prim.Native.Nat.{ℕ}
use mathlib.Core.Path.{sym, ap, ◌∙◌, subst}
use Rattle.record.specs.Answer.{literal_of}
use Rattle.record.specs.Form.{value_of}
use Rattle.numbering.proofs.Simplified.{MaybeOk}
use Rattle.lvn_state.specs.View.{state_of}
use Rattle.lvn_instr.specs.View.{Any}
use Rattle.lvn_instr.proofs.Values.{const_of, const_ok, const_arm, one_arm, two_arm, new_arm}
use Rattle.lvn_instr.proofs.make_val.Goals as goal

pub returns-in-Const : goal.returns-in-Const
returns-in-Const _ c = let a = c.args in
    let i = a.i.now in
    let s = state_of a.st.now in
    let l = literal_of i.literal in (
      (λ u types h e. c.const_value.ensures u ∙ ap (λ (t : ℕ). const_of u t i.literal) (sym e) ∙
          const_arm i c.requires u types c.in-Const.is),
      subst (MaybeOk Any 65535) (sym (c.const_value.ensures s)) (const_ok 65535 s (value_of a.t l.kind l.bits)),
    )

pub returns-in-One : goal.returns-in-One
returns-in-One _ c = let a = c.args in
    let r = c.value_one.ensures in
    ((λ u types h e. r.0 u h ∙ one_arm a.i.now c.requires u types c.in-One.o c.in-One.is), r.1)

pub returns-in-Two : goal.returns-in-Two
returns-in-Two _ c = let a = c.args in
    let r = c.value_two.ensures in
    ((λ u types h e. r.0 u h ∙ two_arm a.i.now c.requires u types c.in-Two.o c.in-Two.is), r.1)

pub returns-in_default : goal.returns-in_default
returns-in_default _ c = let d = c.in_default in ((λ u types h e. new_arm c.args.i.now c.requires u types d.not-Const d.not-One d.not-Two), tt)
