-- `lvn_instr::const_value` meets its contract: by the literal, an int by the type too.
use Prim.Native.Nat.{ℕ}
use mathlib.Core.Logic.{inl, inr}
use mathlib.Core.Option.{some}
use mathlib.Core.Path.{◌≡◌, ap, ◌∙◌}
use mir.Syntax.{w64}
use mir.Val.{to_z, of_z}
use borrow.Author.Rules.{rules}
use Rattle.arith.specs.Operation.{constant}
use Rattle.arith.specs.Value.{int, literal}
use Rattle.record.specs.Answer.{literal_of}
use Rattle.record.specs.Form.{value_of}
use Rattle.numbering.specs.Number.{numbered, make_val}
use Rattle.lvn_instr.proofs.Values.{const_float, const_int, const_bool}
use Rattle.lvn_instr.proofs.const_value.Goals as goal

pub returns-then-t-eq-FLOAT : goal.returns-then-t-eq-FLOAT
unfolding literal_of
returns-then-t-eq-FLOAT c = λ s.
    let z = c.in-Int.z in
    let again : of_z w64 (to_z w64 (of_z w64 z)) ≡ of_z w64 z = search rules in
    let word : c.cast_unsigned-w.result ≡ of_z w64 z = c.cast_unsigned-w.ensures ∙ again in
    rw c.in-Int.is
    (ap (λ (n : ℕ). some (constant (literal n))) word ∙ const_float s c.args.t _ c.if-t-eq-FLOAT.true)

pub returns-else-t-eq-FLOAT : goal.returns-else-t-eq-FLOAT
unfolding literal_of
returns-else-t-eq-FLOAT c = λ s.
    let z = c.in-Int.z in
    let again : of_z w64 (to_z w64 (of_z w64 z)) ≡ of_z w64 z = search rules in
    let word : c.cast_unsigned-w.result ≡ of_z w64 z = c.cast_unsigned-w.ensures ∙ again in
    rw c.in-Int.is
    (ap (λ (n : ℕ). some (constant (int n))) word ∙ const_int s c.args.t _ c.if-t-eq-FLOAT.false)

pub returns-in-Bool : goal.returns-in-Bool
unfolding make_val value_of numbered literal_of
returns-in-Bool c = λ s. rw c.in-Bool.is (const_bool s c.args.t c.in-Bool.b)

pub returns-in-Float : goal.returns-in-Float
unfolding make_val value_of numbered literal_of
returns-in-Float c = λ s. elim c.in-Float.is [ inl p ↦ rw p.1 | inr q ↦ elim q [ inl p ↦ rw p.1 | inr p ↦ rw p.1 ] ]
