-- The value of an instruction: one law for each arm of the code.
use Prim.Native.Nat.{ℕ, ◌<◌}
use mathlib.Core.Path.{◌≡◌, refl, sym, ap, ◌∙◌, subst}
use mathlib.Core.Logic.{◌≢◌}
use mathlib.Core.Bool.{Bool, true, false, cond}
use mathlib.Core.Option.{Option, none, some}
use lib.ListN.{get_or}
use borrow.Author.Tests.{eq-eqb, ne_eqb}
use Rattle.arith.specs.declared.One.{One}
use Rattle.arith.specs.declared.Two.{Two}
use Rattle.arith.specs.Value.{Val, int, literal, bool}
use Rattle.arith.specs.Operation.{Expr, constant, one, two}
use Rattle.record.specs.declared.NameIx.{NameIx}
use Rattle.record.specs.declared.Literal.{Literal}
use Rattle.record.specs.declared.Op.{Op}
use Rattle.record.specs.declared.Op.TheVariants as ops
use Rattle.record.specs.declared.Instruction.{Instruction}
use Rattle.record.specs.Record.{nm, Instr}
use Rattle.record.specs.Form.{value_of, form}
use Rattle.record.specs.Answer.{literal_of}
use Rattle.record.specs.View.{instr_of}
use Rattle.numbering.specs.declared.ValNum.{ValNum}
use Rattle.numbering.specs.State.{State, number_of, known}
use Rattle.numbering.specs.Simplify.{simplify1, simplify2, simplify}
use Rattle.numbering.specs.Number.{numbered, make_val}
use Rattle.numbering.proofs.Given.{any_closed, any_known}
use Rattle.numbering.proofs.Simplified.{MaybeOk, simplify_ok}
use Rattle.codes.specs.Op.{form_as}
use Rattle.lvn_instr.specs.View.{Ready, value_by, Any}
use Rattle.lvn_instr.proofs.Forms.{instr_form, one_arg, two_args}

-- ---- const
abbrev pub const_of : State → ℕ → Literal → Option (Expr ValNum)
const_of s t l = make_val s (constant (value_of t (literal_of l).kind (literal_of l).bits))

module _ (s : State) (t : ℕ) where
  pub const_float : (w : ℕ) → t ≡ 2 → some (constant (literal w)) ≡ make_val s (constant (value_of t 0 w))
  unfolding make_val value_of numbered
  const_float w e = rw (eq-eqb t 2 e)

  pub const_int : (w : ℕ) → t ≢ 2 → some (constant (int w)) ≡ make_val s (constant (value_of t 0 w))
  unfolding make_val value_of numbered
  const_int w n = rw (ne_eqb t 2 n)

  pub const_bool : (b : Bool) → some (constant (bool b)) ≡ make_val s (constant (value_of t 1 (cond b 1 0)))
  unfolding make_val value_of numbered
  const_bool true = refl
  const_bool false = refl

-- ---- the numbers of operands are numbers
numbered_any : (n : ℕ) (b : Bool) (v : Val) → MaybeOk Any n (cond b (some (constant v)) none)
numbered_any n true v = tt
numbered_any n false v = tt

pub const_ok : (n : ℕ) (s : State) (v : Val) → MaybeOk Any n (make_val s (constant v))
unfolding make_val
const_ok n s v = numbered_any n (numbered v) v

-- ---- operators
module _ (s : State) {r : Option (Expr ValNum)} where
  module _
      (o : One) (x : NameIx) {p : Option Val} {a : ValNum}
      (given : r ≡ some (simplify1 o p a)) (number : a ≡ number_of s x) (fact : p ≡ known s a)
    where
      one_simplified : r ≡ some (simplify (known s) (one o a))
      unfolding simplify
      one_simplified = given ∙ ap (λ (k : Option Val). some (simplify1 o k a)) fact

      pub one_value : r ≡ make_val s (one o x)
      unfolding make_val
      one_value = one_simplified ∙ ap (λ (n : ValNum). some (simplify (known s) (one o n))) number

      pub one_ok : (n : ℕ) → a.0 < n → MaybeOk Any n r
      one_ok n h =
          subst (MaybeOk Any n) (sym one_simplified)
          (simplify_ok Any any_closed n (known s) (λ u. any_known (known s u)) (one o a) h)

  module _
      (o : Two) (x y : NameIx) {p q : Option Val} {a b : ValNum}
      (given : r ≡ some (simplify2 o p q a b))
      (first : a ≡ number_of s x) (second : b ≡ number_of s y)
      (left : p ≡ known s a) (right : q ≡ known s b) where
    two_simplified : r ≡ some (simplify (known s) (two o a b))
    unfolding simplify
    two_simplified = given ∙ (λ i. some (simplify2 o (left i) (right i) a b))

    pub two_value : r ≡ make_val s (two o x y)
    unfolding make_val
    two_value = two_simplified ∙ (λ i. some (simplify (known s) (two o (first i) (second i))))

    pub two_ok : (n : ℕ) → a.0 < n → b.0 < n → MaybeOk Any n r
    two_ok n h k =
        subst (MaybeOk Any n) (sym two_simplified)
        (simplify_ok Any any_closed n (known s) (λ u. any_known (known s u)) (two o a b) (h, k))

-- ---- by the operation
module _ (i : Instruction) (ready : Ready i) (s : State) (t : NameIx → ℕ) where
  pub const_arm : i.op ≡ ops.Const → const_of s (t i.dest) i.literal ≡ value_by s (form t (instr_of i))
  unfolding instr_of
  const_arm e = sym (ap (value_by s) (instr_form i ready t ops.Const e))

  pub one_arm : (o : One) → i.op ≡ ops.One o → make_val s (one o (nm (get_or i.args.items 0 0))) ≡ value_by s (form t (instr_of i))
  one_arm o e =
      sym (ap (value_by s) (instr_form i ready t (ops.One o) e) ∙ ap (λ (x : NameIx). make_val s (one o x)) (one_arg i ready o e))

  pub two_arm :
      (o : Two) → i.op ≡ ops.Two o →
      make_val s (two o (nm (get_or i.args.items 0 0)) (nm (get_or i.args.items 1 0))) ≡ value_by s (form t (instr_of i))
  two_arm o e =
      let xs = two_args i ready o e in
      sym (ap (value_by s) (instr_form i ready t (ops.Two o) e) ∙ (λ j. make_val s (two o (xs.0 j) (xs.1 j))))

  none_of :
      (o : Op) (j : Instr) → (o ≡ ops.Const → ⊥) → ((p : One) → o ≡ ops.One p → ⊥) → ((p : Two) → o ≡ ops.Two p → ⊥) →
      none ≡ value_by s (form_as o t j)
  none_of ops.Const j a b c = absurd (a refl)
  none_of (ops.One o) j a b c = absurd (b o refl)
  none_of (ops.Two o) j a b c = absurd (c o refl)
  none_of (ops.New o) j a b c = refl
  none_of (ops.Effect o) j a b c = refl
  none_of ops.Nop j a b c = refl
  none_of ops.Jmp j a b c = refl
  none_of ops.Br j a b c = refl
  none_of ops.Ret j a b c = refl

  pub new_arm :
      (i.op ≡ ops.Const → ⊥) → ((p : One) → i.op ≡ ops.One p → ⊥) → ((p : Two) → i.op ≡ ops.Two p → ⊥) →
      none ≡ value_by s (form t (instr_of i))
  new_arm a b c = none_of i.op (instr_of i) a b c ∙ sym (ap (value_by s) (instr_form i ready t i.op refl))
