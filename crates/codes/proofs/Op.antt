-- The operation of a code: that of the codes which have no operator, its code again, and its form.
use Prim.Native.Nat.{ℕ, ◌<◌, ◌≤◌}
use mathlib.Core.Path.{◌≡◌, refl, sym, ap, ◌∙◌}
use mathlib.Core.List.{List, [], ◌∷◌}
use mathlib.Core.Bool.{Bool, true, false, cond, not}
use mathlib.Core.Option.{Option, none, some}
use native.Mathlib.Omega.{arith}
use native.Mathlib.Decide.{dec_lt}
use lib.Dec.{leb, eqb}
use borrow.Author.Tests.{ne_eqb, le-leb, lt-leb, eqb-true}
use Rattle.arith.specs.declared.One.{One}
use Rattle.arith.specs.declared.One.TheVariants.{Not, Id}
use Rattle.arith.specs.declared.Two.{Two}
use Rattle.arith.specs.declared.Two.TheVariants.{Add, Sub, Mul, Div, Eq, Lt, Gt, Le, Ge, And, Or, PtrAdd}
use Rattle.arith.specs.Code.{code1, code2, ones, twos, with_code, one_of, two_of}
use Rattle.arith.proofs.Found.{one_found, two_found}
use Rattle.record.specs.declared.NameIx.{NameIx}
use Rattle.record.specs.declared.Op.{Op}
use Rattle.record.specs.Record.{Instr, arg}
use Rattle.record.specs.Form.{Form, operation, form}
use Rattle.record.specs.View.{code_of}
use Rattle.record.proofs.Form.{all_below, all_below_at}
use Rattle.codes.specs.Op.{operator, op_of, form_as}
use Rattle.record.specs.declared.Op.TheVariants as op

-- ---- the operators have the codes up to 14
code1_most : (o : One) → code1 o ≤ 14
unfolding code1
code1_most Not = omega arith
code1_most Id = omega arith

code2_most : (o : Two) → code2 o ≤ 14
unfolding code2
code2_most Add = omega arith
code2_most Sub = omega arith
code2_most Mul = omega arith
code2_most Div = omega arith
code2_most Eq = omega arith
code2_most Lt = omega arith
code2_most Gt = omega arith
code2_most Le = omega arith
code2_most Ge = omega arith
code2_most And = omega arith
code2_most Or = omega arith
code2_most PtrAdd = omega arith

none_above : {A : Type 0} (code : A → ℕ) (c : ℕ) → 15 ≤ c → ((o : A) → code o ≤ 14) → (os : List A) → with_code code c os ≡ none
unfolding with_code
none_above code c h most [] = refl
none_above code c h most (o ∷ os) =
    let m : code o ≤ 14 = most o in
    rw (ne_eqb (code o) c (λ e. omega arith)) (none_above code c h most os)

module _ (c : ℕ) (h : 15 ≤ c) where
  one_none : one_of c ≡ none
  unfolding one_of
  one_none = none_above code1 c h code1_most ones

  two_none : two_of c ≡ none
  unfolding two_of
  two_none = none_above code2 c h code2_most twos

  pub new_op : c ≤ 63 → op.New c ≡ op_of c
  unfolding op_of
  new_op k = rw (ne_eqb c 0 (λ e. omega arith), one_none, two_none, le-leb c 63 k)

pub effect_op : (c : ℕ) → 64 ≤ c → (c ≡ 64 → ⊥) → (c ≡ 65 → ⊥) → (c ≡ 66 → ⊥) → (c ≡ 69 → ⊥) → op.Effect c ≡ op_of c
unfolding op_of
effect_op c h jmp br ret nop =
    rw (
      ne_eqb c 0 (λ e. omega arith),
      one_none c (omega arith),
      two_none c (omega arith),
      lt-leb c 63 h,
      ne_eqb c 64 jmp,
      ne_eqb c 65 br,
      ne_eqb c 66 ret,
      ne_eqb c 69 nop,
    )

-- ---- its code
module _ (c : ℕ) where
  cond_code : (b : Bool) (x y : Op) → (b ≡ true → code_of x ≡ c) → code_of y ≡ c → code_of (cond b x y) ≡ c
  cond_code true x y h k = h refl
  cond_code false x y h k = k

  operator_code :
      (o : Option One) (p : Option Two) (other : Op) →
      ((q : One) → o ≡ some q → code1 q ≡ c) →
      ((q : Two) → p ≡ some q → code2 q ≡ c) →
      code_of other ≡ c →
      code_of (operator o p other) ≡ c
  unfolding code_of
  operator_code (some q) p other h k l = h q refl
  operator_code none (some q) other h k l = k q refl
  operator_code none none other h k l = l

  pub op_code : code_of (op_of c) ≡ c
  unfolding code_of op_of
  op_code =
      cond_code (eqb c 0) _ _ (λ e. sym (eqb-true c 0 e))
      (operator_code (one_of c) (two_of c) _ (λ o e. one_found c o e) (λ o e. two_found c o e)
      (cond_code (leb c 63) _ _ (λ e. refl)
      (cond_code (eqb c 64) _ _ (λ e. sym (eqb-true c 64 e))
      (cond_code (eqb c 65) _ _ (λ e. sym (eqb-true c 65 e))
      (cond_code (eqb c 66) _ _ (λ e. sym (eqb-true c 66 e))
      (cond_code (eqb c 69) _ _ (λ e. sym (eqb-true c 69 e)) refl))))))

  -- an operation of this code has no other
  pub op_from : (o : Op) → o ≡ op_of c → c ≡ code_of o
  op_from o e = sym op_code ∙ ap code_of (sym e)

-- ---- tests of the operation of a code
abbrev alike : Bool → Bool → Bool
alike true b = b
alike false b = not b

alike_is : (a b : Bool) → alike a b ≡ true → a ≡ b
alike_is true b e = sym e
alike_is false true e = e
alike_is false false e = refl

-- one that is a test of the code: so it is up to 69, and behind that all are effects
pub op_test :
    (p : Op → Bool) (q : ℕ → Bool) → all_below 70 (λ c. alike (p (op_of c)) (q c)) ≡ true →
    ((c : ℕ) → 70 ≤ c → p (op.Effect c) ≡ q c) → (c : ℕ) → p (op_of c) ≡ q c
op_test p q low high c = go (dec_lt c 70)
  where
    go : Dec (c < 70) → p (op_of c) ≡ q c
    go (yes l) = alike_is (p (op_of c)) (q c) (all_below_at 70 (λ k. alike (p (op_of k)) (q k)) low c l)
    go (no n) =
        ap p (sym (effect_op c (omega (arith, n)) (λ e. omega (arith, n, e)) (λ e. omega (arith, n, e)) (λ e. omega (arith, n, e)) (λ e. omega (arith, n, e)))) ∙
        high c (omega (arith, n))

-- ---- its form
module _ (t : NameIx → ℕ) (i : Instr) where
  cond_form : (b : Bool) (f g : Form) (x y : Op) → f ≡ form_as x t i → g ≡ form_as y t i → cond b f g ≡ form_as (cond b x y) t i
  cond_form true f g x y h k = h
  cond_form false f g x y h k = k

  operator_form :
      (o : Option One) (p : Option Two) (g : Form) (y : Op) →
      g ≡ form_as y t i →
      operation o p (arg i 0) (arg i 1) g ≡ form_as (operator o p y) t i
  operator_form (some o) p g y h = refl
  operator_form none (some o) g y h = refl
  operator_form none none g y h = h

  -- an instruction has the form of the operation of its code
  pub form_op : form t i ≡ form_as (op_of i.code) t i
  unfolding form op_of
  form_op =
      let c = i.code in
      cond_form (eqb c 0) _ _ op.Const _ refl
      (operator_form (one_of c) (two_of c) _ _
      (cond_form (leb c 63) _ _ (op.New c) _ refl
      (cond_form (eqb c 64) _ _ op.Jmp _ refl
      (cond_form (eqb c 65) _ _ op.Br _ refl
      (cond_form (eqb c 66) _ _ op.Ret _ refl
      (cond_form (eqb c 69) _ _ op.Nop (op.Effect c) refl refl))))))
