-- An expression stops only where it is a division whose divisor is 0.
use Prim.Native.Nat.{ℕ}
use mathlib.Core.Path.{◌≡◌, refl, sym, ap, ◌∙◌}
use mathlib.Core.Bool.{Bool, ◌&&◌, ◌||◌}
use mathlib.Core.Option.{Option, some}
use lib.Dec.{eqb}
use Rattle.arith.specs.declared.One.{One}
use Rattle.arith.specs.declared.One.TheVariants.{Not, Id}
use Rattle.arith.specs.declared.Two.{Two}
use Rattle.arith.specs.declared.Two.TheVariants.{Add, Sub, Mul, Div, Eq, Lt, Gt, Le, Ge, And, Or, PtrAdd}
use Rattle.arith.specs.Word.{add_w, sub_w, mul_w, lt_w, le_w}
use Rattle.arith.specs.Value.{Val, int, float, literal, char, bool, pointer}
use Rattle.arith.specs.Operation.{Cause, ok, stops, as_int, as_bool, ints, bools, divide, shift, apply1, apply2, Expr, constant, one, two, eval}
use Rattle.arith.proofs.Clash.{clash}
use Rattle.arith.proofs.Operation.{divide_stops, with_one_has, with_both_has, taken}

-- f: what each operand holds
pub record ZeroDivisor {A : Type 0} (f : A → Option Val) (e : Expr A) : Type 0 where
  pub dividend : A
  pub divisor : A
  pub is : e ≡ two Div dividend divisor
  pub zero : f divisor ≡ some (int 0)

module _ (c : Cause) where
  -- ---- the operators that never stop
  module _ {R : Type 0} where
    ints_go_on : (x y : Val) (g : ℕ → ℕ → Val) → ints x y (λ a b. ok (g a b)) ≡ stops c → R
    ints_go_on x y g = with_both_has (λ r. r ≡ stops c → R) (as_int x) (as_int y) _ (λ h. clash (cc h)) (λ a b p q h. clash (cc h))

    bools_go_on : (x y : Val) (g : Bool → Bool → Val) → bools x y (λ a b. ok (g a b)) ≡ stops c → R
    bools_go_on x y g = with_both_has (λ r. r ≡ stops c → R) (as_bool x) (as_bool y) _ (λ h. clash (cc h)) (λ a b p q h. clash (cc h))

    shift_goes_on : (x : Val) (k : ℕ) → shift x k ≡ stops c → R
    unfolding shift
    shift_goes_on (int w) k h = clash (cc h)
    shift_goes_on (float b) k h = clash (cc h)
    shift_goes_on (literal w) k h = clash (cc h)
    shift_goes_on (char d) k h = clash (cc h)
    shift_goes_on (bool b) k h = clash (cc h)
    shift_goes_on (pointer t b o) k h = clash (cc h)

    one_goes_on : (o : One) (x : Val) → apply1 o x ≡ stops c → R
    unfolding apply1
    one_goes_on Not x = with_one_has (λ r. r ≡ stops c → R) (as_bool x) _ (λ h. clash (cc h)) (λ a p h. clash (cc h))
    one_goes_on Id x = λ h. clash (cc h)

  -- ---- of two operands
  two_stops : (o : Two) (x y : Val) → apply2 o x y ≡ stops c → (o ≡ Div) × (y ≡ int 0)
  unfolding apply2
  two_stops Add x y = ints_go_on x y (λ a b. int (add_w a b))
  two_stops Sub x y = ints_go_on x y (λ a b. int (sub_w a b))
  two_stops Mul x y = ints_go_on x y (λ a b. int (mul_w a b))
  two_stops Div x y =
      with_both_has (λ r. r ≡ stops c → (Div ≡ Div) × (y ≡ int 0)) (as_int x) (as_int y) divide (λ h. clash (cc h))
      (λ a b p q h. (refl, sym ((taken y).was_int b q) ∙ ap int ((divide_stops a b c).0 h)))
  two_stops Eq x y = ints_go_on x y (λ a b. bool (eqb a b))
  two_stops Lt x y = ints_go_on x y (λ a b. bool (lt_w a b))
  two_stops Gt x y = ints_go_on x y (λ a b. bool (lt_w b a))
  two_stops Le x y = ints_go_on x y (λ a b. bool (le_w a b))
  two_stops Ge x y = ints_go_on x y (λ a b. bool (le_w b a))
  two_stops And x y = bools_go_on x y (λ a b. bool (a && b))
  two_stops Or x y = bools_go_on x y (λ a b. bool (a || b))
  two_stops PtrAdd x y =
      with_one_has (λ r. r ≡ stops c → (PtrAdd ≡ Div) × (y ≡ int 0)) (as_int y) (shift x) (λ h. clash (cc h)) (λ k p. shift_goes_on x k)

  pub eval_stops : {A : Type 0} (f : A → Option Val) (e : Expr A) → eval f e ≡ stops c → ZeroDivisor f e
  unfolding eval
  eval_stops f (constant v) h = clash (cc h)
  eval_stops f (one o a) h =
      with_one_has (λ r. r ≡ stops c → ZeroDivisor f (one o a)) (f a) (apply1 o) (λ k. clash (cc k)) (λ x p. one_goes_on o x) h
  eval_stops f (two o a b) h =
      with_both_has (λ r. r ≡ stops c → ZeroDivisor f (two o a b)) (f a) (f b) (apply2 o) (λ k. clash (cc k))
      (λ x y p q k.
      let (d, z) = two_stops o x y k in
      record { dividend = a; divisor = b; is = ap (λ u. two u a b) d; zero = q ∙ ap some z }) h
