-- An expression of typed names has a value of the destination's type, where it has one. Rests on the range of the results of words.
use Prim.Native.Nat.{ℕ, ◌<◌}
use mathlib.Core.Path.{◌≡◌, subst}
use mathlib.Core.Bool.{Bool, true, false, not, ◌&&◌}
use mathlib.Core.Option.{Option, some}
use lib.Ieee.Fits.{and_l}
use lib.Dec.{T, ltb, eqb, eqb→eq, lt→ltb}
use Rattle.arith.specs.declared.One.TheVariants.{Not, Id}
use Rattle.arith.specs.declared.Two.{Two}
use Rattle.arith.specs.declared.Two.TheVariants.{Add, Sub, Mul, Div, Eq, Lt, Gt, Le, Ge, And, Or, PtrAdd}
use Rattle.arith.specs.Word.{W, add_w, sub_w, mul_w, div_w}
use Rattle.arith.specs.Value.{tint, tbool, is_pointer, Val, int, float, literal, char, bool, pointer, type_of, in_range, HasType}
use Rattle.arith.specs.Operation.{Result, ok, stops, unset, as_int, as_bool, ints, bools, divide, shift, apply1, apply2, Expr, constant, one, two, eval}
use Rattle.arith.proofs.Words.{add_w_word, sub_w_word, mul_w_word, div_w_word}
use Rattle.arith.proofs.Operation.{divide_either, with_one_has, with_both_has}
use Rattle.record.specs.declared.NameIx.{NameIx}
use Rattle.numbering.specs.Number.{operands}
use Rattle.pairing.specs.Joint.{Takes, Typed, Elem, first}

-- ---- what a result has where it is a value
-- P of the value, if there is one
abbrev pub Yields : (Val → Type 0) → Result → Type 0
Yields P (ok v) = P v
Yields P (stops c) = Unit {0}
Yields P unset = Unit {0}

pub yields_at : (P : Val → Type 0) (r : Result) (v : Val) → Yields P r → r ≡ ok v → P v
yields_at P r v h e = subst (Yields P) e h

-- ---- values of a type
pub type_is : (d : ℕ) (v : Val) → HasType d v → type_of v ≡ d
type_is d v h = eqb→eq (type_of v) d (and_l (eqb (type_of v) d) (in_range v) h)

both : (a b c : Bool) → T (a && b) → (T b → T c) → T (a && c)
both true b c h f = f h
both false b c h f = h

-- the offset of a pointer, changed to another word
moved : (s t b o k : ℕ) → k < W → HasType s (pointer t b o) → HasType s (pointer t b k)
unfolding type_of in_range
moved s t b o k h p =
    both (eqb t s) (is_pointer t && (ltb b W && ltb o W)) (is_pointer t && (ltb b W && ltb k W)) p
    (λ q. both (is_pointer t) (ltb b W && ltb o W) (ltb b W && ltb k W) q
    (λ r. both (ltb b W) (ltb o W) (ltb k W) r (λ _. lt→ltb k W h)))

-- ---- the operations keep Q, which is said of a type and a value, if it holds of all words and bools and of a pointer by its type and base
pub record Kept (Q : ℕ → Val → Type 0) : Type 0 where
  pub of_int : (w : ℕ) → w < W → Q tint (int w)
  pub of_bool : (b : Bool) → Q tbool (bool b)
  pub of_pointer : (s t b o k : ℕ) → k < W → Q s (pointer t b o) → Q s (pointer t b k)

module _ (Q : ℕ → Val → Type 0) (K : Kept Q) where
  divide_keeps : (a b : ℕ) → Yields (Q tint) (divide a b)
  divide_keeps a b = divide_either (Yields (Q tint)) a b tt (K.of_int (div_w a b) (div_w_word a b))

  shift_keeps : (s : ℕ) (x : Val) (k : ℕ) → Q s x → Yields (Q s) (shift x k)
  unfolding shift
  shift_keeps s (int w) k h = tt
  shift_keeps s (float b) k h = tt
  shift_keeps s (literal w) k h = tt
  shift_keeps s (char c) k h = tt
  shift_keeps s (bool b) k h = tt
  shift_keeps s (pointer t b o) k h = K.of_pointer s t b o (add_w o k) (add_w_word o k) h

  -- an operator on two ints or two bools, whose results have the type d
  ints_keep : (d : ℕ) (x y : Val) (f : ℕ → ℕ → Result) → ((a b : ℕ) → Yields (Q d) (f a b)) → Yields (Q d) (ints x y f)
  ints_keep d x y f h = with_both_has (Yields (Q d)) (as_int x) (as_int y) f tt (λ a b p q. h a b)

  bools_keep : (d : ℕ) (x y : Val) (f : Bool → Bool → Result) → ((a b : Bool) → Yields (Q d) (f a b)) → Yields (Q d) (bools x y f)
  bools_keep d x y f h = with_both_has (Yields (Q d)) (as_bool x) (as_bool y) f tt (λ a b p q. h a b)

  pub not_keeps : (d : ℕ) (x : Val) → d ≡ tbool → Yields (Q d) (apply1 Not x)
  unfolding apply1
  not_keeps d x e = rw e (with_one_has (Yields (Q tbool)) (as_bool x) _ tt (λ b q. K.of_bool (not b)))

  -- s and u: the types of the operands
  pub apply2_keeps : (o : Two) (x y : Val) (s u d : ℕ) → Takes o s u d → Q s x → Yields (Q d) (apply2 o x y)
  unfolding apply2
  apply2_keeps Add x y s u d g h = rw g.2 (ints_keep tint x y _ (λ a b. K.of_int (add_w a b) (add_w_word a b)))
  apply2_keeps Sub x y s u d g h = rw g.2 (ints_keep tint x y _ (λ a b. K.of_int (sub_w a b) (sub_w_word a b)))
  apply2_keeps Mul x y s u d g h = rw g.2 (ints_keep tint x y _ (λ a b. K.of_int (mul_w a b) (mul_w_word a b)))
  apply2_keeps Div x y s u d g h = rw g.2 (ints_keep tint x y divide divide_keeps)
  apply2_keeps Eq x y s u d g h = rw g.2 (ints_keep tbool x y _ (λ a b. K.of_bool _))
  apply2_keeps Lt x y s u d g h = rw g.2 (ints_keep tbool x y _ (λ a b. K.of_bool _))
  apply2_keeps Gt x y s u d g h = rw g.2 (ints_keep tbool x y _ (λ a b. K.of_bool _))
  apply2_keeps Le x y s u d g h = rw g.2 (ints_keep tbool x y _ (λ a b. K.of_bool _))
  apply2_keeps Ge x y s u d g h = rw g.2 (ints_keep tbool x y _ (λ a b. K.of_bool _))
  apply2_keeps And x y s u d g h = rw g.2 (bools_keep tbool x y _ (λ a b. K.of_bool _))
  apply2_keeps Or x y s u d g h = rw g.2 (bools_keep tbool x y _ (λ a b. K.of_bool _))
  apply2_keeps PtrAdd x y s u d g h = rw g.2 (with_one_has (Yields (Q s)) (as_int y) (shift x) tt (λ k e. shift_keeps s x k h))

pub types_kept : Kept HasType
unfolding type_of in_range
types_kept = record { of_int = λ w h. lt→ltb w W h; of_bool = λ b. tt; of_pointer = moved }

-- ---- expressions
eval_yields :
    (t : NameIx → ℕ) (σ : NameIx → Option Val) (e : Expr NameIx) (d : ℕ) →
    Typed t e d →
    ((x : NameIx) (v : Val) → σ x ≡ some v → Elem x (operands e) → HasType (t x) v) →
    Yields (HasType d) (eval σ e)
unfolding eval apply1
eval_yields t σ (constant v) d g h = g
eval_yields t σ (one Not a) d g h =
    with_one_has (Yields (HasType d)) (σ a) (apply1 Not) tt (λ x p. not_keeps HasType types_kept d x g.1)
eval_yields t σ (one Id a) d g h = with_one_has (Yields (HasType d)) (σ a) (apply1 Id) tt (λ x p. rw g (h a x p first))
eval_yields t σ (two o a b) d g h =
    with_both_has (Yields (HasType d)) (σ a) (σ b) (apply2 o) tt
    (λ x y p q. apply2_keeps HasType types_kept o x y (t a) (t b) d g (h a x p first))

-- t: the type of each name; the names that e reads hold values of their types, those that hold one
pub eval_typed :
    (t : NameIx → ℕ) (σ : NameIx → Option Val) (e : Expr NameIx) (d : ℕ) →
    Typed t e d →
    ((x : NameIx) (v : Val) → σ x ≡ some v → Elem x (operands e) → HasType (t x) v) →
    (v : Val) →
    eval σ e ≡ ok v →
    HasType d v
eval_typed t σ e d g h v p = yields_at (HasType d) (eval σ e) v (eval_yields t σ e d g h) p
