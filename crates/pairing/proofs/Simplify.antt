-- The law of simplify: what it gives may stand for the expression. It is the one thing that a new fold proves again.
-- The folds, each operator's identities and its order have a lemma of their own; they rest on the laws of operations and words.
use Prim.Native.Nat.{ℕ, ◌<◌}
use mathlib.Core.Path.{◌≡◌, refl, sym, ap, ◌∙◌}
use mathlib.Core.Logic.{◌≢◌}
use mathlib.Core.Bool.{Bool, true, false, cond, beq, ◌&&◌, ◌||◌, and_comm, and-false, and-true, or_comm, or-true, or-false}
use mathlib.Core.Option.{Option, none, some}
use lib.Ieee.Fits.{and_r}
use lib.Dec.{T, ltb, eqb, eqb→eq, ltb→lt}
use borrow.Author.Tests.{eq-eqb}
use lib.Ieee.Bits.{is_true}
use Rattle.std.specs.Cmp.{booleans_Decides}
use Rattle.arith.specs.declared.One.{One}
use Rattle.arith.specs.declared.Two.{Two}
use Rattle.arith.specs.declared.Two.TheVariants.{Add, Sub, Mul, Div, Eq, Lt, Gt, Le, Ge, And, Or, PtrAdd}
use Rattle.arith.specs.Word.{W, add_w, mul_w}
use Rattle.arith.specs.Value.{Val, int, float, literal, char, bool, pointer, is_pointer, in_range}
use Rattle.arith.specs.Operation.{Result, ok, stops, unset, as_int, as_bool, with_one, with_both, shift, apply1, apply2, Expr, constant, one, two, eval}
use Rattle.arith.proofs.Words.{add_w_comm, add_w_zero, mul_w_comm, mul_w_zero, mul_w_one, mul_w_two}
use Rattle.arith.proofs.Operation.{with_one_set, with_both_set, ints_set, bools_set, pointer_set, with_both_swap, Swaps, Commutes, add_commutes, mul_commutes, eq_commutes, and_commutes, or_commutes, less_swaps, less_equal_swaps}
use Rattle.numbering.specs.declared.ValNum.{ValNum}
use Rattle.numbering.specs.State.{vn, known_value, known_expr}
use Rattle.numbering.specs.Simplify.{folded, fold1, fold2, is_int, is_bool, id_of, gives, absorbs, identity, sorted, ordered, first, simplify1, simplify2, simplify}
use Rattle.numbering.proofs.Simplified.{Found, get_or_ok, first_ok}
use Rattle.pairing.specs.Joint.{Fits, InRange, Stands}

-- ---- what is known of a number is its value
pub known_value_is : (v c : Val) → known_value v ≡ some c → v ≡ c
unfolding known_value
known_value_is (int w) c e = cc
known_value_is (float b) c e = cc
known_value_is (literal w) c e = cc
known_value_is (char k) c e = cc
known_value_is (bool b) c e = cc
known_value_is (pointer t b o) c e = cc

pub known_expr_is : (e : Option (Expr ValNum)) (c : Val) → known_expr e ≡ some c → e ≡ some (constant c)
unfolding known_expr
known_expr_is none c p = cc
known_expr_is (some (constant v)) c p = ap (λ x. some (constant x)) (known_value_is v c p)
known_expr_is (some (one o a)) c p = cc
known_expr_is (some (two o a b)) c p = cc

-- an operand: its number a, its value u, and what is known of it, x
record Operand (ρ : ValNum → Option Val) (a : ValNum) (x : Option Val) (u : Val) : Type 0 where
  set : ρ a ≡ some u
  known : (c : Val) → x ≡ some c → u ≡ c
  range : T (in_range u)

operand :
    (vals : ValNum → Option (Expr ValNum)) (ρ : ValNum → Option Val) →
    Fits ρ vals →
    InRange ρ →
    (a : ValNum) (u : Val) →
    ρ a ≡ some u →
    Operand ρ a (known_expr (vals a)) u
unfolding eval
operand vals ρ fits range a u p = record { set = p; known = is; range = range a u p }
  where
    is : (c : Val) → known_expr (vals a) ≡ some c → u ≡ c
    is c q = let (x, e, r) = fits a (constant c) (known_expr_is (vals a) c q) in cc

-- ---- an expression with the result r, if there is one
module _ (ρ : ValNum → Option Val) (r : Result) where
  abbrev Comes : Expr ValNum → Type 0
  Comes e = eval ρ e ≡ r

  abbrev Gives : Option (Expr ValNum) → Type 0
  Gives = Found Comes

  gives_test : (t : Bool) (e : Expr ValNum) (other : Option (Expr ValNum)) → (T t → eval ρ e ≡ r) → Gives other → Gives (gives t e other)
  gives_test true e other f g = f tt
  gives_test false e other f g = g

-- ---- folds, over the operator
folded_gives : (ρ : ValNum → Option Val) (r : Result) → Gives ρ r (folded r)
unfolding folded eval
folded_gives ρ (ok v) = refl
folded_gives ρ (stops c) = tt
folded_gives ρ unset = tt

fold1_gives :
    (ρ : ValNum → Option Val) (o : One) (a : ValNum) (x : Option Val) (u : Val) →
    Operand ρ a x u →
    Gives ρ (apply1 o u) (fold1 o x)
unfolding fold1
fold1_gives ρ o a none u A = tt
fold1_gives ρ o a (some c) u A = rw (A.known c refl) (folded_gives ρ (apply1 o c))

fold2_gives :
    (ρ : ValNum → Option Val) (o : Two) (a b : ValNum) (x y : Option Val) (u v : Val) →
    Operand ρ a x u →
    Operand ρ b y v →
    Gives ρ (apply2 o u v) (fold2 o x y)
unfolding fold2
fold2_gives ρ o a b none y u v A B = tt
fold2_gives ρ o a b (some c) none u v A B = tt
fold2_gives ρ o a b (some c) (some d) u v A B = rw (A.known c refl, B.known d refl) (folded_gives ρ (apply2 o c d))

-- ---- what a test of an operand tells
is_int_some : (n : ℕ) (x : Option Val) → T (is_int n x) → x ≡ some (int n)
unfolding is_int
is_int_some n none t = absurd t
is_int_some n (some (int w)) t = ap (λ k. some (int k)) (eqb→eq w n t)
is_int_some n (some (float b)) t = absurd t
is_int_some n (some (literal w)) t = absurd t
is_int_some n (some (char c)) t = absurd t
is_int_some n (some (bool b)) t = absurd t
is_int_some n (some (pointer p b o)) t = absurd t

is_bool_some : (c : Bool) (x : Option Val) → T (is_bool c x) → x ≡ some (bool c)
unfolding is_bool
is_bool_some c none t = absurd t
is_bool_some c (some (int w)) t = absurd t
is_bool_some c (some (float b)) t = absurd t
is_bool_some c (some (literal w)) t = absurd t
is_bool_some c (some (char k)) t = absurd t
is_bool_some c (some (bool b)) t = ap (λ k. some (bool k)) ((booleans_Decides b c).0 (is_true (beq b c) t))
is_bool_some c (some (pointer p b o)) t = absurd t

-- a kind of value that is tested: ints, or bools
record Kind : Type 1 where
  of : Type 0
  value : of → Val
  injective : (m n : of) → value m ≡ value n → m ≡ n
  test : of → Option Val → Bool
  tells : (k : of) (x : Option Val) → T (test k x) → x ≡ some (value k)

int_injective : (m n : ℕ) → int m ≡ int n → m ≡ n
int_injective m n e = cc

bool_injective : (m n : Bool) → bool m ≡ bool n → m ≡ n
bool_injective m n e = cc

abbrev int_kind : Kind
int_kind = record { of = ℕ; value = int; injective = int_injective; test = is_int; tells = is_int_some }

abbrev bool_kind : Kind
bool_kind = record { of = Bool; value = bool; injective = bool_injective; test = is_bool; tells = is_bool_some }

tested_is :
    (K : Kind) (k m : K.of) (ρ : ValNum → Option Val) (a : ValNum) (x : Option Val) →
    Operand ρ a x (K.value m) →
    T (K.test k x) →
    m ≡ k
tested_is K k m ρ a x A t = K.injective m k (A.known (K.value k) (K.tells k x t))

-- ---- expressions that identities give, over one operand
module _ (ρ : ValNum → Option Val) (a : ValNum) (x : Option Val) where
  word : (m : ℕ) → Operand ρ a x (int m) → m < W
  unfolding in_range
  word m A = ltb→lt m W A.range

  offset : (t b o : ℕ) → Operand ρ a x (pointer t b o) → o < W
  unfolding in_range
  offset t b o A = ltb→lt o W (and_r (ltb b W) (ltb o W) (and_r (is_pointer t) (ltb b W && ltb o W) A.range))

  id_gives : (u : Val) → Operand ρ a x u → eval ρ (id_of a) ≡ ok u
  unfolding eval with_one apply1
  id_gives u A = rw A.set

  twice_gives : (m : ℕ) → Operand ρ a x (int m) → eval ρ (two Add a a) ≡ ok (int (add_w m m))
  unfolding eval with_both apply2 as_int
  twice_gives m A = rw A.set

-- ---- identities: what the operator o gives over the operands a and b with the values u and v
abbrev Identity : (ValNum → Option Val) → ValNum → ValNum → Option Val → Option Val → Two → Val → Val → Type 0
Identity ρ a b x y o u v =
    Operand ρ a x u → Operand ρ b y v → Gives ρ (apply2 o u v) (identity o x y a b)

module _ (ρ : ValNum → Option Val) (a b : ValNum) (x y : Option Val) where
  -- "likewise on the other side": e of the other operand where one is k, for an operator that does f, and commutes
  either_side :
      (K : Kind) (f : K.of → K.of → K.of) →
      ((m n : K.of) → f m n ≡ f n m) →
      (m n : K.of) →
      Operand ρ a x (K.value m) →
      Operand ρ b y (K.value n) →
      (k : K.of) (e : ValNum → Expr ValNum) →
      ((c : ValNum) (z : Option Val) (n : K.of) → Operand ρ c z (K.value n) → eval ρ (e c) ≡ ok (K.value (f n k))) →
      (other : Option (Expr ValNum)) →
      Gives ρ (ok (K.value (f m n))) other →
      Gives ρ (ok (K.value (f m n))) (gives (K.test k x) (e b) (gives (K.test k y) (e a) other))
  either_side K f comm m n A B k e law other g =
      let r = ok (K.value (f m n)) in
      gives_test ρ r (K.test k x) (e b) _ (λ t. rw (tested_is K k m ρ a x A t, comm k n) (law b y n B))
      (gives_test ρ r (K.test k y) (e a) other (λ t. rw (tested_is K k n ρ b y B t) (law a x m A)) g)

  -- "0 + y is id y"
  add_identity : (m n : ℕ) → Identity ρ a b x y Add (int m) (int n)
  unfolding identity apply2 with_both as_int
  add_identity m n A B =
      let side = either_side int_kind add_w add_w_comm m n A B in
      side 0 id_of (λ c z n C. rw (add_w_zero n (word ρ c z n C)) (id_gives ρ c z (int n) C)) none tt

  -- "0 times y is 0; 1 times y is id y; 2 times y is add y y"
  mul_identity : (m n : ℕ) → Identity ρ a b x y Mul (int m) (int n)
  unfolding identity apply2 with_both as_int eval
  mul_identity m n A B =
      let side = either_side int_kind mul_w mul_w_comm m n A B in
      side 0 (λ c. constant (int 0)) (λ c z n C. rw (mul_w_zero n)) _
      (side 1 id_of (λ c z n C. rw (mul_w_one n (word ρ c z n C)) (id_gives ρ c z (int n) C)) _
      (side 2 (λ c. two Add c c) (λ c z n C. rw (mul_w_two n) (twice_gives ρ c z n C)) none tt))

  -- "eq of one number with itself is true"
  eq_identity : (m n : ℕ) → Identity ρ a b x y Eq (int m) (int n)
  unfolding identity apply2 with_both as_int eval
  eq_identity m n A B =
      gives_test ρ (ok (bool (eqb m n))) (eqb a.0 b.0) (constant (bool true)) none
      (λ t. rw (eq-eqb m n (same (eqb→eq a.0 b.0 t)))) tt
    where
      same : a.0 ≡ b.0 → m ≡ n
      same p =
          let pa = A.set in
          let pb = B.set in
          let ab : ρ a ≡ ρ b = λ i. ρ (vn (p i)) in
          cc

  -- "false and y is false; true and y is id y; dually for or": z decides alone
  absorbs_gives :
      (z neutral : Bool) (f : Bool → Bool → Bool) →
      ((m n : Bool) → f m n ≡ f n m) →
      ((n : Bool) → f n z ≡ z) →
      ((n : Bool) → f n neutral ≡ n) →
      (m n : Bool) →
      Operand ρ a x (bool m) →
      Operand ρ b y (bool n) →
      Gives ρ (ok (bool (f m n))) (absorbs z neutral x y a b)
  unfolding eval
  absorbs_gives z neutral f comm decides keeps m n A B =
      let side = either_side bool_kind f comm m n A B in
      side z (λ c. constant (bool z)) (λ c w n C. rw (decides n)) _
      (side neutral id_of (λ c w n C. rw (keeps n) (id_gives ρ c w (bool n) C)) none tt)

  and_identity : (m n : Bool) → Identity ρ a b x y And (bool m) (bool n)
  unfolding identity apply2 with_both as_bool
  and_identity m n A B = absorbs_gives false true ◌&&◌ and_comm and-false and-true m n A B

  or_identity : (m n : Bool) → Identity ρ a b x y Or (bool m) (bool n)
  unfolding identity apply2 with_both as_bool
  or_identity m n A B = absorbs_gives true false ◌||◌ or_comm or-true or-false m n A B

  -- "p ptradd 0 is id p"
  ptradd_identity : (t c o k : ℕ) → Identity ρ a b x y PtrAdd (pointer t c o) (int k)
  unfolding identity apply2 with_one as_int shift
  ptradd_identity t c o k A B =
      gives_test ρ (ok (pointer t c (add_w o k))) (is_int 0 y) (id_of a) none
      (λ h. rw (tested_is int_kind 0 k ρ b y B h, add_w_zero o (offset ρ a x t c o A)) (id_gives ρ a x (pointer t c o) A)) tt

  identity_gives : (o : Two) (u v : Val) → apply2 o u v ≢ unset → Identity ρ a b x y o u v
  unfolding identity apply2
  identity_gives Add u v h = ints_set u v _ (Identity ρ a b x y Add) add_identity h
  identity_gives Sub u v h = λ A B. tt
  identity_gives Mul u v h = ints_set u v _ (Identity ρ a b x y Mul) mul_identity h
  identity_gives Div u v h = λ A B. tt
  identity_gives Eq u v h = ints_set u v _ (Identity ρ a b x y Eq) eq_identity h
  identity_gives Lt u v h = λ A B. tt
  identity_gives Gt u v h = λ A B. tt
  identity_gives Le u v h = λ A B. tt
  identity_gives Ge u v h = λ A B. tt
  identity_gives And u v h = bools_set u v _ (Identity ρ a b x y And) and_identity h
  identity_gives Or u v h = bools_set u v _ (Identity ρ a b x y Or) or_identity h
  identity_gives PtrAdd u v h = pointer_set u v (Identity ρ a b x y PtrAdd) ptradd_identity h

-- ---- the order of operands
swapped_alike : (ρ : ValNum → Option Val) (o p : Two) → Swaps p o → (a b : ValNum) → eval ρ (two p b a) ≡ eval ρ (two o a b)
unfolding eval
swapped_alike ρ o p swaps a b = with_both_swap (ρ b) (ρ a) (apply2 p) (apply2 o) swaps

sorted_alike : (ρ : ValNum → Option Val) (o : Two) → Commutes o → (a b : ValNum) → eval ρ (sorted o a b) ≡ eval ρ (two o a b)
unfolding eval
sorted_alike ρ o comm a b = go (ltb b.0 a.0)
  where
    go : (t : Bool) → eval ρ (cond t (two o b a) (two o a b)) ≡ eval ρ (two o a b)
    go true = swapped_alike ρ o o comm a b
    go false = refl

ordered_alike : (ρ : ValNum → Option Val) (o : Two) (a b : ValNum) → eval ρ (ordered o a b) ≡ eval ρ (two o a b)
unfolding ordered
ordered_alike ρ Add a b = sorted_alike ρ Add add_commutes a b
ordered_alike ρ Sub a b = refl
ordered_alike ρ Mul a b = sorted_alike ρ Mul mul_commutes a b
ordered_alike ρ Div a b = refl
ordered_alike ρ Eq a b = sorted_alike ρ Eq eq_commutes a b
ordered_alike ρ Lt a b = refl
ordered_alike ρ Gt a b = swapped_alike ρ Gt Lt less_swaps a b
ordered_alike ρ Le a b = refl
ordered_alike ρ Ge a b = swapped_alike ρ Ge Le less_equal_swaps a b
ordered_alike ρ And a b = sorted_alike ρ And and_commutes a b
ordered_alike ρ Or a b = sorted_alike ρ Or or_commutes a b
ordered_alike ρ PtrAdd a b = refl

-- ---- simplify
simplify1_alike :
    (ρ : ValNum → Option Val) (o : One) (a : ValNum) (x : Option Val) (u : Val) →
    Operand ρ a x u →
    eval ρ (simplify1 o x a) ≡ eval ρ (one o a)
unfolding simplify1 eval with_one
simplify1_alike ρ o a x u A =
    get_or_ok (Comes ρ (eval ρ (one o a))) (fold1 o x) (one o a) (rw A.set (fold1_gives ρ o a x u A)) refl

simplify2_alike :
    (ρ : ValNum → Option Val) (o : Two) (a b : ValNum) (x y : Option Val) (u v : Val) →
    Operand ρ a x u →
    Operand ρ b y v →
    eval ρ (two o a b) ≢ unset →
    eval ρ (simplify2 o x y a b) ≡ eval ρ (two o a b)
unfolding simplify2 eval with_both
simplify2_alike ρ o a b x y u v A B h =
    let r : eval ρ (two o a b) ≡ apply2 o u v = rw (A.set, B.set) in
    let found = first (fold2 o x y) (identity o x y a b) in
    let folds = fold2_gives ρ o a b x y u v A B in
    let identities = identity_gives ρ a b x y o u v (λ p. h (r ∙ p)) A B in
    let right : Gives ρ (apply2 o u v) found = first_ok (Comes ρ (apply2 o u v)) (fold2 o x y) (identity o x y a b) folds identities in
    get_or_ok (Comes ρ (apply2 o u v)) found (ordered o a b) right (ordered_alike ρ o a b ∙ r) ∙ sym r

pub simplify_stands :
    (vals : ValNum → Option (Expr ValNum)) (e : Expr ValNum) → Stands vals e (simplify (λ v. known_expr (vals v)) e)
unfolding simplify eval
simplify_stands vals (constant v) ρ fits range h = refl
simplify_stands vals (one o a) ρ fits range h =
    let (u, p) = with_one_set (ρ a) (apply1 o) h in
    simplify1_alike ρ o a (known_expr (vals a)) u (operand vals ρ fits range a u p)
simplify_stands vals (two o a b) ρ fits range h =
    let (u, v, p, q) = with_both_set (ρ a) (ρ b) (apply2 o) h in
    let A = operand vals ρ fits range a u p in
    let B = operand vals ρ fits range b v q in
    simplify2_alike ρ o a b (known_expr (vals a)) (known_expr (vals b)) u v A B h
