-- Simplified values have what each outcome of simplify has. So their operands are numbers that are given, and their constants satisfy what
-- holds of the known constants and of what operations give, as that their literals pass the tests.
use Prim.Native.Nat.{ℕ, ◌<◌}
use mathlib.Core.Bool.{Bool, true, false, cond, not, ◌&&◌, ◌||◌}
use mathlib.Core.Option.{Option, none, some, get_or}
use native.Mathlib.Omega.{arith}
use lib.Dec.{ltb, eqb}
use Rattle.arith.specs.declared.One.{One}
use Rattle.arith.specs.declared.One.TheVariants.{Not, Id}
use Rattle.arith.specs.declared.Two.{Two}
use Rattle.arith.specs.declared.Two.TheVariants.{Add, Sub, Mul, Div, Eq, Lt, Gt, Le, Ge, And, Or, PtrAdd}
use Rattle.arith.specs.Word.{W, add_w, sub_w, mul_w, div_w, lt_w, le_w}
use Rattle.arith.specs.Value.{Val, int, float, literal, char, bool, pointer}
use Rattle.arith.specs.Operation.{Result, ok, stops, unset, as_int, as_bool, with_both, divide, shift, apply1, apply2, Expr, constant, one, two}
use Rattle.arith.proofs.Words.{add_w_word, sub_w_word, mul_w_word, div_w_word}
use Rattle.arith.proofs.Operation.{divide_either, with_one_has, with_both_has}
use Rattle.numbering.specs.declared.ValNum.{ValNum}
use Rattle.numbering.specs.State.{State, known_value, known_expr, known}
use Rattle.numbering.specs.Simplify.{folded, fold1, fold2, is_int, is_bool, id_of, gives, absorbs, identity, ordered, first, simplify1, simplify2, simplify}

-- ---- a property of constants
-- that every result of an operation has
pub record Closed (P : Val → Type 0) : Type 0 where
  pub ints : (w : ℕ) → w < W → P (int w)
  pub bools : (b : Bool) → P (bool b)
  pub pointers : (t b o : ℕ) → P (pointer t b o)

abbrev pub OptionOk : (Val → Type 0) → Option Val → Type 0
OptionOk P none = Unit {0}
OptionOk P (some v) = P v

-- of the value expression of a number
abbrev pub ValueOk : (Val → Type 0) → Option (Expr ValNum) → Type 0
ValueOk P none = Unit {0}
ValueOk P (some (constant v)) = P v
ValueOk P (some (one o a)) = Unit {0}
ValueOk P (some (two o a b)) = Unit {0}

-- of a value expression over the numbers below n
abbrev pub ExprOk : (Val → Type 0) → ℕ → Expr ValNum → Type 0
ExprOk P n (constant v) = P v
ExprOk P n (one o a) = a.0 < n
ExprOk P n (two o a b) = (a.0 < n) × (b.0 < n)

abbrev pub MaybeOk : (Val → Type 0) → ℕ → Option (Expr ValNum) → Type 0
MaybeOk P n none = Unit {0}
MaybeOk P n (some e) = ExprOk P n e

pub maybe_value : (P : Val → Type 0) (n : ℕ) (e : Option (Expr ValNum)) → MaybeOk P n e → ValueOk P e
maybe_value P n none h = tt
maybe_value P n (some (constant v)) h = h
maybe_value P n (some (one o a)) h = tt
maybe_value P n (some (two o a b)) h = tt

-- ---- known constants
known_value_ok : (P : Val → Type 0) (v : Val) → P v → OptionOk P (known_value v)
unfolding known_value
known_value_ok P (int w) h = h
known_value_ok P (float b) h = tt
known_value_ok P (literal w) h = tt
known_value_ok P (char c) h = tt
known_value_ok P (bool b) h = h
known_value_ok P (pointer t b o) h = tt

known_expr_ok : (P : Val → Type 0) (e : Option (Expr ValNum)) → ValueOk P e → OptionOk P (known_expr e)
unfolding known_expr
known_expr_ok P none h = tt
known_expr_ok P (some (constant v)) h = known_value_ok P v h
known_expr_ok P (some (one o a)) h = tt
known_expr_ok P (some (two o a b)) h = tt

pub known_ok : (P : Val → Type 0) (s : State) (v : ValNum) → ValueOk P (s.vals v) → OptionOk P (known s v)
unfolding known
known_ok P s v h = known_expr_ok P (s.vals v) h

-- ---- an expression that is there has Q
module _ (Q : Expr ValNum → Type 0) where
  abbrev pub Found : Option (Expr ValNum) → Type 0
  Found none = Unit {0}
  Found (some e) = Q e

  pub get_or_ok : (m : Option (Expr ValNum)) (e : Expr ValNum) → Found m → Q e → Q (get_or m e)
  get_or_ok none e p q = q
  get_or_ok (some x) e p q = p

  pub first_ok : (m k : Option (Expr ValNum)) → Found m → Found k → Found (first m k)
  first_ok none k p q = q
  first_ok (some e) k p q = p

  pub gives_ok : (b : Bool) (e : Expr ValNum) (m : Option (Expr ValNum)) → Q e → Found m → Found (gives b e m)
  gives_ok true e m p q = p
  gives_ok false e m p q = q

-- ---- what simplify gives has a property of value expressions, Q, where each of its outcomes has it
module _ (Q : Expr ValNum → Type 0) (closed : Closed (λ v. Q (constant v))) where
  -- ---- results of operations
  abbrev ResultOk : Result → Type 0
  ResultOk (ok v) = Q (constant v)
  ResultOk (stops c) = Unit {0}
  ResultOk unset = Unit {0}

  divide_ok : (a b : ℕ) → ResultOk (divide a b)
  divide_ok a b = divide_either ResultOk a b tt (closed.ints (div_w a b) (div_w_word a b))

  shift_ok : (x : Val) (k : ℕ) → ResultOk (shift x k)
  unfolding shift
  shift_ok (int w) k = tt
  shift_ok (float b) k = tt
  shift_ok (literal w) k = tt
  shift_ok (char c) k = tt
  shift_ok (bool b) k = tt
  shift_ok (pointer t b o) k = closed.pointers t b (add_w o k)

  apply1_ok : (o : One) (x : Val) → Q (constant x) → ResultOk (apply1 o x)
  unfolding apply1
  apply1_ok Not x h = with_one_has ResultOk (as_bool x) (λ a. ok (bool (not a))) tt (λ a p. closed.bools (not a))
  apply1_ok Id x h = h

  ints_ok : (x y : Val) (f : ℕ → ℕ → Result) → ((a b : ℕ) → ResultOk (f a b)) → ResultOk (with_both (as_int x) (as_int y) f)
  ints_ok x y f h = with_both_has ResultOk (as_int x) (as_int y) f tt (λ a b p q. h a b)

  bools_ok : (x y : Val) (f : Bool → Bool → Bool) → ResultOk (with_both (as_bool x) (as_bool y) (λ a b. ok (bool (f a b))))
  bools_ok x y f = with_both_has ResultOk (as_bool x) (as_bool y) (λ a b. ok (bool (f a b))) tt (λ a b p q. closed.bools (f a b))

  apply2_ok : (o : Two) (x y : Val) → ResultOk (apply2 o x y)
  unfolding apply2
  apply2_ok Add x y = ints_ok x y (λ a b. ok (int (add_w a b))) (λ a b. closed.ints (add_w a b) (add_w_word a b))
  apply2_ok Sub x y = ints_ok x y (λ a b. ok (int (sub_w a b))) (λ a b. closed.ints (sub_w a b) (sub_w_word a b))
  apply2_ok Mul x y = ints_ok x y (λ a b. ok (int (mul_w a b))) (λ a b. closed.ints (mul_w a b) (mul_w_word a b))
  apply2_ok Div x y = ints_ok x y divide divide_ok
  apply2_ok Eq x y = ints_ok x y (λ a b. ok (bool (eqb a b))) (λ a b. closed.bools (eqb a b))
  apply2_ok Lt x y = ints_ok x y (λ a b. ok (bool (lt_w a b))) (λ a b. closed.bools (lt_w a b))
  apply2_ok Gt x y = ints_ok x y (λ a b. ok (bool (lt_w b a))) (λ a b. closed.bools (lt_w b a))
  apply2_ok Le x y = ints_ok x y (λ a b. ok (bool (le_w a b))) (λ a b. closed.bools (le_w a b))
  apply2_ok Ge x y = ints_ok x y (λ a b. ok (bool (le_w b a))) (λ a b. closed.bools (le_w b a))
  apply2_ok And x y = bools_ok x y (λ a b. a && b)
  apply2_ok Or x y = bools_ok x y (λ a b. a || b)
  apply2_ok PtrAdd x y = with_one_has ResultOk (as_int y) (shift x) tt (λ k p. shift_ok x k)

  -- ---- value expressions
  folded_ok : (r : Result) → ResultOk r → Found Q (folded r)
  unfolding folded
  folded_ok (ok v) h = h
  folded_ok (stops c) h = tt
  folded_ok unset h = tt

  fold1_ok : (o : One) (x : Option Val) → OptionOk (λ v. Q (constant v)) x → Found Q (fold1 o x)
  unfolding fold1
  fold1_ok o none h = tt
  fold1_ok o (some x) h = folded_ok (apply1 o x) (apply1_ok o x h)

  fold2_ok : (o : Two) (x y : Option Val) → Found Q (fold2 o x y)
  unfolding fold2
  fold2_ok o none y = tt
  fold2_ok o (some x) none = tt
  fold2_ok o (some x) (some y) = folded_ok (apply2 o x y) (apply2_ok o x y)

  -- the outcomes for two operands that are no constants
  pub record Outcomes (o : Two) (a b : ValNum) : Type 0 where
    pub left : Q (one Id a)
    pub right : Q (one Id b)
    pub left_twice : Q (two Add a a)
    pub right_twice : Q (two Add b b)
    pub in_order : Q (ordered o a b)

  module _ (x y : Option Val) (a b : ValNum) where
    absorbs_ok : (z neutral : Bool) → Q (one Id a) → Q (one Id b) → Found Q (absorbs z neutral x y a b)
    absorbs_ok z neutral p q =
        gives_ok Q (is_bool z x) (constant (bool z)) _ (closed.bools z)
        (gives_ok Q (is_bool z y) (constant (bool z)) _ (closed.bools z)
        (gives_ok Q (is_bool neutral x) (id_of b) _ q (gives_ok Q (is_bool neutral y) (id_of a) none p tt)))

    identity_ok : (o : Two) → Outcomes o a b → Found Q (identity o x y a b)
    unfolding identity
    identity_ok Add h = gives_ok Q (is_int 0 x) (id_of b) _ h.right (gives_ok Q (is_int 0 y) (id_of a) none h.left tt)
    identity_ok Sub h = tt
    identity_ok Mul h =
        gives_ok Q (is_int 0 x) (constant (int 0)) _ (closed.ints 0 (omega arith))
        (gives_ok Q (is_int 0 y) (constant (int 0)) _ (closed.ints 0 (omega arith))
        (gives_ok Q (is_int 1 x) (id_of b) _ h.right
        (gives_ok Q (is_int 1 y) (id_of a) _ h.left
        (gives_ok Q (is_int 2 x) (two Add b b) _ h.right_twice (gives_ok Q (is_int 2 y) (two Add a a) none h.left_twice tt)))))
    identity_ok Div h = tt
    identity_ok Eq h = gives_ok Q (eqb a.0 b.0) (constant (bool true)) none (closed.bools true) tt
    identity_ok Lt h = tt
    identity_ok Gt h = tt
    identity_ok Le h = tt
    identity_ok Ge h = tt
    identity_ok And h = absorbs_ok false true h.left h.right
    identity_ok Or h = absorbs_ok true false h.left h.right
    identity_ok PtrAdd h = gives_ok Q (is_int 0 y) (id_of a) none h.left tt

  abbrev pub OutcomesOf : Expr ValNum → Type 0
  OutcomesOf (constant v) = Q (constant v)
  OutcomesOf (one o a) = Q (one o a)
  OutcomesOf (two o a b) = Outcomes o a b

  pub simplified_ok :
      (f : ValNum → Option Val) → ((v : ValNum) → OptionOk (λ u. Q (constant u)) (f v)) → (e : Expr ValNum) → OutcomesOf e → Q (simplify f e)
  unfolding simplify simplify1 simplify2
  simplified_ok f h (constant v) k = k
  simplified_ok f h (one o a) k = get_or_ok Q (fold1 o (f a)) (one o a) (fold1_ok o (f a) (h a)) k
  simplified_ok f h (two o a b) k =
      get_or_ok Q (first (fold2 o (f a) (f b)) (identity o (f a) (f b) a b)) (ordered o a b)
      (first_ok Q (fold2 o (f a) (f b)) (identity o (f a) (f b) a b) (fold2_ok o (f a) (f b)) (identity_ok (f a) (f b) a b o k))
      k.in_order

-- ---- operands that are given and constants that have P
module _ (P : Val → Type 0) (n : ℕ) (a b : ValNum) (p : a.0 < n) (q : b.0 < n) where
  sorted_ok : (o : Two) (c : Bool) → ExprOk P n (cond c (two o b a) (two o a b))
  sorted_ok o true = (q, p)
  sorted_ok o false = (p, q)

  ordered_ok : (o : Two) → ExprOk P n (ordered o a b)
  unfolding ordered
  ordered_ok Add = sorted_ok Add (ltb b.0 a.0)
  ordered_ok Sub = (p, q)
  ordered_ok Mul = sorted_ok Mul (ltb b.0 a.0)
  ordered_ok Div = (p, q)
  ordered_ok Eq = sorted_ok Eq (ltb b.0 a.0)
  ordered_ok Lt = (p, q)
  ordered_ok Gt = (q, p)
  ordered_ok Le = (p, q)
  ordered_ok Ge = (q, p)
  ordered_ok And = sorted_ok And (ltb b.0 a.0)
  ordered_ok Or = sorted_ok Or (ltb b.0 a.0)
  ordered_ok PtrAdd = (p, q)

pub simplify_ok :
    (P : Val → Type 0) (closed : Closed P) (n : ℕ) (f : ValNum → Option Val) → ((v : ValNum) → OptionOk P (f v)) →
    (e : Expr ValNum) → ExprOk P n e → ExprOk P n (simplify f e)
simplify_ok P closed n f h e k = simplified_ok (ExprOk P n) closed f h e (outcomes e k)
  where
    outcomes : (e : Expr ValNum) → ExprOk P n e → OutcomesOf (ExprOk P n) closed e
    outcomes (constant v) k = k
    outcomes (one o a) k = k
    outcomes (two o a b) (p, q) =
        record { left = p; right = q; left_twice = (p, p); right_twice = (q, q); in_order = ordered_ok P n a b p q o }
