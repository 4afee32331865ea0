-- The operations of const and of the codes 1 to 14 on values, and expressions over them.
-- One definition of each serves the folding of constants and the machine.
use Rattle.std.specs.Prelude.{ℕ, Bool, not, ◌&&◌, ◌||◌, cond, eqb}
use Rattle.std.proofs.Math.Option.{Option, none, some}
use Rattle.arith.specs.declared.One.{One}
use Rattle.arith.specs.declared.One.TheVariants.{Not, Id}
use Rattle.arith.specs.declared.Two.{Two}
use Rattle.arith.specs.declared.Two.TheVariants.{Add, Sub, Mul, Div, Eq, Lt, Gt, Le, Ge, And, Or, PtrAdd}
use Rattle.arith.specs.Word.{add_w, sub_w, mul_w, div_w, lt_w, le_w}
use Rattle.arith.specs.Value.{Val, int, float, literal, char, bool, pointer}

-- why a division stops: "by id and cause", of which there is one
pub data Cause : Type 0 where
  by_zero : Cause

-- a value, a division that stops, or nothing because an operand is not set
pub data Result : Type 0 where
  ok : Val → Result
  stops : Cause → Result
  unset : Result

-- ---- operands, read at the operator's type: a value of another type, which a typed store never has, counts as not set
unfoldable pub as_int : Val → Option ℕ
as_int (int w) = some w
as_int (float b) = none
as_int (literal w) = none
as_int (char c) = none
as_int (bool b) = none
as_int (pointer t b o) = none

unfoldable pub as_bool : Val → Option Bool
as_bool (int w) = none
as_bool (float b) = none
as_bool (literal w) = none
as_bool (char c) = none
as_bool (bool b) = some b
as_bool (pointer t b o) = none

unfoldable pub with_both : {A B : Type 0} → Option A → Option B → (A → B → Result) → Result
with_both none y f = unset
with_both (some x) none f = unset
with_both (some x) (some y) f = f x y

unfoldable pub with_one : {A : Type 0} → Option A → (A → Result) → Result
with_one none f = unset
with_one (some x) f = f x

abbrev pub ints : Val → Val → (ℕ → ℕ → Result) → Result
ints x y f = with_both (as_int x) (as_int y) f

abbrev pub bools : Val → Val → (Bool → Bool → Result) → Result
bools x y f = with_both (as_bool x) (as_bool y) f

-- ---- the operations
-- "div by 0 .. stops there", and no other division: "-2^63 div -1 is -2^63 in the machine, without a stop" (document 02, Point 4)
unfoldable pub divide : ℕ → ℕ → Result
divide a b = cond (eqb b 0) (stops by_zero) (ok (int (div_w a b)))

-- "a pointer is a base and a wrapping offset"
unfoldable pub shift : Val → ℕ → Result
shift (int w) k = unset
shift (float b) k = unset
shift (literal w) k = unset
shift (char c) k = unset
shift (bool b) k = unset
shift (pointer t b o) k = ok (pointer t b (add_w o k))

unfoldable pub apply1 : One → Val → Result
apply1 Not x = with_one (as_bool x) (λ a. ok (bool (not a)))
apply1 Id x = ok x

unfoldable pub apply2 : Two → Val → Val → Result
apply2 Add x y = ints x y (λ a b. ok (int (add_w a b)))
apply2 Sub x y = ints x y (λ a b. ok (int (sub_w a b)))
apply2 Mul x y = ints x y (λ a b. ok (int (mul_w a b)))
apply2 Div x y = ints x y divide
apply2 Eq x y = ints x y (λ a b. ok (bool (eqb a b)))
apply2 Lt x y = ints x y (λ a b. ok (bool (lt_w a b)))
apply2 Gt x y = ints x y (λ a b. ok (bool (lt_w b a)))
apply2 Le x y = ints x y (λ a b. ok (bool (le_w a b)))
apply2 Ge x y = ints x y (λ a b. ok (bool (le_w b a)))
apply2 And x y = bools x y (λ a b. ok (bool (a && b)))
apply2 Or x y = bools x y (λ a b. ok (bool (a || b)))
apply2 PtrAdd x y = with_one (as_int y) (shift x)

-- ---- expressions over operands of some kind: names in an instruction, value numbers in the numbering
pub data Expr (A : Type 0) : Type 0 where
  constant : Val → Expr A
  one : One → A → Expr A
  two : Two → A → A → Expr A
  deriving Discrete as Expr-discrete'

-- over what each operand holds; all operands are read before anything else is tested
unfoldable pub eval : {A : Type 0} → (A → Option Val) → Expr A → Result
eval f (constant v) = ok v
eval f (one o a) = with_one (f a) (apply1 o)
eval f (two o a b) = with_both (f a) (f b) (apply2 o)
