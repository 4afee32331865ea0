-- "`simplify` decides over the operator and what is known of its operands": folds, then identities, then the order of operands.
use Rattle.std.specs.Prelude.{ℕ, Bool, true, false, cond, ltb, eqb}
use Rattle.std.specs.Bool.{beq}
use Rattle.std.proofs.Math.Option.{Option, none, some, get_or}
use Rattle.arith.specs.declared.One.{One}
use Rattle.arith.specs.declared.One.TheVariants.{Id}
use Rattle.arith.specs.declared.Two.{Two}
use Rattle.arith.specs.declared.Two.TheVariants.{Add, Sub, Mul, Div, Eq, Lt, Gt, Le, Ge, And, Or, PtrAdd}
use Rattle.arith.specs.Value.{Val, int, float, literal, char, bool, pointer}
use Rattle.arith.specs.Operation.{Result, ok, stops, unset, apply1, apply2, Expr, constant, one, two}
use Rattle.numbering.specs.declared.ValNum.{ValNum}

-- ---- folds: "both known"
-- "div by 0 ..: no fold, the division stays"; -2^63 by -1 folds like any other (document 02, Point 4)
unfoldable pub folded : Result → Option (Expr ValNum)
folded (ok v) = some (constant v)
folded (stops c) = none
folded unset = none

unfoldable pub fold1 : One → Option Val → Option (Expr ValNum)
fold1 o none = none
fold1 o (some x) = folded (apply1 o x)

unfoldable pub fold2 : Two → Option Val → Option Val → Option (Expr ValNum)
fold2 o none y = none
fold2 o (some x) none = none
fold2 o (some x) (some y) = folded (apply2 o x y)

-- ---- identities
unfoldable pub is_int : ℕ → Option Val → Bool
is_int n none = false
is_int n (some (int w)) = eqb w n
is_int n (some (float b)) = false
is_int n (some (literal w)) = false
is_int n (some (char c)) = false
is_int n (some (bool b)) = false
is_int n (some (pointer t b o)) = false

unfoldable pub is_bool : Bool → Option Val → Bool
is_bool c none = false
is_bool c (some (int w)) = false
is_bool c (some (float b)) = false
is_bool c (some (literal w)) = false
is_bool c (some (char k)) = false
is_bool c (some (bool b)) = beq b c
is_bool c (some (pointer t b o)) = false

abbrev pub id_of : ValNum → Expr ValNum
id_of a = one Id a

-- e where the test holds, else what the other tests give
abbrev pub gives : Bool → Expr ValNum → Option (Expr ValNum) → Option (Expr ValNum)
gives true e other = some e
gives false e other = other

-- "false and y is false; true and y is id y; dually for or": z is the operand that decides alone
abbrev pub absorbs : Bool → Bool → Option Val → Option Val → ValNum → ValNum → Option (Expr ValNum)
absorbs z neutral x y a b =
    gives (is_bool z x) (constant (bool z))
    (gives (is_bool z y) (constant (bool z))
    (gives (is_bool neutral x) (id_of b)
    (gives (is_bool neutral y) (id_of a) none)))

-- over the operands a and b, of which x and y are known
unfoldable pub identity : Two → Option Val → Option Val → ValNum → ValNum → Option (Expr ValNum)
identity Add x y a b = gives (is_int 0 x) (id_of b) (gives (is_int 0 y) (id_of a) none)
identity Sub x y a b = none
identity Mul x y a b =
    gives (is_int 0 x) (constant (int 0))
    (gives (is_int 0 y) (constant (int 0))
    (gives (is_int 1 x) (id_of b)
    (gives (is_int 1 y) (id_of a)
    (gives (is_int 2 x) (two Add b b)
    (gives (is_int 2 y) (two Add a a) none)))))
identity Div x y a b = none
identity Eq x y a b = gives (eqb a.0 b.0) (constant (bool true)) none
identity Lt x y a b = none
identity Gt x y a b = none
identity Le x y a b = none
identity Ge x y a b = none
identity And x y a b = absorbs false true x y a b
identity Or x y a b = absorbs true false x y a b
identity PtrAdd x y a b = gives (is_int 0 y) (id_of a) none

-- ---- the order of operands
-- "otherwise add, mul, and, or, eq put the smaller number first" (`sort_val_nums`)
abbrev pub sorted : Two → ValNum → ValNum → Expr ValNum
sorted o a b = cond (ltb b.0 a.0) (two o b a) (two o a b)

-- "an unfolded gt into lt with its operands exchanged, and ge into le likewise" (document 02, Point 2)
unfoldable pub ordered : Two → ValNum → ValNum → Expr ValNum
ordered Add a b = sorted Add a b
ordered Sub a b = two Sub a b
ordered Mul a b = sorted Mul a b
ordered Div a b = two Div a b
ordered Eq a b = sorted Eq a b
ordered Lt a b = two Lt a b
ordered Gt a b = two Lt b a
ordered Le a b = two Le a b
ordered Ge a b = two Le b a
ordered And a b = sorted And a b
ordered Or a b = sorted Or a b
ordered PtrAdd a b = two PtrAdd a b

-- ---- simplify, over what is known of each number
abbrev pub first : Option (Expr ValNum) → Option (Expr ValNum) → Option (Expr ValNum)
first none other = other
first (some e) other = some e

unfoldable pub simplify1 : One → Option Val → ValNum → Expr ValNum
simplify1 o x a = get_or (fold1 o x) (one o a)

unfoldable pub simplify2 : Two → Option Val → Option Val → ValNum → ValNum → Expr ValNum
simplify2 o x y a b = get_or (first (fold2 o x y) (identity o x y a b)) (ordered o a b)

unfoldable pub simplify : (ValNum → Option Val) → Expr ValNum → Expr ValNum
simplify known (constant v) = constant v
simplify known (one o a) = simplify1 o (known a) a
simplify known (two o a b) = simplify2 o (known a) (known b) a b
