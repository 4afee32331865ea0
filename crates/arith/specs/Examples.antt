-- The operations by example, the edges of the signed ints among them.
use Rattle.std.specs.Prelude.{ℕ, ◌+◌, ◌-◌, ◌≡◌, refl, Bool, true, false, List, [], ◌∷◌, map}
use Rattle.std.proofs.Math.Option.{none, some}
use Rattle.arith.specs.declared.One.TheVariants.{Not, Id}
use Rattle.arith.specs.declared.Two.{Two}
use Rattle.arith.specs.declared.Two.TheVariants.{Add, Sub, Mul, Div, Eq, Lt, Gt, Le, Ge, And, Or, PtrAdd}
use Rattle.arith.specs.Word.{W, least, minus_one}
use Rattle.arith.specs.Value.{int, float, literal, char, bool, pointer, is_pointer, scalar, has_type}
use Rattle.arith.specs.Operation.{by_zero, Result, ok, stops, unset, apply1, apply2, two, eval}
use Rattle.arith.specs.Code.{code1, code2, ones, twos}
use Rattle.arith.specs.Opened.{all_of_arith}

-- the word of -n
abbrev pub minus : ℕ → ℕ
minus n = W - n

abbrev pub on_ints : Two → ℕ × ℕ → Result
on_ints o p = apply2 o (int p.0) (int p.1)

pub sums :
    map (on_ints Add) ((least - 1, 1) ∷ (minus_one, 1) ∷ (2, 3) ∷ []) ≡ ok (int least) ∷ ok (int 0) ∷ ok (int 5) ∷ []
unfolding all_of_arith
sums = refl

pub differences :
    map (on_ints Sub) ((0, 1) ∷ (least, 1) ∷ (5, 3) ∷ []) ≡ ok (int minus_one) ∷ ok (int (least - 1)) ∷ ok (int 2) ∷ []
unfolding all_of_arith
differences = refl

pub products :
    map (on_ints Mul) ((minus 3, 5) ∷ (least, 2) ∷ (minus 3, minus 5) ∷ (6, 7) ∷ []) ≡
    ok (int (minus 15)) ∷ ok (int 0) ∷ ok (int 15) ∷ ok (int 42) ∷ []
unfolding all_of_arith
products = refl

-- toward zero
pub quotients :
    map (on_ints Div) ((7, 2) ∷ (minus 7, 2) ∷ (7, minus 2) ∷ (minus 7, minus 2) ∷ (0, minus 7) ∷ (2, 7) ∷ (minus 2, 7) ∷ []) ≡
    ok (int 3) ∷ ok (int (minus 3)) ∷ ok (int (minus 3)) ∷ ok (int 3) ∷ ok (int 0) ∷ ok (int 0) ∷ ok (int 0) ∷ []
unfolding all_of_arith
quotients = refl

-- -2^63 by -1 is -2^63, by 1 too, and by 2, -2 and itself as any other; -2^63+1 by -1 is 2^63-1; 2^63-1 by -1 and by 2
pub quotients_at_the_edge :
    map (on_ints Div)
    ((least, minus_one) ∷ (least, 1) ∷ (least, 2) ∷ (least, minus 2) ∷ (least, least) ∷ (minus_one, least) ∷ (least + 1, minus_one) ∷
    (least - 1, minus_one) ∷ (least - 1, 2) ∷ []) ≡
    ok (int least) ∷ ok (int least) ∷ ok (int 0xC000_0000_0000_0000) ∷ ok (int 0x4000_0000_0000_0000) ∷ ok (int 1) ∷ ok (int 0) ∷
    ok (int 0x7FFF_FFFF_FFFF_FFFF) ∷ ok (int 0x8000_0000_0000_0001) ∷ ok (int 0x3FFF_FFFF_FFFF_FFFF) ∷ []
unfolding all_of_arith
quotients_at_the_edge = refl

-- by zero, whatever is divided
pub quotients_by_zero :
    map (on_ints Div) ((7, 0) ∷ (0, 0) ∷ (minus_one, 0) ∷ (least, 0) ∷ []) ≡
    stops by_zero ∷ stops by_zero ∷ stops by_zero ∷ stops by_zero ∷ []
unfolding all_of_arith
quotients_by_zero = refl

-- of -1 and 0, 0 and -1, 5 and 5
abbrev pub compared : Two → List Result
compared o = map (on_ints o) ((minus_one, 0) ∷ (0, minus_one) ∷ (5, 5) ∷ [])

abbrev pub bools_of : List Bool → List Result
bools_of bs = map (λ b. ok (bool b)) bs

pub comparisons :
    map compared (Eq ∷ Lt ∷ Gt ∷ Le ∷ Ge ∷ []) ≡
    bools_of (false ∷ false ∷ true ∷ []) ∷
    bools_of (true ∷ false ∷ false ∷ []) ∷
    bools_of (false ∷ true ∷ false ∷ []) ∷
    bools_of (true ∷ false ∷ true ∷ []) ∷
    bools_of (false ∷ true ∷ true ∷ []) ∷
    []
unfolding all_of_arith
comparisons = refl

abbrev pub truth_table : Two → List Result
truth_table o =
    map (λ (p : Bool × Bool). apply2 o (bool p.0) (bool p.1)) ((false, false) ∷ (false, true) ∷ (true, false) ∷ (true, true) ∷ [])

pub truths :
    map truth_table (And ∷ Or ∷ []) ≡
    bools_of (false ∷ false ∷ false ∷ true ∷ []) ∷ bools_of (false ∷ true ∷ true ∷ true ∷ []) ∷ []
unfolding all_of_arith
truths = refl

-- the offset wraps; a bool under an int operator, or a float, is as good as not set
pub others :
    apply2 PtrAdd (pointer 0x10 1 minus_one) (int 2) ∷ apply1 Not (bool true) ∷ apply1 Id (char 97) ∷
    apply2 Add (int 1) (bool true) ∷ apply2 PtrAdd (int 1) (int 2) ∷ apply1 Not (int 1) ∷ apply2 Eq (float 0) (float 0) ∷ [] ≡
    ok (pointer 0x10 1 1) ∷ ok (bool false) ∷ ok (char 97) ∷ unset ∷ unset ∷ unset ∷ unset ∷ []
unfolding all_of_arith
others = refl

-- all operands are read before anything is tested
pub read_first :
    eval (λ (b : Bool). none) (two Div true false) ∷ eval (λ (b : Bool). some (int 0)) (two Div true false) ∷ [] ≡
    unset ∷ stops by_zero ∷ []
unfolding all_of_arith
read_first = refl

pub codes :
    map code1 ones ≡ 10 ∷ 13 ∷ []
unfolding all_of_arith
codes = refl

pub codes_of_two : map code2 twos ≡ 1 ∷ 2 ∷ 3 ∷ 4 ∷ 5 ∷ 6 ∷ 7 ∷ 8 ∷ 9 ∷ 11 ∷ 12 ∷ 14 ∷ []
unfolding all_of_arith
codes_of_two = refl

-- values of a type, and those out of range
pub typed :
    map (has_type 0x02) (float 1 ∷ literal 1 ∷ int 1 ∷ literal W ∷ []) ≡ true ∷ true ∷ false ∷ false ∷ []
unfolding all_of_arith
typed = refl

pub typed_others :
    has_type 0x00 (int minus_one) ∷ has_type 0x01 (bool false) ∷ has_type 0x03 (char 0xD800) ∷ has_type 0x03 (char 0x10FFFF) ∷
    has_type 0x20 (pointer 0x20 1 2) ∷ has_type 0x20 (pointer 0x10 1 2) ∷ has_type 0x00 (pointer 0x00 1 2) ∷ [] ≡
    true ∷ true ∷ false ∷ true ∷ true ∷ false ∷ false ∷ []
unfolding all_of_arith
typed_others = refl

-- the edges of the pointer types, and of the Unicode scalar values
pub edges :
    map is_pointer (0x00 ∷ 0x03 ∷ 0x0F ∷ 0x10 ∷ 0x13 ∷ 0xF3 ∷ []) ∷
    map scalar (0 ∷ 0xD7FF ∷ 0xD800 ∷ 0xDFFF ∷ 0xE000 ∷ 0x10FFFF ∷ 0x110000 ∷ []) ∷
    [] ≡
    (false ∷ false ∷ false ∷ true ∷ true ∷ true ∷ []) ∷
    (true ∷ true ∷ false ∷ false ∷ true ∷ true ∷ false ∷ []) ∷
    []
edges = refl
