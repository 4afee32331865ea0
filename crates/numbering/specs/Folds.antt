-- simplify by example: every fold, every identity and every order of operands.
use Rattle.std.specs.Prelude.{ℕ, ◌+◌, ◌-◌, ◌≡◌, refl, true, false, List, [], ◌∷◌, map, get_or}
use Rattle.std.proofs.Math.Option.{Option, none, some}
use Rattle.arith.specs.declared.One.TheVariants.{Not, Id}
use Rattle.arith.specs.declared.Two.{Two}
use Rattle.arith.specs.declared.Two.TheVariants.{Add, Sub, Mul, Div, Eq, Lt, Gt, Le, Ge, And, Or, PtrAdd}
use Rattle.arith.specs.Word.{W, least, minus_one}
use Rattle.arith.specs.Value.{int, bool, literal}
use Rattle.arith.specs.Operation.{Expr, constant, one, two}
use Rattle.numbering.specs.declared.ValNum.{ValNum}
use Rattle.numbering.specs.State.{vn, known_expr}
use Rattle.numbering.specs.Simplify.{simplify}
use Rattle.numbering.specs.Opened.{all_of_numbering}

-- the numbers 5 to 7 are not known, though 7 is an int literal in a float; the others are
abbrev pub values : List (Option (Expr ValNum))
values =
    some (constant (int 0)) ∷
    some (constant (int 1)) ∷
    some (constant (int 2)) ∷
    some (constant (bool false)) ∷
    some (constant (bool true)) ∷
    none ∷
    some (two Add (vn 5) (vn 5)) ∷
    some (constant (literal 0)) ∷
    some (constant (int least)) ∷
    some (constant (int minus_one)) ∷
    some (constant (int (least + 1))) ∷
    some (constant (int 7)) ∷
    some (constant (int (W - 2))) ∷
    []

abbrev pub simplified : Expr ValNum → Expr ValNum
simplified e = simplify (λ v. known_expr (get_or values v.0 none)) e

abbrev pub of_two : Two → ℕ × ℕ → Expr ValNum
of_two o p = simplified (two o (vn p.0) (vn p.1))

abbrev pub id_of : ℕ → Expr ValNum
id_of v = one Id (vn v)

abbrev pub stays : Two → ℕ → ℕ → Expr ValNum
stays o a b = two o (vn a) (vn b)

-- 0 + y and y + 0; both known; the smaller number first
pub adds :
    map (of_two Add) ((0, 5) ∷ (5, 0) ∷ (1, 2) ∷ (6, 5) ∷ (5, 6) ∷ (5, 1) ∷ (5, 7) ∷ []) ≡
    id_of 5 ∷ id_of 5 ∷ constant (int 3) ∷ stays Add 5 6 ∷ stays Add 5 6 ∷ stays Add 1 5 ∷ stays Add 5 7 ∷ []
unfolding all_of_numbering
adds = refl

pub subtracts :
    map (of_two Sub) ((5, 0) ∷ (0, 5) ∷ (6, 5) ∷ (5, 5) ∷ (1, 2) ∷ []) ≡
    stays Sub 5 0 ∷ stays Sub 0 5 ∷ stays Sub 6 5 ∷ stays Sub 5 5 ∷ constant (int minus_one) ∷ []
unfolding all_of_numbering
subtracts = refl

-- 0, 1 and 2 times y, on both sides
pub multiplies :
    map (of_two Mul) ((0, 5) ∷ (5, 0) ∷ (1, 5) ∷ (5, 1) ∷ (2, 5) ∷ (5, 2) ∷ (6, 5) ∷ (5, 6) ∷ (2, 2) ∷ (0, 1) ∷ []) ≡
    constant (int 0) ∷ constant (int 0) ∷ id_of 5 ∷ id_of 5 ∷ stays Add 5 5 ∷ stays Add 5 5 ∷ stays Mul 5 6 ∷ stays Mul 5 6 ∷
    constant (int 4) ∷ constant (int 0) ∷ []
unfolding all_of_numbering
multiplies = refl

-- by 0 the division stays, whatever is divided; where one operand is not known it stays too
pub divides :
    map (of_two Div) ((2, 1) ∷ (9, 2) ∷ (2, 0) ∷ (0, 0) ∷ (8, 0) ∷ (5, 1) ∷ (5, 9) ∷ (0, 5) ∷ (8, 5) ∷ (5, 5) ∷ (6, 5) ∷ []) ≡
    constant (int 2) ∷ constant (int 0) ∷ stays Div 2 0 ∷ stays Div 0 0 ∷ stays Div 8 0 ∷ stays Div 5 1 ∷ stays Div 5 9 ∷ stays Div 0 5 ∷ stays Div 8 5 ∷
    stays Div 5 5 ∷ stays Div 6 5 ∷ []
unfolding all_of_numbering
divides = refl

-- -2^63 by -1, by 1, by 2; -2^63+1 by -1; 7 by -2
pub divides_at_the_edge :
    map (of_two Div) ((8, 9) ∷ (8, 1) ∷ (8, 2) ∷ (10, 9) ∷ (11, 12) ∷ []) ≡
    constant (int least) ∷ constant (int least) ∷ constant (int 0xC000_0000_0000_0000) ∷ constant (int (least - 1)) ∷ constant (int (W - 3)) ∷ []
unfolding all_of_numbering
divides_at_the_edge = refl

-- one number with itself; both known
pub equals :
    map (of_two Eq) ((5, 5) ∷ (1, 1) ∷ (1, 2) ∷ (6, 5) ∷ (5, 6) ∷ (5, 0) ∷ []) ≡
    constant (bool true) ∷ constant (bool true) ∷ constant (bool false) ∷ stays Eq 5 6 ∷ stays Eq 5 6 ∷ stays Eq 0 5 ∷ []
unfolding all_of_numbering
equals = refl

-- -1 and 0; one known; unknown operands. lt and le keep their order, gt and ge become these with the operands exchanged
pub compares :
    map (λ o. map (of_two o) ((9, 0) ∷ (0, 5) ∷ (5, 0) ∷ (6, 5) ∷ (5, 5) ∷ [])) (Lt ∷ Gt ∷ Le ∷ Ge ∷ []) ≡
    (constant (bool true) ∷ stays Lt 0 5 ∷ stays Lt 5 0 ∷ stays Lt 6 5 ∷ stays Lt 5 5 ∷ []) ∷
    (constant (bool false) ∷ stays Lt 5 0 ∷ stays Lt 0 5 ∷ stays Lt 5 6 ∷ stays Lt 5 5 ∷ []) ∷
    (constant (bool true) ∷ stays Le 0 5 ∷ stays Le 5 0 ∷ stays Le 6 5 ∷ stays Le 5 5 ∷ []) ∷
    (constant (bool false) ∷ stays Le 5 0 ∷ stays Le 0 5 ∷ stays Le 5 6 ∷ stays Le 5 5 ∷ []) ∷
    []
unfolding all_of_numbering
compares = refl

-- false and y, true and y, likewise on the other side; dually for or; none for one number with itself
pub ands :
    map (of_two And) ((3, 5) ∷ (5, 3) ∷ (4, 5) ∷ (5, 4) ∷ (3, 4) ∷ (6, 5) ∷ (5, 5) ∷ []) ≡
    constant (bool false) ∷ constant (bool false) ∷ id_of 5 ∷ id_of 5 ∷ constant (bool false) ∷ stays And 5 6 ∷ stays And 5 5 ∷ []
unfolding all_of_numbering
ands = refl

pub ors :
    map (of_two Or) ((3, 5) ∷ (5, 3) ∷ (4, 5) ∷ (5, 4) ∷ (3, 4) ∷ (6, 5) ∷ (5, 5) ∷ []) ≡
    id_of 5 ∷ id_of 5 ∷ constant (bool true) ∷ constant (bool true) ∷ constant (bool true) ∷ stays Or 5 6 ∷ stays Or 5 5 ∷ []
unfolding all_of_numbering
ors = refl

-- p ptradd 0 is id p
pub shifts :
    map (of_two PtrAdd) ((5, 0) ∷ (5, 1) ∷ (6, 5) ∷ []) ≡ id_of 5 ∷ stays PtrAdd 5 1 ∷ stays PtrAdd 6 5 ∷ []
unfolding all_of_numbering
shifts = refl

-- not folds; id of a known constant is that constant, and an int literal in a float is never known
pub ones :
    map simplified (one Not (vn 3) ∷ one Not (vn 5) ∷ one Id (vn 2) ∷ one Id (vn 4) ∷ one Id (vn 5) ∷ one Id (vn 7) ∷ []) ≡
    constant (bool true) ∷ one Not (vn 5) ∷ constant (int 2) ∷ constant (bool true) ∷ id_of 5 ∷ id_of 7 ∷ []
unfolding all_of_numbering
ones = refl
