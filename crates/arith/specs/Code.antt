-- "Value codes: 1 add, 2 sub, 3 mul, 4 div, 5 eq, 6 lt, 7 gt, 8 le, 9 ge, 10 not, 11 and, 12 or, 13 id, 14 ptradd".
-- The table is written once; the operator of a code is found in it.
use Rattle.std.specs.Prelude.{ℕ, cond, List, [], ◌∷◌, eqb}
use Rattle.std.proofs.Math.Option.{Option, none, some}
use Rattle.arith.specs.declared.One.{One}
use Rattle.arith.specs.declared.One.TheVariants.{Not, Id}
use Rattle.arith.specs.declared.Two.{Two}
use Rattle.arith.specs.declared.Two.TheVariants.{Add, Sub, Mul, Div, Eq, Lt, Gt, Le, Ge, And, Or, PtrAdd}

unfoldable pub code1 : One → ℕ
code1 Not = 10
code1 Id = 13

unfoldable pub code2 : Two → ℕ
code2 Add = 1
code2 Sub = 2
code2 Mul = 3
code2 Div = 4
code2 Eq = 5
code2 Lt = 6
code2 Gt = 7
code2 Le = 8
code2 Ge = 9
code2 And = 11
code2 Or = 12
code2 PtrAdd = 14

abbrev pub ones : List One
ones = Not ∷ Id ∷ []

abbrev pub twos : List Two
twos = Add ∷ Sub ∷ Mul ∷ Div ∷ Eq ∷ Lt ∷ Gt ∷ Le ∷ Ge ∷ And ∷ Or ∷ PtrAdd ∷ []

-- the first of these that has the code
unfoldable pub with_code : {A : Type 0} → (A → ℕ) → ℕ → List A → Option A
with_code code c [] = none
with_code code c (o ∷ os) = cond (eqb (code o) c) (some o) (with_code code c os)

unfoldable pub one_of : ℕ → Option One
one_of c = with_code code1 c ones

unfoldable pub two_of : ℕ → Option Two
two_of c = with_code code2 c twos
