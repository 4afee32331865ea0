-- Equality of operators and expressions is decided: an operator by its code.
use Rattle.std.specs.Prelude.{ℕ, ◌≡◌, refl}
use Rattle.std.proofs.Common.{sym, ap, ◌∙◌}
use mathlib.Core.HLevel.{Discrete}
use Rattle.std.proofs.Math.Option.{Option, some, some-injective}
use Rattle.std.proofs.Math.Decide.{ℕ_discrete}
use Rattle.arith.specs.declared.One.{One}
use Rattle.arith.specs.declared.One.TheVariants.{Not, Id}
use Rattle.arith.specs.declared.Two.{Two}
use Rattle.arith.specs.declared.Two.TheVariants.{Add, Sub, Mul, Div, Eq, Lt, Gt, Le, Ge, And, Or, PtrAdd}
use Rattle.arith.specs.Code.{code1, code2, with_code, one_of, two_of}
use Rattle.arith.specs.Value.{Val-discrete}
use Rattle.arith.specs.Operation.{Expr, Expr-discrete'}

abbrev pub map_dec : {A B : Type 0} → (A → B) → (B → A) → Dec A → Dec B
map_dec f g (yes a) = yes (f a)
map_dec f g (no h) = no (λ b. h (g b))

pub one_of_code : (o : One) → one_of (code1 o) ≡ some o
unfolding one_of with_code code1
one_of_code Not = refl
one_of_code Id = refl

pub two_of_code : (o : Two) → two_of (code2 o) ≡ some o
unfolding two_of with_code code2
two_of_code Add = refl
two_of_code Sub = refl
two_of_code Mul = refl
two_of_code Div = refl
two_of_code Eq = refl
two_of_code Lt = refl
two_of_code Gt = refl
two_of_code Le = refl
two_of_code Ge = refl
two_of_code And = refl
two_of_code Or = refl
two_of_code PtrAdd = refl

-- what is found again by its code is equal where the codes are
pub by_code : {A : Type 0} (code : A → ℕ) (find : ℕ → Option A) → ((x : A) → find (code x) ≡ some x) → (x y : A) → code x ≡ code y → x ≡ y
by_code code find found x y e = some-injective x y (sym (found x) ∙ ap find e ∙ found y)

abbrev pub One-discrete : Discrete One
One-discrete x y = map_dec (by_code code1 one_of one_of_code x y) (ap code1) (ℕ_discrete (code1 x) (code1 y))

abbrev pub Two-discrete : Discrete Two
Two-discrete x y = map_dec (by_code code2 two_of two_of_code x y) (ap code2) (ℕ_discrete (code2 x) (code2 y))

abbrev pub Expr-discrete : {A : Type 0} → Discrete A → Discrete (Expr A)
Expr-discrete d = Expr-discrete' Val-discrete One-discrete d Two-discrete
