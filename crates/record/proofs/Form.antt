-- What the form of an instruction says of its code, the shapes of the operators, and how to look through all codes:
-- by computing a test at each code of the tables, since past their end every code is unknown.
use Prim.Native.Nat.{ℕ, zero, suc, ◌<◌}
use mathlib.Core.Path.{◌≡◌, refl, ap}
use mathlib.Core.List.{List, [], ◌∷◌}
use mathlib.Core.Bool.{Bool, true, false, cond, ◌&&◌, ◌||◌, not}
use mathlib.Core.Option.{Option, none, some}
use native.Mathlib.Omega.{arith}
use native.Mathlib.Decide.{dec_lt, ℕ_discrete}
use lib.ListN.{get_or}
use lib.Dec.{leb, eqb}
use borrow.Author.Tests.{eqb-true, lt-leb, leb-true}
use Rattle.arith.proofs.Clash.{clash}
use Rattle.arith.specs.declared.One.{One}
use Rattle.arith.specs.declared.One.TheVariants.{Not, Id}
use Rattle.arith.specs.declared.Two.{Two}
use Rattle.arith.specs.declared.Two.TheVariants.{Add, Sub, Mul, Div, Eq, Lt, Gt, Le, Ge, And, Or, PtrAdd}
use Rattle.arith.specs.Operation.{constant, one, two}
use Rattle.arith.specs.Code.{code1, code2, with_code, one_of, two_of}
use Rattle.arith.proofs.Found.{one_found, two_found}
use Rattle.record.specs.declared.NameIx.{NameIx}
use Rattle.record.specs.Record.{Instr, arg}
use Rattle.record.specs.Shape.{value, unknown, row_of, shapes, shape_of}
use Rattle.record.proofs.Tests.{and_left, and_right, or_second}
use Rattle.record.specs.Form.{Form, pure, new, effect, return, nop, jump, branch, value_of, operation, form}

-- the forms of i, with the codes that have them
pub data FormOf (t : NameIx → ℕ) (i : Instr) : Form → Type 0 where
  of_constant : i.code ≡ 0 → FormOf t i (pure (constant (value_of (t i.dest) i.lit.kind i.lit.bits)))
  of_one : (o : One) → code1 o ≡ i.code → FormOf t i (pure (one o (arg i 0)))
  of_two : (o : Two) → code2 o ≡ i.code → FormOf t i (pure (two o (arg i 0) (arg i 1)))
  of_new : FormOf t i (new i.args)
  of_jump : i.code ≡ 64 → FormOf t i (jump (get_or i.blocks 0 0))
  of_branch : i.code ≡ 65 → FormOf t i (branch (arg i 0) (get_or i.blocks 0 0) (get_or i.blocks 1 0))
  of_return : i.code ≡ 66 → FormOf t i (return i.args)
  of_nop : i.code ≡ 69 → FormOf t i nop
  of_effect : FormOf t i (effect i.args)

module _ (P : Form → Type 0) where
  cond_either : (b : Bool) (f g : Form) → (b ≡ true → P f) → P g → P (cond b f g)
  cond_either true f g h k = h refl
  cond_either false f g h k = k

  operation_either :
      (o : Option One) (p : Option Two) (a b : NameIx) (g : Form) →
      ((q : One) → o ≡ some q → P (pure (one q a))) →
      ((q : Two) → p ≡ some q → P (pure (two q a b))) →
      P g →
      P (operation o p a b g)
  operation_either (some q) p a b g h k l = h q refl
  operation_either none (some q) a b g h k l = k q refl
  operation_either none none a b g h k l = l

pub form_of : (t : NameIx → ℕ) (i : Instr) → FormOf t i (form t i)
unfolding form
form_of t i =
    let c = i.code in
    let P = FormOf t i in
    cond_either P (eqb c 0) _ _ (λ e. of_constant (eqb-true c 0 e))
    (operation_either P (one_of c) (two_of c) _ _ _ (λ o e. of_one o (one_found c o e)) (λ o e. of_two o (two_found c o e))
    (cond_either P (leb c 63) _ _ (λ e. of_new)
    (cond_either P (eqb c 64) _ _ (λ e. of_jump (eqb-true c 64 e))
    (cond_either P (eqb c 65) _ _ (λ e. of_branch (eqb-true c 65 e))
    (cond_either P (eqb c 66) _ _ (λ e. of_return (eqb-true c 66 e))
    (cond_either P (eqb c 69) _ _ (λ e. of_nop (eqb-true c 69 e)) of_effect))))))

-- i with another code
abbrev pub recode : Instr → ℕ → Instr
recode i c = record { id = i.id; code = c; dest = i.dest; lit = i.lit; args = i.args; callee = i.callee; blocks = i.blocks }

-- phi is new each time, over all its arguments
pub phi_form : (t : NameIx → ℕ) (i : Instr) → i.code ≡ 39 → form t i ≡ new i.args
unfolding form one_of two_of with_code code1 code2
phi_form t i e = ap (λ (c : ℕ). form t (recode i c)) e

-- ---- the shapes of the operators
pub one_shape : (o : One) → shape_of (code1 o) ≡ value 1
unfolding shape_of code1
one_shape Not = refl
one_shape Id = refl

pub two_shape : (o : Two) → shape_of (code2 o) ≡ value 2
unfolding shape_of code2
two_shape Add = refl
two_shape Sub = refl
two_shape Mul = refl
two_shape Div = refl
two_shape Eq = refl
two_shape Lt = refl
two_shape Gt = refl
two_shape Le = refl
two_shape Ge = refl
two_shape And = refl
two_shape Or = refl
two_shape PtrAdd = refl

-- ---- tables
-- no row goes beyond m
abbrev pub ends_by : {A : Type 0} → ℕ → List (ℕ × A) → Bool
ends_by m [] = true
ends_by m (r ∷ rs) = leb r.0 m && ends_by m rs

pub row_beyond : {A : Type 0} (d : A) (rs : List (ℕ × A)) (m c : ℕ) → ends_by m rs ≡ true → m < c → row_of d rs c ≡ d
row_beyond d [] m c e h = refl
row_beyond d (r ∷ rs) m c e h =
    let l : leb c r.0 ≡ false = lt-leb c r.0 (omega (arith, leb-true r.0 m (and_left (leb r.0 m) _ e))) in
    rw l (row_beyond d rs m c (and_right (leb r.0 m) _ e) h)

-- a test at each number below n
abbrev pub all_below : ℕ → (ℕ → Bool) → Bool
all_below zero p = true
all_below (suc n) p = p n && all_below n p

pub all_below_at : (n : ℕ) (p : ℕ → Bool) → all_below n p ≡ true → (c : ℕ) → c < n → p c ≡ true
all_below_at zero p e c h = absurd (omega arith)
all_below_at (suc n) p e c h = go (all_below_at n p (and_right (p n) (all_below n p) e) c) (ℕ_discrete c n)
  where
    go : (c < n → p c ≡ true) → Dec (c ≡ n) → p c ≡ true
    go before (yes q) = rw q (and_left (p n) (all_below n p) e)
    go before (no q) = before (omega arith)

-- "the rest are unknown": 71 is the last code
pub known_below : (c : ℕ) → (shape_of c).known ≡ true → c < 72
unfolding shape_of
known_below c e = go (dec_lt c 72)
  where
    go : Dec (c < 72) → c < 72
    go (yes h) = h
    go (no h) =
        let u : row_of unknown shapes c ≡ unknown = row_beyond unknown shapes 71 c refl (omega arith) in
        let f : (row_of unknown shapes c).known ≡ false = ap (λ sh. sh.known) u in
        clash (cc)

-- a test that holds at each known code of the tables holds at every known code
pub at_known : (p : ℕ → Bool) → all_below 72 (λ c. not (shape_of c).known || p c) ≡ true → (c : ℕ) → (shape_of c).known ≡ true → p c ≡ true
at_known p e c k =
    or_second (not (shape_of c).known) (p c) (all_below_at 72 (λ c. not (shape_of c).known || p c) e c (known_below c k)) (ap not k)
