-- Laws of the operations on values: which divisions stop, what a result that is not unset tells of the operands, and which operators
-- commute.
use Prim.Native.Nat.{ℕ}
use mathlib.Core.Path.{◌≡◌, refl, sym, ap, subst, subst₂}
use mathlib.Core.Logic.{◌≢◌, ◌↔◌}
use mathlib.Core.Bool.{Bool, true, false, cond, and_comm, or_comm}
use mathlib.Core.Option.{Option, none, some}
use lib.Dec.{eqb}
use borrow.Author.Tests.{eqb-true, eqb-false, eq-eqb, ne_eqb}
use Rattle.arith.specs.declared.Two.{Two}
use Rattle.arith.specs.declared.Two.TheVariants.{Add, Mul, Eq, Lt, Gt, Le, Ge, And, Or, PtrAdd}
use Rattle.arith.specs.Value.{Val, int, float, literal, char, bool, pointer}
use Rattle.arith.specs.Word.{div_w}
use Rattle.arith.specs.Operation.{Cause, by_zero, Result, ok, stops, unset, as_int, as_bool, ints, bools, with_one, with_both, divide, shift, apply2}
use Rattle.arith.proofs.Clash.{clash}
use Rattle.arith.proofs.Words.{add_w_comm, mul_w_comm}

-- ---- a division stops by zero, and by nothing else
pub divide_others : (a b : ℕ) → b ≢ 0 → divide a b ≡ ok (int (div_w a b))
unfolding divide
divide_others a b h = rw (ne_eqb b 0 h) refl

pub divide_stops : (a b : ℕ) (c : Cause) → divide a b ≡ stops c ↔ (b ≡ 0)
unfolding divide
divide_stops a b by_zero = (λ e. go (eqb b 0) refl e, λ e. rw (eq-eqb b 0 e) refl)
  where
    go : (t : Bool) → eqb b 0 ≡ t → cond t (stops by_zero) (ok (int (div_w a b))) ≡ stops by_zero → b ≡ 0
    go true e h = eqb-true b 0 e
    go false e h = clash (cc h)

-- P of a division, if it holds of the stop and of the quotient
pub divide_either : (P : Result → Type 0) (a b : ℕ) → P (stops by_zero) → P (ok (int (div_w a b))) → P (divide a b)
unfolding divide
divide_either P a b h k = go (eqb b 0)
  where
    go : (t : Bool) → P (cond t (stops by_zero) (ok (int (div_w a b))))
    go true = h
    go false = k

-- ---- P of an operation, if it holds of unset and of what the operands give
pub with_one_has :
    {A : Type 0} (P : Result → Type 0) (x : Option A) (f : A → Result) → P unset → ((a : A) → x ≡ some a → P (f a)) → P (with_one x f)
unfolding with_one
with_one_has P none f u h = u
with_one_has P (some a) f u h = h a refl

pub with_both_has :
    {A B : Type 0} (P : Result → Type 0) (x : Option A) (y : Option B) (f : A → B → Result) →
    P unset →
    ((a : A) (b : B) → x ≡ some a → y ≡ some b → P (f a b)) →
    P (with_both x y f)
unfolding with_both
with_both_has P none y f u h = u
with_both_has P (some a) none f u h = u
with_both_has P (some a) (some b) f u h = h a b refl refl

-- ---- a result that is not unset: all operands are set
pub with_one_set : {A : Type 0} (x : Option A) (f : A → Result) → with_one x f ≢ unset → (a : A) × (x ≡ some a)
unfolding with_one
with_one_set none f h = absurd (h refl)
with_one_set (some a) f h = (a, refl)

pub with_both_set :
    {A B : Type 0} (x : Option A) (y : Option B) (f : A → B → Result) →
    with_both x y f ≢ unset →
    (a : A) × (b : B) × (x ≡ some a) × (y ≡ some b)
unfolding with_both
with_both_set none y f h = absurd (h refl)
with_both_set (some a) none f h = absurd (h refl)
with_both_set (some a) (some b) f h = (a, b, refl, refl)

-- ---- and of the operator's type: P of two operands holds if it holds of two such
-- what is taken for an int or a bool is one
pub record Taken (v : Val) : Type 0 where
  pub was_int : (w : ℕ) → as_int v ≡ some w → int w ≡ v
  pub was_bool : (c : Bool) → as_bool v ≡ some c → bool c ≡ v

pub taken : (v : Val) → Taken v
unfolding as_int as_bool
taken (int n) = record { was_int = λ w e. cc; was_bool = λ c e. cc }
taken (float n) = record { was_int = λ w e. cc; was_bool = λ c e. cc }
taken (literal n) = record { was_int = λ w e. cc; was_bool = λ c e. cc }
taken (char n) = record { was_int = λ w e. cc; was_bool = λ c e. cc }
taken (bool b) = record { was_int = λ w e. cc; was_bool = λ c e. cc }
taken (pointer t b o) = record { was_int = λ w e. cc; was_bool = λ c e. cc }

pub ints_set :
    (u v : Val) (f : ℕ → ℕ → Result) (P : Val → Val → Type 0) →
    ((m n : ℕ) → P (int m) (int n)) →
    ints u v f ≢ unset →
    P u v
ints_set u v f P g h =
    let (m, n, p, q) = with_both_set (as_int u) (as_int v) f h in
    subst₂ P ((taken u).was_int m p) ((taken v).was_int n q) (g m n)

pub bools_set :
    (u v : Val) (f : Bool → Bool → Result) (P : Val → Val → Type 0) →
    ((b c : Bool) → P (bool b) (bool c)) →
    bools u v f ≢ unset →
    P u v
bools_set u v f P g h =
    let (b, c, p, q) = with_both_set (as_bool u) (as_bool v) f h in
    subst₂ P ((taken u).was_bool b p) ((taken v).was_bool c q) (g b c)

shift_set : (u : Val) (k : ℕ) (P : Val → Type 0) → ((t b o : ℕ) → P (pointer t b o)) → shift u k ≢ unset → P u
unfolding shift
shift_set (int w) k P g h = absurd (h refl)
shift_set (float b) k P g h = absurd (h refl)
shift_set (literal w) k P g h = absurd (h refl)
shift_set (char c) k P g h = absurd (h refl)
shift_set (bool b) k P g h = absurd (h refl)
shift_set (pointer t b o) k P g h = g t b o

pub pointer_set :
    (u v : Val) (P : Val → Val → Type 0) →
    ((t b o k : ℕ) → P (pointer t b o) (int k)) →
    apply2 PtrAdd u v ≢ unset →
    P u v
unfolding apply2 with_one
pointer_set u v P g h =
    let (k, p) = with_one_set (as_int v) (shift u) h in
    subst (P u) ((taken v).was_int k p) (shift_set u k (λ x. P x (int k)) (λ t b o. g t b o k) (λ e. h (rw p e)))

-- ---- operators over exchanged operands
pub with_both_swap :
    {A : Type 0} (x y : Option A) (f g : A → A → Result) →
    ((a b : A) → f a b ≡ g b a) →
    with_both x y f ≡ with_both y x g
unfolding with_both
with_both_swap none none f g h = refl
with_both_swap none (some b) f g h = refl
with_both_swap (some a) none f g h = refl
with_both_swap (some a) (some b) f g h = h a b

-- o of two operands is p of the two exchanged
abbrev pub Swaps : Two → Two → Type 0
Swaps o p = (x y : Val) → apply2 o x y ≡ apply2 p y x

abbrev pub Commutes : Two → Type 0
Commutes o = Swaps o o

pub add_commutes : Commutes Add
unfolding apply2
add_commutes x y = with_both_swap (as_int x) (as_int y) _ _ (λ a b. ap (λ n. ok (int n)) (add_w_comm a b))

pub mul_commutes : Commutes Mul
unfolding apply2
mul_commutes x y = with_both_swap (as_int x) (as_int y) _ _ (λ a b. ap (λ n. ok (int n)) (mul_w_comm a b))

pub eqb_comm : (a b : ℕ) → eqb a b ≡ eqb b a
eqb_comm a b = go (eqb a b) refl
  where
    go : (c : Bool) → eqb a b ≡ c → c ≡ eqb b a
    go true e = sym (eq-eqb b a (sym (eqb-true a b e)))
    go false e = sym (ne_eqb b a (λ p. eqb-false a b e (sym p)))

pub eq_commutes : Commutes Eq
unfolding apply2
eq_commutes x y = with_both_swap (as_int x) (as_int y) _ _ (λ a b. ap (λ c. ok (bool c)) (eqb_comm a b))

pub and_commutes : Commutes And
unfolding apply2
and_commutes x y = with_both_swap (as_bool x) (as_bool y) _ _ (λ a b. ap (λ c. ok (bool c)) (and_comm a b))

pub or_commutes : Commutes Or
unfolding apply2
or_commutes x y = with_both_swap (as_bool x) (as_bool y) _ _ (λ a b. ap (λ c. ok (bool c)) (or_comm a b))

pub less_swaps : Swaps Lt Gt
unfolding apply2
less_swaps x y = with_both_swap (as_int x) (as_int y) _ _ (λ a b. refl)

pub less_equal_swaps : Swaps Le Ge
unfolding apply2
less_equal_swaps x y = with_both_swap (as_int x) (as_int y) _ _ (λ a b. refl)
