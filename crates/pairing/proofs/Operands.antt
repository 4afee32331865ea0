-- An operation whose operands hold values of their types answers unset exactly where one of them holds nothing.
use Prim.Native.Nat.{ℕ, ◌<◌}
use mathlib.Core.Path.{◌≡◌, refl, sym, ap, ◌∙◌, subst}
use mathlib.Core.Bool.{Bool, true, false, ◌&&◌}
use mathlib.Core.List.{List, [], ◌∷◌}
use mathlib.Core.Option.{Option, none, some}
use lib.Dec.{T, eqb, ltb}
use borrow.Author.Tests.{eqb-true}
use Rattle.arith.specs.declared.One.TheVariants.{Not, Id}
use Rattle.arith.specs.declared.Two.{Two}
use Rattle.arith.specs.declared.Two.TheVariants.{Add, Sub, Mul, Div, Eq, Lt, Gt, Le, Ge, And, Or, PtrAdd}
use Rattle.arith.specs.Word.{W}
use Rattle.arith.specs.Value.{tint, tbool, is_pointer, Val, int, float, literal, char, bool, pointer, type_of, in_range, HasType}
use Rattle.arith.specs.Operation.{Result, ok, stops, unset, as_int, as_bool, ints, bools, with_one, with_both, divide, shift, apply1, apply2, Expr, constant, one, two, eval}
use Rattle.arith.proofs.Operation.{divide_either}
use Rattle.record.specs.declared.NameIx.{NameIx}
use Rattle.numbering.specs.Number.{operands}
use Rattle.machine.specs.Machine.{Store, read_cons, read_all}
use Rattle.machine.specs.Reached.{is_set, all_set}
use Rattle.pairing.specs.Joint.{Takes, Typed}
use Rattle.pairing.specs.Demand.{All}
use Rattle.pairing.proofs.Typing.{type_is}

-- a value, or a division that stops
unfoldable pub given : Result → Bool
given (ok v) = true
given (stops c) = true
given unset = false

-- ---- a value of a type is one of that kind
-- a pointer is of no type that is none of a pointer
not_pointer : {P : Type 0} (s t b o : ℕ) → is_pointer s ≡ false → HasType s (pointer t b o) → P
unfolding type_of in_range
not_pointer {P = P} s t b o n h = go (eqb t s) (is_pointer t) refl refl h
  where
    go : (c d : Bool) → eqb t s ≡ c → is_pointer t ≡ d → T (c && (d && (ltb b W && ltb o W))) → P
    go false d e f h = absurd h
    go true false e f h = absurd h
    go true true e f h =
        let z : true ≡ false = sym f ∙ ap is_pointer (eqb-true t s e) ∙ n in absurd (subst T z tt)

int_held : (v : Val) → HasType tint v → (w : ℕ) × (as_int v ≡ some w)
unfolding type_of in_range as_int
int_held (int w) h = (w, refl)
int_held (float b) h = absurd h
int_held (literal w) h = absurd h
int_held (char c) h = absurd h
int_held (bool b) h = absurd h
int_held (pointer t b o) h = not_pointer tint t b o refl h

pub bool_held : (v : Val) → HasType tbool v → (b : Bool) × (as_bool v ≡ some b)
unfolding type_of in_range as_bool
bool_held (int w) h = absurd h
bool_held (float b) h = absurd h
bool_held (literal w) h = absurd h
bool_held (char c) h = absurd h
bool_held (bool b) h = (b, refl)
bool_held (pointer t b o) h = not_pointer tbool t b o refl h

-- ---- the operations on values of their operands' types
shift_given : (s : ℕ) (v : Val) (k : ℕ) → T (is_pointer s) → HasType s v → given (shift v k) ≡ true
unfolding type_of shift given
shift_given s (int w) k p h = absurd (subst (λ n. T (is_pointer n)) (sym (type_is s (int w) h)) p)
shift_given s (float b) k p h = absurd (subst (λ n. T (is_pointer n)) (sym (type_is s (float b) h)) p)
shift_given s (literal w) k p h = absurd (subst (λ n. T (is_pointer n)) (sym (type_is s (literal w) h)) p)
shift_given s (char c) k p h = absurd (subst (λ n. T (is_pointer n)) (sym (type_is s (char c) h)) p)
shift_given s (bool b) k p h = absurd (subst (λ n. T (is_pointer n)) (sym (type_is s (bool b) h)) p)
shift_given s (pointer t b o) k p h = refl

divide_given : (a b : ℕ) → given (divide a b) ≡ true
unfolding given
divide_given a b = divide_either (λ r. given r ≡ true) a b refl refl

-- s and u: the types of the operands
module _ (x y : Val) (s u : ℕ) (h : HasType s x) (k : HasType u y) where
  ints_given : (f : ℕ → ℕ → Result) → s ≡ tint → u ≡ tint → ((a b : ℕ) → given (f a b) ≡ true) → given (ints x y f) ≡ true
  unfolding with_both
  ints_given f p q g =
      let (a, d) = int_held x (subst (λ n. HasType n x) p h) in
      let (b, e) = int_held y (subst (λ n. HasType n y) q k) in
      rw (d, e) (g a b)

  bools_given :
      (f : Bool → Bool → Result) → s ≡ tbool → u ≡ tbool → ((a b : Bool) → given (f a b) ≡ true) → given (bools x y f) ≡ true
  unfolding with_both
  bools_given f p q g =
      let (a, d) = bool_held x (subst (λ n. HasType n x) p h) in
      let (b, e) = bool_held y (subst (λ n. HasType n y) q k) in
      rw (d, e) (g a b)

  apply2_given : (o : Two) (d : ℕ) → Takes o s u d → given (apply2 o x y) ≡ true
  unfolding apply2 given with_one
  apply2_given Add d g = ints_given _ g.0 g.1 (λ a b. refl)
  apply2_given Sub d g = ints_given _ g.0 g.1 (λ a b. refl)
  apply2_given Mul d g = ints_given _ g.0 g.1 (λ a b. refl)
  apply2_given Div d g = ints_given divide g.0 g.1 divide_given
  apply2_given Eq d g = ints_given _ g.0 g.1 (λ a b. refl)
  apply2_given Lt d g = ints_given _ g.0 g.1 (λ a b. refl)
  apply2_given Gt d g = ints_given _ g.0 g.1 (λ a b. refl)
  apply2_given Le d g = ints_given _ g.0 g.1 (λ a b. refl)
  apply2_given Ge d g = ints_given _ g.0 g.1 (λ a b. refl)
  apply2_given And d g = bools_given _ g.0 g.1 (λ a b. refl)
  apply2_given Or d g = bools_given _ g.0 g.1 (λ a b. refl)
  apply2_given PtrAdd d g =
      let (a, e) = int_held y (subst (λ n. HasType n y) g.1 k) in
      rw e (shift_given s x a g.0 h)

-- ---- expressions, and lists of arguments
-- N: how many names there are; t: the type of each
abbrev pub TypedIn : ℕ → (NameIx → ℕ) → Store → Type 0
TypedIn N t σ = (x : NameIx) → x.0 < N → (v : Val) → σ x ≡ some v → HasType (t x) v

module _ (N : ℕ) (t : NameIx → ℕ) (σ : Store) (typed : TypedIn N t σ) where
  not_given : (a : NameIx) → a.0 < N → t a ≡ tbool → (o : Option Val) → σ a ≡ o → (is_set o && true) ≡ given (with_one o (apply1 Not))
  unfolding with_one apply1 given is_set
  not_given a l g none p = refl
  not_given a l g (some v) p =
      let (b, e) = bool_held v (subst (λ n. HasType n v) g (typed a l v p)) in
      rw e refl

  id_given : (o : Option Val) → (is_set o && true) ≡ given (with_one o (apply1 Id))
  unfolding with_one apply1 given is_set
  id_given none = refl
  id_given (some v) = refl

  two_given :
      (o : Two) (a b : NameIx) (d : ℕ) → a.0 < N → b.0 < N → Takes o (t a) (t b) d →
      (p q : Option Val) → σ a ≡ p → σ b ≡ q →
      (is_set p && (is_set q && true)) ≡ given (with_both p q (apply2 o))
  unfolding with_both given is_set
  two_given o a b d l k g none q e f = refl
  two_given o a b d l k g (some x) none e f = refl
  two_given o a b d l k g (some x) (some y) e f =
      sym (apply2_given x y (t a) (t b) (typed a l x e) (typed b k y f) o d g)

  pub eval_given :
      (e : Expr NameIx) (d : ℕ) → Typed t e d → All (λ x. x.0 < N) (operands e) → all_set σ (operands e) ≡ given (eval σ e)
  unfolding eval all_set given
  eval_given (constant v) d g l = refl
  eval_given (one Not a) d g l = not_given a l.0 g.0 (σ a) refl
  eval_given (one Id a) d g l = id_given (σ a)
  eval_given (two o a b) d g l = two_given o a b d l.0 l.1.0 g (σ a) (σ b) refl refl

-- whether there is something
abbrev pub there : {A : Type 0} → Option A → Bool
there none = false
there (some x) = true

pub read_given : (σ : Store) (xs : List NameIx) → all_set σ xs ≡ there (read_all σ xs)
unfolding all_set read_all is_set
read_given σ [] = refl
read_given σ (x ∷ xs) = ap (λ b. is_set (σ x) && b) (read_given σ xs) ∙ go (σ x) (read_all σ xs)
  where
    go : (o : Option Val) (vs : Option (List Val)) → (is_set o && there vs) ≡ there (read_cons o vs)
    go none vs = refl
    go (some v) none = refl
    go (some v) (some vs) = refl
