-- A valuation gives numbers values. Expressions over names, and over the numbers of the names, have one value where a store and a
-- valuation agree. Rests on the definitions alone.
use Prim.Native.Nat.{ℕ}
use mathlib.Core.Path.{◌≡◌, refl, sym, ap, ◌∙◌}
use mathlib.Core.Logic.{◌≢◌}
use mathlib.Core.List.{List, [], ◌∷◌}
use mathlib.Core.Option.{Option, none, some, none-ne-some, some-injective}
use Rattle.arith.proofs.Clash.{clash}
use Rattle.arith.specs.declared.One.TheVariants.{Id}
use Rattle.arith.specs.Value.{Val, HasType}
use Rattle.arith.specs.Operation.{Cause, Result, ok, stops, unset, with_one, with_both, apply1, apply2, Expr, constant, one, two, eval}
use Rattle.record.specs.declared.NameIx.{NameIx}
use Rattle.numbering.specs.declared.ValNum.{ValNum}
use Rattle.numbering.specs.Number.{operands}
use Rattle.machine.specs.Machine.{Store, read_cons, read_all}
use Rattle.pairing.specs.Joint.{Has, by_id, by_value, map₁, map₂, number, number_all, Fits, Elem, first, later}
use Rattle.pairing.specs.Demand.{All}

abbrev pub Valuation : Type 0
Valuation = ValNum → Option Val

-- ---- results are told apart
pub ok_not_unset : {r : Result} {v : Val} → r ≡ ok v → r ≢ unset
ok_not_unset p q = clash (cc)

pub ok_not_stops : {r : Result} {v : Val} {c : Cause} → r ≡ ok v → r ≢ stops c
ok_not_stops p q = clash (cc)

pub stops_not_unset : {r : Result} {c : Cause} → r ≡ stops c → r ≢ unset
stops_not_unset p q = clash (cc)

-- ---- a larger valuation
abbrev pub Grows : Valuation → Valuation → Type 0
Grows ρ ρ' = (n : ValNum) (v : Val) → ρ n ≡ some v → ρ' n ≡ some v

pub eval_grows : (ρ ρ' : Valuation) → Grows ρ ρ' → (e : Expr ValNum) (v : Val) → eval ρ e ≡ ok v → eval ρ' e ≡ ok v
unfolding eval with_one with_both
eval_grows ρ ρ' g (constant c) v p = p
eval_grows ρ ρ' g (one o a) v p = go (ρ a) refl p
  where
    go : (x : Option Val) → ρ a ≡ x → with_one x (apply1 o) ≡ ok v → with_one (ρ' a) (apply1 o) ≡ ok v
    go none e q = absurd (ok_not_unset q refl)
    go (some x) e q = rw (g a x e) q
eval_grows ρ ρ' g (two o a b) v p = go (ρ a) (ρ b) refl refl p
  where
    go :
        (x y : Option Val) → ρ a ≡ x → ρ b ≡ y → with_both x y (apply2 o) ≡ ok v → with_both (ρ' a) (ρ' b) (apply2 o) ≡ ok v
    go none y e f q = absurd (ok_not_unset q refl)
    go (some x) none e f q = absurd (ok_not_unset q refl)
    go (some x) (some y) e f q = rw (g a x e, g b y f) q

-- ---- located names: where a name has a number, the store holds the value of the number, of the type of the name
pub record Located (t : ℕ) (o r : Option Val) : Type 0 where
  pub value : Val
  pub stored : o ≡ some value
  pub valued : r ≡ some value
  pub typed : HasType t value

abbrev pub Locates : (NameIx → ℕ) → (NameIx → Option ValNum) → Store → Valuation → Type 0
Locates t env σ ρ = (x : NameIx) (n : ValNum) → env x ≡ some n → Located (t x) (σ x) (ρ n)

pub locates_grows :
    (t : NameIx → ℕ) (env : NameIx → Option ValNum) (σ : Store) (ρ ρ' : Valuation) →
    Grows ρ ρ' →
    Locates t env σ ρ →
    Locates t env σ ρ'
locates_grows t env σ ρ ρ' g l x n p =
    let c = l x n p in
    record { value = c.value; stored = c.stored; valued = g n c.value c.valued; typed = c.typed }

-- ---- expressions with the numbers of the names put in
map₁_some :
    {A B : Type 0} (f : A → B) (o : Option A) (v : B) → map₁ f o ≡ some v → (n : A) × (o ≡ some n) × (v ≡ f n)
map₁_some f none v p = absurd (none-ne-some v p)
map₁_some f (some n) v p = (n, refl, sym (some-injective (f n) v p))

map₂_some :
    {A B C : Type 0} (f : A → B → C) (o : Option A) (u : Option B) (v : C) →
    map₂ f o u ≡ some v →
    (n : A) × (m : B) × (o ≡ some n) × (u ≡ some m) × (v ≡ f n m)
map₂_some f none u v p = absurd (none-ne-some v p)
map₂_some f (some n) none v p = absurd (none-ne-some v p)
map₂_some f (some n) (some m) v p = (n, m, refl, refl, sym (some-injective (f n m) v p))

-- a numbered expression means the same
pub number_eval :
    (t : NameIx → ℕ) (env : NameIx → Option ValNum) (σ : Store) (ρ : Valuation) →
    Locates t env σ ρ →
    (e : Expr NameIx) (v : Expr ValNum) →
    number env e ≡ some v →
    eval σ e ≡ eval ρ v
unfolding number eval
number_eval t env σ ρ l (constant c) v p = rw (← some-injective (constant c) v p)
number_eval t env σ ρ l (one o a) v p =
    let (n, q, r) = map₁_some (one o) (env a) v p in
    let c = l a n q in
    rw (r, c.stored, c.valued)
number_eval t env σ ρ l (two o a b) v p =
    let (n, m, q, s, r) = map₂_some (two o) (env a) (env b) v p in
    let c = l a n q in
    let d = l b m s in
    rw (r, c.stored, c.valued, d.stored, d.valued)

-- what holds of all names of a list holds of each
pub all_elem : (P : NameIx → Type 0) (xs : List NameIx) → All P xs → (x : NameIx) → Elem x xs → P x
all_elem P xs h x e = here x xs e h
  where
    here : (y : NameIx) (ys : List NameIx) → Elem y ys → All P ys → P y
    here y ys (first {xs = zs}) g = g.0
    here y ys (later {xs = zs} k) g = here y zs k g.1

-- which name of one, or of two, is meant
pub elem_one : {P : Type 0} {x a : NameIx} → Elem x (a ∷ []) → (a ≡ x → P) → P
elem_one first f = f refl
elem_one (later h) f = elim h [ ]

pub elem_two : {P : Type 0} {x a b : NameIx} → Elem x (a ∷ b ∷ []) → (a ≡ x → P) → (b ≡ x → P) → P
elem_two first f g = f refl
elem_two (later h) f g = elem_one h g

-- each name in it has a number
pub number_operand :
    (env : NameIx → Option ValNum) (e : Expr NameIx) (v : Expr ValNum) →
    number env e ≡ some v →
    (x : NameIx) →
    Elem x (operands e) →
    (n : ValNum) × (env x ≡ some n)
unfolding number
number_operand env (constant c) v p x h = elim h [ ]
number_operand env (one o a) v p x h =
    let (n, q, r) = map₁_some (one o) (env a) v p in
    elem_one h (λ s. (n, ap env (sym s) ∙ q))
number_operand env (two o a b) v p x h =
    let (n, m, q, s, r) = map₂_some (two o) (env a) (env b) v p in
    elem_two h (λ u. (n, ap env (sym u) ∙ q)) (λ u. (m, ap env (sym u) ∙ s))

-- what is numbered as a copy of a number copies a name that has it
pub number_copy :
    (env : NameIx → Option ValNum) (e : Expr NameIx) (n : ValNum) →
    number env e ≡ some (one Id n) →
    (x : NameIx) × (env x ≡ some n)
unfolding number
number_copy env (constant c) n p = clash (cc)
number_copy env (one o a) n p =
    let (m, q, r) = map₁_some (one o) (env a) (one Id n) p in
    (a, q ∙ cc)
number_copy env (two o a b) n p =
    let (m, k, q, s, r) = map₂_some (two o) (env a) (env b) (one Id n) p in
    clash (cc)

-- ---- lists of names
unfoldable pub values : Valuation → List ValNum → Option (List Val)
values ρ [] = some []
values ρ (n ∷ ns) = read_cons (ρ n) (values ρ ns)

pub number_read :
    (t : NameIx → ℕ) (env : NameIx → Option ValNum) (σ : Store) (ρ : Valuation) →
    Locates t env σ ρ →
    (xs : List NameIx) (ns : List ValNum) →
    number_all env xs ≡ some ns →
    read_all σ xs ≡ values ρ ns
unfolding number_all read_all values
number_read t env σ ρ l [] ns p = rw (← some-injective [] ns p)
number_read t env σ ρ l (x ∷ xs) ns p =
    let (n, ms, q, s, r) = map₂_some ◌∷◌ (env x) (number_all env xs) ns p in
    let c = l x n q in
    rw (r, number_read t env σ ρ l xs ms s, c.stored, c.valued)

-- ---- the number of a value expression
-- it has the value of the expression
pub has_value :
    (ρ : Valuation) (vals : ValNum → Option (Expr ValNum)) →
    Fits ρ vals →
    (e : Expr ValNum) (n : ValNum) →
    Has vals e n →
    eval ρ e ≢ unset →
    (v : Val) × (eval ρ e ≡ ok v) × (ρ n ≡ some v)
unfolding eval with_one apply1
has_value ρ vals f e n (by_id {v = m}) h = go (ρ m) refl h
  where
    go :
        (o : Option Val) → ρ m ≡ o → with_one o (apply1 Id) ≢ unset → (v : Val) × (with_one (ρ m) (apply1 Id) ≡ ok v) × (ρ m ≡ some v)
    go none q g = absurd (g refl)
    go (some v) q g = (v, rw q, q)
has_value ρ vals f e n (by_value p) h = f n e p

-- and the expression has the value of the number
pub has_eval :
    (ρ : Valuation) (vals : ValNum → Option (Expr ValNum)) →
    Fits ρ vals →
    (e : Expr ValNum) (n : ValNum) →
    Has vals e n →
    (v : Val) →
    ρ n ≡ some v →
    eval ρ e ≡ ok v
unfolding eval with_one apply1
has_eval ρ vals f e n by_id v q = rw q
has_eval ρ vals f e n (by_value p) v q =
    let (x, r, s) = f n e p in
    r ∙ ap ok (some-injective x v (sym s ∙ q))
