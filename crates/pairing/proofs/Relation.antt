-- What the joint numbering says of the stores of two runs, and how each of its moves keeps that. Rests on the laws of the update of a
-- function and on those of valuations.
use Prim.Native.Nat.{ℕ, suc, ◌≤◌, ◌<◌}
use mathlib.Core.Path.{◌≡◌, refl, sym, ap, ◌∙◌, subst}
use mathlib.Core.Logic.{◌≢◌}
use mathlib.Core.Bool.{Bool, true, false, cond}
use mathlib.Core.Option.{Option, none, some, none-ne-some, some-injective}
use native.Mathlib.Omega.{arith}
use lib.Ieee.Fits.{and_r}
use lib.Dec.{T, eqb, ltb}
use borrow.Author.Tests.{ltb-true, lt-ltb, le-ltb}
use Rattle.arith.specs.Map.{upd}
use Rattle.arith.proofs.Map.{upd_same, upd_other, upd_alike, upd_ind}
use Rattle.arith.specs.Value.{Val, type_of, in_range, HasType}
use Rattle.arith.specs.Operation.{ok, Expr, eval}
use Rattle.record.specs.declared.NameIx.{NameIx}
use Rattle.record.specs.Record.{nm, NameIx-discrete}
use Rattle.numbering.specs.declared.ValNum.{ValNum}
use Rattle.numbering.specs.State.{vn, ValNum-discrete, start_env}
use Rattle.machine.specs.Machine.{Store}
use Rattle.pairing.specs.Joint.{Setting, Joint, push, set_both, set_second, fresh, Numbers, old, fresh_value, Fits, InRange, start_joint}
use Rattle.pairing.proofs.Stores.{assign_typed}
use Rattle.pairing.proofs.Valuation.{Valuation, ok_not_unset, Grows, eval_grows, Located, Locates, locates_grows, has_value}

-- ---- the relations
-- two stores that a run may start from: all that is kept from block to block
pub record StartsIn (Γ : Setting) (σ₁ σ₂ : Store) : Type 0 where
  pub typed : (x : NameIx) → x.0 < Γ.names → (v : Val) → σ₁ x ≡ some v → HasType (Γ.ctx.types x) v
  pub set : (x : NameIx) → x.0 < Γ.args → (v : Val) × (σ₁ x ≡ some v)
  pub same : (x : NameIx) → x.0 < Γ.names → σ₂ x ≡ σ₁ x

-- within a block: ρ gives values to numbers that the joint numbering has given, and fits both stores
pub record Related (Γ : Setting) (j : Joint) (ρ : Valuation) (σ₁ σ₂ : Store) : Type 0 where
  pub unused : (n : ValNum) → j.next ≤ n.0 → ρ n ≡ none
  pub ranged : InRange ρ
  pub fits : Fits ρ j.vals
  pub first : Locates Γ.ctx.types j.env₁ σ₁ ρ
  pub second : Locates Γ.ctx.types j.env₂ σ₂ ρ
  pub base : StartsIn Γ σ₁ σ₂

pub typed_ranged : (t : ℕ) (v : Val) → HasType t v → T (in_range v)
typed_ranged t v h = and_r (eqb (type_of v) t) (in_range v) h

-- the number n has the value v, under a valuation that knows more
pub record Valued (Γ : Setting) (j : Joint) (ρ : Valuation) (σ₁ σ₂ : Store) (n : ValNum) (v : Val) : Type 0 where
  pub ρ' : Valuation
  pub grows : Grows ρ ρ'
  pub related : Related Γ j ρ' σ₁ σ₂
  pub valued : ρ' n ≡ some v

-- ---- a number more
other_number : (n : ValNum) (k : ℕ) → suc k ≤ n.0 → n ≢ vn k
other_number n k h p =
    let q : n.0 ≡ k = ap (λ (m : ValNum). m.0) p in
    omega arith

upd_grows : (ρ : Valuation) (k : ValNum) (v : Val) → ρ k ≡ none → Grows ρ (upd ValNum-discrete ρ k (some v))
upd_grows ρ k v h n x p =
    upd_ind ValNum-discrete ρ k (some v) n (λ o. o ≡ some x) (λ q. absurd (none-ne-some x (sym h ∙ ap ρ (sym q) ∙ p))) (λ q. p)

module _ (Γ : Setting) (j : Joint) (ρ : Valuation) (σ₁ σ₂ : Store) (R : Related Γ j ρ σ₁ σ₂) where
  -- the next number takes the value v
  abbrev with_next : Val → Valuation
  with_next v = upd ValNum-discrete ρ (vn j.next) (some v)

  next_unused : ρ (vn j.next) ≡ none
  next_unused = R.unused (vn j.next) (omega arith)

  next_grows : (v : Val) → Grows ρ (with_next v)
  next_grows v = upd_grows ρ (vn j.next) v next_unused

  next_valued : (v : Val) → with_next v (vn j.next) ≡ some v
  next_valued v = upd_same ValNum-discrete ρ (vn j.next) (some v) (vn j.next) refl

  -- with its value expression, if it has one
  push_related :
      (v : Val) (e : Option (Expr ValNum)) →
      T (in_range v) →
      ((w : Expr ValNum) → e ≡ some w → eval ρ w ≡ ok v) →
      Related Γ (push j e) (with_next v) σ₁ σ₂
  push_related v e h f =
      record {
        unused = λ n l. upd_other ValNum-discrete ρ (vn j.next) (some v) n (other_number n j.next l) ∙ R.unused n (omega arith);
        ranged =
            λ n x.
            upd_ind ValNum-discrete ρ (vn j.next) (some v) n (λ o. o ≡ some x → T (in_range x))
            (λ q p. subst (λ (y : Val). T (in_range y)) (some-injective v x p) h)
            (λ q p. R.ranged n x p);
        fits =
            λ n w.
            upd_ind ValNum-discrete j.vals (vn j.next) e n
            (λ o. o ≡ some w → (x : Val) × (eval (with_next v) w ≡ ok x) × (with_next v n ≡ some x))
            (λ q p. (v, eval_grows ρ (with_next v) (next_grows v) w v (f w p), ap (with_next v) q ∙ next_valued v))
            (λ q p.
            let (x, r, s) = R.fits n w p in
            (x, eval_grows ρ (with_next v) (next_grows v) w x r, next_grows v n x s));
        first = locates_grows Γ.ctx.types j.env₁ σ₁ ρ (with_next v) (next_grows v) R.first;
        second = locates_grows Γ.ctx.types j.env₂ σ₂ ρ (with_next v) (next_grows v) R.second;
        base = R.base;
      }

  pub push_valued :
      (v : Val) (e : Option (Expr ValNum)) →
      T (in_range v) →
      ((w : Expr ValNum) → e ≡ some w → eval ρ w ≡ ok v) →
      Valued Γ (push j e) ρ σ₁ σ₂ (vn j.next) v
  push_valued v e h f =
      record { ρ' = with_next v; grows = next_grows v; related = push_related v e h f; valued = next_valued v }

  -- a value that is new each time takes the next number
  pub new_valued : (v : Val) → T (in_range v) → Valued Γ (push j none) ρ σ₁ σ₂ (vn j.next) v
  new_valued v h = push_valued v none h (λ w p. absurd (none-ne-some w p))

-- ---- a value expression is numbered
pub numbers_valued :
    (Γ : Setting) (j j' : Joint) (ρ : Valuation) (σ₁ σ₂ : Store) (w : Expr ValNum) (n : ValNum) (v : Val) →
    Numbers j w n j' →
    eval ρ w ≡ ok v →
    T (in_range v) →
    Related Γ j ρ σ₁ σ₂ →
    Valued Γ j' ρ σ₁ σ₂ n v
numbers_valued Γ j j' ρ σ₁ σ₂ w n v numbered p r R = by w n j' numbered p
  where
    same : (k : ValNum) (x : Val) → ok x ≡ ok v → ρ k ≡ some x → ρ k ≡ some v
    same k x e f = cc

    by : (u : Expr ValNum) (k : ValNum) (i : Joint) → Numbers j u k i → eval ρ u ≡ ok v → Valued Γ i ρ σ₁ σ₂ k v
    by u k i (old h) q =
        let (x, e, s) = has_value ρ j.vals R.fits u k h (ok_not_unset q) in
        record { ρ' = ρ; grows = λ m y g. g; related = R; valued = same k x (sym e ∙ q) s }
    by u k i fresh_value q =
        push_valued Γ j ρ σ₁ σ₂ R v (some u) r
        (λ z e. subst (λ (y : Expr ValNum). eval ρ y ≡ ok v) (some-injective u z e) q)

-- ---- a name takes a number
-- d takes the number n, whose value the store σ' holds there; elsewhere it is σ
locates_at :
    (t : NameIx → ℕ) (env : NameIx → Option ValNum) (σ σ' : Store) (ρ : Valuation) (d : NameIx) (n : ValNum) (v : Val) →
    ρ n ≡ some v →
    HasType (t d) v →
    σ' d ≡ some v →
    ((x : NameIx) → x ≢ d → σ' x ≡ σ x) →
    Locates t env σ ρ →
    Locates t (upd NameIx-discrete env d (some n)) σ' ρ
locates_at t env σ σ' ρ d n v p h q o l x m =
    upd_ind NameIx-discrete env d (some n) x (λ z. z ≡ some m → Located (t x) (σ' x) (ρ m)) here there
  where
    here : x ≡ d → some n ≡ some m → Located (t x) (σ' x) (ρ m)
    here e f =
        record {
          value = v;
          stored = ap σ' e ∙ q;
          valued = ap ρ (sym (some-injective n m f)) ∙ p;
          typed = subst (λ (z : NameIx). HasType (t z) v) (sym e) h;
        }

    there : x ≢ d → env x ≡ some m → Located (t x) (σ' x) (ρ m)
    there e f =
        let c = l x m f in
        record { value = c.value; stored = o x e ∙ c.stored; valued = c.valued; typed = c.typed }

-- the store with v in d
abbrev pub store : Store → NameIx → Val → Store
store σ d v = upd NameIx-discrete σ d (some v)

locates_store :
    (t : NameIx → ℕ) (env : NameIx → Option ValNum) (σ : Store) (ρ : Valuation) (d : NameIx) (n : ValNum) (v : Val) →
    ρ n ≡ some v →
    HasType (t d) v →
    Locates t env σ ρ →
    Locates t (upd NameIx-discrete env d (some n)) (store σ d v) ρ
locates_store t env σ ρ d n v p h l =
    locates_at t env σ (store σ d v) ρ d n v p h (upd_same NameIx-discrete σ d (some v) d refl) (upd_other NameIx-discrete σ d (some v)) l

starts_store :
    (Γ : Setting) (σ₁ σ₂ : Store) (d : NameIx) (v : Val) →
    HasType (Γ.ctx.types d) v →
    StartsIn Γ σ₁ σ₂ →
    StartsIn Γ (store σ₁ d v) (store σ₂ d v)
starts_store Γ σ₁ σ₂ d v h s =
    record {
      typed = assign_typed Γ.names Γ.ctx σ₁ d v s.typed h;
      set =
          λ x l.
          upd_ind NameIx-discrete σ₁ d (some v) x (λ o. (w : Val) × (o ≡ some w)) (λ e. (v, refl)) (λ e. s.set x l);
      same = λ x l. upd_alike NameIx-discrete σ₁ σ₂ d (some v) x (s.same x l);
    }

module _ (Γ : Setting) (j : Joint) (ρ : Valuation) (σ₁ σ₂ : Store) (R : Related Γ j ρ σ₁ σ₂) where
  -- both runs write v to d
  pub store_related :
      (d : NameIx) (n : ValNum) (v : Val) →
      ρ n ≡ some v →
      HasType (Γ.ctx.types d) v →
      Related Γ (set_both j d n) ρ (store σ₁ d v) (store σ₂ d v)
  store_related d n v p h =
      record {
        unused = R.unused;
        ranged = R.ranged;
        fits = R.fits;
        first = locates_store Γ.ctx.types j.env₁ σ₁ ρ d n v p h R.first;
        second = locates_store Γ.ctx.types j.env₂ σ₂ ρ d n v p h R.second;
        base = starts_store Γ σ₁ σ₂ d v h R.base;
      }

  -- the second alone writes v to a made name
  pub made_related :
      (d : NameIx) (n : ValNum) (v : Val) →
      Γ.names ≤ d.0 →
      ρ n ≡ some v →
      HasType (Γ.ctx.types d) v →
      Related Γ (set_second j d n) ρ σ₁ (store σ₂ d v)
  made_related d n v l p h =
      record {
        unused = R.unused;
        ranged = R.ranged;
        fits = R.fits;
        first = R.first;
        second = locates_store Γ.ctx.types j.env₂ σ₂ ρ d n v p h R.second;
        base =
            record {
              typed = R.base.typed;
              set = R.base.set;
              same = λ x g. upd_other NameIx-discrete σ₂ d (some v) x (original x g) ∙ R.base.same x g;
            };
      }
    where
      original : (x : NameIx) → x.0 < Γ.names → x ≢ d
      original x g q =
          let e : x.0 ≡ d.0 = ap (λ (y : NameIx). y.0) q in
          omega arith

  -- an original name that holds a value is seen
  pub seen_valued : (x : NameIx) (v : Val) → x.0 < Γ.names → σ₁ x ≡ some v → Valued Γ (fresh j x) ρ σ₁ σ₂ (vn j.next) v
  seen_valued x v l p =
      let h : HasType (Γ.ctx.types x) v = R.base.typed x l v p in
      let u = new_valued Γ j ρ σ₁ σ₂ R v (typed_ranged (Γ.ctx.types x) v h) in
      let S = u.related in
      let next = vn j.next in
      record {
        ρ' = u.ρ';
        grows = u.grows;
        related =
            record {
              unused = S.unused;
              ranged = S.ranged;
              fits = S.fits;
              first = locates_at Γ.ctx.types j.env₁ σ₁ σ₁ u.ρ' x next v u.valued h p (λ y e. refl) S.first;
              second =
                  locates_at Γ.ctx.types j.env₂ σ₂ σ₂ u.ρ' x next v u.valued h (R.base.same x l ∙ p) (λ y e. refl) S.second;
              base = R.base;
            };
        valued = u.valued;
      }

-- ---- the start of a block
-- the numbers of the arguments have their values
abbrev pub start_valuation : ℕ → Store → Valuation
start_valuation A σ n = cond (ltb n.0 A) (σ (nm n.0)) none

below_some :
    {B : Type 0} (A k : ℕ) (o : Option B) (v : B) → cond (ltb k A) o none ≡ some v → (k < A) × (o ≡ some v)
below_some A k o v = go (ltb k A) refl
  where
    go : (b : Bool) → ltb k A ≡ b → cond b o none ≡ some v → (k < A) × (o ≡ some v)
    go true t p = (ltb-true k A t, p)
    go false t p = absurd (none-ne-some v p)

start_locates :
    (Γ : Setting) (σ₁ σ₂ σ : Store) →
    Γ.args ≤ Γ.names →
    StartsIn Γ σ₁ σ₂ →
    ((x : NameIx) → x.0 < Γ.names → σ x ≡ σ₁ x) →
    Locates Γ.ctx.types (start_env Γ.args) σ (start_valuation Γ.args σ₁)
start_locates Γ σ₁ σ₂ σ few s f x n p =
    let (l, q) = below_some Γ.args x.0 (some (vn x.0)) n p in
    let k : x.0 < Γ.names = omega (arith, l) in
    let (v, h) = s.set x l in
    record {
      value = v;
      stored = f x k ∙ h;
      valued =
          subst (λ (m : ValNum). start_valuation Γ.args σ₁ m ≡ some v) (some-injective (vn x.0) n q)
          (rw (lt-ltb x.0 Γ.args l) h);
      typed = s.typed x k v h;
    }

pub start_related :
    (Γ : Setting) (σ₁ σ₂ : Store) →
    Γ.args ≤ Γ.names →
    StartsIn Γ σ₁ σ₂ →
    Related Γ (start_joint Γ.args) (start_valuation Γ.args σ₁) σ₁ σ₂
start_related Γ σ₁ σ₂ few s =
    record {
      unused = λ n l. rw (le-ltb n.0 Γ.args l);
      ranged =
          λ n v p.
          let (l, q) = below_some Γ.args n.0 (σ₁ (nm n.0)) v p in
          typed_ranged (Γ.ctx.types (nm n.0)) v (s.typed (nm n.0) (omega (arith, l)) v q);
      fits = λ n e p. absurd (none-ne-some e p);
      first = start_locates Γ σ₁ σ₂ σ₁ few s (λ x l. refl);
      second = start_locates Γ σ₁ σ₂ σ₂ few s s.same;
      base = s;
    }
