-- Two operations with one value number give one value, or stop alike. Rests on the relation of the stores.
use Prim.Native.Nat.{ℕ}
use mathlib.Core.Path.{◌≡◌, refl, sym, ap, ◌∙◌, subst}
use mathlib.Core.Logic.{◌≢◌}
use mathlib.Core.Option.{Option, some, none-ne-some, some-injective}
use native.Mathlib.Omega.{arith}
use Rattle.arith.specs.declared.One.TheVariants.{Id}
use Rattle.arith.specs.Map.{upd}
use Rattle.arith.proofs.Map.{upd_same}
use Rattle.arith.specs.Value.{Val, HasType}
use Rattle.arith.specs.Operation.{Cause, Result, ok, stops, unset, Expr, one, eval}
use Rattle.record.specs.declared.NameIx.{NameIx}
use Rattle.numbering.specs.declared.ValNum.{ValNum}
use Rattle.numbering.specs.State.{vn, ValNum-discrete}
use Rattle.numbering.specs.Number.{operands}
use Rattle.machine.specs.Machine.{Store}
use Rattle.pairing.specs.Joint.{Setting, Joint, Has, by_id, by_value, Numbers, old, fresh_value, number, Stands, Typed, Elem}
use Rattle.pairing.proofs.Typing.{eval_typed}
use Rattle.pairing.proofs.Valuation.{Valuation, ok_not_unset, ok_not_stops, stops_not_unset, Locates, locates_grows, number_eval, number_operand, number_copy, has_value, has_eval}
use Rattle.pairing.proofs.Relation.{Related, typed_ranged, Valued, numbers_valued}

-- the names of a numbered expression hold values of their types
operands_typed :
    (t : NameIx → ℕ) (env : NameIx → Option ValNum) (σ : Store) (ρ : Valuation) →
    Locates t env σ ρ →
    (e : Expr NameIx) (w : Expr ValNum) →
    number env e ≡ some w →
    (x : NameIx) (v : Val) →
    σ x ≡ some v →
    Elem x (operands e) →
    HasType (t x) v
operands_typed t env σ ρ l e w p x v q h =
    let (n, r) = number_operand env e w p x h in
    let c = l x n r in
    subst (λ (z : Val). HasType (t x) z) (some-injective c.value v (sym c.stored ∙ q)) c.typed

-- the results of two operations whose value takes the number n, under a destination of type t
pub data Results (Γ : Setting) (j : Joint) (ρ : Valuation) (σ₁ σ₂ : Store) (t : ℕ) (n : ValNum) : Result → Result → Type 0 where
  one_value : {v : Val} → HasType t v → Valued Γ j ρ σ₁ σ₂ n v → Results Γ j ρ σ₁ σ₂ t n (ok v) (ok v)
  one_stop : {c : Cause} → Results Γ j ρ σ₁ σ₂ t n (stops c) (stops c)
  no_value : {r : Result} → Results Γ j ρ σ₁ σ₂ t n unset r

-- what has the number k, if that is given to w: a copy of k, or w
has_next :
    {P : Type 0} (vals : ValNum → Option (Expr ValNum)) (k n : ValNum) (w u : Expr ValNum) →
    n ≡ k →
    (u ≡ one Id n → P) →
    (u ≡ w → P) →
    Has (upd ValNum-discrete vals k (some w)) u n →
    P
has_next vals k n w u e f g by_id = f refl
has_next vals k n w u e f g (by_value p) =
    g (some-injective u w (sym p ∙ upd_same ValNum-discrete vals k (some w) n e))

-- the second division stops with the first, whose number is new: no name has it, so its value expression is the first's
number_stops :
    (Γ : Setting) (j j' : Joint) (ρ : Valuation) (σ₁ σ₂ : Store) (e : Expr NameIx) (w u : Expr ValNum) (n : ValNum) (c : Cause) →
    Related Γ j ρ σ₁ σ₂ →
    Numbers j w n j' →
    eval ρ w ≡ stops c →
    number j.env₂ e ≡ some u →
    Has j'.vals u n →
    eval ρ u ≡ stops c
number_stops Γ j j' ρ σ₁ σ₂ e w u n c R numbered p q k = by w n j' numbered p k
  where
    unnumbered : u ≡ one Id (vn j.next) → ⊥
    unnumbered r =
        let (x, g) = number_copy j.env₂ e (vn j.next) (q ∙ ap some r) in
        let l = R.second x (vn j.next) g in
        none-ne-some l.value (sym (R.unused (vn j.next) (omega arith)) ∙ l.valued)

    by : (z : Expr ValNum) (m : ValNum) (i : Joint) → Numbers j z m i → eval ρ z ≡ stops c → Has i.vals u m → eval ρ u ≡ stops c
    by z m i (old h) f g =
        let (v, r, s) = has_value ρ j.vals R.fits z m h (stops_not_unset f) in
        absurd (ok_not_stops r f)
    by z m i fresh_value f g =
        has_next j.vals (vn j.next) (vn j.next) z u refl (λ r. absurd (unnumbered r)) (λ r. ap (eval ρ) r ∙ f) g

-- the first operation numbers its value as w, with the number n; the second has that number
pub pair_results :
    (Γ : Setting) (j j' : Joint) (ρ : Valuation) (σ₁ σ₂ : Store) (t : ℕ) (e₁ e₂ : Expr NameIx) (v₁ v₂ w : Expr ValNum) (n : ValNum) →
    Typed Γ.ctx.types e₁ t →
    number j.env₁ e₁ ≡ some v₁ →
    Stands j.vals v₁ w →
    Numbers j w n j' →
    number j.env₂ e₂ ≡ some v₂ →
    Has j'.vals v₂ n →
    Related Γ j ρ σ₁ σ₂ →
    Results Γ j' ρ σ₁ σ₂ t n (eval σ₁ e₁) (eval σ₂ e₂)
pair_results Γ j j' ρ σ₁ σ₂ t e₁ e₂ v₁ v₂ w n ty p₁ st nb p₂ hs R = go (eval σ₁ e₁) refl
  where
    same₁ : eval σ₁ e₁ ≡ eval ρ v₁
    same₁ = number_eval Γ.ctx.types j.env₁ σ₁ ρ R.first e₁ v₁ p₁

    stands : (r : Result) → eval σ₁ e₁ ≡ r → r ≢ unset → eval ρ w ≡ r
    stands r q h = st ρ R.fits R.ranged (λ z. h (sym q ∙ same₁ ∙ z)) ∙ sym same₁ ∙ q

    typed : (v : Val) → eval σ₁ e₁ ≡ ok v → HasType t v
    typed v q =
        eval_typed Γ.ctx.types σ₁ e₁ t ty (operands_typed Γ.ctx.types j.env₁ σ₁ ρ R.first e₁ v₁ p₁) v q

    valued : (v : Val) → eval σ₁ e₁ ≡ ok v → Valued Γ j' ρ σ₁ σ₂ n v
    valued v q =
        numbers_valued Γ j j' ρ σ₁ σ₂ w n v nb (stands (ok v) q (ok_not_unset refl)) (typed_ranged t v (typed v q)) R

    same₂ : (v : Val) → Valued Γ j' ρ σ₁ σ₂ n v → eval σ₂ e₂ ≡ ok v
    same₂ v u =
        let l = locates_grows Γ.ctx.types j.env₂ σ₂ ρ u.ρ' u.grows R.second in
        number_eval Γ.ctx.types j.env₂ σ₂ u.ρ' l e₂ v₂ p₂ ∙
        has_eval u.ρ' j'.vals u.related.fits v₂ n hs v u.valued

    stops₂ : (c : Cause) → eval σ₁ e₁ ≡ stops c → eval σ₂ e₂ ≡ stops c
    stops₂ c q =
        number_eval Γ.ctx.types j.env₂ σ₂ ρ R.second e₂ v₂ p₂ ∙
        number_stops Γ j j' ρ σ₁ σ₂ e₂ w v₂ n c R nb (stands (stops c) q (stops_not_unset refl)) p₂ hs

    go : (r : Result) → eval σ₁ e₁ ≡ r → Results Γ j' ρ σ₁ σ₂ t n r (eval σ₂ e₂)
    go (ok v) q = rw (same₂ v (valued v q)) (one_value (typed v q) (valued v q))
    go (stops c) q = rw (stops₂ c q) one_stop
    go unset q = no_value
