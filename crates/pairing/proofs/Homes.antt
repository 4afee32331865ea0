-- The numbering keeps homes: on the rewriting's side the home of each number holds it. The numbers of the names on that side are no part
-- of the numbering's state; they stand beside it. Nothing here looks at a store.
use Prim.Native.Nat.{ℕ, suc, ◌+◌, ◌≤◌, ◌<◌}
use mathlib.Core.Path.{◌≡◌, refl, sym, ap, ◌∙◌, subst}
use mathlib.Core.Logic.{◌≢◌}
use mathlib.Core.Bool.{Bool, true, false, cond}
use mathlib.Core.List.{List, [], ◌∷◌}
use mathlib.Core.Option.{Option, none, some, none-ne-some, some-injective}
use native.Mathlib.Omega.{arith}
use lib.Dec.{T, ltb, ltb→lt}
use borrow.Author.Tests.{lt-ltb}
use Rattle.arith.specs.Map.{upd}
use Rattle.arith.proofs.Map.{upd_same, upd_other, upd_alike, upd_ind}
use Rattle.arith.specs.Value.{Val}
use Rattle.arith.specs.Operation.{Expr, constant}
use Rattle.record.specs.declared.NameIx.{NameIx}
use Rattle.record.specs.Record.{nm, NameIx-discrete}
use Rattle.numbering.specs.declared.ValNum.{ValNum}
use Rattle.numbering.specs.State.{vn, ValNum-discrete, State, start, start_env, new_number, update_env, rehome, see_at, see, gen_new_vals}
use Rattle.pairing.specs.Joint.{Setting, Elem, first, later}
use Rattle.pairing.proofs.SimplifyTypes.{Constant}

-- ---- the invariant
-- a number that is given, and of type t if its value is a constant
abbrev pub TypedNumber : State → ValNum → ℕ → Type 0
TypedNumber s v t = (v.0 < s.next) × ((c : Val) → s.vals v ≡ some (constant c) → Constant t c)

-- env₂: the numbers of the names on the rewriting's side
pub record Housed (Γ : Setting) (s : State) (env₂ : NameIx → Option ValNum) : Type 0 where
  pub homes : (v : ValNum) → v.0 < s.next → env₂ (s.locs v) ≡ some v
  pub bound : (v : ValNum) → v.0 < s.next → (s.locs v).0 < Γ.names + s.temps
  pub agree : (x : NameIx) → x.0 < Γ.names → env₂ x ≡ s.env x
  pub given : (x : NameIx) (v : ValNum) → x.0 < Γ.names → s.env x ≡ some v → TypedNumber s v (Γ.ctx.types x)

-- the number that lives in an original name is its number
pub home_number :
    (Γ : Setting) (s : State) (env₂ : NameIx → Option ValNum) → Housed Γ s env₂ →
    (d : NameIx) → d.0 < Γ.names → (v : ValNum) → v.0 < s.next → s.locs v ≡ d → s.env d ≡ some v
home_number Γ s env₂ g d l v b e = sym (g.agree d l) ∙ ap env₂ (sym e) ∙ g.homes v b

-- ---- steps that keep it
given_before : (v : ValNum) (n : ℕ) → v.0 < suc n → v ≢ vn n → v.0 < n
given_before v n l h = let k : v.0 ≢ n = λ e. h (ap vn e) in omega arith

-- a name in which no number lives takes the next number
pub housed_new :
    (Γ : Setting) (s : State) (env₂ : NameIx → Option ValNum) (d : NameIx) (e : Option (Expr ValNum)) → Housed Γ s env₂ →
    d.0 < Γ.names →
    ((v : ValNum) → v.0 < s.next → s.locs v ≢ d) →
    ((c : Val) → e ≡ some (constant c) → Constant (Γ.ctx.types d) c) →
    Housed Γ (new_number s d e) (upd NameIx-discrete env₂ d (some (vn s.next)))
unfolding new_number
housed_new Γ s env₂ d e g l free typed =
    record {
      homes = λ v b. upd_ind ValNum-discrete s.locs new d v (λ x. upd NameIx-discrete env₂ d (some new) x ≡ some v)
          (λ p. upd_same NameIx-discrete env₂ d (some new) d refl ∙ ap some (sym p))
          (λ h. let u = given_before v s.next b h in
          upd_other NameIx-discrete env₂ d (some new) (s.locs v) (free v u) ∙ g.homes v u);
      bound = λ v b. upd_ind ValNum-discrete s.locs new d v (λ x. x.0 < Γ.names + s.temps)
          (λ p. omega arith)
          (λ h. g.bound v (given_before v s.next b h));
      agree = λ x b. upd_alike NameIx-discrete s.env env₂ d (some new) x (g.agree x b);
      given = λ x v b. upd_ind NameIx-discrete s.env d (some new) x (λ o. o ≡ some v → TypedNumber after v (Γ.ctx.types x))
          (λ p q. subst (λ z. TypedNumber after v (Γ.ctx.types z)) (sym p) (newest v (some-injective new v q)))
          (λ h q. older v (Γ.ctx.types x) (g.given x v b q));
    }
  where
    new : ValNum
    new = vn s.next

    after : State
    after = new_number s d e

    newest : (v : ValNum) → new ≡ v → TypedNumber after v (Γ.ctx.types d)
    newest v p =
        (subst (λ z. z.0 < suc s.next) p (omega arith), λ c q. typed c (sym (upd_same ValNum-discrete s.vals new e v (sym p)) ∙ q))

    older : (v : ValNum) (t : ℕ) → TypedNumber s v t → TypedNumber after v t
    older v t (b, h) = (
      omega arith,
      λ c q. h c (sym (upd_other ValNum-discrete s.vals new e v (λ p. let z : v.0 ≡ s.next = ap (λ w. w.0) p in omega arith)) ∙ q),
    )

-- a name takes a number that is given; no other number lives there
pub housed_set :
    (Γ : Setting) (s : State) (env₂ : NameIx → Option ValNum) (d : NameIx) (n : ValNum) → Housed Γ s env₂ →
    ((v : ValNum) → v.0 < s.next → s.locs v ≡ d → v ≡ n) →
    TypedNumber s n (Γ.ctx.types d) →
    Housed Γ (update_env s d n) (upd NameIx-discrete env₂ d (some n))
unfolding update_env
housed_set Γ s env₂ d n g sole typed =
    record {
      homes = λ v b. upd_ind NameIx-discrete env₂ d (some n) (s.locs v) (λ o. o ≡ some v)
          (λ p. ap some (sym (sole v b p)))
          (λ h. g.homes v b);
      bound = g.bound;
      agree = λ x b. upd_alike NameIx-discrete s.env env₂ d (some n) x (g.agree x b);
      given = λ x v b. upd_ind NameIx-discrete s.env d (some n) x (λ o. o ≡ some v → TypedNumber s v (Γ.ctx.types x))
          (λ p q. subst (λ z. TypedNumber s v (Γ.ctx.types z)) (sym p)
          (subst (λ z. TypedNumber s z (Γ.ctx.types d)) (some-injective n v q) typed))
          (λ h q. g.given x v b q);
    }

-- a number moves to the next made name
pub housed_save :
    (Γ : Setting) (s : State) (env₂ : NameIx → Option ValNum) (n : ValNum) → Housed Γ s env₂ →
    Housed Γ (rehome s n (nm (Γ.names + s.temps))) (upd NameIx-discrete env₂ (nm (Γ.names + s.temps)) (some n))
unfolding rehome
housed_save Γ s env₂ n g =
    record {
      homes = λ v b. upd_ind ValNum-discrete s.locs n made v (λ x. upd NameIx-discrete env₂ made (some n) x ≡ some v)
          (λ p. upd_same NameIx-discrete env₂ made (some n) made refl ∙ ap some (sym p))
          (λ h. upd_other NameIx-discrete env₂ made (some n) (s.locs v) (not_made (s.locs v) (g.bound v b)) ∙ g.homes v b);
      bound = λ v b. upd_ind ValNum-discrete s.locs n made v (λ x. x.0 < Γ.names + suc s.temps)
          (λ p. omega arith)
          (λ h. let u = g.bound v b in omega arith);
      agree = λ x b. upd_other NameIx-discrete env₂ made (some n) x (not_made x (omega arith)) ∙ g.agree x b;
      given = g.given;
    }
  where
    made : NameIx
    made = nm (Γ.names + s.temps)

    not_made : (x : NameIx) → x.0 < Γ.names + s.temps → x ≢ made
    not_made x b p = let z : x.0 ≡ Γ.names + s.temps = ap (λ y. y.0) p in omega arith

-- "Per block, arguments get 0 to A-1 and are their own homes."
pub housed_start : (Γ : Setting) → Γ.args ≤ Γ.names → (k : ℕ) → Housed Γ (start Γ.args k) (start_env Γ.args)
unfolding start
housed_start Γ l k =
    record {
      homes = λ v b. rw (lt-ltb v.0 A b, lt-ltb v.0 A b);
      bound = λ v b. rw (lt-ltb v.0 A b) (omega arith);
      agree = λ x b. refl;
      given = λ x v b p. (argument x v (ltb x.0 A) (ltb→lt x.0 A) p, λ c q. absurd (none-ne-some (constant c) q));
    }
  where
    A : ℕ
    A = Γ.args

    argument : (x : NameIx) (v : ValNum) (c : Bool) → (T c → x.0 < A) → cond c (some (vn x.0)) none ≡ some v → v.0 < A
    argument x v true h p = subst (λ w. w.0 < A) (some-injective (vn x.0) v p) (h tt)
    argument x v false h p = absurd (none-ne-some v p)

-- ---- seeing arguments
-- each of these names has a number
abbrev pub Seen : State → List NameIx → Type 0
Seen s xs = (x : NameIx) → Elem x xs → (n : ValNum) × (s.env x ≡ some n)

seen_kept : (xs : List NameIx) (s : State) (x : NameIx) (n : ValNum) → s.env x ≡ some n → (gen_new_vals s xs).env x ≡ some n
unfolding gen_new_vals see new_number
seen_kept [] s x n p = p
seen_kept (y ∷ ys) s x n p = go (λ s p. seen_kept ys s x n p) (s.env y) refl
  where
    go :
        ((s : State) → s.env x ≡ some n → (gen_new_vals s ys).env x ≡ some n) →
        (o : Option ValNum) → s.env y ≡ o → (gen_new_vals (see_at s y o) ys).env x ≡ some n
    go rec none e =
        rec (new_number s y none)
        (upd_other NameIx-discrete s.env y (some (vn s.next)) x (λ q. none-ne-some n (sym e ∙ ap s.env (sym q) ∙ p)) ∙ p)
    go rec (some m) e = rec s p

pub seen_all : (xs : List NameIx) (s : State) → Seen (gen_new_vals s xs) xs
unfolding gen_new_vals see new_number
seen_all xs s x h = by x xs h s
  where
    go :
        (x : NameIx) (ys : List NameIx) (s : State) (o : Option ValNum) → s.env x ≡ o →
        (n : ValNum) × ((gen_new_vals (see_at s x o) ys).env x ≡ some n)
    go x ys s none e =
        let n : ValNum = vn s.next in
        (n, seen_kept ys (new_number s x none) x n (upd_same NameIx-discrete s.env x (some n) x refl))
    go x ys s (some m) e = (m, seen_kept ys s x m e)

    by : (x : NameIx) (xs : List NameIx) → Elem x xs → (s : State) → (n : ValNum) × ((gen_new_vals s xs).env x ≡ some n)
    by x xs (first {xs = ys}) s = go x ys s (s.env x) refl
    by x xs (later {y = y} {xs = ys} k) s = by x ys k (see s y)
