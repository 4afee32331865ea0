-- The numbers of operands and of values: what the numbering finds for the names that it has seen, for their homes, and for a value
-- expression that is there. Rests on the invariant of the homes.
use Prim.Native.Nat.{ℕ, zero, suc, ◌+◌, ◌<◌}
use mathlib.Core.Path.{◌≡◌, refl, sym, ap, ◌∙◌, subst}
use mathlib.Core.Bool.{true, false, cond}
use mathlib.Core.List.{List, [], ◌∷◌, map}
use mathlib.Core.Option.{Option, none, some, none-ne-some, some-injective}
use native.Mathlib.Omega.{arith}
use Rattle.arith.specs.declared.One.{One}
use Rattle.arith.specs.declared.One.TheVariants.{Not, Id}
use Rattle.arith.specs.declared.Two.{Two}
use Rattle.arith.specs.Map.{pick}
use Rattle.arith.specs.Equal.{Expr-discrete}
use Rattle.arith.specs.Operation.{Expr, constant, one, two}
use Rattle.record.specs.declared.NameIx.{NameIx}
use Rattle.numbering.specs.declared.ValNum.{ValNum}
use Rattle.numbering.specs.State.{vn, ValNum-discrete, State, number_of, home_of, known}
use Rattle.numbering.specs.Number.{operands, same_expr, find, get_val_num}
use Rattle.pairing.specs.Joint.{Setting, Has, by_id, by_value, number, number_all, Typed, Elem, first, later}
use Rattle.pairing.specs.Demand.{All}
use Rattle.pairing.proofs.Valuation.{all_elem}
use Rattle.pairing.proofs.Simplify.{known_expr_is}
use Rattle.pairing.proofs.SimplifyTypes.{TypedBy, KnownBy}
use Rattle.pairing.proofs.Homes.{TypedNumber, Housed, Seen}
use Rattle.pairing.proofs.Written.{over}

-- ---- operands
-- each of these names has a number that is given
abbrev pub Given : Setting → State → List NameIx → Type 0
Given Γ s xs = (x : NameIx) → Elem x xs → (n : ValNum) × (s.env x ≡ some n) × TypedNumber s n (Γ.ctx.types x)

pub seen_given :
    (Γ : Setting) (s : State) (env₂ : NameIx → Option ValNum) (xs : List NameIx) →
    Housed Γ s env₂ → All (λ x. x.0 < Γ.names) xs → Seen s xs → Given Γ s xs
seen_given Γ s env₂ xs g low seen x e =
    let (n, p) = seen x e in (n, p, g.given x n (all_elem (λ x. x.0 < Γ.names) xs low x e) p)

pub number_is : (s : State) (x : NameIx) (n : ValNum) → s.env x ≡ some n → number_of s x ≡ n
unfolding number_of
number_is s x n p = rw p

pub number_seen :
    (Γ : Setting) (s : State) (e : Expr NameIx) → Given Γ s (operands e) → number s.env e ≡ some (over (number_of s) e)
unfolding number number_of
number_seen Γ s (constant v) g = refl
number_seen Γ s (one o a) g = rw (g a first).1
number_seen Γ s (two o a b) g = rw ((g a first).1, (g b (later first)).1)

pub number_all_seen : (Γ : Setting) (s : State) (xs : List NameIx) → Given Γ s xs → number_all s.env xs ≡ some (map (number_of s) xs)
unfolding number_all number_of
number_all_seen Γ s [] g = refl
number_all_seen Γ s (x ∷ xs) g = rw (number_all_seen Γ s xs (λ y h. g y (later h)), (g x first).1)

-- the numbers of the operands have the operands' types
pub typed_one :
    (Γ : Setting) (s : State) (o : One) (a : NameIx) (d : ℕ) → Given Γ s (a ∷ []) → Typed Γ.ctx.types (one o a) d →
    TypedBy (TypedNumber s) (one o (number_of s a)) d
typed_one Γ s Not a d g h =
    let (n, p, t) = g a first in
    rw (number_is s a n p) (subst (TypedNumber s n) h.0 t, h.1)
typed_one Γ s Id a d g h = let (n, p, t) = g a first in rw (number_is s a n p) (subst (TypedNumber s n) (sym h) t)

pub typed_two :
    (Γ : Setting) (s : State) (o : Two) (a b : NameIx) (d : ℕ) → Given Γ s (a ∷ b ∷ []) → Typed Γ.ctx.types (two o a b) d →
    TypedBy (TypedNumber s) (two o (number_of s a) (number_of s b)) d
typed_two Γ s o a b d g h =
    let (n, p, t) = g a first in
    let (m, q, u) = g b (later first) in
    (Γ.ctx.types a, Γ.ctx.types b, rw (number_is s a n p) t, rw (number_is s b m q) u, h)

-- ---- homes
pub number_homes :
    (s : State) (env₂ : NameIx → Option ValNum) → ((v : ValNum) → v.0 < s.next → env₂ (s.locs v) ≡ some v) →
    (e : Expr ValNum) (d : ℕ) → TypedBy (TypedNumber s) e d → number env₂ (over s.locs e) ≡ some e
unfolding number
number_homes s env₂ h (constant v) d t = refl
number_homes s env₂ h (one Not a) d t = rw (h a t.0.0)
number_homes s env₂ h (one Id a) d t = rw (h a t.0)
number_homes s env₂ h (two o a b) d t = rw (h a t.2.0, h b t.3.0)

pub home_number_of :
    (Γ : Setting) (s : State) (env₂ : NameIx → Option ValNum) → ((v : ValNum) → v.0 < s.next → env₂ (s.locs v) ≡ some v) →
    (xs : List NameIx) → Given Γ s xs → (x : NameIx) → Elem x xs → env₂ (home_of s x) ≡ some (number_of s x)
unfolding home_of
home_number_of Γ s env₂ h xs g x e =
    let (n, p, t) = g x e in
    h (number_of s x) (rw (number_is s x n p) t.0)

pub number_all_homes :
    (Γ : Setting) (s : State) (env₂ : NameIx → Option ValNum) → ((v : ValNum) → v.0 < s.next → env₂ (s.locs v) ≡ some v) →
    (xs : List NameIx) → Given Γ s xs → number_all env₂ (map (home_of s) xs) ≡ some (map (number_of s) xs)
unfolding number_all
number_all_homes Γ s env₂ h [] g = refl
number_all_homes Γ s env₂ h (x ∷ xs) g =
    rw (number_all_homes Γ s env₂ h xs (λ y e. g y (later e)), home_number_of Γ s env₂ h (x ∷ xs) g x first)

-- ---- the number of a value
pub known_typed : (s : State) → KnownBy (TypedNumber s) (known s)
unfolding known
known_typed s v t c h e = h.1 c (known_expr_is (s.vals v) c e)

find_has :
    (vals : ValNum → Option (Expr ValNum)) (e : Expr ValNum) (i n : ℕ) (v : ValNum) → find vals e i n ≡ some v →
    (vals v ≡ some e) × (v.0 < i + n)
unfolding find
find_has vals e i zero v p = absurd (none-ne-some v p)
find_has vals e i (suc n) v p = go (vals (vn i)) refl (find_has vals e (suc i) n v) p
  where
    go :
        (o : Option (Expr ValNum)) → vals (vn i) ≡ o →
        (find vals e (suc i) n ≡ some v → (vals v ≡ some e) × (v.0 < suc i + n)) →
        cond (same_expr o (some e)) (some (vn i)) (find vals e (suc i) n) ≡ some v →
        (vals v ≡ some e) × (v.0 < i + suc n)
    go none q rec p = let (r, l) = rec p in (r, omega arith)
    go (some f) q rec p = by (Expr-discrete ValNum-discrete f e) p
      where
        by :
            (d : Dec (f ≡ e)) →
            cond (pick d true false) (some (vn i)) (find vals e (suc i) n) ≡ some v →
            (vals v ≡ some e) × (v.0 < i + suc n)
        by (yes r) p =
            let u : vn i ≡ v = some-injective (vn i) v p in
            (subst (λ w. vals w ≡ some e) u (q ∙ ap some r), subst (λ w. w.0 < i + suc n) u (omega arith))
        by (no h) p = let (r, l) = rec p in (r, omega arith)

found_value :
    (s : State) (e : Expr ValNum) (d : ℕ) (v : ValNum) → TypedBy (TypedNumber s) e d → (s.vals v ≡ some e) × (v.0 < 0 + s.next) →
    Has s.vals e v × TypedNumber s v d
found_value s e d v t (p, l) = (
  by_value p,
  (omega arith, λ c q. subst (λ z. TypedBy (TypedNumber s) z d) (some-injective e (constant c) (sym p ∙ q)) t),
)

-- a number that is there has the value and its type
pub found_has :
    (s : State) (e : Expr ValNum) (d : ℕ) (v : ValNum) → TypedBy (TypedNumber s) e d → get_val_num s e ≡ some v →
    Has s.vals e v × TypedNumber s v d
unfolding get_val_num
found_has s (constant c) d v t p = found_value s (constant c) d v t (find_has s.vals (constant c) 0 s.next v p)
found_has s (one Not a) d v t p = found_value s (one Not a) d v t (find_has s.vals (one Not a) 0 s.next v p)
found_has s (one Id a) d v t p =
    let q : a ≡ v = some-injective a v p in
    (subst (Has s.vals (one Id a)) q by_id, subst (λ w. TypedNumber s w d) q t)
found_has s (two o a b) d v t p = found_value s (two o a b) d v t (find_has s.vals (two o a b) 0 s.next v p)
