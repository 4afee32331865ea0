-- Items one behind the other: the turns of a loop over those left, tables filled from their start, and that places only grow.
use Prim.Native.Nat.{ℕ, zero, suc, ◌+◌, ◌-◌, ◌<◌, ◌≤◌}
use mathlib.Core.Path.{◌≡◌, refl, sym, ap, ◌∙◌}
use mathlib.Core.List.{List, [], ◌∷◌, ◌++◌, map}
use native.Mathlib.Omega.{arith}
use lib.ListN.{set}
use lib.Seq.{sets}
use Rattle.record.specs.Decode.{items, behind, name_end}

-- ---- one of those left
pub one_more : (n : ℕ) → 0 < n → n ≡ suc (n - 1)
one_more n h = omega arith

module _ (next : ℕ → ℕ) (p left : ℕ) (h : 0 < left) where
  pub behind_went : (q : ℕ) → q ≡ next p → behind next q (left - 1) ≡ behind next p left
  unfolding behind
  behind_went q e = ap (λ (k : ℕ). behind next k (left - 1)) e ∙ sym (ap (behind next p) (one_more left h))

  -- m: the table with one entry more
  pub filled_went :
      (one : ℕ → ℕ) (l m : List ℕ) (i v q : ℕ) → m ≡ set l i v → v ≡ one p → q ≡ next p →
      sets m (i + 1) (items one next q (left - 1)) ≡ sets l i (items one next p left)
  unfolding items
  filled_went one l m i v q em ev eq =
      let j : i + 1 ≡ suc i = omega arith in
      let first : items one next p left ≡ one p ∷ items one next (next p) (left - 1) = ap (items one next p) (one_more left h) in
      rw (em, ev, eq, j, first)

-- where the code counts up: behind i of n
module _ (next : ℕ → ℕ) (p n i : ℕ) (h : i < n) where
  one_less : n - (i + 1) ≡ n - i - 1
  one_less = omega arith

  pub behind_next : (q : ℕ) → q ≡ next p → behind next q (n - (i + 1)) ≡ behind next p (n - i)
  behind_next q e = ap (behind next q) one_less ∙ behind_went next p (n - i) (omega arith) q e

  pub filled_next :
      (one : ℕ → ℕ) (l m : List ℕ) (v q : ℕ) → m ≡ set l i v → v ≡ one p → q ≡ next p →
      sets m (i + 1) (items one next q (n - (i + 1))) ≡ sets l i (items one next p (n - i))
  filled_next one l m v q em ev eq =
      ap (λ k. sets m (i + 1) (items one next q k)) one_less
      ∙ filled_went next p (n - i) (omega arith) one l m i v q em ev eq

pub behind_done : (next : ℕ → ℕ) (p left : ℕ) → left ≡ 0 → p ≡ behind next p left
unfolding behind
behind_done next p left z = sym (ap (behind next p) z)

pub filled_done : (next one : ℕ → ℕ) (l : List ℕ) (i p left : ℕ) → left ≡ 0 → l ≡ sets l i (items one next p left)
unfolding items
filled_done next one l i p left z = sym (ap (λ (k : ℕ). sets l i (items one next p k)) z)

-- ---- places grow
module _ (next : ℕ → ℕ) (grows : (p : ℕ) → p ≤ next p) where
  pub behind_on : (p n : ℕ) → p ≤ behind next p n
  unfolding behind
  behind_on p zero = omega arith
  behind_on p (suc n) = omega (arith, grows p, behind_on (next p) n)

  pub behind_within : (p n m : ℕ) → behind next p n ≡ m → p ≤ m
  behind_within p n m e = omega (arith, behind_on p n, e)

pub name_grows : (s : List ℕ) (at : ℕ) → at ≤ name_end s at
unfolding name_end
name_grows s at = omega arith

-- ---- one more at the end
pub behind_more : (next : ℕ → ℕ) (p n : ℕ) → behind next p (suc n) ≡ next (behind next p n)
unfolding behind
behind_more next p zero = refl
behind_more next p (suc n) = behind_more next (next p) n

pub items_more :
    {A : Type 0} (one : ℕ → A) (next : ℕ → ℕ) (p n : ℕ) → items one next p (suc n) ≡ items one next p n ++ (one (behind next p n) ∷ [])
unfolding items behind
items_more one next p zero = refl
items_more one next p (suc n) = ap (◌∷◌ (one p)) (items_more one next (next p) n)

-- ---- what is said of each of the items
pub map_items :
    {A B : Type 0} (f : A → B) (one : ℕ → A) (next : ℕ → ℕ) (n p : ℕ) →
    map f (items one next p n) ≡ items (λ q. f (one q)) next p n
unfolding items
map_items f one next zero p = refl
map_items f one next (suc n) p = ap (◌∷◌ (f (one p))) (map_items f one next n (next p))
