-- A number that stands nowhere in a table: the steps of a loop that asks for it, and that no entry is then the one that is sought.
use Prim.Native.Nat.{ℕ, zero, suc, ◌+◌, ◌-◌, ◌<◌, ◌≤◌}
use mathlib.Core.Path.{◌≡◌, refl, sym, ap, ◌∙◌}
use mathlib.Core.Bool.{Bool, true, false, ◌||◌}
use mathlib.Core.List.{List}
use mathlib.Core.Option.{none, some}
use native.Mathlib.Decide.{ℕ_discrete}
use native.Mathlib.Omega.{arith}
use Rattle.std.proofs.lemmas.Bool.{or_parts}
use lib.Dec.{eqb}
use lib.ListN.{length, get_or, take}
use lib.Seq.{length-take-le, get_or-take}
use borrow.Author.Tests.{eqb-false}
use Rattle.arith.specs.Operation.{Expr}
use Rattle.numbering.specs.declared.ValNum.{ValNum}
use Rattle.numbering.specs.State.{vn}
use Rattle.numbering.specs.Number.{find}
use Rattle.lvn_values.specs.Table.{expr_at, vals_of, holds}
use Rattle.lvn_values.proofs.Entries.{other_entry}
use Rattle.lvn_values.proofs.Search.{vals_in}

module _ (l : List ℕ) (x : ℕ) where
  -- ---- the loop: what is left from here, and what was met before
  module _ (n i : ℕ) where
    pub held_next :
        (b : Bool) → i < n → (b || eqb (get_or l i 0) x) || holds l x (i + 1) (n - (i + 1)) ≡ b || holds l x i (n - i)
    unfolding holds
    held_next true h = refl
    held_next false h = let s : n - i ≡ suc (n - (i + 1)) = omega arith in sym (ap (holds l x i) s)

    pub held_last : (b : Bool) → n ≤ i → b ≡ b || holds l x i (n - i)
    unfolding holds
    held_last true h = refl
    held_last false h = let z : n - i ≡ 0 = omega arith in sym (ap (holds l x i) z)

  not_held : (n i : ℕ) → holds l x i n ≡ false → (j : ℕ) → i ≤ j → j < i + n → get_or l j 0 ≡ x → ⊥
  unfolding holds
  not_held zero i e j a b p = omega arith
  not_held (suc n) i e j a b p =
      by (ℕ_discrete i j) (not_held n (i + 1) (or_parts (eqb (get_or l i 0) x) (holds l x (i + 1) n) e).1 j)
    where
      by : Dec (i ≡ j) → (i + 1 ≤ j → j < i + 1 + n → get_or l j 0 ≡ x → ⊥) → ⊥
      by (yes q) ih =
          eqb-false (get_or l i 0) x (or_parts (eqb (get_or l i 0) x) (holds l x (i + 1) n) e).0 (ap (λ (m : ℕ). get_or l m 0) q ∙ p)
      by (no q) ih = ih (omega arith) (omega arith) p

-- of a list's first numbers
not_taken : (l : List ℕ) (x n : ℕ) → n ≤ length l → holds (take n l) x 0 (length (take n l)) ≡ false →
    (j : ℕ) → j < n → get_or l j 0 ≡ x → ⊥
not_taken l x n a e j b p =
    let k : length (take n l) ≡ n = length-take-le n l a in
    not_held (take n l) x (length (take n l)) 0 e j (omega arith) (omega arith) (get_or-take n l j 0 b ∙ p)

module _ (hs ns : List ℕ) (h k count : ℕ) (e : Expr ValNum) (here : expr_at h k ≡ some e) where
  none_found :
      (n i : ℕ) → i + n ≡ count →
      ((j : ℕ) → i ≤ j → j < i + n → (get_or hs j 0 ≡ h) × (get_or ns j 0 ≡ k) → ⊥) →
      none ≡ find (vals_of hs ns count) e i n
  unfolding find
  none_found zero i q f = refl
  none_found (suc n) i q f =
      let rest : none ≡ find (vals_of hs ns count) e (suc i) n =
      none_found n (suc i) (omega arith) (λ j a b. f j (omega arith) (omega arith)) in
      rw (
        vals_in hs ns count (vn i) (omega arith),
        other_entry h k e here (get_or hs i 0) (get_or ns i 0) (f i (omega arith) (omega arith)),
      ) rest

  pub no_head :
      count ≤ length hs → holds (take count hs) h 0 (length (take count hs)) ≡ false → none ≡ find (vals_of hs ns count) e 0 count
  no_head l z = none_found count 0 (omega arith) (λ j a b p. not_taken hs h count l z j (omega arith) p.0)

  pub no_num :
      count ≤ length ns → holds (take count ns) k 0 (length (take count ns)) ≡ false → none ≡ find (vals_of hs ns count) e 0 count
  no_num l z = none_found count 0 (omega arith) (λ j a b p. not_taken ns k count l z j (omega arith) p.1)
