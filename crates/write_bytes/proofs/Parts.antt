-- A part of a list: its first element and the rest, and when it is empty.
use Prim.Native.Nat.{ℕ, suc, ◌+◌, ◌-◌, ◌<◌, ◌≤◌}
use mathlib.Core.Path.{◌≡◌, sym, ap, ◌∙◌}
use mathlib.Core.List.{List, [], ◌∷◌}
use native.Mathlib.Omega.{arith}
use native.Mathlib.Numerals.{add-one}
use lib.ListN.{length, get_or, take, drop, drop_of_length-le}
use lib.Seq.{drop-cons, take-nil}

module _ (s : List ℕ) (p n : ℕ) where
  pub part_less : p < length s → 0 < n → take n (drop p s) ≡ get_or s p 0 ∷ take (n - 1) (drop (p + 1) s)
  part_less h j =
      let e : n ≡ suc (n - 1) = omega arith in
      ap (λ (k : ℕ). take k (drop p s)) e ∙ ap (take (suc (n - 1))) (drop-cons s p 0 h) ∙
      ap (λ (k : ℕ). get_or s p 0 ∷ take (n - 1) (drop k s)) (sym (add-one p))

  pub part_past : length s ≤ p → take n (drop p s) ≡ []
  part_past h = ap (take n) (drop_of_length-le s h) ∙ take-nil n

  pub part_none : n ≤ 0 → take n (drop p s) ≡ []
  part_none h = let e : n ≡ 0 = omega arith in ap (λ (k : ℕ). take k (drop p s)) e
