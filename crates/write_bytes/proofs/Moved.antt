-- Bytes moved up, the last first: what has been moved stands behind, and what is left to move has not changed.
use Prim.Native.Nat.{ℕ, suc, ◌+◌, ◌-◌, ◌≤◌}
use mathlib.Core.Path.{◌≡◌, sym, ap, ◌∙◌}
use mathlib.Core.List.{List}
use native.Mathlib.Omega.{arith}
use lib.ListN.{length, get_or, set, take, drop, length-drop, drop_of_length-le}
use lib.Seq.{drop-cons, get_or-drop, get_or-take, length-take-le}
use Rattle.write_bytes.specs.Put.{put}
use Rattle.write_bytes.proofs.Put.{set_put, before_put}

module _ (l : List ℕ) (from to n : ℕ) where
  -- what is moved, and the list when `left` bytes are left to move
  abbrev part : List ℕ
  part = take n (drop from l)

  abbrev pub moved : ℕ → List ℕ
  moved left = put l (to + left) (drop left part)

  part_length : from + n ≤ length l → length part ≡ n
  part_length h = let d : length (drop from l) ≡ length l - from = length-drop from l in length-take-le n (drop from l) (omega arith)

  pub moved_none : from + n ≤ length l → l ≡ moved n
  unfolding put
  moved_none h =
      let e : length part ≡ n = part_length h in
      let h : length part ≤ n = omega arith in
      sym (ap (put l (to + n)) (drop_of_length-le part h))

  pub moved_more :
      (m : List ℕ) (left : ℕ) → from ≤ to → from + n ≤ length l → suc left ≤ n → m ≡ moved (suc left) →
      set m (to + left) (get_or m (from + left) 0) ≡ moved left
  unfolding put
  moved_more m left h k j e =
      let rest = drop (suc left) part in
      let x : get_or m (from + left) 0 ≡ get_or part left 0 =
      ap (λ (t : List ℕ). get_or t (from + left) 0) e ∙ before_put l (to + suc left) (from + left) rest (omega arith) ∙
      sym (get_or-drop from l left 0) ∙ sym (get_or-take n (drop from l) left 0 (omega arith)) in
      let s : to + suc left ≡ to + left + 1 = omega arith in
      let d : length part ≡ n = part_length k in
      (λ i. set (e i) (to + left) (x i)) ∙
      sym (set_put l (to + left) (to + suc left) (get_or part left 0) rest (omega arith)) ∙
      ap (λ (z : ℕ). put (set l (to + left) (get_or part left 0)) z rest) s ∙
      ap (put l (to + left)) (sym (drop-cons part left 0 (omega arith)))

  pub moved_all : moved 0 ≡ put l to part
  moved_all = let e : to + 0 ≡ to = omega arith in ap (λ (z : ℕ). put l z part) e
