-- Bytes put by a part of the list that is written over: all of them, or as many as there is room for.
use Prim.Native.Nat.{ℕ, zero, suc, ◌+◌, ◌-◌, ◌≤◌}
use mathlib.Core.Path.{◌≡◌, refl, sym, ap, ◌∙◌, subst}
use mathlib.Core.List.{List, [], ◌∷◌, ◌++◌}
use native.Mathlib.Omega.{arith}
use lib.ListN.{length, set, take, drop, length-set, length-drop}
use lib.Seq.{length-take-le, take-add}
use borrow.Rule.Slice.PartMut.{put_mid}
use Rattle.std.proofs.lemmas.List.Edits.{paste_all}
use Rattle.std.proofs.lemmas.Slice.{put_mid-paste}
use Rattle.write_bytes.specs.Put.{put, Wrote}
use Rattle.write_bytes.proofs.Put.{put_out, put_split}
use Rattle.write_bytes.proofs.Wrote.{wrote_append}

-- what has no room is not written
pub put_room : (l : List ℕ) (i : ℕ) (xs : List ℕ) (k : ℕ) → length l - i ≤ k → put l i xs ≡ put l i (take k xs)
unfolding put
put_room l i [] zero h = refl
put_room l i [] (suc k) h = refl
put_room l i (x ∷ xs) zero h = put_out l i (x ∷ xs) (omega arith)
put_room l i (x ∷ xs) (suc k) h =
    let e : length (set l i x) ≡ length l = length-set l i x in put_room (set l i x) (i + 1) xs k (omega arith)

module _ (l bs : List ℕ) (at k : ℕ) {xs : List ℕ} where
  -- all of them
  pub put_whole : k ≡ length bs → at + length bs ≤ length l → xs ≡ bs → put_mid at k l xs ≡ put l at bs
  put_whole e h x =
      put_mid-paste at k l xs bs (length bs) x (sym e) refl ∙ paste_all l at bs (length bs) refl ∙ sym (put_split l at bs h)

  -- the first k, to the end
  pub put_clipped : at + k ≡ length l → k ≤ length bs → xs ≡ take k bs → put_mid at k l xs ≡ put l at bs
  put_clipped e h x =
      let t : length (take k bs) ≡ k = length-take-le k bs h in
      put_mid-paste at k l xs (take k bs) k x refl (sym t) ∙ paste_all l at (take k bs) k (sym t) ∙
      ap (λ (n : ℕ). take at l ++ (take k bs ++ drop (at + n) l)) (sym t) ∙
      sym (put_split l at (take k bs) (omega (arith, t, e))) ∙ sym (put_room l at bs k (omega (arith, e)))

-- ---- texts, a part behind the other
-- the first n of s are written; the next k too
pub wrote_more :
    {l m r : List ℕ} {i : ℕ} (n k : ℕ) (s : List ℕ) →
    n + k ≤ length s →
    r ≡ put m (i + n) (take k (drop n s)) →
    Wrote l m i (i + n) (take n s) →
    Wrote l r i (i + (n + k)) (take (n + k) s)
wrote_more {l} {m} {r} {i} n k s h e a =
    let d : length (drop n s) ≡ length s - n = length-drop n s in
    let t : length (take k (drop n s)) ≡ k = length-take-le k (drop n s) (omega arith) in
    subst (Wrote l r i (i + (n + k))) (sym (take-add n k s))
    (wrote_append (take n s) (take k (drop n s)) a (record { out = e; end = omega (arith, t) }))

-- the bytes up to the p-th too
pub wrote_on :
    {l m r : List ℕ} {i : ℕ} (n p : ℕ) (s : List ℕ) →
    n ≤ p →
    p ≤ length s →
    r ≡ put m (i + n) (take (p - n) (drop n s)) →
    Wrote l m i (i + n) (take n s) →
    Wrote l r i (i + p) (take p s)
wrote_on {l} {m} {r} {i} n p s h k e a =
    let q : n + (p - n) ≡ p = omega arith in
    subst (λ (j : ℕ). Wrote l r i (i + j) (take j s)) q (wrote_more n (p - n) s (omega arith) e a)
