-- The digits of a number as they are counted, and as they are written: from the last to the first.
use Prim.Native.Nat.{ℕ, zero, suc, ◌+◌, ◌*◌, ◌/◌, ◌%◌, ◌^◌, ◌<◌, ◌≤◌}
use mathlib.Core.Path.{◌≡◌, refl, sym, ap, ◌∙◌}
use mathlib.Core.List.{List, [], ◌∷◌, ◌++◌}
use native.Mathlib.Omega.{arith}
use native.Mathlib.Nat.{pow-suc, one-le-pow}
use lib.ListN.{length, length-append}
use Rattle.record.specs.Write.{be}
use Rattle.numbering.specs.Made.{digits}
use Rattle.numbering.proofs.Digits.{digits_one, digits_more, by_tenths}
use Rattle.write_bytes.specs.Put.{put}
use Rattle.write_bytes.proofs.Put.{put_before}

-- ---- how many there are
one_more_digit : (k : ℕ) → 10 ≤ k → length (digits k) ≡ suc (length (digits (k / 10)))
one_more_digit k h = ap length (digits_more k h) ∙ length-append (digits (k / 10)) ((0x30 + k % 10) ∷ []) ∙ omega arith

pub digits_count : (j k : ℕ) → 10 ^ j ≤ k → k < 10 ^ suc j → length (digits k) ≡ suc j
digits_count zero k h l = ap length (digits_one k (omega (arith, pow-suc 10 0, l)))
digits_count (suc j) k h l =
    let p : 10 ^ suc j ≡ 10 ^ j * 10 = pow-suc 10 j in
    let q : 10 ^ suc (suc j) ≡ 10 ^ suc j * 10 = pow-suc 10 (suc j) in
    let one : 1 ≤ 10 ^ j = one-le-pow j 10 (omega arith) in
    one_more_digit k (omega arith) ∙ ap suc (digits_count j (k / 10) (omega arith) (omega arith))

-- ---- from the last to the first
-- the last n digits of k
unfoldable pub last_digits : ℕ → ℕ → List ℕ
last_digits zero k = []
last_digits (suc n) k = last_digits n (k / 10) ++ ((0x30 + k % 10) ∷ [])

length_last : (n k : ℕ) → length (last_digits n k) ≡ n
unfolding last_digits
length_last zero k = refl
length_last (suc n) k =
    length-append (last_digits n (k / 10)) ((0x30 + k % 10) ∷ []) ∙ ap (λ (z : ℕ). z + 1) (length_last n (k / 10)) ∙ omega arith

all_last : (k : ℕ) → last_digits (length (digits k)) k ≡ digits k
unfolding last_digits
all_last =
    by_tenths {P = λ k. last_digits (length (digits k)) k ≡ digits k}
    (λ k h.
    let e : k % 10 ≡ k = omega arith in
    rw (digits_one k h) (ap (λ (d : ℕ). (0x30 + d) ∷ []) e))
    (λ k h rest.
    ap (λ (n : ℕ). last_digits n k) (one_more_digit k h) ∙
    ap (λ (l : List ℕ). l ++ ((0x30 + k % 10) ∷ [])) rest ∙
    sym (digits_more k h))

-- what is left to write from a place on gives the whole: n digits of k are left
module _ (l : List ℕ) (at : ℕ) where
  pub left_all : (n k : ℕ) → n ≡ length (digits k) → put l at (last_digits n k) ≡ put l at (digits k)
  left_all n k e = ap (λ (z : ℕ). put l at (last_digits z k)) e ∙ ap (put l at) (all_last k)

  pub left_less :
      {m : List ℕ} (n k p : ℕ) → p ≡ at + n →
      m ≡ put l p (be 1 (48 + k % 10)) →
      put m at (last_digits n (k / 10)) ≡ put l at (last_digits (suc n) k)
  unfolding last_digits be
  left_less {m} n k p e w =
      let xs = last_digits n (k / 10) in
      let d = (0x30 + k % 10) ∷ [] in
      let f : p ≡ at + length xs = e ∙ ap (λ (z : ℕ). at + z) (sym (length_last n (k / 10))) in
      ap (λ (z : List ℕ). put z at xs) (w ∙ ap (λ (z : ℕ). put l z d) f) ∙ put_before l at xs d

  pub left_none : (n k : ℕ) → n ≡ 0 → put l at (last_digits n k) ≡ l
  unfolding last_digits put
  left_none n k e = ap (λ (z : ℕ). put l at (last_digits z k)) e
