-- The tests of a text by its bytes, and a turn over the names before it.
use Prim.Native.Nat.{ℕ, zero, suc, ◌+◌, ◌-◌, ◌<◌, ◌≤◌}
use mathlib.Core.Path.{◌≡◌, refl, sym, ap, ◌∙◌}
use mathlib.Core.List.{List, [], ◌∷◌}
use mathlib.Core.Bool.{Bool, true, false, cond, ◌&&◌, ◌||◌, and-true}
use native.Mathlib.Omega.{arith}
use native.Mathlib.Numerals.{add-one}
use lib.ListN.{length, get_or, take}
use lib.Seq.{length-take-le, get_or-take}
use lib.Dec.{ltb, leb, eqb}
use borrow.Author.Tests.{lt-ltb, le-ltb, lt-leb, le-leb}
use lib.Pointwise.{pointwise}
use Rattle.std.proofs.lemmas.Bool.Decides.{nat_tests}
use Rattle.std.specs.List.{list_all}
use Rattle.record.specs.Text.{digit, letter, all_text, undigited, ends_lvn, reserved, same_bytes, among}
use Rattle.record.specs.Decode.{items, behind, name_from, name_end}
use Rattle.read_layout.specs.Layout.{texts_from}
use Rattle.record.proofs.Rows.{name_grows, one_more, behind_on, behind_went}

-- `==` of slices is the test of the definition
pub same_is : (t u : List ℕ) → pointwise eqb t u ≡ same_bytes t u
unfolding same_bytes
same_is [] [] = refl
same_is [] (y ∷ u) = refl
same_is (x ∷ t) [] = refl
same_is (x ∷ t) (y ∷ u) = ap (λ (b : Bool). eqb x y && b) (same_is t u)

pub all_is : (t : List ℕ) → list_all (λ b. letter b || digit b) t ≡ all_text t
unfolding all_text
all_is [] = refl
all_is (b ∷ t) = ap (λ (r : Bool). (letter b || digit b) && r) (all_is t)

-- ---- closing digits
-- d digits stand from i on
digits_on : (t : List ℕ) (i d n : ℕ) → n ≡ i + d → ((k : ℕ) → i ≤ k → k < n → digit (get_or t k 0) ≡ true) → undigited t n ≡ undigited t i
unfolding undigited
digits_on t i zero n e digits = ap (undigited t) (omega arith)
digits_on t i (suc d) n e digits =
    let m : n ≡ suc (i + d) = omega arith in
    ap (undigited t) m
    ∙ ap (λ (b : Bool). cond b (undigited t (i + d)) (suc (i + d))) (digits (i + d) (omega arith) (omega arith))
    ∙ digits_on t i d (i + d) refl (λ k g h. digits k g (omega arith))

module _ (t : List ℕ) where
  pub last_at : (i : ℕ) → i < length t → digit (get_or t i 0) ≡ false
      → ((k : ℕ) → i + 1 ≤ k → k < length t → digit (get_or t k 0) ≡ true) → i + 1 ≡ undigited t (length t)
  unfolding undigited
  last_at i h stop digits =
      sym (digits_on t (i + 1) (length t - (i + 1)) (length t) (omega arith) digits
      ∙ ap (undigited t) (add-one i) ∙ ap (λ (b : Bool). cond b (undigited t i) (suc i)) stop ∙ sym (add-one i))

  pub last_none : ((k : ℕ) → k < length t → digit (get_or t k 0) ≡ true) → 0 ≡ undigited t (length t)
  unfolding undigited
  last_none digits = sym (digits_on t 0 (length t) (length t) (omega arith) (λ k g h. digits k h))

-- ---- reserved: the first byte, and what stands before the closing digits
underscore : (t : List ℕ) → pointwise eqb (0x5F ∷ []) (take 1 t) ≡ eqb (get_or t 0 0) 0x5F
underscore [] = refl
underscore (x ∷ t) = and-true (eqb 0x5F x) ∙ grind (arith, nat_tests)

-- of a list only the first e bytes count
lvn_part : (t : List ℕ) (e : ℕ) → 6 ≤ e → e < length t → ends_lvn (take e t) (length (take e t)) ≡ ends_lvn t e
lvn_part t e h g =
    let n : length (take e t) ≡ e = length-take-le e t (omega arith) in
    let at = λ (i : ℕ) (z : e - i < e). get_or-take e t (e - i) 0 z in
    rw (n, at 4 (omega arith), at 3 (omega arith), at 2 (omega arith), at 1 (omega arith))

module _ (t : List ℕ) (u : Bool) (f : u ≡ pointwise eqb (0x5F ∷ []) (take 1 t)) where
  reserved_as : (e : ℕ) → e ≡ undigited t (length t) → reserved t ≡ (u && (ltb e (length t) && (leb 6 e && ends_lvn t e)))
  unfolding reserved
  reserved_as e d = rw (f, underscore t, d)

  pub reserved_first : u ≡ false → false ≡ reserved t
  reserved_first h = sym (reserved_as _ refl ∙ rw h)

  module _ (e : ℕ) (d : e ≡ undigited t (length t)) (yes : u ≡ true) where
    pub reserved_whole : length t ≤ e → false ≡ reserved t
    reserved_whole h = sym (reserved_as e d ∙ rw (yes, le-ltb e (length t) h))

    pub reserved_short : e < length t → e < 6 → false ≡ reserved t
    reserved_short h g = sym (reserved_as e d ∙ rw (yes, lt-ltb e (length t) h, lt-leb 6 e g))

    pub reserved_ends : e < length t → 6 ≤ e → ends_lvn (take e t) (length (take e t)) ≡ reserved t
    reserved_ends h g = lvn_part t e g h ∙ sym (reserved_as e d ∙ rw (yes, lt-ltb e (length t) h, le-leb 6 e g))

-- ---- the names before a text
module _ (s : List ℕ) (p left : ℕ) (z : 0 < left) where
  pub next_within : (m : ℕ) → behind (name_end s) p left ≤ m → name_end s p ≤ m
  next_within m h =
      omega (arith, behind_on (name_end s) (name_grows s) (name_end s p) (left - 1), behind_went (name_end s) p left z _ refl)

  pub used_hit : (t : List ℕ) → same_bytes t (name_from s p).text ≡ true → true ≡ among t (texts_from s p left)
  unfolding among texts_from items
  used_hit t e = sym (ap (λ (k : ℕ). among t (texts_from s p k)) (one_more left z) ∙ rw e)

  pub used_miss :
      (t : List ℕ) → same_bytes t (name_from s p).text ≡ false →
      among t (texts_from s (name_end s p) (left - 1)) ≡ among t (texts_from s p left)
  unfolding among texts_from items
  used_miss t e = sym (ap (λ (k : ℕ). among t (texts_from s p k)) (one_more left z) ∙ rw e)

pub used_none : (s : List ℕ) (p left : ℕ) (t : List ℕ) → left ≡ 0 → false ≡ among t (texts_from s p left)
unfolding among texts_from items
used_none s p left t z = sym (ap (λ (k : ℕ). among t (texts_from s p k)) z)
