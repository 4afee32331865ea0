-- The quotient and the order of ints, as those of the i64 whose words they are.
use Rattle.std.proofs.Common.{◌≡◌, ℕ, zero, suc, ◌/◌, ◌<◌, ◌≤◌, ℤ, pos, negsuc, neg_ℤ, sym, ap, ap₂, ◌∙◌, refl, div-le_self, arith, w64, to_z, of_z}
use lib.Signed.{mag, lt_z, quot_z}
use mir.ValLaws.{to_z-Fits, of_z-to_z}
use Rattle.arith.specs.Word.{W, least, div_w, lt_w}
use Rattle.arith.proofs.Words.{div_w_word}
use Rattle.arith.proofs.Signed.{word_of, div_w_wraps, lt_w_signed}

-- the word of an integer that a quotient can be
minus_word : (q : ℕ) → q ≤ least → of_z w64 (neg_ℤ (pos q)) ≡ word_of (neg_ℤ (pos q))
minus_word zero h = refl
minus_word (suc q) h = omega arith

quotient_word : (y z : ℤ) → mag y < least → of_z w64 (quot_z y z) ≡ word_of (quot_z y z)
quotient_word (pos a) (pos b) h = let l = div-le_self a b in omega arith
quotient_word (pos a) (negsuc b) h = minus_word (a / suc b) (let l = div-le_self a (suc b) in omega arith)
quotient_word (negsuc a) (pos b) h = minus_word (suc a / b) (let l = div-le_self (suc a) b in omega arith)
quotient_word (negsuc a) (negsuc b) h = let l = div-le_self (suc a) (suc b) in omega arith

again : (n : ℕ) → n < W → of_z w64 (to_z w64 n) ≡ n
again n h = of_z-to_z w64 n (record { fits = h })

module _ (a b : ℕ) (h : a < W) (k : b < W) {x y : ℤ} (ex : x ≡ to_z w64 a) (ey : y ≡ to_z w64 b) where
  -- what is read of a and b by way of x and y
  read : {A : Type 0} (f : ℤ → ℤ → A) → f (to_z w64 (of_z w64 x)) (to_z w64 (of_z w64 y)) ≡ f (to_z w64 a) (to_z w64 b)
  read f =
      ap₂ (λ x y. f (to_z w64 (of_z w64 x)) (to_z w64 (of_z w64 y))) ex ey
      ∙ ap₂ (λ m n. f (to_z w64 m) (to_z w64 n)) (again a h) (again b k)

  -- r is the word of the quotient q of x and y
  pub quotient :
      {r : ℕ} {q : ℤ} →
      q ≡ to_z w64 (of_z w64 (quot_z (to_z w64 (of_z w64 x)) (to_z w64 (of_z w64 y)))) →
      r ≡ of_z w64 (to_z w64 (of_z w64 q)) →
      r ≡ div_w a b
  quotient {q = q} eq er =
      let small = (to_z-Fits w64 a (record { fits = h })).sfits in
      let word : of_z w64 (quot_z (to_z w64 a) (to_z w64 b)) ≡ div_w a b =
      quotient_word (to_z w64 a) (to_z w64 b) small ∙ sym (div_w_wraps a b h k) in
      let same = again (div_w a b) (div_w_word a b) in
      let whole : of_z w64 q ≡ div_w a b =
      ap (of_z w64) (eq ∙ ap (λ n. to_z w64 (of_z w64 n)) (read quot_z) ∙ ap (to_z w64) word) ∙ same in
      er ∙ ap (λ n. of_z w64 (to_z w64 n)) whole ∙ same

  pub order : lt_z (to_z w64 (of_z w64 x)) (to_z w64 (of_z w64 y)) ≡ lt_w a b
  order = read lt_z ∙ sym (lt_w_signed a b h k)
