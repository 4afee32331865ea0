-- The decimal digits of a number, by tenths: those of a tenth of it, then the last. `digits` gives them, and no other list is them.
use Prim.Native.Nat.{ℕ, zero, suc, ◌+◌, ◌*◌, ◌-◌, ◌/◌, ◌%◌, ◌^◌, ◌<◌, ◌≤◌}
use mathlib.Core.Path.{◌≡◌, refl, sym, ap, ◌∙◌, subst}
use mathlib.Core.List.{List, [], ◌∷◌, ◌++◌}
use mathlib.Core.Bool.{Bool, true, false, cond}
use native.Mathlib.Omega.{arith}
use native.Mathlib.Nat.{pow-suc}
use lib.ListN.{length, get_or, take, length-append, get_or-append}
use lib.Seq.{take-suc, take_all}
use lib.Dec.{ltb, leb}
use borrow.Author.Tests.{ltb-true, ltb-false, lt-ltb, le-ltb, leb-true, le-leb}
use Rattle.record.specs.Text.{digit}
use Rattle.record.proofs.Tests.{and_left, and_right}
use Rattle.numbering.specs.Made.{digits_of, digits}
use Rattle.numbering.specs.Decimal.{Digits, decimal_after, decimal, Decimal}

-- ---- by tenths
-- the bound on how many there are does not matter
same_by :
    (k : ℕ) (xs ys : List ℕ) (b : Bool) →
    ltb k 10 ≡ b →
    (10 ≤ k → xs ≡ ys) →
    cond b ((0x30 + k) ∷ []) (xs ++ ((0x30 + k % 10) ∷ [])) ≡ cond b ((0x30 + k) ∷ []) (ys ++ ((0x30 + k % 10) ∷ []))
same_by k xs ys true e same = refl
same_by k xs ys false e same = ap (λ (l : List ℕ). l ++ ((0x30 + k % 10) ∷ [])) (same (ltb-false k 10 e))

digits_of_same : (m n k : ℕ) → k < m → k < n → digits_of m k ≡ digits_of n k
unfolding digits_of
digits_of_same zero n k h j = absurd (omega arith)
digits_of_same (suc m) zero k h j = absurd (omega arith)
digits_of_same (suc m) (suc n) k h j =
    same_by k (digits_of m (k / 10)) (digits_of n (k / 10)) (ltb k 10) refl (λ p. digits_of_same m n (k / 10) (omega arith) (omega arith))

pub digits_one : (k : ℕ) → k < 10 → digits k ≡ (0x30 + k) ∷ []
unfolding digits digits_of
digits_one k h = rw (lt-ltb k 10 h)

pub digits_more : (k : ℕ) → 10 ≤ k → digits k ≡ digits (k / 10) ++ ((0x30 + k % 10) ∷ [])
unfolding digits digits_of
digits_more k h =
    rw (le-ltb k 10 h)
    (ap (λ (l : List ℕ). l ++ ((0x30 + k % 10) ∷ [])) (digits_of_same k (suc (k / 10)) (k / 10) (omega arith) (omega arith)))

module _ {P : ℕ → Type 0} (one : (n : ℕ) → n < 10 → P n) (more : (n : ℕ) → 10 ≤ n → P (n / 10) → P n) where
  by_one : (n : ℕ) (b : Bool) → ltb n 10 ≡ b → (10 ≤ n → P (n / 10)) → P n
  by_one n true e rest = one n (ltb-true n 10 e)
  by_one n false e rest = let h : 10 ≤ n = ltb-false n 10 e in more n h (rest h)

  by_tenths_below : (m n : ℕ) → n < m → P n
  by_tenths_below zero n h = absurd (omega arith)
  by_tenths_below (suc m) n h = by_one n (ltb n 10) refl (λ p. by_tenths_below m (n / 10) (omega arith))

  -- what holds of numbers of one digit, and of a number where it holds of its tenth, holds of all
  pub by_tenths : (n : ℕ) → P n
  by_tenths n = by_tenths_below (suc n) n (omega arith)

-- ---- lists of digits
digit_of : (b : ℕ) → 0x30 ≤ b → b ≤ 0x39 → digit b ≡ true
digit_of b l h = simp (le-leb 0x30 b l, le-leb b 0x39 h)

digit_least : (b : ℕ) → digit b ≡ true → 0x30 ≤ b
digit_least b h = leb-true 0x30 b (and_left (leb 0x30 b) (leb b 0x39) h)

pub digit_most : (b : ℕ) → digit b ≡ true → b ≤ 0x39
digit_most b h = leb-true b 0x39 (and_right (leb 0x30 b) (leb b 0x39) h)

digits_append : (s t : List ℕ) → Digits s → Digits t → Digits (s ++ t)
digits_append [] t d e = e
digits_append (b ∷ s) t d e = (d.0, digits_append s t d.1 e)

digits_before : (s t : List ℕ) → Digits (s ++ t) → Digits s
digits_before [] t d = tt
digits_before (b ∷ s) t d = (d.0, digits_before s t d.1)

digits_behind : (s t : List ℕ) → Digits (s ++ t) → Digits t
digits_behind [] t d = d
digits_behind (b ∷ s) t d = digits_behind s t d.1

decimal_last : (n b : ℕ) (t : List ℕ) → decimal_after n (t ++ (b ∷ [])) ≡ decimal_after n t * 10 + (b - 0x30)
unfolding decimal_after
decimal_last n b [] = refl
decimal_last n b (c ∷ t) = decimal_last (n * 10 + (c - 0x30)) b t

decimal_least : (n : ℕ) (t : List ℕ) → n ≤ decimal_after n t
unfolding decimal_after
decimal_least n [] = omega arith
decimal_least n (b ∷ t) = let h : n * 10 + (b - 0x30) ≤ decimal_after (n * 10 + (b - 0x30)) t = decimal_least (n * 10 + (b - 0x30)) t in omega arith

-- ---- `digits` gives the decimal digits
one_decimal : (n : ℕ) → n < 10 → Decimal n ((0x30 + n) ∷ [])
unfolding decimal decimal_after
one_decimal n h =
    record {
      each = (digit_of (0x30 + n) (omega arith) (omega arith), tt);
      some = omega arith;
      value = omega arith;
      leading = λ e. ap (λ (b : ℕ). b ∷ []) e;
    }

more_decimal : (n : ℕ) (rest : List ℕ) → 10 ≤ n → Decimal (n / 10) rest → Decimal n (rest ++ ((0x30 + n % 10) ∷ []))
unfolding decimal decimal_after
more_decimal n rest h d =
    let v : decimal_after 0 rest ≡ n / 10 = d.value in
    record {
      each = digits_append rest _ d.each (digit_of (0x30 + n % 10) (omega arith) (omega arith), tt);
      some = rw length-append (omega arith);
      value = rw (decimal_last 0 (0x30 + n % 10) rest, v) (omega arith);
      leading = λ e.
          let zero_first : rest ≡ 0x30 ∷ [] = d.leading (sym (get_or-append rest _ 0 0 d.some) ∙ e) in
          let none : decimal_after 0 rest ≡ 0 = ap (decimal_after 0) zero_first in
          absurd (omega arith);
    }

pub digits_are : (n : ℕ) → Decimal n (digits n)
digits_are =
    by_tenths {P = λ n. Decimal n (digits n)}
    (λ n h. rw (digits_one n h) (one_decimal n h))
    (λ n h d. rw (digits_more n h) (more_decimal n (digits (n / 10)) h d))

-- numbers with the same digits are the same
pub digits_injective : (j k : ℕ) → digits j ≡ digits k → j ≡ k
digits_injective j k e = sym (digits_are j).value ∙ ap decimal e ∙ (digits_are k).value

-- ---- no other list is them
-- of several digits the first is not 0, so the number has a tenth, whose digits are those before the last
pub record Several (n b : ℕ) (s : List ℕ) : Type 0 where
  pub several : 10 ≤ n
  pub tenth : Decimal (n / 10) s
  pub last : b ≡ 0x30 + n % 10

several_digits : (n c b : ℕ) (s : List ℕ) → Decimal n ((c ∷ s) ++ (b ∷ [])) → Several n b (c ∷ s)
unfolding decimal decimal_after
several_digits n c b s d =
    let longer : length (s ++ (b ∷ [])) ≡ length s + 1 = length-append s (b ∷ []) in
    let not-zero : c ≡ 0x30 → ⊥ = λ e. let f = ap length (d.leading e) in omega (arith, f, longer) in
    let low : 0x30 ≤ c = digit_least c d.each.0 in
    let in_last = digits_behind (c ∷ s) (b ∷ []) d.each in
    let least : 0x30 ≤ b = digit_least b in_last.0 in
    let most : b ≤ 0x39 = digit_most b in_last.0 in
    let v : decimal_after 0 (c ∷ s) * 10 + (b - 0x30) ≡ n = sym (decimal_last 0 b (c ∷ s)) ∙ d.value in
    let l : 0 * 10 + (c - 0x30) ≤ decimal_after 0 (c ∷ s) = decimal_least (0 * 10 + (c - 0x30)) s in
    record {
      several = omega (arith, not-zero);
      tenth = record {
        each = digits_before (c ∷ s) (b ∷ []) d.each;
        some = omega arith;
        value = omega arith;
        leading = λ e. absurd (not-zero e);
      };
      last = omega arith;
    }

one_digit : (n b : ℕ) → Decimal n (b ∷ []) → (n < 10) × (b ≡ 0x30 + n)
unfolding decimal decimal_after
one_digit n b d =
    let least : 0x30 ≤ b = digit_least b d.each.0 in
    let most : b ≤ 0x39 = digit_most b d.each.0 in
    let v : 0 * 10 + (b - 0x30) ≡ n = d.value in
    (omega arith, omega arith)

module _ (n : ℕ) where
  alone_one : n < 10 → (s : List ℕ) (b : ℕ) → Decimal n (s ++ (b ∷ [])) → s ++ (b ∷ []) ≡ digits n
  alone_one h [] b d = ap (λ (c : ℕ). c ∷ []) (one_digit n b d).1 ∙ sym (digits_one n h)
  alone_one h (c ∷ s) b d = let more : 10 ≤ n = (several_digits n c b s d).several in absurd (omega arith)

  alone_more :
      10 ≤ n → ((t : List ℕ) → Decimal (n / 10) t → t ≡ digits (n / 10)) →
      (s : List ℕ) (b : ℕ) → Decimal n (s ++ (b ∷ [])) → s ++ (b ∷ []) ≡ digits n
  alone_more h rest [] b d = let one : n < 10 = (one_digit n b d).0 in absurd (omega arith)
  alone_more h rest (c ∷ s) b d =
      let m = several_digits n c b s d in
      ap (λ (l : List ℕ). l ++ (b ∷ [])) (rest (c ∷ s) m.tenth) ∙
      ap (λ (z : ℕ). digits (n / 10) ++ (z ∷ [])) m.last ∙
      sym (digits_more n h)

  -- of a list, as what stands before its last, and that
  alone_by : ((s : List ℕ) (b : ℕ) → Decimal n (s ++ (b ∷ [])) → s ++ (b ∷ []) ≡ digits n) → (t : List ℕ) → Decimal n t → t ≡ digits n
  alone_by f t d =
      let j = length t - 1 in
      let h : 0 < length t = d.some in
      let e : take j t ++ (get_or t j 0 ∷ []) ≡ t = sym (take-suc t j 0 (omega arith)) ∙ take_all (suc j) t (omega arith) in
      sym e ∙ f (take j t) (get_or t j 0) (subst (Decimal n) (sym e) d)

pub digits_alone : (n : ℕ) (t : List ℕ) → Decimal n t → t ≡ digits n
digits_alone =
    by_tenths {P = λ n. (t : List ℕ) → Decimal n t → t ≡ digits n}
    (λ n h. alone_by n (alone_one n h))
    (λ n h rest. alone_by n (alone_more n h rest))

-- ---- how many there are
few_more : (n : ℕ) → 10 ≤ n → ((w : ℕ) → n / 10 < 10 ^ suc w → length (digits (n / 10)) ≤ suc w) → (w : ℕ) → n < 10 ^ suc w → length (digits n) ≤ suc w
few_more n h rest zero l = absurd (omega arith)
few_more n h rest (suc w) l =
    let q : 10 ^ suc (suc w) ≡ 10 ^ suc w * 10 = pow-suc 10 (suc w) in
    let r : length (digits (n / 10)) ≤ suc w = rest w (omega arith) in
    rw (digits_more n h, length-append) (omega arith)

pub digits_few : (n w : ℕ) → n < 10 ^ suc w → length (digits n) ≤ suc w
digits_few =
    by_tenths {P = λ n. (w : ℕ) → n < 10 ^ suc w → length (digits n) ≤ suc w}
    (λ n h w l. rw (digits_one n h) (omega arith))
    few_more
