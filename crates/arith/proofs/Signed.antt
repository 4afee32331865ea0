-- What words mean as signed integers: their order is that of ℤ, by which the toolchain states i64, and their sum, difference, product and
-- quotient are those of ℤ modulo 2^64. Each is proved of integers in range, and carried over to words.
use Prim.Native.Nat.{ℕ, zero, suc, ◌+◌, ◌*◌, ◌-◌, ◌/◌, ◌%◌, ◌<◌, ◌≤◌}
use mathlib.Core.Path.{◌≡◌, refl, sym, ap, ap₂, ◌∙◌}
use mathlib.Core.Logic.{◌≢◌}
use mathlib.Core.Bool.{Bool, true, false, cond, not, xor}
use native.Mathlib.Nat.{add_comm, add-mul, mul-add, mul_comm, le_of_lt, div-one, div-le_self, div-lt_self, zero-lt-suc}
use native.Mathlib.Decide.{dec_lt}
use native.Mathlib.Omega.{arith}
use lib.Dec.{ltb, leb}
use lib.IntN.{ℤ, pos, negsuc, neg_ℤ, sub_ℕ, ◌+ℤ◌, ◌-ℤ◌, ◌*ℤ◌}
use lib.Signed.{mag, lt_z, le_z, quot_z}
use borrow.Author.Tests.{ltb-true, ltb-false, lt-ltb, le-ltb, le-leb, lt-leb}
use mir.Syntax.{w64}
use mir.Val.{Fits, of_z, to_z}
use mir.ValLaws.{to_z-Fits, of_z-to_z, to_z-of_z}
use Rattle.arith.specs.Word.{W, least, minus_one, add_w, sub_w, mul_w, div_w, lt_w, le_w, negative}

-- ---- words of integers
word_fits : (a : ℕ) → a < W → Fits w64 a
word_fits a h = record { fits = h }

mag_signed : (a : ℕ) → a < W → mag (to_z w64 a) < least
mag_signed a h = (to_z-Fits w64 a (word_fits a h)).sfits

of_signed : (a : ℕ) → a < W → a ≡ of_z w64 (to_z w64 a)
of_signed a h = sym (of_z-to_z w64 a (word_fits a h))

-- ---- the order
ltb_alike : (a b c d : ℕ) → (a < b → c < d) → (b ≤ a → d ≤ c) → ltb a b ≡ ltb c d
ltb_alike a b c d f g = go (ltb a b) refl
  where
    go : (t : Bool) → ltb a b ≡ t → t ≡ ltb c d
    go true e = sym (lt-ltb c d (f (ltb-true a b e)))
    go false e = sym (le-ltb c d (g (ltb-false a b e)))

not_ltb : (a b : ℕ) → not (ltb b a) ≡ leb a b
not_ltb a b = go (ltb b a) refl
  where
    go : (t : Bool) → ltb b a ≡ t → not t ≡ leb a b
    go true e = sym (lt-leb a b (ltb-true b a e))
    go false e = sym (le-leb a b (ltb-false b a e))

lt_of : (y z : ℤ) → mag y < least → mag z < least → lt_w (of_z w64 y) (of_z w64 z) ≡ lt_z y z
unfolding lt_w
lt_of (pos a) (pos b) h k = ltb_alike ((a + least) % W) ((b + least) % W) a b (λ l. omega arith) (λ l. omega arith)
lt_of (pos a) (negsuc b) h k = le-ltb ((a + least) % W) ((W - suc b + least) % W) (omega arith)
lt_of (negsuc a) (pos b) h k = lt-ltb ((W - suc a + least) % W) ((b + least) % W) (omega arith)
lt_of (negsuc a) (negsuc b) h k = ltb_alike ((W - suc a + least) % W) ((W - suc b + least) % W) b a (λ l. omega arith) (λ l. omega arith)

pub lt_w_signed : (a b : ℕ) → a < W → b < W → lt_w a b ≡ lt_z (to_z w64 a) (to_z w64 b)
lt_w_signed a b h k =
    ap₂ lt_w (of_signed a h) (of_signed b k) ∙ lt_of (to_z w64 a) (to_z w64 b) (mag_signed a h) (mag_signed b k)

le_of : (y z : ℤ) → not (lt_z z y) ≡ le_z y z
le_of (pos a) (pos b) = not_ltb a b
le_of (pos a) (negsuc b) = refl
le_of (negsuc a) (pos b) = refl
le_of (negsuc a) (negsuc b) = not_ltb b a

pub le_w_signed : (a b : ℕ) → a < W → b < W → le_w a b ≡ le_z (to_z w64 a) (to_z w64 b)
le_w_signed a b h k = ap not (lt_w_signed b a k h) ∙ le_of (to_z w64 a) (to_z w64 b)

-- ---- the quotient, toward zero
-- the word of an integer, modulo 2^64
abbrev pub word_of : ℤ → ℕ
word_of (pos n) = n % W
word_of (negsuc n) = minus_one - n % W

word_in_range : (x : ℤ) → mag x < least → word_of x ≡ of_z w64 x
word_in_range (pos n) h = omega arith
word_in_range (negsuc n) h = omega arith

positive : (n : ℕ) → n < least → negative n ≡ false
positive n h = lt-leb least n h

below_zero : (n : ℕ) → n < least → negative (W - suc n) ≡ true
below_zero n h = le-leb least (W - suc n) (omega arith)

size_negative : (n : ℕ) → n < least → W - (W - suc n) ≡ suc n
size_negative n h = omega arith

-- the word of a quotient of sizes with a minus
word_of_minus : (q : ℕ) → q ≤ least → (W - q) % W ≡ word_of (neg_ℤ (pos q))
word_of_minus zero h = refl
word_of_minus (suc q) h = omega arith

quot_of : (y z : ℤ) → mag y < least → mag z < least → div_w (of_z w64 y) (of_z w64 z) ≡ word_of (quot_z y z)
unfolding div_w xor
quot_of (pos a) (pos b) h k = rw (positive a h, positive b k) refl
quot_of (pos a) (negsuc b) h k =
    rw (positive a h, below_zero b k) (rw (size_negative b k) (word_of_minus (a / suc b) (let l = div-le_self a (suc b) in omega arith)))
quot_of (negsuc a) (pos b) h k =
    rw (below_zero a h, positive b k) (rw (size_negative a h) (word_of_minus (suc a / b) (let l = div-le_self (suc a) b in omega arith)))
quot_of (negsuc a) (negsuc b) h k = rw (below_zero a h, below_zero b k) (rw (size_negative a h, size_negative b k) refl)

-- "overflow in arithmetic follows two's complement, division included" (document 02, Point 4); by 0, which stops, it is 0 on both sides
pub div_w_wraps : (a b : ℕ) → a < W → b < W → div_w a b ≡ word_of (quot_z (to_z w64 a) (to_z w64 b))
div_w_wraps a b h k =
    ap₂ div_w (of_signed a h) (of_signed b k) ∙ quot_of (to_z w64 a) (to_z w64 b) (mag_signed a h) (mag_signed b k)

minus_small : (q : ℕ) → q ≤ least → mag (neg_ℤ (pos q)) < least
minus_small zero h = omega arith
minus_small (suc q) h = omega arith

-- of two negative numbers, but not of -2^63 by -1
quotient_small : (a b : ℕ) → a < least → (suc a ≡ least → b ≢ 0) → suc a / suc b < least
quotient_small a zero h no_overflow = rw (div-one (suc a)) (go (dec_lt (suc a) least))
  where
    go : Dec (suc a < least) → suc a < least
    go (yes l) = l
    go (no l) = absurd (no_overflow (omega arith) refl)
quotient_small a (suc b) h no_overflow =
    let l = div-lt_self {n = suc a} {k = suc (suc b)} (zero-lt-suc a) (omega arith) in omega arith

quot_fits : (y z : ℤ) → mag y < least → (of_z w64 y ≡ least → of_z w64 z ≢ minus_one) → mag (quot_z y z) < least
quot_fits (pos a) (pos b) h no_overflow = let l = div-le_self a b in omega arith
quot_fits (pos a) (negsuc b) h no_overflow = minus_small (a / suc b) (let l = div-le_self a (suc b) in omega arith)
quot_fits (negsuc a) (pos b) h no_overflow = minus_small (suc a / b) (let l = div-le_self (suc a) b in omega arith)
quot_fits (negsuc a) (negsuc b) h no_overflow =
    quotient_small a b h (λ p q. no_overflow (omega arith) (omega arith))

-- so it is the quotient itself, but for that of -2^63 by -1, which is 2^63, no word's
pub div_w_signed :
    (a b : ℕ) → a < W → b < W → (a ≡ least → b ≢ minus_one) → to_z w64 (div_w a b) ≡ quot_z (to_z w64 a) (to_z w64 b)
div_w_signed a b h k no_overflow =
    let y = to_z w64 a in
    let z = to_z w64 b in
    let small = quot_fits y z (mag_signed a h) (λ p q. no_overflow (of_signed a h ∙ p) (of_signed b k ∙ q)) in
    ap (to_z w64) (div_w_wraps a b h k ∙ word_in_range (quot_z y z) small) ∙ to_z-of_z w64 (quot_z y z) (record { sfits = small })

-- ---- addition, subtraction and multiplication
difference : (a b : ℕ) → a < W → suc b < W → (a + (W - suc b)) % W ≡ word_of (sub_ℕ a (suc b))
difference a b h k = go (ltb a (suc b)) refl
  where
    go : (t : Bool) → ltb a (suc b) ≡ t → (a + (W - suc b)) % W ≡ word_of (cond t (negsuc (suc b - suc a)) (pos (a - suc b)))
    go true e = let l = ltb-true a (suc b) e in omega arith
    go false e = let l = ltb-false a (suc b) e in omega arith

add_of : (y z : ℤ) → mag y ≤ least → mag z ≤ least → add_w (of_z w64 y) (of_z w64 z) ≡ word_of (y +ℤ z)
unfolding add_w
add_of (pos a) (pos b) h k = refl
add_of (pos a) (negsuc b) h k = difference a b (omega arith) (omega arith)
add_of (negsuc a) (pos b) h k = ap (λ n. n % W) (add_comm (W - suc a) b) ∙ difference b a (omega arith) (omega arith)
add_of (negsuc a) (negsuc b) h k = omega arith

pub add_w_signed : (a b : ℕ) → a < W → b < W → add_w a b ≡ word_of (to_z w64 a +ℤ to_z w64 b)
add_w_signed a b h k =
    ap₂ add_w (of_signed a h) (of_signed b k)
    ∙ add_of (to_z w64 a) (to_z w64 b) (le_of_lt (mag_signed a h)) (le_of_lt (mag_signed b k))

-- to subtract is to add what is negated
sub_of : (y z : ℤ) → mag y < least → mag z < least → sub_w (of_z w64 y) (of_z w64 z) ≡ word_of (y -ℤ z)
unfolding add_w sub_w
sub_of y z h k = minus (of_z w64 y) z k ∙ add_of y (neg_ℤ z) (le_of_lt h) (opposite z k)
  where
    opposite : (z : ℤ) → mag z < least → mag (neg_ℤ z) ≤ least
    opposite (pos zero) l = omega arith
    opposite (pos (suc n)) l = omega arith
    opposite (negsuc n) l = omega arith

    minus : (m : ℕ) (z : ℤ) → mag z < least → (m + (W - of_z w64 z)) % W ≡ (m + of_z w64 (neg_ℤ z)) % W
    minus m (pos zero) l = omega arith
    minus m (pos (suc n)) l = refl
    minus m (negsuc n) l = omega arith

pub sub_w_signed : (a b : ℕ) → a < W → b < W → sub_w a b ≡ word_of (to_z w64 a -ℤ to_z w64 b)
sub_w_signed a b h k =
    ap₂ sub_w (of_signed a h) (of_signed b k) ∙ sub_of (to_z w64 a) (to_z w64 b) (mag_signed a h) (mag_signed b k)

-- products of a number c and of what it lacks to 2^64
lacking : (c a b : ℕ) → c + a ≡ W → c * b + a * b ≡ W * b
lacking c a b e = sym (add-mul c a b) ∙ ap (λ n. n * b) e

lacking_right : (a c b : ℕ) → c + b ≡ W → a * c + a * b ≡ W * a
lacking_right a c b e = sym (mul-add a c b) ∙ ap (λ n. a * n) e ∙ mul_comm a W

opposite_words : (m n k : ℕ) → m + n ≡ W * k → m % W ≡ word_of (neg_ℤ (pos n))
opposite_words m zero k e = omega arith
opposite_words m (suc n) k e = omega arith

same_words : (m n s k l : ℕ) → m + s ≡ W * k → n + s ≡ W * l → m % W ≡ n % W
same_words m n s k l e f = omega arith

whole : (a : ℕ) → a < least → W - suc a + suc a ≡ W
whole a h = omega arith

mul_of : (y z : ℤ) → mag y < least → mag z < least → mul_w (of_z w64 y) (of_z w64 z) ≡ word_of (y *ℤ z)
unfolding mul_w
mul_of (pos a) (pos b) h k = refl
mul_of (pos a) (negsuc b) h k =
    opposite_words (a * (W - suc b)) (a * suc b) a (lacking_right a (W - suc b) (suc b) (whole b k))
mul_of (negsuc a) (pos b) h k =
    opposite_words ((W - suc a) * b) (suc a * b) b (lacking (W - suc a) (suc a) b (whole a h))
mul_of (negsuc a) (negsuc b) h k =
    let c = W - suc a in
    let d = W - suc b in
    let e = lacking c (suc a) d (whole a h) in
    let f = lacking_right (suc a) (suc b) d (add_comm (suc b) d ∙ whole b k) in
    same_words (c * d) (suc a * suc b) (suc a * d) d (suc a) e f

pub mul_w_signed : (a b : ℕ) → a < W → b < W → mul_w a b ≡ word_of (to_z w64 a *ℤ to_z w64 b)
mul_w_signed a b h k =
    ap₂ mul_w (of_signed a h) (of_signed b k) ∙ mul_of (to_z w64 a) (to_z w64 b) (mag_signed a h) (mag_signed b k)
