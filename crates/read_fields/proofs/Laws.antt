-- The number of w bytes by its last; what a field of any number says of its number; and a field with its test.
use Prim.Native.Nat.{ℕ, zero, suc, ◌+◌, ◌-◌, ◌*◌, ◌^◌, ◌<◌, ◌≤◌}
use Rattle.std.proofs.Math.Nat.{pow-suc, mul_assoc, pow-le-pow_right}
use mathlib.Core.Path.{◌≡◌, refl, sym, ap, ◌∙◌}
use mathlib.Core.List.{List}
use native.Mathlib.Omega.{arith}
use lib.ListN.{length, get_or}
use Rattle.record.specs.Reader.{got, num_at, field}
use Rattle.record.specs.Tests.{any}
use Rattle.record.proofs.Following.{field_there}

-- ---- the number of w bytes, and of one more
num_first : (w : ℕ) (s : List ℕ) (at : ℕ) → num_at s at (suc w) ≡ get_or s at 0 * 256 ^ w + num_at s (at + 1) w
num_first zero s at = omega arith
num_first (suc w) s at = refl

module _ (s : List ℕ) where
  pub num_last : (w at : ℕ) → num_at s at (suc w) ≡ num_at s at w * 256 + get_or s (at + w) 0
  num_last zero at = let e : at ≡ at + 0 = omega arith in let f = ap (λ i. get_or s i 0) e in omega (arith, f)
  num_last (suc w) at =
      let p = 256 ^ w in
      let x = get_or s at 0 in
      let a : num_at s at (suc w) ≡ x * p + num_at s (at + 1) w = num_first w s at in
      let b : num_at s (at + 1) (suc w) ≡ num_at s (at + 1) w * 256 + get_or s (at + 1 + w) 0 = num_last w (at + 1) in
      let c : at + 1 + w ≡ at + suc w = omega arith in
      let d : x * 256 ^ suc w ≡ x * p * 256 = ap (λ q. x * q) (pow-suc 256 w) ∙ sym (mul_assoc x p 256) in
      ap (λ n. x * 256 ^ suc w + n) (b ∙ ap (λ i. num_at s (at + 1) w * 256 + get_or s i 0) c) ∙ omega (arith, a, d)

  -- and how great they are
  pub num_step : (w at x b : ℕ) → x ≡ num_at s at w → x < 256 ^ w → b ≡ get_or s (at + w) 0 → b < 256 →
      (x * 256 + b ≡ num_at s at (w + 1)) × (x * 256 + b < 256 ^ (w + 1))
  num_step w at x b e l f h =
      let o : suc w ≡ w + 1 = omega arith in
      let n : num_at s at (suc w) ≡ num_at s at (w + 1) = ap (num_at s at) o in
      let p : 256 ^ (w + 1) ≡ 256 ^ w * 256 = ap (λ i. 256 ^ i) (sym o) ∙ pow-suc 256 w in
      (rw (e, f) (sym (num_last w at) ∙ n), omega (arith, l, h, p))

-- w bytes have a number of 64 bits
pub fits_word : (w n x : ℕ) → w < n → n ≤ 8 → x < 256 ^ w → x * 256 < 18446744073709551616 - 255
fits_word w n x h k l =
    let m : 256 ^ w ≤ 256 ^ 7 = pow-le-pow_right (omega arith) {i = w} {j = 7} (omega (arith, h, k)) in
    omega (arith, m, l)

module _ (s : List ℕ) (at : ℕ) where
  -- a field that is there, its number found by the code
  pub field_is : (w x : ℕ) → x ≡ num_at s at w → w ≤ length s - at → got x (at + w) ≡ field w any s at
  field_is w x e h = ap (λ (n : ℕ). got n (at + w)) e ∙ sym (field_there w s at h)
