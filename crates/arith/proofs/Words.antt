-- Laws of the arithmetic on words: every result is a word, and what the identities and the order of operands rest on.
use Prim.Native.Nat.{ℕ, ◌+◌, ◌*◌, ◌-◌, ◌/◌, ◌%◌, ◌<◌}
use mathlib.Core.Path.{◌≡◌, ap}
use mathlib.Core.Bool.{Bool, true, false, cond, xor}
use native.Mathlib.Nat.{add_comm, mul_comm}
use native.Mathlib.Omega.{arith}
use Rattle.arith.specs.Word.{W, add_w, sub_w, mul_w, div_w, negative, size}

-- ---- every result is a word
mod_word : (n : ℕ) → n % W < W
mod_word n = omega arith

pub add_w_word : (a b : ℕ) → add_w a b < W
unfolding add_w
add_w_word a b = mod_word (a + b)

pub sub_w_word : (a b : ℕ) → sub_w a b < W
unfolding sub_w
sub_w_word a b = mod_word (a + (W - b))

pub mul_w_word : (a b : ℕ) → mul_w a b < W
unfolding mul_w
mul_w_word a b = mod_word (a * b)

pub div_w_word : (a b : ℕ) → div_w a b < W
unfolding div_w xor
div_w_word a b = go (xor (negative a) (negative b)) (size a / size b)
  where
    go : (c : Bool) (q : ℕ) → cond c ((W - q) % W) (q % W) < W
    go true q = mod_word (W - q)
    go false q = mod_word q

-- ---- commutativity
pub add_w_comm : (a b : ℕ) → add_w a b ≡ add_w b a
unfolding add_w
add_w_comm a b = ap (λ n. n % W) (add_comm a b)

pub mul_w_comm : (a b : ℕ) → mul_w a b ≡ mul_w b a
unfolding mul_w
mul_w_comm a b = ap (λ n. n % W) (mul_comm a b)

-- ---- 0, 1 and 2 as operands; on the other side by commutativity
pub add_w_zero : (w : ℕ) → w < W → add_w w 0 ≡ w
unfolding add_w
add_w_zero w h = omega arith

pub mul_w_zero : (w : ℕ) → mul_w w 0 ≡ 0
unfolding mul_w
mul_w_zero w = omega arith

pub mul_w_one : (w : ℕ) → w < W → mul_w w 1 ≡ w
unfolding mul_w
mul_w_one w h = omega arith

pub mul_w_two : (w : ℕ) → mul_w w 2 ≡ add_w w w
unfolding mul_w add_w
mul_w_two w = ap (λ n. n % W) (omega arith)
