-- "add, sub, mul modulo 2^64, signed; div truncates (-7 by 2 is -3)", and "overflow in arithmetic follows two's complement, division
-- included" (document 02, Point 4): the one arithmetic on ints, which folding and the machine share.
-- An int is its word: a number below 2^64, in two's complement.
use Rattle.std.specs.Prelude.{ℕ, ◌+◌, ◌*◌, ◌-◌, ◌/◌, ◌%◌, Bool, not, cond, ltb, leb}
use Rattle.std.proofs.Math.Bool.{xor}

-- how many words there are, 2^64
abbrev pub W : ℕ
W = 0x1_0000_0000_0000_0000

-- the word of -2^63, the least int
abbrev pub least : ℕ
least = 0x8000_0000_0000_0000

-- the word of -1
abbrev pub minus_one : ℕ
minus_one = 0xFFFF_FFFF_FFFF_FFFF

unfoldable pub add_w : ℕ → ℕ → ℕ
add_w a b = (a + b) % W

unfoldable pub sub_w : ℕ → ℕ → ℕ
sub_w a b = (a + (W - b)) % W

unfoldable pub mul_w : ℕ → ℕ → ℕ
mul_w a b = a * b % W

abbrev pub negative : ℕ → Bool
negative a = leb least a

-- the size of an int; that of -2^63 is 2^63
abbrev pub size : ℕ → ℕ
size a = cond (negative a) (W - a) a

-- the quotient of the sizes, with its sign, modulo 2^64: that of -2^63 by -1, which is 2^63, is -2^63; the divisor is not 0
unfoldable pub div_w : ℕ → ℕ → ℕ
unfolding xor
div_w a b = let q = size a / size b in cond (xor (negative a) (negative b)) ((W - q) % W) (q % W)

-- a < b as signed ints: 2^63 more makes it the order of numbers
unfoldable pub lt_w : ℕ → ℕ → Bool
lt_w a b = ltb ((a + least) % W) ((b + least) % W)

abbrev pub le_w : ℕ → ℕ → Bool
le_w a b = not (lt_w b a)
