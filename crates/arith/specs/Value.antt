-- Types and values. A type is its byte in a record, and every value says which type it is of.
use Rattle.std.specs.Prelude.{ℕ, Bool, true, ◌&&◌, ◌||◌, T, ltb, leb, eqb}
use mathlib.Core.HLevel.{Discrete}
use Rattle.std.proofs.Math.Bool.{Bool-discrete}
use Rattle.std.proofs.Math.Decide.{ℕ_discrete}
use Rattle.arith.specs.Word.{W}

-- ---- types: "High half of the type: pointer depth 0 to 15. Low half: 0 int, 1 bool, 2 float, 3 char"
abbrev pub tint : ℕ
tint = 0x00

abbrev pub tbool : ℕ
tbool = 0x01

abbrev pub tfloat : ℕ
tfloat = 0x02

abbrev pub tchar : ℕ
tchar = 0x03

abbrev pub is_pointer : ℕ → Bool
is_pointer t = leb 0x10 t

-- ---- values
-- int: its word. float: its bits. literal: an int literal in a float, the value "that literal". char: a Unicode scalar value.
-- pointer: its type, a base and an offset
pub data Val : Type 0 where
  int float literal char : ℕ → Val
  bool : Bool → Val
  pointer : ℕ → ℕ → ℕ → Val
  deriving Discrete as Val-discrete'

abbrev pub Val-discrete : Discrete Val
Val-discrete = Val-discrete' ℕ_discrete Bool-discrete

unfoldable pub type_of : Val → ℕ
type_of (int w) = tint
type_of (float b) = tfloat
type_of (literal w) = tfloat
type_of (char c) = tchar
type_of (bool b) = tbool
type_of (pointer t b o) = t

abbrev pub scalar : ℕ → Bool
scalar c = ltb c 0xD800 || (leb 0xE000 c && leb c 0x10FFFF)

unfoldable pub in_range : Val → Bool
in_range (int w) = ltb w W
in_range (float b) = ltb b W
in_range (literal w) = ltb w W
in_range (char c) = scalar c
in_range (bool b) = true
in_range (pointer t b o) = is_pointer t && (ltb b W && ltb o W)

-- "a value of its type"
abbrev pub has_type : ℕ → Val → Bool
has_type t v = eqb (type_of v) t && in_range v

abbrev pub HasType : ℕ → Val → Type 0
HasType t v = T (has_type t v)
