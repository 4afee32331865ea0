-- Writing over a list, as a store over each place: past the end nothing is stored.
use Rattle.std.specs.Prelude.{ℕ, ◌+◌, List, [], ◌∷◌, ◌≡◌, ◌⊎◌, length, set}

-- l with vs over what it has from i on
unfoldable pub put : List ℕ → ℕ → List ℕ → List ℕ
put l i [] = l
put l i (v ∷ vs) = put (set l i v) (i + 1) vs

-- l with bs written from i on is m, and p is the place behind them
pub record Wrote (l m : List ℕ) (i p : ℕ) (bs : List ℕ) : Type 0 where
  pub out : m ≡ put l i bs
  pub end : p ≡ i + length bs

-- the widths of an id
abbrev pub IdWidth : ℕ → Type 0
IdWidth w = (w ≡ 4) ⊎ (w ≡ 8)

-- the longest text from which a made name's is written: with what is added, its length still has one byte
abbrev pub longest_text : ℕ
longest_text = 200

-- no rewriting makes more names: 64 blocks of 256 instructions
abbrev pub most_made : ℕ
most_made = 16384

-- no number of 64 bits has more decimal digits
abbrev pub most_digits : ℕ
most_digits = 20
