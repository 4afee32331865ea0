-- The numbers that a block can still need: the next number, and one for each name that has none. And how long the maps can be.
use Rattle.std.specs.Prelude.{ℕ, zero, suc, ◌+◌, ◌<◌, ◌≤◌, List, [], ◌∷◌}
use Rattle.std.proofs.Math.Option.{Option, none, some}
use Rattle.record.specs.declared.NameIx.{NameIx}
use Rattle.record.specs.Record.{nm}
use Rattle.numbering.specs.declared.ValNum.{ValNum}
use Rattle.numbering.specs.State.{State}

-- names below m
abbrev pub Low : ℕ → List NameIx → Type 0
Low m [] = Unit {0}
Low m (x ∷ xs) = (x.0 < m) × Low m xs

abbrev pub gap : Option ValNum → ℕ
gap none = 1
gap (some v) = 0

-- how many of the names below m have no number
unfoldable pub free : ℕ → (NameIx → Option ValNum) → ℕ
free zero f = 0
free (suc m) f = gap (f (nm m)) + free m f

-- with m names
unfoldable pub room : ℕ → State → ℕ
room m s = s.next + free m s.env

-- 65535, which stands for none, is past the end of both maps: the numbers of names and the homes of numbers
pub record Maps (m n : ℕ) : Type 0 where
  pub names : m ≤ 65535
  pub numbers : n ≤ 65535
