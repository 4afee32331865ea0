-- What it is to be the decimal digits of a number. `digits` (Made) gives them and no other list is them: `digits_are`, `digits_alone`
-- (numbering/proofs/Digits).
use Rattle.std.specs.Prelude.{ℕ, ◌+◌, ◌*◌, ◌-◌, ◌<◌, ◌≡◌, List, [], ◌∷◌, true, length, get_or}
use Rattle.record.specs.Text.{digit}

-- every byte of a list is a digit, 0x30 for 0 to 0x39 for 9
abbrev pub Digits : List ℕ → Type 0
Digits [] = Unit {0}
Digits (b ∷ t) = (digit b ≡ true) × Digits t

-- the value of digits in base ten, n standing before them
unfoldable pub decimal_after : ℕ → List ℕ → ℕ
decimal_after n [] = n
decimal_after n (b ∷ t) = decimal_after (n * 10 + (b - 0x30)) t

unfoldable pub decimal : List ℕ → ℕ
decimal t = decimal_after 0 t

-- t is the decimal digits of n (document 02, Point 3: "exactly its decimal digits")
pub record Decimal (n : ℕ) (t : List ℕ) : Type 0 where
  pub each : Digits t
  pub some : 0 < length t
  pub value : decimal t ≡ n
  -- "no leading zero but for 0 itself"
  pub leading : get_or t 0 0 ≡ 0x30 → t ≡ 0x30 ∷ []
