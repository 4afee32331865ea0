-- "record bytes in base sixteen": bytes written as the worked examples of document 01 write them.
use Rattle.std.specs.Prelude.{ℕ, ◌+◌, ◌*◌, ◌-◌, cond, List, [], ◌∷◌, leb, eqb}
use Prim.Native.Char.{Char, code}
use Prim.Native.String.{String, [] as []ˢ, ◌∷◌ as ◌∷ˢ◌}
use Rattle.std.proofs.Math.Option.{Option, none, some}

-- 0 to 9 and A to F
unfoldable pub digit_value : Char → ℕ
digit_value c = cond (leb (code c) 0x39) (code c - 0x30) (code c - 0x37)

-- the bytes of a text, spaces skipped; the first digit of a byte begun
unfoldable pub bytes_from : Option ℕ → String → List ℕ
bytes_from d []ˢ = []
bytes_from none (c ∷ˢ s) = cond (eqb (code c) 0x20) (bytes_from none s) (bytes_from (some (digit_value c)) s)
bytes_from (some d) (c ∷ˢ s) = (d * 16 + digit_value c) ∷ bytes_from none s

unfoldable pub hex : String → List ℕ
hex s = bytes_from none s
