-- Texts and type bytes by example: every byte that each may have, and the texts that are reserved, with those that are nearly so.
use Rattle.std.specs.Prelude.{ℕ, suc, ◌≡◌, refl, Bool, ◌&&◌, List, [], ◌∷◌, ◌++◌, map, length, take, drop, eqb}
use Prim.Native.Char.{code}
use Prim.Native.String.{String, [] as []ˢ, ◌∷◌ as ◌∷ˢ◌}
use Rattle.record.specs.Answer.{Returned}
use Rattle.record.specs.Hex.{hex}
use Rattle.record.specs.Text.{all_text, well_formed, undigited, reserved}
use Rattle.record.specs.Refusals.{accepted, refused, says, with_length, otherwise}
use Rattle.record.specs.Tables.{count, keep}
use Rattle.record.specs.Opened.{all_of_record}

-- a text as its bytes
unfoldable pub spelled : String → List ℕ
spelled []ˢ = []
spelled (c ∷ˢ s) = code c ∷ spelled s

-- a record of one name, with this type and text
abbrev pub named : ℕ → List ℕ → Returned
named type t = says (with_length (hex "01 00 0001" ++ (type ∷ length t ∷ t) ++ hex "0000"))

abbrev pub passes : Returned → Bool
passes r = eqb r.number 0

-- the bytes for which a record is accepted
abbrev pub bytes_for : (ℕ → Returned) → List ℕ
bytes_for f = keep (λ b. passes (f b)) (count 0 256)

-- of a text's first byte, of a later one, and of a type
pub bytes_accepted :
    bytes_for (λ b. named 0 (b ∷ [])) ∷ bytes_for (λ b. named 0 (0x61 ∷ b ∷ 0x61 ∷ [])) ∷ bytes_for (λ b. named b (0x61 ∷ [])) ∷ [] ≡
    spelled ".ABCDEFGHIJKLMNOPQRSTUVWXYZ_abcdefghijklmnopqrstuvwxyz" ∷
    spelled ".0123456789ABCDEFGHIJKLMNOPQRSTUVWXYZ_abcdefghijklmnopqrstuvwxyz" ∷
    hex "00010203 10111213 20212223 30313233 40414243 50515253 60616263 70717273 80818283 90919293 A0A1A2A3 B0B1B2B3 C0C1C2C3 D0D1D2D3 E0E1E2E3 F0F1F2F3" ∷
    []
unfolding all_of_record count keep spelled
bytes_accepted = refl

-- ---- reserved texts
-- a text with another byte at place p, and the bytes there with which it is well-formed and reserved
abbrev pub changed : List ℕ → ℕ → ℕ → List ℕ
changed t p b = take p t ++ (b ∷ drop (suc p) t)

abbrev pub reserved_with : List ℕ → ℕ → List ℕ
reserved_with t p = keep (λ b. well_formed (changed t p b) && reserved (changed t p b)) (count 0 256)

-- at each place of _x_lvn0
pub reserved_bytes :
    map (reserved_with (spelled "_x_lvn0")) (count 0 7) ≡
    map spelled
    ("_" ∷
    ".0123456789ABCDEFGHIJKLMNOPQRSTUVWXYZ_abcdefghijklmnopqrstuvwxyz" ∷
    "_" ∷ "l" ∷ "v" ∷ "n" ∷
    "0123456789" ∷
    [])
unfolding well_formed all_text reserved undigited spelled count keep
reserved_bytes = refl

-- reserved, whatever stands in the middle and whichever digits close it
abbrev pub reserved_texts : List String
reserved_texts =
    "_x_lvn0" ∷ "___lvn0" ∷ "_._lvn0" ∷ "_7_lvn0" ∷ "_x_lvn00" ∷ "_x_lvn9" ∷ "_x_lvn0123456789" ∷ "_x_lvn1000" ∷
    "_lvn_lvn0" ∷ "_lvn0_lvn0" ∷ "__lvn_lvn0" ∷ "_x__lvn0" ∷ "_x.y_lvn1" ∷ "_x_y_lvn12" ∷ "_Zz9_lvn3" ∷
    "_abcdefghijklmnopqrstuvwxyz_lvn0" ∷ "_x_lvn01234567890123456789012345" ∷ []

-- one byte more, less or other, and they pass
abbrev pub nearly_reserved : List String
nearly_reserved =
    "__lvn0" ∷ "_lvn0" ∷ "x_lvn0" ∷ "_x_lvn" ∷ "__lvn00" ∷ "_lvn00" ∷ "__lvn0000" ∷ "_x_lvm0" ∷ "_x_lvo0" ∷ "_x_lwn0" ∷ "_x_lun0" ∷ "_x_kvn0" ∷
    "_x_mvn0" ∷ "_xXlvn0" ∷ "_x.lvn0" ∷ "_xlvn0" ∷ "_x_vn0" ∷ "_x_ln0" ∷ "_x_lv0" ∷ "Ax_lvn0" ∷ "xx_lvn0" ∷ ".x_lvn0" ∷ "_x_LVN0" ∷ "_x_lVn0" ∷
    "_x_lvn0a" ∷ "_x_lvn0_" ∷ "_x_lvn0." ∷ "_x_lvn0x1" ∷ "_x_lvn_0" ∷ "_x_lvn.0" ∷ "_x_lvnn0" ∷ "_x_lvn0_lvn" ∷ "_x_nvl0" ∷ "x_x_lvn0" ∷
    "_0" ∷ "_00000000" ∷ "_lvn" ∷ "_" ∷ "lvn0" ∷ []

pub reserved_or_nearly :
    otherwise (λ t. named 0 (spelled t)) (refused 4 10) reserved_texts ++ otherwise (λ t. named 0 (spelled t)) accepted nearly_reserved ≡ []
unfolding all_of_record count keep spelled
reserved_or_nearly = refl
