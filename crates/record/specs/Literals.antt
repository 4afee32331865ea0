-- Literals by example: which bits each kind has, and which types each kind fits.
use Rattle.std.specs.Prelude.{ℕ, ◌≡◌, refl}
use Prim.Native.String.{String}
use mathlib.Core.List.{List, [], ◌∷◌, ◌++◌, map, flat_map}
use Rattle.record.specs.Answer.{Returned}
use Rattle.record.specs.Hex.{hex}
use Rattle.record.specs.Refusals.{accepted, refused, says, with_length, otherwise}
use Rattle.record.specs.Tables.{count, keep}
use Rattle.record.specs.Letters.{bytes_for}
use Rattle.record.specs.Opened.{all_of_record}

-- a record with one name, of this type, which is given a literal of this kind
abbrev pub given : ℕ → ℕ → String → Returned
given type kind bits =
    says (with_length (hex "01 00 0001" ++ (type ∷ hex "01 78 0001 0001 0000 00000007 00 0000") ++ (kind ∷ hex bits)))

-- a type, a kind, the answer, and bits that have it
abbrev pub rows : List (ℕ × ℕ × Returned × List String)
rows =
    -- an int has all bits, in an int and in a float
    (0x00, 0, accepted, "0000000000000000" ∷ "7FFFFFFFFFFFFFFF" ∷ "8000000000000000" ∷ "FFFFFFFFFFFFFFFF" ∷ []) ∷
    (0x02, 0, accepted, "0000000000000000" ∷ "7FFFFFFFFFFFFFFF" ∷ "8000000000000000" ∷ "FFFFFFFFFFFFFFFF" ∷ []) ∷
    (0x01, 1, accepted, "0000000000000000" ∷ "0000000000000001" ∷ []) ∷
    (0x01, 1, refused 3 25, "0000000000000002" ∷ "00000000000000FF" ∷ "0000000000000100" ∷ "0000000000000101" ∷ []) ∷
    (0x01, 1, refused 3 25, "0000000100000001" ∷ "0100000000000000" ∷ "8000000000000000" ∷ "8000000000000001" ∷ "FFFFFFFFFFFFFFFF" ∷ []) ∷
    -- a float has all bits: -0, infinite, and NaNs down to one bit and up to all
    (0x02, 2, accepted, "0000000000000000" ∷ "8000000000000000" ∷ "7FF0000000000000" ∷ []) ∷
    (0x02, 2, accepted, "7FF0000000000001" ∷ "7FF8000000000000" ∷ "FFFFFFFFFFFFFFFF" ∷ []) ∷
    -- a char is below D800, or from E000 to 10FFFF
    (0x03, 3, accepted, "0000000000000000" ∷ "0000000000000041" ∷ "000000000000D7FF" ∷ []) ∷
    (0x03, 3, refused 3 25, "000000000000D800" ∷ "000000000000DBFF" ∷ "000000000000DC00" ∷ "000000000000DFFF" ∷ []) ∷
    (0x03, 3, accepted, "000000000000E000" ∷ "000000000000FFFF" ∷ "0000000000010000" ∷ "000000000010FFFF" ∷ []) ∷
    (0x03, 3, refused 3 25, "0000000000110000" ∷ "0000000001000041" ∷ "0000000100000041" ∷ []) ∷
    (0x03, 3, refused 3 25, "0100000000000041" ∷ "8000000000000041" ∷ "FFFFFFFFFFFFFFFF" ∷ []) ∷
    -- not of its kind, before its type is looked at: in an int, in a pointer
    (0x00, 1, refused 3 25, "0000000000000002" ∷ []) ∷
    (0x13, 3, refused 3 25, "000000000000D800" ∷ []) ∷
    -- an unknown kind, at the kind, before the literal is looked for
    (0x00, 4, refused 3 24, "0000000000000000" ∷ "" ∷ []) ∷
    (0x00, 255, refused 3 24, "0000000000000000" ∷ "" ∷ []) ∷
    (0x00, 3, refused 1 25, "00000000000000" ∷ "" ∷ []) ∷
    []

-- no literal fits a pointer
abbrev pub in_pointers : List (ℕ × ℕ × Returned × List String)
in_pointers =
    flat_map (λ type. map (λ kind. (type, kind, refused 7 17, "0000000000000001" ∷ [])) (count 0 4)) (hex "10 11 12 13 F0 F1 F2 F3")

pub literals_tell : flat_map (λ r. otherwise (given r.0 r.1) r.2 r.3) (rows ++ in_pointers) ≡ []
unfolding all_of_record flat_map count keep
literals_tell = refl

-- the types, of all bytes, that a literal of each kind fits
pub types_of_literals :
    map (λ kind. bytes_for (λ type. given type kind "0000000000000001")) (count 0 5) ≡ hex "00 02" ∷ hex "01" ∷ hex "02" ∷ hex "03" ∷ [] ∷ []
unfolding all_of_record flat_map count keep
types_of_literals = refl
