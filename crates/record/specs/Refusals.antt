-- Records of every kind of fault with the refusal of each, and the accepted ones next to them, computed over the definitions.
use Rattle.std.specs.Prelude.{ℕ, ◌≡◌, refl, Bool, not, ◌&&◌, List, [], ◌∷◌, ◌++◌, map, length, eqb}
use Prim.Native.String.{String}
use Rattle.record.specs.Answer.{Returned, check_answer, checked}
use Rattle.record.specs.Hex.{hex}
use Rattle.record.specs.Tables.{keep}
use Rattle.record.specs.Text.{same_bytes}
use Rattle.record.specs.Write.{be}
use Rattle.record.specs.Opened.{all_of_record}

-- the answer of check, and its number and offset
abbrev pub accepted : Returned
accepted = record { number = 0; values = [] }

abbrev pub refused : ℕ → ℕ → Returned
refused k o = record { number = k; values = o ∷ [] }

-- what check says of a record, of which all that follows L is written
abbrev pub says : List ℕ → Returned
says s = check_answer (checked s)

abbrev pub with_length : List ℕ → List ℕ
with_length s = be 4 (length s) ++ s

-- the items of which check does not say the answer a
abbrev pub same_answer : Returned → Returned → Bool
same_answer r a = eqb r.number a.number && same_bytes r.values a.values

abbrev pub otherwise : {A : Type 0} → (A → Returned) → Returned → List A → List A
otherwise f a xs = keep (λ x. not (same_answer (f x) a)) xs

-- what follows L, and the answer; rows that begin alike
abbrev pub Row : Type 0
Row = List ℕ × Returned

abbrev pub behind : String → List (String × Returned) → List Row
behind s rows = map (λ r. (hex s ++ hex r.0, r.1)) rows

-- fields in order: past the end, and of a value that they cannot have
abbrev pub front : List Row
front =
    -- L right and nothing behind it; version 0 and 3; A 17, refused before N is looked for; N with one byte left; A above N, at N
    behind "" (
    ("", refused 1 4) ∷ ("00", refused 2 4) ∷ ("03", refused 2 4) ∷ ("01", refused 1 5) ∷ ("01 11", refused 3 5) ∷
    ("01 00 00", refused 1 6) ∷ ("01 00 0101", refused 3 6) ∷ ("01 01 0000", refused 3 6) ∷ []) ++
    -- types, lengths and texts: one past the end, at its first byte; one that is malformed
    (behind "01 00 0001" (
    ("", refused 1 8) ∷ ("04", refused 3 8) ∷ ("F3", refused 1 9) ∷ ("00 00", refused 3 9) ∷ ("00 21", refused 3 9) ∷
    ("00 02 61", refused 1 10) ∷ ("00 02 3161", refused 4 10) ∷ ("00 02 6120", refused 4 10) ∷ []) ++
    -- a text twice; blocks, a byte left over, instructions, saves, an id; jmp before the last place, before its argument count is looked for
    behind "01 00" (
    ("0002 00 01 61 02 01 61", refused 4 13) ∷ ("0000", refused 1 8) ∷ ("0000 0041", refused 3 8) ∷ ("0000 0000", accepted) ∷
    ("0000 0000 00", refused 1 10) ∷ ("0000 0001 0101 0000", refused 3 10) ∷ ("0000 0001 0000", refused 1 12) ∷
    ("0000 0001 0000 0001", refused 3 12) ∷ ("0000 0001 0001 0000 000000", refused 1 14) ∷
    ("0000 0001 0002 0000 00000007 40", refused 8 18) ∷ []))

-- one instruction, in one block
abbrev pub instructions : List Row
instructions =
    -- phi; a code that is unknown; nop, jmp, ret, print, call
    behind "01 00 0000 0001 0001 0000 00000007" (
    ("", refused 1 18) ∷ ("27", refused 1 19) ∷ ("28", refused 5 18) ∷ ("45", refused 1 19) ∷ ("45 01", refused 3 19) ∷ ("45 00", accepted) ∷
    ("40 00 0001", refused 6 20) ∷ ("40 00 0000", accepted) ∷ ("42 02", refused 3 19) ∷ ("44 09", refused 3 19) ∷
    ("43 00 FFFF", accepted) ∷ []) ++
    -- an int x: const, add, eq, br
    (behind "01 00 0001 00 01 78 0001 0001 0000 00000007" (
    ("00 0001", refused 6 22) ∷ ("00 0000 04", refused 3 24) ∷ ("00 0000 00 00", refused 1 25) ∷
    ("00 0000 01 0000000000000002", refused 3 25) ∷ ("00 0000 03 000000000000D800", refused 3 25) ∷
    ("00 0000 03 0000000000110000", refused 3 25) ∷ ("00 0000 02 0000000000000000", refused 7 17) ∷
    ("00 0000 02 0000000000000000 00", refused 1 33) ∷ ("00 0000 00 0000000000000000", accepted) ∷
    ("01 0000 02 0000 0001", refused 6 27) ∷ ("05 0000 02 0000 0000", refused 7 17) ∷
    ("41 01 0000 0000 0001", refused 6 27) ∷ ("41 01 0000 0000 0000", refused 7 17) ∷ []) ++
    -- p ptr<int>, x int: load, ptradd, alloc, store, free, const
    behind "01 00 0002 10 01 70 00 01 78 0001 0001 0000 00000007" (
    ("26 0001 01 0000", accepted) ∷ ("26 0001 01 0001", refused 7 20) ∷ ("0E 0000 02 0001 0000", refused 7 20) ∷
    ("0E 0000 02 0000 0001", accepted) ∷ ("25 0000 01 0001", accepted) ∷ ("25 0001 01 0001", refused 7 20) ∷
    ("46 02 0000 0001", accepted) ∷ ("46 02 0000 0000", refused 7 20) ∷ ("47 01 0001", refused 7 20) ∷
    ("00 0000 00 0000000000000000", refused 7 20) ∷ []))

-- _x_lvn0, ___lvn0, _x_lvn00, _lvn0_lvn0; __lvn0, _lvn0, x_lvn0, _x_lvn, ., and one of 32 bytes
abbrev pub texts : List Row
texts =
    behind "01 00 0001 00" (
    ("07 5F785F6C766E30 0000", refused 4 10) ∷ ("07 5F5F5F6C766E30 0000", refused 4 10) ∷
    ("08 5F785F6C766E3030 0000", refused 4 10) ∷ ("0A 5F6C766E305F6C766E30 0000", refused 4 10) ∷
    ("06 5F5F6C766E30 0000", accepted) ∷ ("05 5F6C766E30 0000", accepted) ∷ ("06 785F6C766E30 0000", accepted) ∷
    ("06 5F785F6C766E 0000", accepted) ∷ ("01 2E 0000", accepted) ∷
    ("20 7878787878787878787878787878787878787878787878787878787878787878 0000", accepted) ∷ [])

-- the fields behind an id of eight bytes, in a record of version 2
abbrev pub wider : List Row
wider =
    behind "02" (
    ("", refused 1 5) ∷ ("00 0000 0001 0001 0000 00000000000000", refused 1 14) ∷ ("00 0000 0001 0002 0000 0000000000000007 40", refused 8 22) ∷ []) ++
    (behind "02 00 0000 0001 0001 0000 FFFFFFFFFFFFFFFF" (
    ("", refused 1 22) ∷ ("27", refused 1 23) ∷ ("28", refused 5 22) ∷ ("45 01", refused 3 23) ∷ ("45 00", accepted) ∷
    ("40 00 0001", refused 6 24) ∷ ("42 02", refused 3 23) ∷ ("43 00 FFFF", accepted) ∷ []) ++
    behind "02 00 0001 00 01 78 0001 0001 0000 0000000000000007" (
    ("00 0001", refused 6 26) ∷ ("00 0000 04", refused 3 28) ∷ ("00 0000 01 0000000000000002", refused 3 29) ∷
    ("00 0000 02 0000000000000000", refused 7 17) ∷ ("00 0000 02 0000000000000000 00", refused 1 37) ∷
    ("00 0000 00 0000000000000000", accepted) ∷ ("01 0000 02 0000 0001", refused 6 31) ∷ ("41 01 0000 0000 0001", refused 6 31) ∷ []))

abbrev pub rows : List Row
rows = front ++ (instructions ++ (texts ++ wider))

pub refusals : map (λ r. says (with_length r.0)) rows ≡ map (λ r. r.1) rows
unfolding all_of_record
refusals = refl

-- fewer than four bytes, and L that is not the rest, whatever stands behind it
pub first_refusals :
    map (λ s. says (hex s))
    ("" ∷ "00" ∷ "0000" ∷ "000000" ∷
    "00000007 01 00 0000 0000" ∷ "00000005 01 00 0000 0000" ∷ "01000006 01 00 0000 0000" ∷ "00000002 02" ∷ []) ≡
    refused 1 0 ∷ refused 1 0 ∷ refused 1 0 ∷ refused 1 0 ∷ refused 1 0 ∷ refused 1 0 ∷ refused 1 0 ∷ refused 1 0 ∷ []
unfolding all_of_record
first_refusals = refl
