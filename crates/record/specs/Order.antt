-- Which fault comes first: a record cut at each byte, one that is wrong from each field on, faults side by side, and types in one block and in two.
use Rattle.std.specs.Prelude.{ℕ, ◌+◌, ◌-◌, ◌≡◌, refl, length, take, replicate}
use Prim.Native.String.{String}
use mathlib.Core.List.{List, [], ◌∷◌, ◌++◌, map, flat_map}
use Rattle.record.specs.Answer.{Returned}
use Rattle.record.specs.Hex.{hex}
use Rattle.record.specs.Write.{be}
use Rattle.record.specs.Refusals.{accepted, refused, says, with_length, otherwise, Row, behind}
use Rattle.record.specs.Tables.{count, keep}
use Rattle.record.specs.Opened.{all_of_record}

-- ---- every field of a record: a int, c bool, d char; d = 'A'; a = add a a; a = call 7 (c); br c to block 0 or 1; call 7 ()
-- each with the answer where it and all behind it is FF. An id and a callee may be that: then the next code is refused
abbrev pub fields : List (String × Returned)
fields =
    ("01", refused 2 4) ∷ ("01", refused 3 5) ∷ ("0003", refused 3 6) ∷
    ("00", refused 3 8) ∷ ("01", refused 3 9) ∷ ("61", refused 4 10) ∷
    ("01", refused 3 11) ∷ ("01", refused 3 12) ∷ ("63", refused 4 13) ∷
    ("03", refused 3 14) ∷ ("01", refused 3 15) ∷ ("64", refused 4 16) ∷
    ("0002", refused 3 17) ∷
    ("0004", refused 3 19) ∷ ("0000", refused 3 21) ∷
    ("00000001", refused 5 27) ∷ ("00", refused 5 27) ∷ ("0002", refused 6 28) ∷ ("03", refused 3 30) ∷ ("0000000000000041", refused 3 31) ∷
    ("00000002", refused 5 43) ∷ ("01", refused 5 43) ∷ ("0000", refused 6 44) ∷ ("02", refused 3 46) ∷ ("0000", refused 6 47) ∷ ("0000", refused 6 49) ∷
    ("00000003", refused 5 55) ∷ ("14", refused 5 55) ∷ ("0000", refused 6 56) ∷ ("01", refused 3 58) ∷ ("0001", refused 6 59) ∷ ("0007", refused 5 67) ∷
    ("00000004", refused 5 67) ∷ ("41", refused 5 67) ∷ ("01", refused 3 68) ∷ ("0001", refused 6 69) ∷ ("0000", refused 6 71) ∷ ("0001", refused 6 73) ∷
    ("0001", refused 3 75) ∷ ("0000", refused 3 77) ∷
    ("00000005", refused 5 83) ∷ ("43", refused 5 83) ∷ ("00", refused 3 84) ∷ ("0007", accepted) ∷
    []

-- the same in version 2
abbrev pub wide_fields : List (String × Returned)
wide_fields =
    ("02", refused 2 4) ∷ ("01", refused 3 5) ∷ ("0003", refused 3 6) ∷
    ("00", refused 3 8) ∷ ("01", refused 3 9) ∷ ("61", refused 4 10) ∷
    ("01", refused 3 11) ∷ ("01", refused 3 12) ∷ ("63", refused 4 13) ∷
    ("03", refused 3 14) ∷ ("01", refused 3 15) ∷ ("64", refused 4 16) ∷
    ("0002", refused 3 17) ∷
    ("0004", refused 3 19) ∷ ("0000", refused 3 21) ∷
    ("0000000000000001", refused 5 31) ∷ ("00", refused 5 31) ∷ ("0002", refused 6 32) ∷ ("03", refused 3 34) ∷ ("0000000000000041", refused 3 35) ∷
    ("0000000000000002", refused 5 51) ∷ ("01", refused 5 51) ∷ ("0000", refused 6 52) ∷ ("02", refused 3 54) ∷ ("0000", refused 6 55) ∷ ("0000", refused 6 57) ∷
    ("0000000000000003", refused 5 67) ∷ ("14", refused 5 67) ∷ ("0000", refused 6 68) ∷ ("01", refused 3 70) ∷ ("0001", refused 6 71) ∷ ("0007", refused 5 83) ∷
    ("0000000000000004", refused 5 83) ∷ ("41", refused 5 83) ∷ ("01", refused 3 84) ∷ ("0001", refused 6 85) ∷ ("0000", refused 6 87) ∷ ("0001", refused 6 89) ∷
    ("0001", refused 3 91) ∷ ("0000", refused 3 93) ∷
    ("0000000000000005", refused 5 103) ∷ ("43", refused 5 103) ∷ ("00", refused 3 104) ∷ ("0007", accepted) ∷
    []

-- behind s: the cuts within the next fields that are not refused with 1 at their field
unfoldable pub cuts : List ℕ → List (List ℕ) → List ℕ
cuts s [] = []
cuts s (x ∷ xs) = otherwise (λ k. says (with_length (s ++ take k x))) (refused 1 (4 + length s)) (count 0 (length x)) ++ cuts (s ++ x) xs

-- behind s, in a record of n bytes behind L: the answers where each of the next fields and all behind it is FF
unfoldable pub filled : ℕ → List ℕ → List (List ℕ) → List Returned
filled n s [] = []
filled n s (x ∷ xs) = says (with_length (s ++ replicate (n - length s) 0xFF)) ∷ filled n (s ++ x) xs

pub cut_short : cuts [] (map (λ f. hex f.0) fields) ++ cuts [] (map (λ f. hex f.0) wide_fields) ≡ []
unfolding all_of_record flat_map count keep cuts
cut_short = refl

pub wrong_from : says (with_length (flat_map (λ f. hex f.0) fields)) ∷ filled 83 [] (map (λ f. hex f.0) fields) ≡ accepted ∷ map (λ f. f.1) fields
unfolding all_of_record flat_map count keep filled
wrong_from = refl

pub wide_wrong_from :
    says (with_length (flat_map (λ f. hex f.0) wide_fields)) ∷ filled 103 [] (map (λ f. hex f.0) wide_fields) ≡
    accepted ∷ map (λ f. f.1) wide_fields
unfolding all_of_record flat_map count keep filled
wide_wrong_from = refl

-- ---- faults side by side; all that follows L is written
abbrev pub rows : List Row
rows =
    -- version 0; A of 17 before N is too great; N too great, and below A
    behind "" (("00", refused 2 4) ∷ ("01 11 FFFF", refused 3 5) ∷ ("01 10 0101", refused 3 6) ∷ []) ++
    (behind "01 00" (
    -- a text past the end, malformed too; a wrong type before a wrong length
    ("0001 00 02 20", refused 1 10) ∷ ("0001 04 00", refused 3 8) ∷
    -- a text used before, by the first name or by a later one; texts that differ by a capital, by their length, by their last byte
    ("0003 00 01 61 00 01 62 00 01 61 0000", refused 4 16) ∷ ("0003 00 01 61 00 01 62 00 01 62 0000", refused 4 16) ∷
    ("0005 00 01 61 00 01 41 00 02 6161 00 02 6162 00 03 616161 0000", accepted) ∷
    -- n too great, with nothing behind it or with wrong saves; saves of 256
    ("0000 0001 0101", refused 3 10) ∷ ("0000 0001 0101 0001", refused 3 10) ∷ ("0000 0001 0000 0100", refused 3 12) ∷
    -- an id of all bits; unknown codes, in the last place and before it
    ("0000 0001 0001 0000 FFFFFFFF 45 00", accepted) ∷
    ("0000 0001 0001 0000 00000007 0F", refused 5 18) ∷ ("0000 0001 0002 0000 00000007 48", refused 5 18) ∷
    -- br and ret before the last place, with wrong arguments or none; ret there, and nothing else in the block
    ("0000 0001 0002 0000 00000007 41 02", refused 8 18) ∷ ("0000 0001 0002 0000 00000007 42", refused 8 18) ∷
    ("0000 0001 0003 0000 00000007 45 00 00000008 42 00 00000009 45 00", refused 8 24) ∷
    ("0000 0002 0001 0000 00000007 42 00 0001 0000 00000008 42 00", accepted) ∷
    -- call, print, nop before the last place, and in it
    ("0000 0001 0004 0000 00000007 43 00 0000 00000007 44 00 00000007 45 00 00000007 44 00", accepted) ∷
    -- a block number is not in the record also by its high byte
    ("0000 0001 0001 0000 00000007 40 00 0100", refused 6 20) ∷
    -- br's first block before its second, and its argument before both
    ("0001 01 01 78 0001 0001 0000 00000007 41 01 0000 0001 0001", refused 6 25) ∷
    ("0001 01 01 78 0001 0001 0000 00000007 41 01 0001 0001 0001", refused 6 23) ∷ []) ++
    -- an int x
    (behind "01 00 0001 00 01 78 0001" (
    -- a name is not in the record also by its high byte
    ("0001 0000 00000007 00 0100 00 0000000000000000", refused 6 22) ∷
    -- the first argument before the second, which is past the end; dest before a wrong count; jmp's count before its block
    ("0001 0000 00000007 01 0000 02 0001", refused 6 25) ∷ ("0001 0000 00000007 01 0001 03", refused 6 22) ∷
    ("0001 0000 00000007 40 01 0005", refused 3 22) ∷
    -- a float in x: second of two, both of them; behind it a terminator before the last place
    ("0002 0000 00000001 00 0000 00 0000000000000000 00000002 00 0000 02 0000000000000000", refused 7 33) ∷
    ("0002 0000 00000001 00 0000 02 0000000000000000 00000002 00 0000 02 0000000000000000", refused 7 17) ∷
    ("0003 0000 00000001 00 0000 02 0000000000000000 00000002 42", refused 8 37) ∷ []) ++
    -- in the second of two blocks, in both of them
    (behind "01 00 0001 00 01 78 0002 0001 0000 00000001 00 0000" (
    ("00 0000000000000000 0001 0000 00000002 00 0000 02 0000000000000000", refused 7 37) ∷
    ("02 0000000000000000 0001 0000 00000002 00 0000 02 0000000000000000", refused 7 17) ∷
    -- behind it in the next block an unknown code, a name, a limit, or a field past the end
    ("02 0000000000000000 0001 0000 00000002 28", refused 5 41) ∷ ("02 0000000000000000 0001 0000 00000002 44 01 0001", refused 6 43) ∷
    ("02 0000000000000000 0101 0000", refused 3 33) ∷ ("02 0000000000000000 0000", refused 1 35) ∷ []))))

-- ---- "call, print, ret any type": names of eight types, each given by a call of all of them; call and print of all; ret of each
abbrev pub each_index : (ℕ → List ℕ) → List ℕ
each_index f = flat_map f (count 0 8)

abbrev pub all_eight : List ℕ
all_eight = 8 ∷ each_index (be 2)

abbrev pub any_type : List ℕ
any_type =
    hex "01 08 0008 000161 010162 020163 030164 100165 130166 F00167 F30168 0009 000A 0000" ++
    (each_index (λ i. hex "00000001 14" ++ (be 2 i ++ (all_eight ++ hex "0003"))) ++
    (hex "00000002 43" ++ (all_eight ++ hex "0003 00000003 44") ++
    (all_eight ++ each_index (λ i. hex "0001 0000 00000004 42 01" ++ be 2 i))))

pub side_by_side : says (with_length any_type) ∷ map (λ r. says (with_length r.0)) rows ≡ accepted ∷ map (λ r. r.1) rows
unfolding all_of_record flat_map count keep
side_by_side = refl
