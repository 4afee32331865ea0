-- Point 5: "Code 39 becomes a value code: dest, argument count 0 to 8, arguments, then one block number per argument. Arguments have dest's
-- type." Records with phi: cut at each byte, wrong from each field on, with faults side by side, and every choice of types.
use Prim.Native.String.{String}
use Rattle.std.specs.Prelude.{◌≡◌, refl}
use mathlib.Core.List.{List, [], ◌∷◌, ◌++◌, map, flat_map}
use Rattle.record.specs.Short.{joins}
use Rattle.record.specs.Write.{instr_bytes}
use Rattle.record.specs.Answer.{Returned}
use Rattle.record.specs.Hex.{hex}
use Rattle.record.specs.Refusals.{accepted, refused, says, with_length, Row, behind}
use Rattle.record.specs.Limits.{given_args}
use Rattle.record.specs.Order.{cuts, filled}
use Rattle.record.specs.Depths.{depths}
use Rattle.record.specs.Tables.{count, numerals, each_first, choices, keep, types, values_over}
use Rattle.record.specs.Opened.{all_of_record}

-- ---- the bytes: all arguments, then all block numbers
pub phi_bytes :
    map (instr_bytes 4) (joins 7 2 [] ∷ joins 7 2 ((5, 1) ∷ []) ∷ joins 0x01020304 0x0102 ((3, 0) ∷ (0x0104, 63) ∷ (3, 0) ∷ []) ∷ []) ≡
    hex "00000007 27 0002 00" ∷
    hex "00000007 27 0002 01 0005 0001" ∷
    hex "01020304 27 0102 03 0003 0104 0003 0000 003F 0000" ∷
    []
unfolding all_of_record
phi_bytes = refl

-- ---- every field of a record: a int, x int, c bool; x = phi a x from blocks 0 and 1; jmp to block 1; c = phi
-- each with the answer where it and all behind it is FF. An id may be that: then the next code is refused
abbrev pub fields : List (String × Returned)
fields =
    ("01", refused 2 4) ∷ ("01", refused 3 5) ∷ ("0003", refused 3 6) ∷
    ("00", refused 3 8) ∷ ("01", refused 3 9) ∷ ("61", refused 4 10) ∷
    ("00", refused 3 11) ∷ ("01", refused 3 12) ∷ ("78", refused 4 13) ∷
    ("01", refused 3 14) ∷ ("01", refused 3 15) ∷ ("63", refused 4 16) ∷
    ("0002", refused 3 17) ∷
    ("0002", refused 3 19) ∷ ("0000", refused 3 21) ∷
    ("00000001", refused 5 27) ∷ ("27", refused 5 27) ∷ ("0001", refused 6 28) ∷ ("02", refused 3 30) ∷
    ("0000", refused 6 31) ∷ ("0001", refused 6 33) ∷ ("0000", refused 6 35) ∷ ("0001", refused 6 37) ∷
    ("00000002", refused 5 43) ∷ ("40", refused 5 43) ∷ ("00", refused 3 44) ∷ ("0001", refused 6 45) ∷
    ("0001", refused 3 47) ∷ ("0000", refused 3 49) ∷
    ("00000003", refused 5 55) ∷ ("27", refused 5 55) ∷ ("0002", refused 6 56) ∷ ("00", refused 3 58) ∷
    []

pub cut_short : cuts [] (map (λ f. hex f.0) fields) ≡ []
unfolding all_of_record flat_map count keep cuts
cut_short = refl

pub wrong_from : says (with_length (flat_map (λ f. hex f.0) fields)) ∷ filled 55 [] (map (λ f. hex f.0) fields) ≡ accepted ∷ map (λ f. f.1) fields
unfolding all_of_record flat_map count keep filled
wrong_from = refl

-- ---- faults side by side, in a record of x int and c bool and two blocks; the place is that of the first phi
abbrev pub rows : List Row
rows =
    behind "01 00 0002 00 01 78 01 01 63 0002 0001 0000 00000007 27" (
    -- dest, and before a count of nine; the count, before the arguments are looked for
    ("0002 09", refused 6 25) ∷ ("0000 09", refused 3 27) ∷ ("0000 FF", refused 3 27) ∷
    -- an argument past the end; one that is not in the record, before the next and before the block numbers
    ("0000 02 0000 00", refused 1 30) ∷ ("0000 02 0002", refused 6 28) ∷ ("0000 02 0000 0100", refused 6 30) ∷
    ("0000 02 0000 0002 0002 0002", refused 6 30) ∷
    -- a block number that is not in the record, before the next and before types; one past the end
    ("0000 02 0000 0000 0002", refused 6 32) ∷ ("0000 02 0000 0000 0001 0100", refused 6 34) ∷ ("0000 01 0001 0002", refused 6 30) ∷
    ("0000 02 0000 0000 0001 00", refused 1 34) ∷ ("0000 02 0000 0000", refused 1 32) ∷
    -- an argument of another type, the first or the last; a byte left over comes before it
    ("0000 02 0001 0000 0000 0001 0000 0000", refused 7 20) ∷ ("0000 02 0000 0001 0000 0001 0000 0000", refused 7 20) ∷
    ("0001 01 0000 0000 0000 0000", refused 7 20) ∷ ("0000 02 0000 0001 0000 0001 0000 0000 00", refused 1 40) ∷
    ("0000 08 0000000000000000000000000000 0001 00000000000000000000000000000000 0000 0000", refused 7 20) ∷
    -- none, one and eight arguments; any block of the record, in any order
    ("0000 00 0000 0000", accepted) ∷ ("0001 01 0001 0001 0000 0000", accepted) ∷ ("0000 02 0000 0000 0001 0000 0000 0000", accepted) ∷
    ("0000 08 00000000000000000000000000000000 00010001000000010001000000010001 0000 0000", accepted) ∷ []) ++
    -- twice in a block, before another instruction and last; before a terminator; in the second block
    (behind "01 00 0002 00 01 78 01 01 63 0002" (
    ("0003 0000 00000007 27 0000 00 00000008 45 00 00000009 27 0000 01 0000 0001 0000 0000", accepted) ∷
    ("0002 0000 00000007 27 0000 01 0000 0001 00000008 42 01 0000 0001 0000 00000009 27 0001 01 0001 0000", accepted) ∷
    -- the codes beside it
    ("0001 0000 00000007 26 0000 00", refused 3 27) ∷ ("0001 0000 00000007 28 0000 00", refused 5 24) ∷ ("0001 0000 00000007 3F", refused 5 24) ∷ []))

pub phi_rows : map (λ r. says (with_length r.0)) rows ≡ map (λ r. r.1) rows
unfolding all_of_record flat_map count keep
phi_rows = refl

-- ---- types: of no, one and two arguments over int, bool, float, char, ptr<int> and ptr<ptr<int>>; of one over the deeper pointers
pub phi_types :
    values_over types 0 39 ∷ values_over types 1 39 ∷ values_over types 2 39 ∷ values_over depths 1 39 ∷ [] ≡
    map (map numerals)
    (("0" ∷ "1" ∷ "2" ∷ "3" ∷ "4" ∷ "5" ∷ []) ∷
    ("00" ∷ "11" ∷ "22" ∷ "33" ∷ "44" ∷ "55" ∷ []) ∷
    ("000" ∷ "111" ∷ "222" ∷ "333" ∷ "444" ∷ "555" ∷ []) ∷
    ("00" ∷ "11" ∷ "22" ∷ "33" ∷ "44" ∷ "55" ∷ "66" ∷ "77" ∷ "88" ∷ "99" ∷ []) ∷
    [])
unfolding all_of_record count numerals each_first choices keep
phi_types = refl

-- ---- "argument count 0 to 8"; x = phi of n x's, from block 0
pub phi_limits :
    given_args "27 0000" 0 "" ∷ given_args "27 0000" 1 "0000" ∷ given_args "27 0000" 8 "00000000000000000000000000000000" ∷
    given_args "27 0000" 9 "000000000000000000000000000000000000" ∷ [] ≡
    accepted ∷ accepted ∷ accepted ∷ refused 3 24 ∷ []
unfolding all_of_record flat_map count
phi_limits = refl
