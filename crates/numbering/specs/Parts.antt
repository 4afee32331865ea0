-- Name text by example, the answer and the whole part: each cause of 11 with all else right, 6, check's refusals, and what is not tested.
use Rattle.std.specs.Prelude.{ℕ, ◌≡◌, refl, Bool, true, false, List, [], ◌∷◌, ◌++◌, map, replicate}
use Prim.Native.String.{String}
use Rattle.record.specs.Answer.{Returned}
use Rattle.record.specs.Hex.{hex}
use Rattle.numbering.specs.NameText.{Part, bytes_of, name_answer, name_text}
use Rattle.numbering.specs.Opened.{all_of_numbering}

-- the number and values of the answer, the part and its bytes
pub record Told : Type 0 where
  pub answer : Returned
  pub part : Part
  pub bytes : List ℕ

abbrev pub told : List ℕ → List ℕ → ℕ → Told
told s t i = let r = name_text s t i in record { answer = name_answer r.answer; part = r.part; bytes = bytes_of s t r.part }

abbrev pub refused : ℕ → ℕ → Told
refused k o = record { answer = record { number = k; values = o ∷ [] }; part = record { rewriting = false; from = 0; count = 0 }; bytes = [] }

abbrev pub found : Bool → ℕ → ℕ → String → Told
found b from count s = record { answer = record { number = 0; values = [] }; part = record { rewriting = b; from = from; count = count }; bytes = hex s }

abbrev pub of_input : ℕ → ℕ → String → Told
of_input = found false

abbrev pub of_rewriting : ℕ → ℕ → String → Told
of_rewriting = found true

-- what is told of each input, rewriting and index
abbrev pub asked : List (String × (String × ℕ)) → List Told
asked = map (λ r. told (hex r.0) (hex r.1.0) r.1.1)

-- a and bb
abbrev pub two : String
two = "0000000D 01 00 0002 00 01 61 00 02 6262 0000"

-- one name more, and bb spelt otherwise
abbrev pub three : String
three = "00000013 01 00 0003 00 01 61 00 01 63 00 05 6D61646530 0000"

abbrev pub smallest : String
smallest = "00000006 01 00 0000 0000"

-- "the input's below N, the rewriting's from N"; "then 6, at offset 0, if the index is not below the rewriting's name count"
pub texts_found :
    asked
    ((two, (three, 0)) ∷
    (two, (three, 1)) ∷
    (two, (three, 2)) ∷
    (two, (three, 3)) ∷
    (two, (three, 4)) ∷
    (two, (three, 65538)) ∷
    (two, (three, 18446744073709551615)) ∷
    -- as many names as the input
    (two, ("0000000C 01 00 0002 00 01 61 00 01 63 0000", 1)) ∷
    (two, ("0000000C 01 00 0002 00 01 61 00 01 63 0000", 2)) ∷
    -- an input without names, and its rewriting of 8 bytes, or with a name
    (smallest, ("00000004 01 00 0000", 0)) ∷
    (smallest, ("00000007 01 00 0001 00 01 61", 0)) ∷
    (smallest, ("00000007 01 00 0001 00 01 61", 1)) ∷
    -- "Nothing else of the rewriting is tested.": the last name ends with it
    (two, ("00000011 01 00 0003 00 01 61 00 01 63 00 05 6D61646530", 2)) ∷
    -- empty texts
    (two, ("0000000A 01 00 0003 00 00 00 00 00 00", 1)) ∷
    (two, ("0000000A 01 00 0003 00 00 00 00 00 00", 2)) ∷
    -- a text of 33 bytes, more than an input may have
    (smallest, ("00000027 01 00 0001 00 21 616161616161616161616161616161616161616161616161616161616161616161", 0)) ∷
    -- A 255, types that are none, a text twice and texts of any bytes; bytes behind the names that are no blocks
    (two, ("00000011 01 FF 0003 FF 01 61 04 01 61 08 03 6100FF FFFF", 2)) ∷
    (two, ("0000000E 01 00 0002 00 01 61 00 01 61 FF FF FF FF", 0)) ∷
    [])
    -- 257 names, more than an input may have
    ++ map (told (hex smallest) (hex "00000206 01 00 0101" ++ replicate 514 0)) (0 ∷ 256 ∷ 257 ∷ []) ≡
    of_input 10 1 "61" ∷
    of_input 13 2 "6262" ∷
    of_rewriting 16 5 "6D61646530" ∷
    refused 6 0 ∷
    refused 6 0 ∷
    refused 6 0 ∷
    refused 6 0 ∷
    of_input 13 2 "6262" ∷
    refused 6 0 ∷
    refused 6 0 ∷
    of_rewriting 10 1 "61" ∷
    refused 6 0 ∷
    of_rewriting 16 5 "6D61646530" ∷
    of_input 13 2 "6262" ∷
    of_rewriting 14 0 "" ∷
    of_rewriting 10 33 "616161616161616161616161616161616161616161616161616161616161616161" ∷
    of_rewriting 16 3 "6100FF" ∷
    of_input 10 1 "61" ∷
    of_rewriting 10 0 "" ∷
    of_rewriting 522 0 "" ∷
    refused 6 0 ∷
    []
unfolding all_of_numbering
texts_found = refl

-- "then 11, at offset 0": every row has one cause alone
pub mismatches :
    asked
    -- "if the rewriting has fewer than 8 bytes": 7, 6 and 5, for an input without names
    ((smallest, ("00000003 01 00 00", 0)) ∷
    (smallest, ("00000002 01 00", 0)) ∷
    (smallest, ("00000001 01", 0)) ∷
    -- "its L is not the rest": one less, one more, the length of all, its first byte; also where the index would be 6
    (two, ("00000012 01 00 0003 00 01 61 00 01 63 00 05 6D61646530 0000", 0)) ∷
    (two, ("00000014 01 00 0003 00 01 61 00 01 63 00 05 6D61646530 0000", 0)) ∷
    (two, ("00000017 01 00 0003 00 01 61 00 01 63 00 05 6D61646530 0000", 2)) ∷
    (two, ("01000013 01 00 0003 00 01 61 00 01 63 00 05 6D61646530 0000", 2)) ∷
    (two, ("00000014 01 00 0003 00 01 61 00 01 63 00 05 6D61646530 0000", 3)) ∷
    -- "its version is not the input's"
    (two, ("00000013 00 00 0003 00 01 61 00 01 63 00 05 6D61646530 0000", 0)) ∷
    (two, ("00000013 02 00 0003 00 01 61 00 01 63 00 05 6D61646530 0000", 2)) ∷
    (two, ("00000013 02 00 0003 00 01 61 00 01 63 00 05 6D61646530 0000", 3)) ∷
    -- "a name runs past its end", by its type, its length, a byte of its text: above the index, at it, and where the index would be 6
    (two, ("0000000A 01 00 0003 00 01 61 00 01 63", 0)) ∷
    (two, ("0000000B 01 00 0003 00 01 61 00 01 63 00", 0)) ∷
    (two, ("00000010 01 00 0003 00 01 61 00 01 63 00 05 6D616465", 0)) ∷
    (two, ("00000010 01 00 0003 00 01 61 00 01 63 00 05 6D616465", 2)) ∷
    (two, ("00000010 01 00 0003 00 01 61 00 01 63 00 05 6D616465", 3)) ∷
    -- all names, and the first of them
    (two, ("00000004 01 00 0002", 1)) ∷
    (two, ("0000000A 01 00 0003 00 FF 61 00 01 63", 2)) ∷
    -- "or it has under N names", also where the index is not below them
    (two, ("00000009 01 00 0001 00 01 61 0000", 0)) ∷
    (two, ("00000009 01 00 0001 00 01 61 0000", 1)) ∷
    (two, ("00000006 01 00 0000 0000", 0)) ∷
    []) ≡
    replicate 21 (refused 11 0)
unfolding all_of_numbering
mismatches = refl

-- "Check's refusals on the input", whatever the rewriting and the index
pub input_refused :
    asked
    (("", ("", 0)) ∷
    ("00000007 01 00 0000 0000", (smallest, 0)) ∷
    ("00000006 03 00 0000 0000", ("00000006 03 00 0000 0000", 0)) ∷
    ("00000006 03 00 0000 0000", ("", 7)) ∷
    ("00000009 01 00 0001 00 01 31 0000", ("00000003 01 00 00", 0)) ∷
    ("00000012 01 00 0000 0001 0001 0000 00000007 40 00 0001", ("00000004 01 00 0000", 0)) ∷
    ("0000001D 01 00 0001 00 01 78 0001 0001 0000 00000007 00 0000 02 0000000000000000", ("00000007 01 00 0001 00 01 78", 0)) ∷
    []) ≡
    refused 1 0 ∷
    refused 1 0 ∷
    refused 2 4 ∷
    refused 2 4 ∷
    refused 4 10 ∷
    refused 6 20 ∷
    refused 7 17 ∷
    []
unfolding all_of_numbering
input_refused = refl

-- either version, and "its version is not the input's"
abbrev pub two_wide : String
two_wide = "0000000D 02 00 0002 00 01 61 00 02 6262 0000"

abbrev pub three_wide : String
three_wide = "00000013 02 00 0003 00 01 61 00 01 63 00 05 6D61646530 0000"

pub either_version :
    asked
    ((two_wide, (three_wide, 1)) ∷ (two_wide, (three_wide, 2)) ∷ (two_wide, (three_wide, 3)) ∷
    (two_wide, (three, 1)) ∷ (two, (three_wide, 2)) ∷ (two_wide, ("00000004 03 00 0002", 0)) ∷ []) ≡
    of_input 13 2 "6262" ∷ of_rewriting 16 5 "6D61646530" ∷ refused 6 0 ∷ refused 11 0 ∷ refused 11 0 ∷ refused 11 0 ∷ []
unfolding all_of_numbering
either_version = refl
