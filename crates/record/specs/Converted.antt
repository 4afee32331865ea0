-- Widening and narrowing (document 02, Point 7) by example: what each returns and leaves, computed over the definitions.
use Rattle.std.specs.Prelude.{ℕ, ◌≡◌, refl, replicate}
use Prim.Native.String.{String}
use mathlib.Core.List.{List, [], ◌∷◌, ◌++◌, map, flat_map}
use Rattle.record.specs.Answer.{Returned}
use Rattle.record.specs.Hex.{hex}
use Rattle.record.specs.Refusals.{accepted, refused, says, with_length}
use Rattle.record.specs.Order.{fields, wide_fields}
use Rattle.record.specs.Versions.{Converted, convert_answer, widen, widen_leaves, narrow, narrow_leaves}
use Rattle.record.specs.Opened.{all_of_record}

-- C1 of document 01: 47 bytes, and 55 in version 2
abbrev pub c1 : List ℕ
c1 = hex "0000002B 01 02 0003 000161 000162 000178 0001 0002 0000 00000007 01 0002 02 0000 0001 00000008 01 0002 02 0001 0000"

abbrev pub c1_wide : List ℕ
c1_wide = hex "00000033 02 02 0003 000161 000162 000178 0001 0002 0000 0000000000000007 01 0002 02 0000 0001 0000000000000008 01 0002 02 0001 0000"

-- so many bytes were written; so many are needed; an id of 2^32 or more at o
abbrev pub wrote : ℕ → Returned
wrote n = record { number = 0; values = n ∷ [] }

abbrev pub needs : ℕ → Returned
needs n = record { number = 9; values = n ∷ [] }

abbrev pub wide_at : ℕ → Returned
wide_at o = record { number = 15; values = o ∷ [] }

-- into outputs of so many bytes
abbrev pub into : (List ℕ → List ℕ → Converted) → List ℕ → List ℕ → List Returned
into f s ns = map (λ n. convert_answer (f s (replicate n 0xEE))) ns

-- to the other version and back; a record that has the wanted version still needs its room
pub answers :
    into widen c1 (60 ∷ 55 ∷ 54 ∷ 0 ∷ []) ++ (into narrow c1_wide (60 ∷ 47 ∷ 46 ∷ 0 ∷ []) ++
    (into narrow c1 (47 ∷ 46 ∷ []) ++ into widen c1_wide (55 ∷ 54 ∷ []))) ≡
    wrote 55 ∷ wrote 55 ∷ needs 55 ∷ needs 55 ∷ wrote 47 ∷ wrote 47 ∷ needs 47 ∷ needs 47 ∷
    wrote 47 ∷ needs 47 ∷ wrote 55 ∷ needs 55 ∷ []
unfolding all_of_record flat_map
answers = refl

-- bytes beyond what is written, and all bytes of a refused call, stay
abbrev pub short : List ℕ
short = replicate 46 0xEE

pub leaves :
    widen_leaves c1 (replicate 55 0xEE ++ hex "A0 A1 A2") ∷ narrow_leaves c1_wide (replicate 47 0xEE ++ hex "A0 A1 A2") ∷
    narrow_leaves c1 (replicate 47 0xEE ++ hex "A0") ∷ widen_leaves c1_wide (replicate 55 0xEE) ∷
    narrow_leaves c1_wide short ∷ narrow_leaves c1 short ∷ widen_leaves c1 short ∷ [] ≡
    (c1_wide ++ hex "A0 A1 A2") ∷ (c1 ++ hex "A0 A1 A2") ∷ (c1 ++ hex "A0") ∷ c1_wide ∷ short ∷ short ∷ short ∷ []
unfolding all_of_record flat_map
leaves = refl

-- every field of a record there and back
abbrev pub whole : List (String × Returned) → List ℕ
whole fs = with_length (flat_map (λ f. hex f.0) fs)

pub every_field :
    widen_leaves (whole fields) (replicate 107 0xEE) ∷ narrow_leaves (whole wide_fields) (replicate 87 0xEE) ∷ [] ≡
    whole wide_fields ∷ whole fields ∷ []
unfolding all_of_record flat_map
every_field = refl

-- ---- 15
-- nop under the ids 2^32-1, 2^32 and 2^64-1
abbrev pub nops : List (List ℕ)
nops =
    hex "00000014 02 00 0000 0001 0001 0000 00000000FFFFFFFF 45 00" ∷
    hex "00000014 02 00 0000 0001 0001 0000 0000000100000000 45 00" ∷
    hex "00000014 02 00 0000 0001 0001 0000 FFFFFFFFFFFFFFFF 45 00" ∷
    []

-- and in two blocks: 2^32-1; then 5, 2^32 and 2^64-1
abbrev pub second_block : List ℕ
second_block =
    hex "00000036 02 00 0000 0002 0001 0000 00000000FFFFFFFF 45 00 0003 0000 0000000000000005 45 00 0000000100000000 45 00 FFFFFFFFFFFFFFFF 45 00"

-- each is accepted, and comes out of a widening as it is; narrowed, the first wide id is meant, whatever the room, and nothing is written
pub wide_ids :
    map says (second_block ∷ nops) ++ (map (λ s. convert_answer (widen s (replicate 58 0xEE))) (second_block ∷ nops) ++
    (map (λ s. convert_answer (narrow s (replicate 58 0xEE))) (second_block ∷ nops) ++
    map (λ s. convert_answer (narrow s [])) (second_block ∷ nops))) ≡
    accepted ∷ accepted ∷ accepted ∷ accepted ∷ wrote 58 ∷ wrote 24 ∷ wrote 24 ∷ wrote 24 ∷
    wide_at 38 ∷ wrote 20 ∷ wide_at 14 ∷ wide_at 14 ∷ wide_at 38 ∷ needs 20 ∷ wide_at 14 ∷ wide_at 14 ∷ []
unfolding all_of_record flat_map
wide_ids = refl

pub wide_leaves :
    map (λ s. narrow_leaves s (replicate 22 0xEE)) nops ≡
    hex "00000010 01 00 0000 0001 0001 0000 FFFFFFFF 45 00 EE EE" ∷ replicate 22 0xEE ∷ replicate 22 0xEE ∷ []
unfolding all_of_record flat_map
wide_leaves = refl

-- ---- check's refusals come first, for both and whatever the room
abbrev pub faulty : List (List ℕ)
faulty =
    -- too short, L wrong; version 0, 3 and 255
    hex "000000" ∷ hex "00000013 02 00 0000 0001 0001 0000 0000000100000000 45 00" ∷
    hex "00000006 00 00 0000 0000" ∷ hex "00000006 03 00 0000 0000" ∷ hex "00000006 FF 00 0000 0000" ∷
    -- with a wide id: an argument count, a malformed text, an unknown code, jmp before the last place, a name, a wrong type, a byte left over
    hex "00000014 02 00 0000 0001 0001 0000 0000000100000000 45 01" ∷
    hex "00000017 02 00 0001 000131 0001 0001 0000 0000000100000000 45 00" ∷
    hex "00000014 02 00 0000 0001 0001 0000 0000000100000000 48 00" ∷
    hex "00000020 02 00 0000 0001 0002 0000 0000000100000000 40 00 0000 0000000000000001 45 00" ∷
    hex "00000016 02 00 0000 0001 0001 0000 0000000100000000 44 01 0000" ∷
    hex "0000002B 02 00 0001 000178 0001 0002 0000 0000000100000000 45 00 0000000000000001 00 0000 02 0000000000000000" ∷
    hex "00000015 02 00 0000 0001 0001 0000 0000000100000000 45 00 00" ∷
    []

abbrev pub why : List Returned
why =
    refused 1 0 ∷ refused 1 0 ∷ refused 2 4 ∷ refused 2 4 ∷ refused 2 4 ∷ refused 3 23 ∷ refused 4 10 ∷ refused 5 22 ∷ refused 8 22 ∷ refused 6 24 ∷
    refused 7 27 ∷ refused 1 24 ∷ []

pub refused_before :
    map says faulty ∷ map (λ s. convert_answer (widen s [])) faulty ∷ map (λ s. convert_answer (narrow s [])) faulty ∷
    map (λ s. convert_answer (narrow s (replicate 60 0xEE))) faulty ∷ [] ≡
    why ∷ why ∷ why ∷ why ∷ []
unfolding all_of_record flat_map
refused_before = refl

pub refused_leave :
    map (λ s. widen_leaves s (replicate 60 0xEE)) faulty ++ map (λ s. narrow_leaves s (replicate 60 0xEE)) faulty ≡
    replicate 24 (replicate 60 0xEE)
unfolding all_of_record flat_map
refused_leave = refl
