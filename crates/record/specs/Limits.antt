-- The limits by example: records that reach each limit are accepted, and one more is refused at its own field.
use Rattle.std.specs.Prelude.{ℕ, ◌+◌, ◌/◌, ◌%◌, ◌≡◌, refl, replicate}
use Prim.Native.String.{String}
use mathlib.Core.List.{List, [], ◌∷◌, ◌++◌, flat_map}
use Rattle.record.specs.Answer.{Returned}
use Rattle.record.specs.Hex.{hex}
use Rattle.record.specs.Write.{be}
use Rattle.record.specs.Refusals.{accepted, refused, says, with_length}
use Rattle.record.specs.Tables.{count}
use Rattle.record.specs.Opened.{all_of_record}

-- n names with different texts of two letters
abbrev pub many_names : ℕ → List ℕ
many_names n = flat_map (λ i. 0x00 ∷ 0x02 ∷ (0x61 + i / 16) ∷ (0x61 + i % 16) ∷ []) (count 0 n)

-- the bytes of a text, n times
abbrev pub copies : ℕ → String → List ℕ
copies n s = flat_map (λ i. hex s) (count 0 n)

-- A of N names; a text of n letters; B empty blocks; n instructions in a block; n arguments behind a code
abbrev pub arguments_in : ℕ → ℕ → ℕ → Returned
arguments_in version a n = says (with_length (version ∷ a ∷ (be 2 n ++ (many_names n ++ hex "0000"))))

abbrev pub arguments_of : ℕ → ℕ → Returned
arguments_of = arguments_in 1

abbrev pub text_of : ℕ → Returned
text_of n = says (with_length (hex "01 00 0001 00" ++ (n ∷ (replicate n 0x78 ++ hex "0000"))))

abbrev pub blocks_of : ℕ → Returned
blocks_of b = says (with_length (hex "01 00 0000" ++ (be 2 b ++ copies b "0000 0000")))

abbrev pub nops_of : ℕ → Returned
nops_of n = says (with_length (hex "01 00 0000 0001" ++ (be 2 n ++ (hex "0000" ++ copies n "00000001 45 00"))))

-- behind the id of one instruction of an int x, in each version
abbrev pub given_behind : String → String → ℕ → String → Returned
given_behind front code n callee = says (with_length (hex front ++ (hex code ++ (n ∷ (copies n "0000" ++ hex callee)))))

abbrev pub given_args : String → ℕ → String → Returned
given_args = given_behind "01 00 0001 00 01 78 0001 0001 0000 00000007"

abbrev pub given_wide : String → ℕ → String → Returned
given_wide = given_behind "02 00 0001 00 01 78 0001 0001 0000 0000000000000007"

-- a block of 256 instructions, each written so, and one of n
abbrev pub second_of : String → String → ℕ → Returned
second_of version nop n =
    says (with_length (hex version ++ (hex "00 0000 0002 0100 0000" ++ (copies 256 nop ++ (be 2 n ++ (hex "0000" ++ copies n nop))))))

pub limits_reached :
    arguments_of 16 16 ∷ arguments_of 17 17 ∷ arguments_of 16 15 ∷ arguments_of 0 0 ∷
    text_of 32 ∷ text_of 33 ∷ text_of 1 ∷ text_of 0 ∷
    arguments_of 0 256 ∷ arguments_of 0 257 ∷ blocks_of 64 ∷ blocks_of 65 ∷ nops_of 256 ∷ nops_of 257 ∷
    given_args "14 0000" 8 "0000" ∷ given_args "14 0000" 9 "0000" ∷ given_args "43" 8 "0000" ∷ given_args "43" 9 "0000" ∷
    given_args "44" 8 "" ∷ given_args "44" 9 "" ∷ given_args "44" 0 "" ∷ given_args "42" 1 "" ∷ given_args "42" 2 "" ∷ [] ≡
    accepted ∷ refused 3 5 ∷ refused 3 6 ∷ accepted ∷
    accepted ∷ refused 3 9 ∷ accepted ∷ refused 3 9 ∷
    accepted ∷ refused 3 6 ∷ accepted ∷ refused 3 8 ∷ accepted ∷ refused 3 10 ∷
    accepted ∷ refused 3 24 ∷ accepted ∷ refused 3 22 ∷
    accepted ∷ refused 3 22 ∷ accepted ∷ accepted ∷ refused 3 22 ∷ []
unfolding all_of_record flat_map count
limits_reached = refl

-- in both versions: the fields behind an id stand four bytes further for each id before them
pub limits_of_both :
    arguments_in 2 16 256 ∷ arguments_in 2 16 257 ∷ arguments_in 2 17 17 ∷ arguments_in 2 16 15 ∷
    given_wide "14 0000" 8 "0000" ∷ given_wide "14 0000" 9 "0000" ∷ given_wide "43" 8 "0000" ∷ given_wide "43" 9 "0000" ∷
    given_wide "44" 8 "" ∷ given_wide "44" 9 "" ∷ given_wide "42" 1 "" ∷ given_wide "42" 2 "" ∷
    second_of "01" "00000001 45 00" 256 ∷ second_of "01" "00000001 45 00" 257 ∷
    second_of "02" "0000000000000001 45 00" 256 ∷ second_of "02" "0000000000000001 45 00" 257 ∷ [] ≡
    accepted ∷ refused 3 6 ∷ refused 3 5 ∷ refused 3 6 ∷
    accepted ∷ refused 3 28 ∷ accepted ∷ refused 3 26 ∷
    accepted ∷ refused 3 26 ∷ accepted ∷ refused 3 26 ∷
    accepted ∷ refused 3 1550 ∷ accepted ∷ refused 3 2574 ∷ []
unfolding all_of_record flat_map count
limits_of_both = refl
