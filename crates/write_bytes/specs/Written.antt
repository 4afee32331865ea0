-- Digits written by example: between bytes that stay, at the first place, and where there is no room for all of them.
use Rattle.std.specs.Prelude.{◌≡◌, refl, [], ◌∷◌, map, replicate}
use Rattle.record.specs.Hex.{hex}
use Rattle.numbering.specs.Made.{digits}
use Rattle.numbering.specs.Opened.{all_of_numbering}
use Rattle.write_bytes.specs.Put.{put}

-- from the place 1 of seven bytes
pub digits_written :
    map (λ k. put (replicate 7 0xEE) 1 (digits k)) (0 ∷ 9 ∷ 10 ∷ 99 ∷ 100 ∷ 999 ∷ 1000 ∷ 9999 ∷ 10000 ∷ 16383 ∷ []) ≡
    hex "EE 30 EE EE EE EE EE" ∷
    hex "EE 39 EE EE EE EE EE" ∷
    hex "EE 31 30 EE EE EE EE" ∷
    hex "EE 39 39 EE EE EE EE" ∷
    hex "EE 31 30 30 EE EE EE" ∷
    hex "EE 39 39 39 EE EE EE" ∷
    hex "EE 31 30 30 30 EE EE" ∷
    hex "EE 39 39 39 39 EE EE" ∷
    hex "EE 31 30 30 30 30 EE" ∷
    hex "EE 31 36 33 38 33 EE" ∷
    []
unfolding all_of_numbering put
digits_written = refl

-- 16383 into four bytes from each place on
pub digits_without_room :
    map (λ at. put (replicate 4 0xEE) at (digits 16383)) (0 ∷ 1 ∷ 2 ∷ 3 ∷ 4 ∷ 5 ∷ []) ≡
    hex "31 36 33 38" ∷ hex "EE 31 36 33" ∷ hex "EE EE 31 36" ∷ hex "EE EE EE 31" ∷ hex "EE EE EE EE" ∷ hex "EE EE EE EE" ∷ []
unfolding all_of_numbering put
digits_without_room = refl
