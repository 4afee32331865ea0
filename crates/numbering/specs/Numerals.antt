-- The digits of numbers by example: on both sides of each number at which there is one digit more, and in the texts of made names.
use Rattle.std.specs.Prelude.{◌≡◌, refl, [], ◌∷◌, map}
use Rattle.record.specs.Letters.{spelled}
use Rattle.numbering.specs.Made.{digits, made_text}
use Rattle.numbering.specs.Opened.{all_of_numbering}

-- the last K there can be is 16383; 65537 is a count of bytes that a refusal with 9 may have
pub numerals :
    map digits
    (0 ∷ 1 ∷ 9 ∷ 10 ∷ 11 ∷ 12 ∷ 21 ∷ 99 ∷ 100 ∷ 101 ∷ 120 ∷ 999 ∷ 1000 ∷ 1002 ∷ 9999 ∷ 10000 ∷ 10203 ∷ 16383 ∷ 65537 ∷ 100000 ∷ []) ≡
    map spelled
    ("0" ∷ "1" ∷ "9" ∷ "10" ∷ "11" ∷ "12" ∷ "21" ∷ "99" ∷ "100" ∷ "101" ∷ "120" ∷ "999" ∷ "1000" ∷ "1002" ∷
    "9999" ∷ "10000" ∷ "10203" ∷ "16383" ∷ "65537" ∷ "100000" ∷ [])
unfolding all_of_numbering spelled
numerals = refl

pub made_texts :
    map (made_text (spelled "x.1")) (0 ∷ 9 ∷ 10 ∷ 99 ∷ 100 ∷ 999 ∷ 1000 ∷ 9999 ∷ 10000 ∷ 16383 ∷ []) ≡
    map spelled
    ("_x.1_lvn0" ∷ "_x.1_lvn9" ∷ "_x.1_lvn10" ∷ "_x.1_lvn99" ∷ "_x.1_lvn100" ∷ "_x.1_lvn999" ∷ "_x.1_lvn1000" ∷ "_x.1_lvn9999" ∷
    "_x.1_lvn10000" ∷ "_x.1_lvn16383" ∷ [])
unfolding all_of_numbering spelled
made_texts = refl
