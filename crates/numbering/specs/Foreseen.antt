-- Figures by example: of the worked examples, in what order 12 comes, and which places are written.
use Rattle.std.specs.Prelude.{ℕ, ◌≡◌, refl, List, [], ◌∷◌, ◌++◌, map, replicate}
use Rattle.record.specs.Answer.{Returned}
use Rattle.record.specs.Hex.{hex}
use Rattle.record.specs.Record.{limits}
use Rattle.record.specs.Samples.{loop, walk}
use Rattle.numbering.specs.Figures.{figures_answer, figures, figures_leaves}
use Rattle.numbering.specs.Examples.{inputs, further_inputs}
use Rattle.numbering.specs.Wider.{wider}
use Rattle.numbering.specs.Entries.{smallest, version_3}
use Rattle.numbering.specs.Opened.{all_of_numbering}

-- the answer, and what the places hold then
pub record Given : Type 0 where
  pub answer : Returned
  pub places : List ℕ

-- n places as they are lent
abbrev pub lent : ℕ → List ℕ
lent n = replicate n 0xEEEE

abbrev pub given : ℕ → List ℕ → Given
given n s = record { answer = figures_answer (figures s (lent n)); places = figures_leaves s (lent n) }

-- bytes and saves; the figures, and how many places behind them are as they were
abbrev pub counted : ℕ → ℕ → List ℕ → ℕ → Given
counted n k each beyond = record { answer = record { number = 0; values = n ∷ k ∷ [] }; places = each ++ lent beyond }

-- number and value of a refusal; how many places there are, all as they were
abbrev pub refused : ℕ → ℕ → ℕ → Given
refused k v places = record { answer = record { number = k; values = v ∷ [] }; places = lent places }

-- C1 to C15, with three places: the bytes that Examples shows, their saves and the n of each block
pub worked_figures : map (given 3) (inputs ++ further_inputs) ≡
    -- C1 to C5
    counted 64 1 (3 ∷ []) 2 ∷
    counted 68 1 (3 ∷ []) 2 ∷
    counted 49 0 (2 ∷ []) 2 ∷
    counted 65 0 (3 ∷ []) 2 ∷
    counted 95 1 (5 ∷ []) 2 ∷
    -- C6 to C10
    counted 71 0 (3 ∷ []) 2 ∷
    counted 67 0 (3 ∷ []) 2 ∷
    counted 67 0 (3 ∷ []) 2 ∷
    counted 39 0 (1 ∷ []) 2 ∷
    counted 71 0 (3 ∷ []) 2 ∷
    -- C11 to C15
    counted 14 0 (0 ∷ []) 2 ∷
    counted 60 1 (3 ∷ []) 2 ∷
    counted 33 0 (1 ∷ []) 2 ∷
    counted 43 0 (2 ∷ []) 2 ∷
    counted 107 2 (3 ∷ 3 ∷ []) 1 ∷
    []
unfolding all_of_numbering
worked_figures = refl

-- and in version 2: four bytes more for each instruction that is written
pub wider_figures : map (λ s. given 3 (wider limits s)) (inputs ++ further_inputs) ≡
    -- C1 to C5
    counted 76 1 (3 ∷ []) 2 ∷
    counted 80 1 (3 ∷ []) 2 ∷
    counted 57 0 (2 ∷ []) 2 ∷
    counted 77 0 (3 ∷ []) 2 ∷
    counted 115 1 (5 ∷ []) 2 ∷
    -- C6 to C10
    counted 83 0 (3 ∷ []) 2 ∷
    counted 79 0 (3 ∷ []) 2 ∷
    counted 79 0 (3 ∷ []) 2 ∷
    counted 43 0 (1 ∷ []) 2 ∷
    counted 83 0 (3 ∷ []) 2 ∷
    -- C11 to C15
    counted 14 0 (0 ∷ []) 2 ∷
    counted 72 1 (3 ∷ []) 2 ∷
    counted 37 0 (1 ∷ []) 2 ∷
    counted 51 0 (2 ∷ []) 2 ∷
    counted 131 2 (3 ∷ 3 ∷ []) 1 ∷
    []
unfolding all_of_numbering
wider_figures = refl

-- an empty block, and one with a bool in an int: 7 at byte 21
abbrev pub bool_in_int : List ℕ
bool_in_int = hex "00000021 01 00 0001 000178 0002 0000 0000 0001 0000 00000001 00 0000 01 0000000000000001"

-- "12: the slice has fewer places than blocks; after all of check's refusals; nothing is written"
pub places_lent :
    -- no block; two blocks; four, of which the first is empty
    given 0 smallest ∷ map (λ n. given n loop) (0 ∷ 1 ∷ 2 ∷ 3 ∷ []) ++
    (map (λ n. given n walk) (3 ∷ 4 ∷ []) ++
    -- refusals of check
    (given 0 version_3 ∷ map (λ n. given n bool_in_int) (0 ∷ 1 ∷ 2 ∷ []))) ≡
    counted 10 0 [] 0 ∷
    refused 12 0 0 ∷
    refused 12 0 1 ∷
    counted 101 1 (5 ∷ 1 ∷ []) 0 ∷
    counted 101 1 (5 ∷ 1 ∷ []) 1 ∷
    refused 12 0 3 ∷
    counted 74 0 (0 ∷ 2 ∷ 1 ∷ 2 ∷ []) 0 ∷
    refused 2 4 0 ∷
    refused 7 21 0 ∷
    refused 7 21 1 ∷
    refused 7 21 2 ∷
    []
unfolding all_of_numbering
places_lent = refl
