-- Five values, as the first of a list.
use Rattle.std.specs.Prelude.{ℕ, List, [], ◌∷◌, get_or}

-- 0 where the list has none
abbrev pub first_five : List ℕ → List ℕ
first_five vs = get_or vs 0 0 ∷ get_or vs 1 0 ∷ get_or vs 2 0 ∷ get_or vs 3 0 ∷ get_or vs 4 0 ∷ []
