-- What an entry leaves in the numbers that a caller lends it: the values of its answer, and the place of a name's text.
use Rattle.std.specs.Prelude.{ℕ, ◌+◌, ◌≤◌, cond, List, [], ◌∷◌, length, get_or, Result, Ok, Err}
use Rattle.record.specs.Answer.{Returned, success}
use Rattle.numbering.specs.declared.Totals.{Totals}
use Rattle.numbering.specs.NameText.{NameText, name_answer}

-- a value of an answer, 0 where the answer has none
abbrev pub value : Returned → ℕ → ℕ
value a i = get_or a.values i 0

abbrev pub values : Returned → List ℕ
values a = value a 0 ∷ value a 1 ∷ []

-- of totals, or of a refusal with this answer
unfoldable pub told_as : {E : Type 0} → (E → Returned) → Result Totals E → Returned
told_as answer (Ok t) = success (t.bytes ∷ t.saves ∷ [])
told_as answer (Err e) = answer e

-- of a run
abbrev pub run_values : Returned → List ℕ
run_values a = value a 0 ∷ value a 1 ∷ value a 2 ∷ value a 3 ∷ value a 4 ∷ []

-- the offset of a refusal, and the part: 0 for the input or 1 for the rewriting, its start, its length
abbrev pub place_values : NameText → List ℕ
place_values t = value (name_answer t.answer) 0 ∷ cond t.part.rewriting 1 0 ∷ t.part.from ∷ t.part.count ∷ []

-- the part lies within the record that it is of
abbrev pub LiesWithin : NameText → List ℕ → List ℕ → Type 0
LiesWithin t input rewriting = t.part.from + t.part.count ≤ length (cond t.part.rewriting rewriting input)
