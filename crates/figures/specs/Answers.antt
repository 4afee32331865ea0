-- What the code answers of a record that it has read again from its bytes.
use Rattle.std.specs.Prelude.{ℕ, List, ◌≡◌, length}
use Rattle.record.specs.Reader.{got}
use Rattle.record.specs.Decode.{record_from}
use Rattle.numbering.specs.Figures.{Figured, figures_result, figures_places}

-- the answer and what it leaves of the places are those of the record that stands in these bytes
abbrev pub FiguredAs : List ℕ → List ℕ → Figured → List ℕ → Type 0
FiguredAs s each r each' =
    (r ≡ figures_result (length each) (got (record_from s) 0)) × (each' ≡ figures_places each (got (record_from s) 0))
