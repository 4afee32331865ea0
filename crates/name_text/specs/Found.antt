-- What the code finds, as the definition's record, where in memory a part starts, and the part of a name by the bytes of its record alone.
use Rattle.std.specs.Prelude.{Result, Ok, Err, ℕ, ◌+◌, ◌≤◌, Bool, cond, List, length}
use Rattle.record.specs.Reader.{num_at}
use Rattle.record.specs.Decode.{behind, name_end}
use Rattle.numbering.specs.declared.NameError.{NameError}
use Rattle.numbering.specs.NameText.{Part, NameText, refused}
use Rattle.name_text.specs.declared.Place.{Place}

abbrev pub part : Place → Part
part p = record { rewriting = p.rewriting; from = p.from; count = p.count }

abbrev pub found : Result Place NameError → NameText
found (Ok p) = record { answer = Ok tt; part = part p }
found (Err e) = refused e

-- the part lies within its record
abbrev pub IsWithin : Result Place NameError → List ℕ → List ℕ → Type 0
IsWithin f input rewriting = let p = (found f).part in p.from + p.count ≤ length (cond p.rewriting rewriting input)

-- where a part of two lent slices starts, given where each of them does: a block of memory and an offset in it, as the logic has a pointer
abbrev pub starts_at : ℕ × ℕ → ℕ × ℕ → Part → ℕ × ℕ
starts_at input rewriting p = let at = cond p.rewriting rewriting input in (at.0, p.from + at.1)

-- the part of the name at p
abbrev pub part_at : Bool → List ℕ → ℕ → Part
part_at b s p = record { rewriting = b; from = p + 1 + 1; count = num_at s (p + 1) 1 }

-- the text of the i-th name
abbrev pub part_from : Bool → List ℕ → ℕ → NameText
part_from b s i = record { answer = Ok tt; part = part_at b s (behind (name_end s) 8 i) }
