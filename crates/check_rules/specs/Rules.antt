-- The rules of the code as those of a record, and what a function answers that tests one.
use Rattle.std.specs.Prelude.{ℕ, ◌+◌, ◌*◌, ◌≡◌, List, Bool, replicate}
use Rattle.record.specs.declared.NameIx.{NameIx}
use Rattle.record.specs.declared.Shape.{Shape}
use Rattle.record.specs.Record.{type_in}
use Rattle.record.specs.Shape.{row_of}
use Rattle.record.specs.Reader.{num_at}
use Rattle.record.specs.Typing.{free, fits_dest, copies, shifts, allocates, loads, joins, stores, frees, branches, takes, obeys}
use Rattle.record.specs.Typing as typing
use Rattle.record.specs.Decode.{items, two_on, index_from, operands_from}
use Rattle.check_rules.specs.declared.operands.Operands.{Operands}
use Rattle.check_rules.specs.declared.Rule.{Rule}
use Rattle.check_rules.specs.declared.Rule.TheVariants.{Free, FitsDest, Copies, Shifts, Allocates, Loads, Joins, Stores, Frees, Branches, Takes}

abbrev pub rule : Rule → typing.Rule
rule Free = free
rule FitsDest = fits_dest
rule Copies = copies
rule Shifts = shifts
rule Allocates = allocates
rule Loads = loads
rule Joins = joins
rule Stores = stores
rule Frees = frees
rule Branches = branches
rule (Takes n a d) = takes (replicate n a) d

-- the rule of a code
unfoldable pub code_rule : ℕ → typing.Rule
code_rule c = row_of free typing.rules c

-- the arguments whose count stands at a place
unfoldable pub args_from : List ℕ → ℕ → List NameIx
args_from s at = items (index_from s) two_on (at + 1) (num_at s at 1)

-- how far behind its operands' start phi looks: dest, a count of one byte, and two bytes for each that it counts
abbrev pub joins_reach : ℕ
joins_reach = 2 + (1 + 2 * 255)

-- r says whether the rule is kept by the instruction of these operands, if it has a dest and a literal as told
abbrev pub Kept : Bool → typing.Rule → Bool → Bool → Operands → Type 0
Kept r rule dest literal o =
    (sh : Shape) (id code : ℕ) → sh.dest ≡ dest → sh.literal ≡ literal →
    r ≡ obeys rule (type_in o.types.now) (operands_from sh o.bytes.now o.at id code)
