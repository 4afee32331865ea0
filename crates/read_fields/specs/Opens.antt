-- How a form opens.
use Rattle.std.specs.Prelude.{ℕ, ◌-◌, List, Bool, ◌&&◌, length, leb, eqb}
use Rattle.record.specs.Reader.{num_at}

-- it has at least so many bytes, its length counts what follows the length, and it is of this version
abbrev pub opens : ℕ → ℕ → List ℕ → Bool
opens shortest version s = leb shortest (length s) && (eqb (num_at s 0 4) (length s - 4) && eqb (num_at s 4 1) version)

-- what a form that opens so is shorter than: its length is told in four bytes
abbrev pub longest_form : ℕ
longest_form = 4294967300
