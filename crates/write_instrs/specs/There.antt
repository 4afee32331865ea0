-- Parts of an instruction that are there or not.
use Rattle.std.specs.Prelude.{ℕ, List, [], ◌++◌, not, Bool, Option, Some, None}
use Rattle.record.specs.Record.{Instr}
use Rattle.record.specs.Write.{when, literal_bytes, argument_bytes}

-- a literal, by its kind and its bits; eight arguments behind their count
abbrev pub literal_size : ℕ
literal_size = 9

abbrev pub longest_arguments : ℕ
longest_arguments = 17

-- the bytes of what is there
abbrev pub if_there : {A : Type 0} → (A → List ℕ) → Option A → List ℕ
if_there f None = []
if_there f (Some x) = f x

-- the literal, or the arguments where there is none
abbrev pub value_bytes : Bool → Instr → List ℕ
value_bytes literal i = when literal (literal_bytes i.lit) ++ when (not literal) (argument_bytes i.args)
