-- What the answers say: the number and values of document 01 for each case, and the literals of the code as those of a record.
use Rattle.std.specs.Prelude.{⊤, Result, Ok, Err, ℕ, List, [], ◌∷◌, cond}
use Rattle.std.proofs.Common.{of_z}
use Rattle.std.specs.Int.{w64}
use Rattle.std.specs.Float.{binary64}
use Rattle.std.specs.Float.Ieee.{to_bits}
use Rattle.record.specs.declared.Refusal.{Refusal}
use Rattle.record.specs.declared.Refusal.TheVariants.{Length, Version, Limit, Text, Code, Name, Types, Place}
use Rattle.record.specs.declared.Fault.{Fault}
use Rattle.record.specs.declared.Literal.{Literal}
use Rattle.record.specs.declared.Literal.TheVariants.{Int, Bool as BoolLiteral, Float, Nan, Char}
use Rattle.record.specs.Record.{Lit, limits}
use Rattle.record.specs.Reader.{Res, got, fault}
use Rattle.record.specs.Typing.{accept}

-- the numbers of check's refusals
unfoldable pub number : Refusal → ℕ
number Length = 1
number Version = 2
number Limit = 3
number Text = 4
number Code = 5
number Name = 6
number Types = 7
number Place = 8

-- what an entry returns: 0 or the number of its refusal, and the values that go with it
pub record Returned : Type 0 where
  pub number : ℕ
  pub values : List ℕ

abbrev pub success : List ℕ → Returned
success vs = record { number = 0; values = vs }

-- "It returns number and offset of the field"
abbrev pub refusal : Fault → Returned
refusal f = record { number = number f.refusal; values = f.offset ∷ [] }

-- the first fault, by its reason and offset
abbrev pub fault_at : Refusal → ℕ → Fault
fault_at k o = record { refusal = k; offset = o }

unfoldable pub check_answer : Result ⊤ Fault → Returned
check_answer (Ok accepted) = success []
check_answer (Err f) = refusal f

-- the value of a reader forgotten: where reading goes on, or the first fault
abbrev pub verdict : {A : Type 0} → Res A → Result ℕ Fault
verdict (got x p) = Ok p
verdict (fault k o) = Err (fault_at k o)

-- the answer of check: accepted, or the first fault
abbrev pub checked_as : {A : Type 0} → Res A → Result ⊤ Fault
checked_as (got x p) = Ok tt
checked_as (fault k o) = Err (fault_at k o)

-- "Check": "Accepted means that no test fails"
unfoldable pub checked : List ℕ → Result ⊤ Fault
checked s = checked_as (accept limits s)

-- "Enum Literal with Int(i64), Bool(bool), Float(f64), Char(u32), equal by bits"
unfoldable pub literal_of : Literal → Lit
literal_of (Int z) = record { kind = 0; bits = of_z w64 z }
literal_of (BoolLiteral b) = record { kind = 1; bits = cond b 1 0 }
literal_of (Float x) = record { kind = 2; bits = to_bits binary64 x }
literal_of (Nan b) = record { kind = 2; bits = b }
literal_of (Char c) = record { kind = 3; bits = c }
