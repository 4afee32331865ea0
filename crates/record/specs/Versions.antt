-- "A widening and a narrowing are added" (document 02, Point 7): the answer of both and their whole output, as functions of the input and of the
-- output as it was lent. Each reads the input, changes the version and writes. Each is one definition over the version that is wanted.
use Rattle.std.specs.Prelude.{Result, Ok, Err, Option, Some, None, ℕ, ◌^◌, cond, List, [], ◌∷◌, ◌++◌, length, drop, ltb}
use mathlib.Core.List.{flat_map}
use Rattle.record.specs.declared.ConvertError.{ConvertError}
use Rattle.record.specs.declared.ConvertError.TheVariants.{Refused, Wide, Room}
use Rattle.record.specs.Record.{Instr, Placed, Record, plain, limits, id_bytes}
use Rattle.record.specs.Reader.{Res, got, fault}
use Rattle.record.specs.Typing.{accept}
use Rattle.record.specs.Write.{bytes}
use Rattle.record.specs.Answer.{Returned, success, refusal, fault_at}

-- the same record in a version
abbrev pub in_version : ℕ → Record Instr → Record Instr
in_version version r = record { version = version; args = r.args; names = r.names; blocks = r.blocks }

-- its bytes
unfoldable pub converted_bytes : ℕ → Record Placed → List ℕ
converted_bytes version r = bytes (in_version version (plain r))

-- the instructions of a record, block by block
abbrev pub instructions : Record Placed → List Placed
instructions r = flat_map (λ b. b.body) r.blocks

-- "an id of 2^32 or more, at the first such instruction's offset": the first, of these instructions, whose id does not fit w bytes
unfoldable pub first_wide : ℕ → List Placed → Option ℕ
first_wide w [] = None
first_wide w (i ∷ is) = cond (ltb i.it.id (256 ^ w)) (first_wide w is) (Some i.at)

-- the answer of both: how many bytes are written, or why none is
abbrev pub Converted : Type 0
Converted = Result ℕ ConvertError

-- "15", with the offset; "9 follows it for both operations", with the bytes needed
unfoldable pub convert_answer : Converted → Returned
convert_answer (Ok n) = success (n ∷ [])
convert_answer (Err (Refused f)) = refusal f
convert_answer (Err (Wide o)) = record { number = 15; values = o ∷ [] }
convert_answer (Err (Room n)) = record { number = 9; values = n ∷ [] }

-- of an accepted record: the place of an id that does not fit, if there is one; how many bytes are lent; how many are needed
unfoldable pub converted_as : Option ℕ → ℕ → ℕ → Converted
converted_as (Some o) room n = Err (Wide o)
converted_as None room n = cond (ltb room n) (Err (Room n)) (Ok n)

-- "after check's refusals"; room: the length of the output
unfoldable pub convert_result : ℕ → ℕ → Res (Record Placed) → Converted
convert_result version room (fault k o) = Err (Refused (fault_at k o))
convert_result version room (got r p) =
    converted_as (first_wide (id_bytes version) (instructions r)) room (length (converted_bytes version r))

-- of a refusal "nothing is written", and bytes beyond those that are written are untouched
unfoldable pub written_as : Converted → List ℕ → List ℕ → List ℕ
written_as (Ok n) new out = new ++ drop n out
written_as (Err e) new out = out

unfoldable pub convert_output : ℕ → List ℕ → Res (Record Placed) → List ℕ
convert_output version out (fault k o) = out
convert_output version out (got r p) =
    written_as (convert_result version (length out) (got r p)) (converted_bytes version r) out

-- what each returns, and what the output holds then
unfoldable pub convert : ℕ → List ℕ → List ℕ → Converted
convert version input output = convert_result version (length output) (accept limits input)

unfoldable pub convert_leaves : ℕ → List ℕ → List ℕ → List ℕ
convert_leaves version input output = convert_output version output (accept limits input)

-- widening wants version 2, narrowing version 1
abbrev pub widen : List ℕ → List ℕ → Converted
widen = convert 2

abbrev pub widen_leaves : List ℕ → List ℕ → List ℕ
widen_leaves = convert_leaves 2

abbrev pub narrow : List ℕ → List ℕ → Converted
narrow = convert 1

abbrev pub narrow_leaves : List ℕ → List ℕ → List ℕ
narrow_leaves = convert_leaves 1
