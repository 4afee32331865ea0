-- "Name text": the part of the input or of its rewriting that is the text of a name.
use Rattle.std.specs.Prelude.{⊤, Result, Ok, Err, ℕ, ◌-◌, Bool, true, false, cond, ◌&&◌, List, [], ◌∷◌, length, get_or, take, drop, ltb, leb, eqb}
use Rattle.record.specs.declared.Refusal.TheVariants.{Name}
use Rattle.record.specs.Record.{Placed, Record, limits}
use Rattle.record.specs.Reader.{Res, got, fault, Reader, give, ◌>>=◌, here, num_at, field, text, times}
use Rattle.record.specs.Tests.{any}
use Rattle.record.specs.Typing.{accept}
use Rattle.record.specs.Answer.{Returned, success, refusal, fault_at}
use Rattle.numbering.specs.declared.NameError.{NameError}
use Rattle.numbering.specs.declared.NameError.TheVariants.{Refused, Mismatch}

-- the answer of name text: the text is handed back, or why none is
abbrev pub Named : Type 0
Named = Result ⊤ NameError

unfoldable pub name_answer : Named → Returned
name_answer (Ok text) = success []
name_answer (Err (Refused f)) = refusal f
name_answer (Err Mismatch) = record { number = 11; values = 0 ∷ [] }

-- a part of one of two lent records
pub record Part : Type 0 where
  pub rewriting : Bool
  pub from : ℕ
  pub count : ℕ

pub record NameText : Type 0 where
  pub answer : Named
  pub part : Part

abbrev pub bytes_of : List ℕ → List ℕ → Part → List ℕ
bytes_of input rewriting p = take p.count (drop p.from (cond p.rewriting rewriting input))

-- "A refusal hands back the empty part at the input's start."
abbrev pub refused : NameError → NameText
refused e = record { answer = Err e; part = record { rewriting = false; from = 0; count = 0 } }

-- where the text of a name stands, and nothing tested but the end; the names of a record start at 8
unfoldable pub name_part : Bool → Reader Part
name_part rewriting = do
  type ← field 1 any
  n ← field 1 any
  from ← here
  t ← text n (λ t. (Ok tt))
  give (record { rewriting = rewriting; from = from; count = n })

abbrev pub parts_of : Bool → List ℕ → Res (List Part)
parts_of rewriting s = times (num_at s 6 2) (λ left. name_part rewriting) s 8

abbrev pub nth_part : List Part → ℕ → Part
nth_part ps i = get_or ps i (record { rewriting = false; from = 0; count = 0 })

-- "the input's below N, the rewriting's from N"; "then 6, at offset 0, if the index is not below the rewriting's name count"
unfoldable pub choose : ℕ → List Part → List Part → NameText
choose i ps qs =
    cond (ltb i (length qs))
    (record { answer = Ok tt; part = cond (ltb i (length ps)) (nth_part ps i) (nth_part qs i) })
    (refused (Refused (fault_at Name 0)))

-- "or it has under N names"
unfoldable pub from_parts : ℕ → Res (List Part) → Res (List Part) → NameText
from_parts i (fault k o) qs = refused Mismatch
from_parts i (got ps p) (fault k o) = refused Mismatch
from_parts i (got ps p) (got qs q) = cond (leb (length ps) (length qs)) (choose i ps qs) (refused Mismatch)

-- "fewer than 8 bytes, its L is not the rest, its version is not the input's"
abbrev pub headed : ℕ → List ℕ → Bool
headed version s = leb 8 (length s) && (eqb (num_at s 0 4) (length s - 4) && eqb (num_at s 4 1) version)

unfoldable pub with_input : List ℕ → List ℕ → ℕ → Res (Record Placed) → NameText
with_input input rewriting i (fault k o) = refused (Refused (fault_at k o))
with_input input rewriting i (got r p) =
    cond (headed r.version rewriting)
    (from_parts i (parts_of false input) (parts_of true rewriting))
    (refused Mismatch)

unfoldable pub name_text : List ℕ → List ℕ → ℕ → NameText
name_text input rewriting i = with_input input rewriting i (accept limits input)
