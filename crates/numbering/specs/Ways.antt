-- The ways in which rewrite ends: "Check's refusals, then 9 ..", else success; and what each answers and leaves.
-- That exactly one holds of every input and output is proved in proofs/Ways.antt.
use Rattle.std.specs.Prelude.{Ok, Err, ℕ, ◌+◌, ◌<◌, ◌≤◌, ◌≡◌, List, [], ◌∷◌, ◌++◌, length, drop}
use Rattle.record.specs.declared.Fault.{Fault}
use Rattle.record.specs.Record.{Instr, Placed, Block, Record, plain, limits}
use Rattle.record.specs.Reader.{got}
use Rattle.record.specs.Typing.{accept}
use Rattle.record.specs.Answer.{checked}
use Rattle.numbering.specs.declared.RewriteError.TheVariants.{Refused, Room}
use Rattle.numbering.specs.Made.{rewriting}
use Rattle.numbering.specs.Rewrite.{Rewritten, totals, rewritten_bytes}

-- "all saves": the saves fields of all blocks, added up
abbrev pub all_saves : List (Block Instr) → ℕ
all_saves [] = 0
all_saves (b ∷ bs) = b.saves + all_saves bs

-- ---- what an input and the length of an output can be
-- "Check's refusals"
pub record Faulty (s : List ℕ) : Type 0 where
  pub fault : Fault
  pub refused : checked s ≡ Err fault

-- "the output is shorter than the bytes needed"
pub record TooShort (s : List ℕ) (room : ℕ) : Type 0 where
  pub it : Record Placed
  pub end : ℕ
  pub accepted : accept limits s ≡ got it end
  pub short : room < length (rewritten_bytes it)

-- the output holds them all
pub record HasRoom (s : List ℕ) (room : ℕ) : Type 0 where
  pub it : Record Placed
  pub end : ℕ
  pub accepted : accept limits s ≡ got it end
  pub holds : length (rewritten_bytes it) ≤ room

-- one of three holds, and the others do not
pub data ExactlyOne (A B C : Type 0) : Type 0 where
  first : A → ¬ B → ¬ C → ExactlyOne A B C
  second : ¬ A → B → ¬ C → ExactlyOne A B C
  third : ¬ A → ¬ B → C → ExactlyOne A B C

-- ---- what rewrite answers then, and what it leaves of the output
pub record Ends (s out : List ℕ) (answer : Rewritten) (left : List ℕ) : Type 0 where
  pub one_way : ExactlyOne (Faulty s) (TooShort s (length out)) (HasRoom s (length out))
  -- check's reason and offset; "A refusal leaves the output untouched"
  pub faulty : (w : Faulty s) → (answer ≡ Err (Refused w.fault)) × (left ≡ out)
  -- "the bytes needed, which it returns"; the output untouched
  pub too_short : (w : TooShort s (length out)) → (answer ≡ Err (Room (length (rewritten_bytes w.it)))) × (left ≡ out)
  -- "Success returns bytes written and all saves; bytes beyond are untouched"
  pub has_room :
      (w : HasRoom s (length out)) →
      (answer ≡ Ok (totals (length (rewritten_bytes w.it)) (all_saves (rewriting (plain w.it)).blocks))) ×
      (left ≡ rewritten_bytes w.it ++ drop (length (rewritten_bytes w.it)) out)
  pub same_length : length left ≡ length out
