-- What rewrite's answer tells of the bytes that it was lent and of those that it leaves: the three demands, as one statement. And what
-- the answer of figures tells of the places.
use Rattle.std.specs.Prelude.{Ok, Err, ℕ, ◌≤◌, ◌≡◌, ◌≢◌, ◌↔◌, List, length, take, drop}
use Rattle.record.specs.declared.Fault.{Fault}
use Rattle.record.specs.Record.{Bytes, Placed, Record, plain, function, limits, wide}
use Rattle.record.specs.Reader.{got}
use Rattle.record.specs.Read.{read}
use Rattle.record.specs.Typing.{accept}
use Rattle.record.specs.Answer.{checked}
use Rattle.numbering.specs.declared.RewriteError.TheVariants.{Room}
use Rattle.numbering.specs.declared.FiguresError.TheVariants.{Refused, TooFew}
use Rattle.numbering.specs.Made.{rewriting}
use Rattle.numbering.specs.Rewrite.{Rewritten, totals, rewrite, rewrite_leaves}
use Rattle.numbering.specs.Figures.{Figured, figures, figures_leaves}
use Rattle.numbering.specs.Ways.{all_saves, Ends}
use Rattle.numbering.specs.Ahead.{FewPlaces, Foretold}
use Rattle.numbering.specs.Program.{most_input, buffer_size}
use Rattle.pairing.specs.Demand.{RunAlike, SavesBounded}

-- a list of bytes that check accepts, and the record that it is
pub record Accepted (s : List ℕ) (r : Record Placed) : Type 0 where
  pub bytes : Bytes s
  pub end : ℕ
  pub accepted : accept limits s ≡ got r end

-- What `Ok (totals n k)` tells of an input s, of the output as it was lent and as it is left: check accepts s; the first n bytes of the
-- output are read, with the wider limits, as the rewriting of s; its saves fields add up to k; its function runs as that of s does, with
-- the bound on saves; no byte beyond them has changed.
pub record WrittenAlike (s out out' : List ℕ) (n k : ℕ) : Type 0 where
  pub input : Record Placed
  pub accepted : Accepted s input
  pub output : Record Placed
  pub reads : read wide (take n out') 0 ≡ got output n
  pub rewritten : plain output ≡ rewriting (plain input)
  pub saves : k ≡ all_saves (plain output).blocks
  pub alike : RunAlike (function (plain input)) (function (plain output))
  pub bounded : SavesBounded (function (plain input)) (function (plain output))
  pub beyond : drop n out' ≡ drop n out

-- The demands, of an input s, an output as it was lent and as it is left, and an answer.
pub record DemandsMet (s out out' : List ℕ) (answer : Rewritten) : Type 0 where
  -- of the input nothing is asked: its numbers are bytes because it is a slice of bytes
  pub bytes : Bytes s
  -- 1: "Every input ends in one of three ways."
  pub ends : Ends s out answer out'
  -- 2: "each accepted function has one rewriting, and exactly that is written"
  pub answers : answer ≡ rewrite s out
  pub leaves : out' ≡ rewrite_leaves s out
  -- 3, over the bytes
  pub written : (n k : ℕ) → answer ≡ Ok (totals n k) → WrittenAlike s out out' n k
  -- of the program: "Its output buffer is 65,536 bytes, which suffices."
  pub suffices : length s ≤ most_input → buffer_size ≤ length out → (n : ℕ) → answer ≢ Err (Room n)

-- Document 02, Point 1, of an input s, the places as they were lent and as they are left, and an answer.
pub record FiguresMet (s each each' : List ℕ) (answer : Figured) : Type 0 where
  pub answers : answer ≡ figures s each
  pub leaves : each' ≡ figures_leaves s each
  -- "these are the figures that rewrite would give"
  pub counted : (n k : ℕ) → answer ≡ Ok (totals n k) → Foretold s each n k
  -- "after all of check's refusals": each of them comes first, with its offset, however many places there are
  pub refused : (f : Fault) → (answer ≡ Err (Refused f)) ↔ (checked s ≡ Err f)
  -- "12: the slice has fewer places than blocks": exactly there
  pub too_few : (answer ≡ Err TooFew) ↔ FewPlaces s (length each)
  -- "nothing is written"
  pub untouched : ((n k : ℕ) → answer ≢ Ok (totals n k)) → each' ≡ each
  pub same_length : length each' ≡ length each
