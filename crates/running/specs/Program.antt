-- The program that runs an accession: what it writes to standard output, as a function of its standard input, which is a record, a store, a
-- list of answers and a limit, one after the other. It writes bytes, for a script.
use Rattle.std.specs.Prelude.{ℕ, ◌+◌, ◌-◌, cond, List, [], ◌∷◌, ◌++◌, map, length, take, drop, ltb, eqb}
use Rattle.record.specs.Record.{limits}
use Rattle.record.specs.Reader.{num_at}
use Rattle.record.specs.Write.{be, join}
use Rattle.record.specs.Answer.{Returned}
use Rattle.std.specs.Prelude.{Ok, Err}
use Rattle.running.specs.Engine.{Ran, Outcome, refused, unfit, ran, outcome, events_left, store_left, result, engine_answer}

-- the most bytes of its input, and what it lends for the events and for the store
abbrev pub most_run_input : ℕ
most_run_input = 262144

abbrev pub events_room : ℕ
events_room = 1048576

abbrev pub store_room : ℕ
store_room = 8192

-- ---- what it reads
-- where the part that begins at a place ends: it is its own four bytes of length and as many more as they say, or all that is there
unfoldable pub part_end : List ℕ → ℕ → ℕ
part_end s at = let n = 4 + num_at s at 4 in cond (ltb (length s - at) n) (length s) (at + n)

abbrev pub part : List ℕ → ℕ → ℕ → List ℕ
part s from to = take (to - from) (drop from s)

-- ---- what it writes
-- a number in one byte, and each value in eight
unfoldable pub returned_bytes : Returned → List ℕ
returned_bytes a = be 1 a.number ++ join (map (be 8) a.values)

-- where the run is done, the events and then the store
unfoldable pub bytes_left : Outcome → List ℕ
bytes_left (refused k o) = []
bytes_left unfit = []
bytes_left (ran w N c) = events_left w c ++ store_left N c

unfoldable pub when_done : Ran → List ℕ → List ℕ
when_done (Ok r) bs = bs
when_done (Err e) bs = []

abbrev pub ran_bytes : Ran → List ℕ → List ℕ
ran_bytes a bs = returned_bytes (engine_answer a) ++ when_done a bs

-- 10, with what should be so: the most bytes of the input, or where the limit stands
abbrev pub refused_input : ℕ → List ℕ
refused_input v = returned_bytes (record { number = 10; values = v ∷ [] })

-- room and more: the bytes lent for the events and for the store
module _ (room more : ℕ) where
  -- a, b and c: where the store, the answers and the limit begin
  unfoldable pub output_of : List ℕ → ℕ → ℕ → ℕ → List ℕ
  output_of s a b c =
      let o = outcome limits (take a s) (part s a b) (part s b c) (num_at s c 8) in
      cond (eqb (length s - c) 8) (ran_bytes (result room more o) (bytes_left o)) (refused_input c)

  unfoldable pub output_with : List ℕ → List ℕ
  output_with s =
      let a = part_end s 0 in
      let b = part_end s a in
      cond (ltb most_run_input (length s)) (refused_input most_run_input) (output_of s a b (part_end s b))

unfoldable pub run_output : List ℕ → List ℕ
run_output s = output_with events_room store_room s
