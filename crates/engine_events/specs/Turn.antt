-- A run between two steps as the code has it, and what a step does to it: the machine's step, with the events that it adds written out.
use Rattle.std.specs.Prelude.{ℕ, suc, ◌+◌, ◌*◌, ◌≤◌, List, true, false, cond, ◌≡◌, ◌≢◌, ltb, length, Option as CodeOption, None, Some, Result, Ok, Err}
use Rattle.std.proofs.Math.Option.{Option, none, some}
use Rattle.arith.specs.Value.{Val}
use Rattle.record.specs.declared.NameIx.{NameIx}
use Rattle.record.specs.Record.{Instr}
use Rattle.record.specs.Reader.{num_at}
use Rattle.record.specs.Decode.{id_width, names_count, items, instr_from, instr_end}
use Rattle.record.specs.Again.{Passes}
use Rattle.machine.specs.Machine.{Answer, Event, event_of}
use Rattle.running.specs.Steps.{Config, take_step, shifted}
use Rattle.running.specs.House.{event_bytes, events_bytes}
use Rattle.running.specs.Items.{answer_from, answer_end}
use Rattle.running.specs.Engine.{fits_at}
use Rattle.write_bytes.specs.Put.{put, Wrote}
use Rattle.engine_cells.specs.declared.Cells.{Cells}
use Rattle.engine_cells.specs.Cells.{row_from}
use Rattle.engine_house.specs.Reads.{Sure}
use Rattle.engine_quiet.specs.declared.Ground.{Ground}
use Rattle.engine_quiet.specs.declared.Over.{Over}
use Rattle.engine_quiet.specs.declared.Over.TheVariants.{Unfit}
use Rattle.engine_quiet.specs.declared.Spot.{Spot}
use Rattle.engine_quiet.specs.Spot.{told_types, blocks_of, stand_of, at_spot, Grounded, Standing, quiet, code_at}
use Rattle.engine_events.specs.declared.Turn.{Turn}

-- ---- sizes
-- the bytes of an event at most: an id of eight bytes, code, callee, count, and eight pointers
abbrev pub most_event : ℕ
most_event = 148

-- the bytes of an answer at most
abbrev pub most_answer : ℕ
most_answer = 17

-- no list of answers, and no events that it can answer, go so far
abbrev pub far : ℕ
far = 281474976710656

-- ---- views
-- the answers left
abbrev pub answers_left : List ℕ → Turn → List Answer
answers_left list t = items (answer_from list) (answer_end list) t.answer t.answers

-- no event so far and no step counted
abbrev pub config_in : Ground → Cells 256 → Turn → Config
config_in g cells t = at_spot g.s.now cells (answers_left g.list.now t) t.spot 0

-- ---- what a run rests on
-- how many events can still come: one for each answer left and one more; none once it is over
-- answers: how many are left
abbrev pub ahead_of : Result Spot Over → ℕ → ℕ
ahead_of (Ok p) answers = suc answers
ahead_of (Err k) answers = 0

abbrev pub events_ahead : Turn → ℕ
events_ahead t = ahead_of t.spot t.answers

pub record Ready (g : Ground) (t : Turn) : Type 0 where
  pub standing : Standing g t.spot
  pub sure : Sure g.list.now t.answer t.answers
  pub answers : t.answer + most_answer * t.answers ≤ far
  pub events : t.event + most_event * events_ahead t ≤ far

-- the run stands before the instruction at p
pub record Going (g : Ground) (p : Spot) (t : Turn) : Type 0 where
  pub grounded : Grounded g
  pub ready : Ready g t
  pub here : t.spot ≡ Ok p

-- ---- an instruction with an event
abbrev pub instr_at : List ℕ → ℕ → Instr
instr_at s at = instr_from (id_width s) s at

-- where its argument count stands: codes below 64 have a dest before it
abbrev pub count_place : List ℕ → ℕ → ℕ
count_place s at = cond (ltb (code_at s at) 64) (at + id_width s + 1 + 2) (at + id_width s + 1)

-- its arguments
abbrev pub args_at : List ℕ → ℕ → List NameIx
args_at s at = row_from s (count_place s at + 1) (num_at s (count_place s at) 1)

pub record Loud (s : List ℕ) (at : ℕ) : Type 0 where
  pub passes : Passes (names_count s) (instr_at s at)
  pub loud : quiet (code_at s at) ≡ false
  pub inside : instr_end (id_width s) s at ≤ length s

-- its event with these values, if they were read, is written from a place on
unfoldable pub EventPut : List ℕ → ℕ → List ℕ → List ℕ → ℕ → Option (List Val) → Type 0
EventPut s at l m to none = Unit {0}
EventPut s at l m to (some vs) = m ≡ put l to (event_bytes (id_width s) (event_of (instr_at s at) vs))

-- the same with the place behind it
pub record EventTold (s : List ℕ) (at : ℕ) (l m : List ℕ) (to : ℕ) (vs : List Val) (r : CodeOption ℕ) : Type 0 where
  pub place : ℕ
  pub is : r ≡ Some place
  pub wrote : Wrote l m to place (event_bytes (id_width s) (event_of (instr_at s at) vs))
  pub near : place ≤ to + most_event

unfoldable pub EventAs : List ℕ → ℕ → List ℕ → List ℕ → ℕ → CodeOption ℕ → Option (List Val) → Type 0
EventAs s at l m to r none = (r ≡ None) × (m ≡ l)
EventAs s at l m to r (some vs) = EventTold s at l m to vs r

-- ---- a step, from t to r; before and after: the cells; l and m: what was lent for the events
pub record Does (g : Ground) (before after : Cells 256) (l m : List ℕ) (t r : Turn) : Type 0 where
  pub added : List Event
  pub fits : fits_at (told_types g.types.now) (config_in g before t).mach (stand_of g.s.now t.spot) ≡ true
  pub takes : take_step (told_types g.types.now) (blocks_of g) (config_in g before t) ≡ shifted added 1 (config_in g after r)
  pub wrote : Wrote l m t.event r.event (events_bytes (id_width g.s.now) added)

-- or the answer that it takes does not fit: then nothing is said of the cells, of what is written and of where it ends, since nothing of such
-- a run is handed on
pub record Stepped (g : Ground) (before after : Cells 256) (l m : List ℕ) (t r : Turn) : Type 0 where
  pub ready : Ready g r
  pub more : r.more ≡ t.more
  pub tells : r.tells ≡ t.tells
  pub unfit : r.spot ≡ Err Unfit → fits_at (told_types g.types.now) (config_in g before t).mach (stand_of g.s.now t.spot) ≡ false
  pub fit : r.spot ≢ Err Unfit → Does g before after l m t r
