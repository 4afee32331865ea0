-- The plain machine by single steps, as "a step limit" counts them: the same `step`, one by one where a run counts blocks.
use Rattle.std.specs.Prelude.{ℕ, zero, suc, ◌+◌, Bool, true, false, List, [], ◌∷◌, ◌++◌, drop}
use Rattle.std.proofs.Math.Option.{Option, none, some}
use Rattle.record.specs.Record.{Instr, Block}
use Rattle.machine.specs.Machine.{Store, Context, Answer, Event, Stop, at_end, Mach, Step, goes, jumps, ends, step, Place, before, stopped, Run}

-- before an instruction of a block, with those behind it there; or over, by a stop
pub data Stand : Type 0 where
  facing : ℕ → Instr → List Instr → Stand
  over : Stop → Stand

pub record Config : Type 0 where
  pub stand : Stand
  pub mach : Mach

-- "how it ended": the stop, or none where steps are left to do
abbrev pub stop_in : Stand → Option Stop
stop_in (facing b i is) = none
stop_in (over s) = some s

abbrev pub running : Stand → Bool
running (facing b i is) = true
running (over s) = false

-- ---- landing
-- at the first of these instructions of block b; where there is none, at the other place
abbrev pub first_of : ℕ → List Instr → Stand → Stand
first_of b [] other = other
first_of b (i ∷ is) other = facing b i is

-- "A block is passed .. an empty one without a step", "past the last, the run ends"; b: the number of the first of these blocks
unfoldable pub land_in : ℕ → List (Block Instr) → Stand
land_in b [] = over at_end
land_in b (x ∷ bs) = first_of b x.body (land_in (suc b) bs)

unfoldable pub land : List (Block Instr) → ℕ → Stand
land bs b = land_in b (drop b bs)

-- ---- one step
-- where a step leads; is: the instructions behind it in its block b
abbrev pub moved : List (Block Instr) → ℕ → List Instr → Step → Config
moved bs b is (goes m) = record { stand = first_of b is (land bs (suc b)); mach = m }
moved bs b is (jumps c m) = record { stand = land bs c; mach = m }
moved bs b is (ends s m) = record { stand = over s; mach = m }

-- what is over stays as it is
abbrev pub step_from : Context → List (Block Instr) → Mach → Stand → Config
step_from ctx bs m (facing b i is) = moved bs b is (step ctx i m)
step_from ctx bs m (over s) = record { stand = over s; mach = m }

unfoldable pub take_step : Context → List (Block Instr) → Config → Config
take_step ctx bs c = step_from ctx bs c.mach c.stand

-- ---- k steps
unfoldable pub steps : Context → List (Block Instr) → ℕ → Config → Config
steps ctx bs zero c = c
steps ctx bs (suc k) c = steps ctx bs k (take_step ctx bs c)

-- "Start: block 0."
unfoldable pub start : List (Block Instr) → Store → List Answer → Config
start bs σ xs = record { stand = land bs 0; mach = record { store = σ; answers = xs; events = []; steps = 0 } }

-- ---- a run by blocks, as it stands among the steps
abbrev pub stand_at : List (Block Instr) → Place → Stand
stand_at bs (before b) = land bs b
stand_at bs (stopped s b p) = over s

abbrev pub config_of : List (Block Instr) → Run → Config
config_of bs r = record { stand = stand_at bs r.place; mach = r.mach }

abbrev pub stop_at : Place → Option Stop
stop_at (before b) = none
stop_at (stopped s b p) = some s

-- ---- a run that goes on behind others: es in front of its events, and k steps counted before
abbrev pub shifted_mach : List Event → ℕ → Mach → Mach
shifted_mach es k m = record { store = m.store; answers = m.answers; events = es ++ m.events; steps = k + m.steps }

abbrev pub shifted : List Event → ℕ → Config → Config
shifted es k c = record { stand = c.stand; mach = shifted_mach es k c.mach }
