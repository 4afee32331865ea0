-- An accepted record laid open for a run: its types, the places of its blocks, and where the run begins.
use Rattle.std.specs.Prelude.{ℕ, ◌≤◌, List, false, true, ◌≡◌, ◌≢◌, length, Result, Ok, Err}
use Rattle.record.specs.Record.{Placed, Record, plain, function, limits, id_bytes}
use Rattle.record.specs.Reader.{got}
use Rattle.record.specs.Typing.{accept}
use Rattle.record.specs.Decode.{id_width}
use Rattle.machine.specs.Machine.{Answer}
use Rattle.running.specs.declared.Ending.{Ending}
use Rattle.running.specs.declared.Ending.TheVariants as how
use Rattle.running.specs.declared.RunError.{RunError}
use Rattle.running.specs.declared.RunError.TheVariants as error
use Rattle.running.specs.Steps.{land}
use Rattle.running.specs.House.{answers}
use Rattle.running.specs.Engine.{Ran, engine, engine_events, engine_store}
use Rattle.engine_quiet.specs.declared.Ground.{Ground}
use Rattle.engine_quiet.specs.declared.Over.{Over}
use Rattle.engine_quiet.specs.declared.Over.TheVariants.{End, Ret, Halt, Unset, Division, Unfit}
use Rattle.engine_quiet.specs.declared.Spot.{Spot}
use Rattle.engine_quiet.specs.Spot.{blocks_of, stand_of, Grounded}
use Rattle.engine_events.specs.declared.Turn.{Turn}
use Rattle.engine_events.specs.Turn.{answers_left, Ready}

-- the types of its names, and the places of its blocks
pub record Opened (g : Ground) : Type 0 where
  pub it : Record Placed
  pub end : ℕ
  pub accepted : accept limits g.s.now ≡ got it end
  pub types_are : g.types.now ≡ (function (plain it)).types
  pub blocks_are : (function (plain it)).blocks ≡ blocks_of g
  pub width : id_bytes it.version ≡ id_width g.s.now
  pub grounded : Grounded g
  pub few : length g.types.now ≤ 256

-- a run that has not begun: with all answers of a list that reads, at the start, and no event told
pub record Begun (g : Ground) (t : Turn) : Type 0 where
  pub told : List Answer
  pub end : ℕ
  pub reads : answers g.list.now 0 ≡ got told end
  pub those : told ≡ answers_left g.list.now t
  pub stand : stand_of g.s.now t.spot ≡ land (blocks_of g) 0
  pub ready : Ready g t
  pub fits : t.spot ≢ Err Unfit
  pub first : t.event ≡ 0
  pub waits : t.tells ≡ false

-- how a run ended that stands there, or is over so; or that an answer did not fit
abbrev pub ended_by : Result Spot Over → Result Ending RunError
ended_by (Ok p) = Ok how.Limit
ended_by (Err End) = Ok how.End
ended_by (Err Ret) = Ok how.Ret
ended_by (Err Halt) = Ok how.Halt
ended_by (Err Unset) = Ok how.Unset
ended_by (Err (Division id)) = Ok (how.Division id)
ended_by (Err Unfit) = Err error.Unfit

-- the engine's answer, and what it leaves in both lent parts
pub record Engine (s store list : List ℕ) (limit : ℕ) (events left events' left' : List ℕ) (r : Ran) : Type 0 where
  pub answer : r ≡ engine s store list limit events left
  pub events_are : events' ≡ engine_events s store list limit events left
  pub store_is : left' ≡ engine_store s store list limit events left

-- a run that goes on and tells its events
abbrev pub told_on : Turn → Turn
told_on t =
    record { spot = t.spot; more = t.more; answer = t.answer; answers = t.answers; event = t.event; tells = true }
