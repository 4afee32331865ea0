-- A run that is over, behind an answer or not: what it rests on, and the machine's run at it.
use Prim.Native.Nat.{ℕ, ◌+◌, ◌*◌, ◌≤◌}
use mathlib.Core.Path.{◌≡◌, refl, sym, ap}
use mathlib.Core.List.{List, [], ◌∷◌}
use native.Mathlib.Omega.{arith}
use Rattle.std.proofs.Common.{Err}
use Rattle.record.specs.Record.{Block, Instr}
use Rattle.record.specs.Decode.{items}
use Rattle.machine.specs.Machine.{Answer, Event, ends, tick, happens}
use Rattle.running.specs.Items.{answer_from, answer_end}
use Rattle.running.specs.Steps.{moved, shifted}
use Rattle.engine_house.specs.Reads.{Sure}
use Rattle.engine_cells.specs.declared.Cells.{Cells}
use Rattle.engine_quiet.specs.declared.Ground.{Ground}
use Rattle.engine_quiet.specs.declared.Over.{Over}
use Rattle.engine_quiet.specs.Spot.{stop_by, blocks_of}
use Rattle.engine_events.specs.declared.Turn.{Turn}
use Rattle.engine_events.specs.Turn.{most_answer, far, config_in, Ready}

-- over, with these answers left and its events up to a place
abbrev pub over_turn : Over → ℕ → ℕ → ℕ → Turn → Turn
over_turn stop event answer answers t =
    record {
      spot = Err stop;
      more = t.more;
      answer = answer;
      answers = answers;
      event = event;
      tells = t.tells;
    }

pub ready_over :
    (g : Ground) (stop : Over) (event answer answers : ℕ) (t : Turn) →
    Sure g.list.now answer answers → answer + most_answer * answers ≤ far → event ≤ far →
    Ready g (over_turn stop event answer answers t)
ready_over g stop event answer answers t u a e = record { standing = tt; sure = u; answers = a; events = omega (arith, e) }

-- where a stop leads, behind an event or without one
module _ (g : Ground) (cells : Cells 256) (b : ℕ) (is : List Instr) (stop : Over) (event answer answers : ℕ) (t : Turn) where
  abbrev bs : List (Block Instr)
  bs = blocks_of g

  abbrev xs : List Answer
  xs = items (answer_from g.list.now) (answer_end g.list.now) answer answers

  pub over_told :
      (e : Event) → moved bs b is (ends (stop_by stop) (happens (tick (config_in g cells t).mach) e xs)) ≡
      shifted (e ∷ []) 1 (config_in g cells (over_turn stop event answer answers t))
  unfolding tick happens
  over_told e = refl

  pub over_silent :
      xs ≡ items (answer_from g.list.now) (answer_end g.list.now) t.answer t.answers →
      moved bs b is (ends (stop_by stop) (tick (config_in g cells t).mach)) ≡
      shifted [] 1 (config_in g cells (over_turn stop event answer answers t))
  unfolding tick
  over_silent e =
      ap (λ (ys : List Answer).
      moved bs b is (ends (stop_by stop) (record { store = (config_in g cells t).mach.store; answers = ys; events = []; steps = 1 }))) (sym e)
