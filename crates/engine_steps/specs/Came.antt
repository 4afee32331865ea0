-- What as many steps as may be taken come to: where the machine's run from the same place leads, with the events that were added written out.
use Rattle.std.specs.Prelude.{ℕ, ◌-◌, ◌≤◌, List, [], Bool, true, false, not, ◌&&◌, ◌≡◌, ◌≢◌, Ok, Err}
use Rattle.record.specs.Decode.{id_width}
use Rattle.machine.specs.Machine.{Event}
use Rattle.running.specs.Steps.{Config, steps, shifted}
use Rattle.running.specs.House.{events_bytes}
use Rattle.running.specs.Engine.{unfit_within}
use Rattle.write_bytes.specs.Put.{Wrote}
use Rattle.engine_cells.specs.declared.Cells.{Cells}
use Rattle.engine_quiet.specs.declared.Ground.{Ground}
use Rattle.engine_quiet.specs.declared.Over.{Over}
use Rattle.engine_quiet.specs.declared.Over.TheVariants.{Unfit}
use Rattle.engine_quiet.specs.declared.Spot.{Spot}
use Rattle.engine_quiet.specs.Spot.{told_types, blocks_of, quiet, code_at}
use Rattle.engine_events.specs.declared.Turn.{Turn}
use Rattle.engine_events.specs.Turn.{config_in, Ready}

-- events are not told yet, and the instruction at p has one
abbrev pub waiting : List ℕ → Spot → Turn → Bool
waiting s p t = not t.tells && not (quiet (code_at s p.at))

-- the run goes no further: it is over, no step may be taken, or it waits
pub data Rests (s : List ℕ) (t : Turn) : Type 0 where
  is_over : (k : Over) → t.spot ≡ Err k → Rests s t
  spent : t.more ≡ 0 → Rests s t
  waits : (p : Spot) → t.spot ≡ Ok p → waiting s p t ≡ true → Rests s t

module _ (g : Ground) where
  -- k steps of the machine, and whether one of them takes an answer that does not fit
  abbrev pub steps_of : ℕ → Config → Config
  steps_of k c = steps (told_types g.types.now) (blocks_of g) k c

  abbrev pub unfit_of : ℕ → Config → Bool
  unfit_of k c = unfit_within (told_types g.types.now) (blocks_of g) k c

-- from t to r by a step without an event: nothing is written, and nothing is unfit
pub record Calm (t r : Turn) : Type 0 where
  pub event : r.event ≡ t.event
  pub stop : r.spot ≢ Err Unfit

-- from t to r; before and after: the cells; l and m: what was lent for the events
pub record Goes (g : Ground) (before after : Cells 256) (l m : List ℕ) (t r : Turn) : Type 0 where
  pub added : List Event
  -- the steps that t may take are those from r on, behind what was done so far
  pub rest :
      steps_of g t.more (config_in g before t) ≡
      steps_of g r.more (shifted added (t.more - r.more) (config_in g after r))
  pub same : unfit_of g t.more (config_in g before t) ≡ unfit_of g r.more (config_in g after r)
  pub wrote : Wrote l m t.event r.event (events_bytes (id_width g.s.now) added)
  pub waited : t.tells ≡ false → added ≡ []

-- from t as far as r
pub record Upto (g : Ground) (before after : Cells 256) (l m : List ℕ) (t r : Turn) : Type 0 where
  pub ready : Ready g r
  pub fewer : r.more ≤ t.more
  pub tells : r.tells ≡ t.tells
  pub unfit : r.spot ≡ Err Unfit → unfit_of g t.more (config_in g before t) ≡ true
  pub fit : r.spot ≢ Err Unfit → Goes g before after l m t r
  -- no answer is taken before events are told
  pub calm : t.tells ≡ false → r.spot ≢ Err Unfit

-- and r goes no further
pub record Came (g : Ground) (before after : Cells 256) (l m : List ℕ) (t r : Turn) : Type 0 where
  pub upto : Upto g before after l m t r
  pub rests : Rests g.s.now r
