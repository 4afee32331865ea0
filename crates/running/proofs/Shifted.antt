-- What stands in front of a run's events, and the steps counted before it, change nothing else in the run by steps.
use Prim.Native.Nat.{ℕ, zero, suc, ◌+◌}
use mathlib.Core.Path.{◌≡◌, refl, sym, ap, ◌∙◌}
use mathlib.Core.Bool.{Bool, true, false, not, ◌||◌}
use mathlib.Core.Option.{Option, none, some}
use mathlib.Core.List.{List, [], ◌∷◌, ◌++◌, append_assoc}
use native.Mathlib.Omega.{arith}
use Rattle.arith.specs.Value.{Val, has_type}
use Rattle.arith.specs.Operation.{Result, ok, stops, unset, eval}
use Rattle.record.specs.Record.{Instr, Block}
use Rattle.record.specs.Form.{Form, pure, new, effect, return, nop, jump, branch, form}
use Rattle.machine.specs.Machine.{Context, Answer, value, go_on, halt, Event, at_ret, at_halt, Mach, Step, goes, jumps, ends, tick, assign, happens, read_all, event_of, finish, take_value, answered, perform, ask, acknowledged, tell, leave, choose, bool_in, act, step}
use Rattle.running.specs.Steps.{Stand, facing, over, Config, moved, step_from, take_step, steps, shifted_mach, shifted}
use Rattle.running.specs.Engine.{fits_form, fits, fits_at, unfit_within}

pub shifted_nothing : (c : Config) → shifted [] 0 c ≡ c
shifted_nothing c =
    let e : 0 + c.mach.steps ≡ c.mach.steps = omega arith in
    let m = c.mach in
    λ i. record { stand = c.stand; mach = record { store = m.store; answers = m.answers; events = m.events; steps = e i } }

pub shifted_shifted :
    (es fs : List Event) (k j : ℕ) (c : Config) → shifted es k (shifted fs j c) ≡ shifted (es ++ fs) (k + j) c
shifted_shifted es fs k j c =
    let e : k + (j + c.mach.steps) ≡ k + j + c.mach.steps = omega arith in
    let p : es ++ (fs ++ c.mach.events) ≡ (es ++ fs) ++ c.mach.events = sym (append_assoc es fs c.mach.events) in
    let m = c.mach in
    λ i. record { stand = c.stand; mach = record { store = m.store; answers = m.answers; events = p i; steps = e i } }

-- ---- one step
module _ (es : List Event) (k : ℕ) where
  abbrev S : Mach → Mach
  S m = shifted_mach es k m

  abbrev shifted_step : Step → Step
  shifted_step (goes m) = goes (S m)
  shifted_step (jumps b m) = jumps b (S m)
  shifted_step (ends s m) = ends s (S m)

  tick_shifted : (m : Mach) → tick (S m) ≡ S (tick m)
  unfolding tick
  tick_shifted m =
      let e : suc (k + m.steps) ≡ k + suc m.steps = omega arith in
      λ i. record { store = m.store; answers = m.answers; events = es ++ m.events; steps = e i }

  happens_shifted : (m : Mach) (e : Event) (xs : List Answer) → happens (S m) e xs ≡ S (happens m e xs)
  unfolding happens
  happens_shifted m e xs =
      let p = append_assoc es m.events (e ∷ []) in
      λ i. record { store = m.store; answers = xs; events = p i; steps = k + m.steps }

  finish_shifted : (i : Instr) (m : Mach) (r : Result) → finish i (S m) r ≡ shifted_step (finish i m r)
  unfolding finish assign
  finish_shifted i m (ok v) = refl
  finish_shifted i m (stops c) = refl
  finish_shifted i m unset = refl

  take_value_shifted : (b : Bool) (i : Instr) (m : Mach) (v : Val) → take_value b i (S m) v ≡ shifted_step (take_value b i m v)
  unfolding take_value assign
  take_value_shifted true i m v = refl
  take_value_shifted false i m v = refl

  answered_shifted :
      (t : ℕ) (i : Instr) (m : Mach) (e : Event) (xs : List Answer) → answered t i (S m) e xs ≡ shifted_step (answered t i m e xs)
  unfolding answered
  answered_shifted t i m e [] = ap (ends at_halt) (happens_shifted m e [])
  answered_shifted t i m e (value v ∷ xs) =
      ap (λ (n : Mach). take_value (has_type t v) i n v) (happens_shifted m e xs)
      ∙ take_value_shifted (has_type t v) i (happens m e xs) v
  answered_shifted t i m e (go_on ∷ xs) = ap (ends at_halt) (happens_shifted m e xs)
  answered_shifted t i m e (halt ∷ xs) = ap (ends at_halt) (happens_shifted m e xs)

  perform_shifted :
      (t : ℕ) (i : Instr) (m : Mach) (vs : List Val) (o : Option Val) → perform t i (S m) vs o ≡ shifted_step (perform t i m vs o)
  unfolding perform assign
  perform_shifted t i m vs (some v) = refl
  perform_shifted t i m vs none = answered_shifted t i m (event_of i vs) m.answers

  ask_shifted : (ctx : Context) (i : Instr) (m : Mach) (o : Option (List Val)) → ask ctx i (S m) o ≡ shifted_step (ask ctx i m o)
  unfolding ask
  ask_shifted ctx i m none = refl
  ask_shifted ctx i m (some vs) = perform_shifted _ i m vs _

  acknowledged_shifted : (m : Mach) (e : Event) (xs : List Answer) → acknowledged (S m) e xs ≡ shifted_step (acknowledged m e xs)
  unfolding acknowledged
  acknowledged_shifted m e [] = ap (ends at_halt) (happens_shifted m e [])
  acknowledged_shifted m e (value v ∷ xs) = ap (ends at_halt) (happens_shifted m e xs)
  acknowledged_shifted m e (go_on ∷ xs) = ap goes (happens_shifted m e xs)
  acknowledged_shifted m e (halt ∷ xs) = ap (ends at_halt) (happens_shifted m e xs)

  tell_shifted : (i : Instr) (m : Mach) (o : Option (List Val)) → tell i (S m) o ≡ shifted_step (tell i m o)
  unfolding tell
  tell_shifted i m none = refl
  tell_shifted i m (some vs) = acknowledged_shifted m (event_of i vs) m.answers

  leave_shifted : (i : Instr) (m : Mach) (o : Option (List Val)) → leave i (S m) o ≡ shifted_step (leave i m o)
  unfolding leave
  leave_shifted i m none = refl
  leave_shifted i m (some vs) = ap (ends at_ret) (happens_shifted m (event_of i vs) m.answers)

  choose_shifted : (b c : ℕ) (m : Mach) (o : Option Bool) → choose b c (S m) o ≡ shifted_step (choose b c m o)
  unfolding choose
  choose_shifted b c m none = refl
  choose_shifted b c m (some true) = refl
  choose_shifted b c m (some false) = refl

  act_shifted : (ctx : Context) (i : Instr) (m : Mach) (f : Form) → act ctx i (S m) f ≡ shifted_step (act ctx i m f)
  unfolding act
  act_shifted ctx i m (pure e) = finish_shifted i m (eval m.store e)
  act_shifted ctx i m (new xs) = ask_shifted ctx i m (read_all m.store xs)
  act_shifted ctx i m (effect xs) = tell_shifted i m (read_all m.store xs)
  act_shifted ctx i m (return xs) = leave_shifted i m (read_all m.store xs)
  act_shifted ctx i m nop = refl
  act_shifted ctx i m (jump b) = refl
  act_shifted ctx i m (branch a b c) = choose_shifted b c m (bool_in (m.store a))

  step_shifted : (ctx : Context) (i : Instr) (m : Mach) → step ctx i (S m) ≡ shifted_step (step ctx i m)
  unfolding step
  step_shifted ctx i m =
      ap (λ (n : Mach). act ctx i n (form ctx.types i)) (tick_shifted m) ∙ act_shifted ctx i (tick m) (form ctx.types i)

  -- ---- steps
  module _ (ctx : Context) (bs : List (Block Instr)) where
    moved_shifted : (b : ℕ) (is : List Instr) (s : Step) → moved bs b is (shifted_step s) ≡ shifted es k (moved bs b is s)
    moved_shifted b is (goes m) = refl
    moved_shifted b is (jumps c m) = refl
    moved_shifted b is (ends s m) = refl

    from_shifted : (m : Mach) (d : Stand) → step_from ctx bs (S m) d ≡ shifted es k (step_from ctx bs m d)
    from_shifted m (facing b i is) = ap (moved bs b is) (step_shifted ctx i m) ∙ moved_shifted b is (step ctx i m)
    from_shifted m (over s) = refl

    pub take_step_shifted : (c : Config) → take_step ctx bs (shifted es k c) ≡ shifted es k (take_step ctx bs c)
    unfolding take_step
    take_step_shifted c = from_shifted c.mach c.stand

    pub steps_shifted : (n : ℕ) (c : Config) → steps ctx bs n (shifted es k c) ≡ shifted es k (steps ctx bs n c)
    unfolding steps
    steps_shifted zero c = refl
    steps_shifted (suc n) c = ap (steps ctx bs n) (take_step_shifted c) ∙ steps_shifted n (take_step ctx bs c)

    -- ---- what fits
    form_fits_shifted : (i : Instr) (m : Mach) (f : Form) → fits_form ctx i (S m) f ≡ fits_form ctx i m f
    unfolding fits_form
    form_fits_shifted i m (pure e) = refl
    form_fits_shifted i m (new xs) = refl
    form_fits_shifted i m (effect xs) = refl
    form_fits_shifted i m (return xs) = refl
    form_fits_shifted i m nop = refl
    form_fits_shifted i m (jump b) = refl
    form_fits_shifted i m (branch a b c) = refl

    stand_fits_shifted : (m : Mach) (d : Stand) → fits_at ctx (S m) d ≡ fits_at ctx m d
    unfolding fits
    stand_fits_shifted m (facing b i is) = form_fits_shifted i m (form ctx.types i)
    stand_fits_shifted m (over s) = refl

    pub fits_shifted :
        (c : Config) → fits_at ctx (shifted es k c).mach (shifted es k c).stand ≡ fits_at ctx c.mach c.stand
    fits_shifted c = stand_fits_shifted c.mach c.stand

    pub unfit_shifted : (n : ℕ) (c : Config) → unfit_within ctx bs n (shifted es k c) ≡ unfit_within ctx bs n c
    unfolding unfit_within
    unfit_shifted zero c = refl
    unfit_shifted (suc n) c =
        λ i. not (fits_shifted c i) || (ap (unfit_within ctx bs n) (take_step_shifted c) ∙ unfit_shifted n (take_step ctx bs c)) i
