-- "It does what the plain machine does": what a call that is done says and leaves is the plain machine's. And what 13 refuses would have
-- halted the machine.
use Prim.Native.Nat.{ℕ, zero, suc, ◌≤◌, ◌<◌}
use mathlib.Core.Path.{◌≡◌, refl, sym, ap, ◌∙◌, subst}
use mathlib.Core.Bool.{Bool, true, false, cond, not, ◌||◌, true≢false}
use mathlib.Core.Logic.{◌↔◌}
use mathlib.Core.Option.{Option, none, some}
use mathlib.Core.List.{List, [], ◌∷◌}
use native.Mathlib.Omega.{arith}
use borrow.Author.Tests.{le-ltb}
use Rattle.std.proofs.lemmas.Bool.{or_from}
use Rattle.arith.proofs.Clash.{clash}
use lib.ListN.{length}
use Rattle.arith.specs.Value.{Val, has_type}
use Rattle.record.specs.Record.{Instr, Placed, Block, Record, Function, function, plain, names_of, limits, id_bytes}
use Rattle.record.specs.Form.{Form, pure, new, effect, return, nop, jump, branch, form}
use Rattle.record.specs.Reader.{Res, got, fault}
use Rattle.record.specs.Typing.{accept}
use Rattle.running.specs.declared.Ending.{Ending}
use Rattle.running.specs.declared.Ending.TheVariants.{Limit}
use Rattle.std.specs.Prelude.{Err}
use Rattle.running.specs.Engine.{run_of, done}
use Rattle.running.specs.declared.Run.{Run}
use Rattle.running.specs.declared.RunError.TheVariants.{Room}
use Rattle.machine.specs.Machine.{Store, Context, plain_machine, Answer, value, go_on, halt, Event, Stop, at_end, at_ret, at_halt, at_unset, at_division, Mach, Step, ends, tick, happens, read_all, take_value, answered, perform, ask, acknowledged, tell, act, step, stopped, run}
use Rattle.running.specs.Steps.{Stand, facing, over, Config, running, moved, step_from, take_step, steps, start}
use Rattle.running.specs.House.{stored, answers, holding, values_from, store_bytes, events_bytes}
use Rattle.running.specs.Engine.{fits_value, fits_effect, fits_performed, fits_new, fits_told, fits_form, fits, fits_at, unfit_within, Outcome, refused, unfit, ran, running_for, lets_pass, with_inputs, with_read, with_record, outcome, stop_ending, ending_of, events_left, store_left, too_short, result, written, events_out, store_out, engine, engine_events, engine_store}
use Rattle.running.proofs.Steps.{over_stays}
use Rattle.running.proofs.Limit.{steps_at_most, steps_reach, limit_exact, limit_counts}

-- ---- an answer that does not fit halts the machine
pub data Halts : Step → Type 0 where
  halts : (m : Mach) → Halts (ends at_halt m)

untyped_halts : (b : Bool) (i : Instr) (m : Mach) (v : Val) → b ≡ false → Halts (take_value b i m v)
unfolding take_value
untyped_halts true i m v e = absurd (true≢false e)
untyped_halts false i m v e = halts m

answered_halts : (t : ℕ) (i : Instr) (m : Mach) (e : Event) (xs : List Answer) → fits_value t xs ≡ false → Halts (answered t i m e xs)
unfolding answered fits_value
answered_halts t i m e [] h = halts _
answered_halts t i m e (value v ∷ xs) h = untyped_halts (has_type t v) i (happens m e xs) v h
answered_halts t i m e (go_on ∷ xs) h = halts _
answered_halts t i m e (halt ∷ xs) h = halts _

acknowledged_halts : (m : Mach) (e : Event) (xs : List Answer) → fits_effect xs ≡ false → Halts (acknowledged m e xs)
unfolding acknowledged fits_effect
acknowledged_halts m e [] h = halts _
acknowledged_halts m e (value v ∷ xs) h = halts _
acknowledged_halts m e (go_on ∷ xs) h = absurd (true≢false h)
acknowledged_halts m e (halt ∷ xs) h = halts _

performed_halts :
    (t : ℕ) (i : Instr) (m : Mach) (vs : List Val) (o : Option Val) →
    fits_performed t m.answers o ≡ false → Halts (perform t i m vs o)
unfolding perform
performed_halts t i m vs (some v) h = absurd (true≢false h)
performed_halts t i m vs none h = answered_halts t i m _ m.answers h

ask_halts :
    (ctx : Context) (i : Instr) (m : Mach) (o : Option (List Val)) →
    fits_new ctx i m.answers o ≡ false → Halts (ask ctx i m o)
unfolding ask fits_new
ask_halts ctx i m none h = absurd (true≢false h)
ask_halts ctx i m (some vs) h = performed_halts _ i m vs _ h

tell_halts : (i : Instr) (m : Mach) (o : Option (List Val)) → fits_told m.answers o ≡ false → Halts (tell i m o)
unfolding tell fits_told
tell_halts i m none h = absurd (true≢false h)
tell_halts i m (some vs) h = acknowledged_halts m _ m.answers h

act_halts : (ctx : Context) (i : Instr) (m : Mach) (f : Form) → fits_form ctx i m f ≡ false → Halts (act ctx i (tick m) f)
unfolding act fits_form tick
act_halts ctx i m (pure e) h = absurd (true≢false h)
act_halts ctx i m (new xs) h = ask_halts ctx i (tick m) (read_all m.store xs) h
act_halts ctx i m (effect xs) h = tell_halts i (tick m) (read_all m.store xs) h
act_halts ctx i m (return xs) h = absurd (true≢false h)
act_halts ctx i m nop h = absurd (true≢false h)
act_halts ctx i m (jump b) h = absurd (true≢false h)
act_halts ctx i m (branch a b c) h = absurd (true≢false h)

-- "any other answer .. halts": so 13 refuses only what the machine would have halted at
pub unfit_halts : (ctx : Context) (i : Instr) (m : Mach) → fits ctx i m ≡ false → Halts (step ctx i m)
unfolding fits step
unfit_halts ctx i m h = act_halts ctx i m (form ctx.types i) h

-- ---- what a call comes to
-- what the inputs read as
pub record Given (s store list : List ℕ) : Type 0 where
  pub rec : Record Placed
  pub rec_end : ℕ
  pub values : List (Option Val)
  pub values_end : ℕ
  pub told : List Answer
  pub told_end : ℕ
  pub accepted : accept limits s ≡ got rec rec_end
  pub store_reads : stored (names_of (function (plain rec))) store 0 ≡ got values values_end
  pub list_reads : answers list 0 ≡ got told told_end

-- a run, by what was given
pub record Comes (s store list : List ℕ) (limit w N : ℕ) (c : Config) : Type 0 where
  pub given : Given s store list
  pub passed : lets_pass limit (function (plain given.rec)) given.values given.told ≡ true
  pub width : id_bytes given.rec.version ≡ w
  pub names : names_of (function (plain given.rec)) ≡ N
  pub config : running_for limit (function (plain given.rec)) given.values given.told ≡ c

module _ (s store list : List ℕ) (limit w N : ℕ) (c : Config) where
  inputs_come :
      (g : Given s store list) →
      with_inputs limit (plain g.rec) g.values g.told ≡ ran w N c →
      Comes s store list limit w N c
  unfolding with_inputs
  inputs_come g e = go (lets_pass limit f g.values g.told) refl e
    where
      f : Function
      f = function (plain g.rec)

      go :
          (b : Bool) → lets_pass limit f g.values g.told ≡ b →
          cond b (ran (id_bytes g.rec.version) (names_of f) (running_for limit f g.values g.told)) unfit ≡ ran w N c →
          Comes s store list limit w N c
      go true h e = record { given = g; passed = h; width = cc e; names = cc e; config = cc e }
      go false h e = clash (cc e)

  pub outcome_comes : outcome limits s store list limit ≡ ran w N c → Comes s store list limit w N c
  unfolding outcome with_record with_read
  outcome_comes e = at_record (accept limits s) refl e
    where
      at_inputs :
          (r : Record Placed) (p : ℕ) → accept limits s ≡ got r p →
          (v : Res (List (Option Val))) → stored (names_of (function (plain r))) store 0 ≡ v →
          (a : Res (List Answer)) → answers list 0 ≡ a →
          with_read limit (plain r) v a ≡ ran w N c →
          Comes s store list limit w N c
      at_inputs r p hr (got vs q) hv (got xs o) ha e =
          inputs_come
          (record { rec = r; rec_end = p; values = vs; values_end = q; told = xs; told_end = o; accepted = hr; store_reads = hv; list_reads = ha })
          e
      at_inputs r p hr (got vs q) hv (fault k o) ha e = clash (cc e)
      at_inputs r p hr (fault k q) hv a ha e = clash (cc e)

      at_record :
          (r : Res (Record Placed)) → accept limits s ≡ r → with_record limit store list r ≡ ran w N c → Comes s store list limit w N c
      at_record (got r p) h e = at_inputs r p h (stored (names_of (function (plain r))) store 0) refl (answers list 0) refl e
      at_record (fault k o) h e = clash (cc e)

-- ---- what a call that is done says
-- how a run with these inputs ended, and the machine that it left
pub data Ended (f : Function) (σ : Store) (xs : List Answer) (limit : ℕ) (how : Ending) (m : Mach) : Type 0 where
  by_stop :
      (n : ℕ) (t : Stop) (b p : ℕ) →
      (run f σ xs n).place ≡ stopped t b p →
      (run f σ xs n).mach ≡ m →
      m.steps ≤ limit →
      how ≡ stop_ending t →
      Ended f σ xs limit how m
  by_limit :
      m ≡ (steps (plain_machine f) f.blocks limit (start f.blocks σ xs)).mach →
      m.steps ≡ limit →
      ((n : ℕ) (t : Stop) (b p : ℕ) → (run f σ xs n).place ≡ stopped t b p → limit < (run f σ xs n).mach.steps) →
      how ≡ Limit →
      Ended f σ xs limit how m

how_ended :
    (f : Function) (σ : Store) (xs : List Answer) (limit : ℕ) →
    let c = steps (plain_machine f) f.blocks limit (start f.blocks σ xs) in
    Ended f σ xs limit (ending_of c.stand) c.mach
unfolding run start
how_ended f σ xs limit = go c.stand refl
  where
    c : Config
    c = steps (plain_machine f) f.blocks limit (start f.blocks σ xs)

    few : c.mach.steps ≤ limit
    few = omega (arith, steps_at_most (plain_machine f) f.blocks limit (start f.blocks σ xs))

    go : (d : Stand) → c.stand ≡ d → Ended f σ xs limit (ending_of c.stand) c.mach
    go (facing b i is) e =
        let h : running c.stand ≡ true = ap running e in
        by_limit refl (limit_counts (plain_machine f) f.blocks σ xs limit h)
        ((limit_exact (plain_machine f) f.blocks σ xs limit).0 h) (ap ending_of e)
    go (over t) e =
        let r = steps_reach (plain_machine f) f.blocks σ xs limit t e in
        by_stop r.blocks t r.block r.index r.place r.mach few (ap ending_of e)

-- what is told and left of a run
pub record Tells (room more : ℕ) (o : Outcome) (e l k : ℕ) (how : Ending) : Type 0 where
  pub width : ℕ
  pub names : ℕ
  pub config : Config
  pub comes : o ≡ ran width names config
  pub enough : too_short room more (length (events_left width config)) (length (store_left names config)) ≡ false
  pub events_count : length (events_left width config) ≡ e
  pub store_count : length (store_left names config) ≡ l
  pub steps_count : config.mach.steps ≡ k
  pub ending : ending_of config.stand ≡ how

pub result_tells :
    (room more : ℕ) (o : Outcome) (e l k : ℕ) (how : Ending) →
    result room more o ≡ done e l k how →
    Tells room more o e l k how
unfolding result
result_tells room more (refused a b) e l k how h = clash (cc h)
result_tells room more unfit e l k how h = clash (cc h)
result_tells room more (ran w N c) e l k how h =
    go (too_short room more (length (events_left w c)) (length (store_left N c))) refl h
  where
    go :
        (b : Bool) → too_short room more (length (events_left w c)) (length (store_left N c)) ≡ b →
        cond b (Err (Room (length (events_left w c)) (length (store_left N c))))
        (done (length (events_left w c)) (length (store_left N c)) c.mach.steps (ending_of c.stand)) ≡ done e l k how →
        Tells room more (ran w N c) e l k how
    go true x h = clash (cc h)
    go false x h =
        let q : run_of (length (events_left w c)) (length (store_left N c)) c.mach.steps (ending_of c.stand) ≡ run_of e l k how = cc h in
        record {
          width = w;
          names = N;
          config = c;
          comes = refl;
          enough = x;
          events_count = ap (λ (r : Run). r.events) q;
          store_count = ap (λ (r : Run). r.store) q;
          steps_count = ap (λ (r : Run). r.steps) q;
          ending = ap (λ (r : Run). r.ending) q;
        }

-- "yields the events and the final store, with the bytes written of each, the steps and how it ended. It does what the plain machine does"
pub record IsMachine (s store list : List ℕ) (limit : ℕ) (events left : List ℕ) (e l k : ℕ) (how : Ending) : Type 0 where
  pub given : Given s store list
  pub passed : lets_pass limit (function (plain given.rec)) given.values given.told ≡ true
  pub mach : Mach
  pub by_steps : mach ≡ (running_for limit (function (plain given.rec)) given.values given.told).mach
  pub ended : Ended (function (plain given.rec)) (holding given.values) given.told limit how mach
  pub steps_count : mach.steps ≡ k
  pub events_count : length (events_bytes (id_bytes given.rec.version) mach.events) ≡ e
  pub store_count : length (store_bytes (values_from mach.store 0 (names_of (function (plain given.rec))))) ≡ l
  pub events_are :
      engine_events s store list limit events left ≡ written (events_bytes (id_bytes given.rec.version) mach.events) events
  pub store_is :
      engine_store s store list limit events left ≡
      written (store_bytes (values_from mach.store 0 (names_of (function (plain given.rec))))) left

-- rooms that are as long as what is left
pub enough_room : (room more e l : ℕ) → e ≤ room → l ≤ more → too_short room more e l ≡ false
enough_room room more e l h k = or_from _ _ (le-ltb room e h) (le-ltb more l k)

pub events_written :
    (lent : List ℕ) (more : ℕ) (o : Outcome) (w N : ℕ) (c : Config) →
    o ≡ ran w N c →
    too_short (length lent) more (length (events_left w c)) (length (store_left N c)) ≡ false →
    events_out lent more o ≡ written (events_left w c) lent
unfolding events_out
events_written lent more o w N c p q = rw (p, q)

pub store_written :
    (room : ℕ) (lent : List ℕ) (o : Outcome) (w N : ℕ) (c : Config) →
    o ≡ ran w N c →
    too_short room (length lent) (length (events_left w c)) (length (store_left N c)) ≡ false →
    store_out room lent o ≡ written (store_left N c) lent
unfolding store_out
store_written room lent o w N c p q = rw (p, q)

-- over what the outcome comes to
done_is_machine :
    (s store list : List ℕ) (limit : ℕ) (events left : List ℕ) (e l k : ℕ) (how : Ending)
    (t : Tells (length events) (length left) (outcome limits s store list limit) e l k how) →
    Comes s store list limit t.width t.names t.config →
    IsMachine s store list limit events left e l k how
unfolding engine_events engine_store events_left store_left
done_is_machine s store list limit events left e l k how t o =
    let x = outcome limits s store list limit in
    let g = o.given in
    let f = function (plain g.rec) in
    let c = running_for limit f g.values g.told in
    let d : ending_of c.stand ≡ how = ap (λ (x : Config). ending_of x.stand) o.config ∙ t.ending in
    let es : events_left t.width t.config ≡ events_bytes (id_bytes g.rec.version) c.mach.events =
    λ i. events_bytes (sym o.width i) (sym o.config i).mach.events in
    let ls : store_left t.names t.config ≡ store_bytes (values_from c.mach.store 0 (names_of f)) =
    λ i. store_bytes (values_from (sym o.config i).mach.store 0 (sym o.names i)) in
    record {
      given = g;
      passed = o.passed;
      mach = c.mach;
      by_steps = refl;
      ended =
          subst (λ (x : Ending). Ended f (holding g.values) g.told limit x c.mach) d
          (how_ended f (holding g.values) g.told limit);
      steps_count = ap (λ (x : Config). x.mach.steps) o.config ∙ t.steps_count;
      events_count = ap length (sym es) ∙ t.events_count;
      store_count = ap length (sym ls) ∙ t.store_count;
      events_are =
          events_written events (length left) x t.width t.names t.config t.comes t.enough
          ∙ ap (λ (b : List ℕ). written b events) es;
      store_is =
          store_written (length events) left x t.width t.names t.config t.comes t.enough
          ∙ ap (λ (b : List ℕ). written b left) ls;
    }

pub engine_is_machine :
    (s store list : List ℕ) (limit : ℕ) (events left : List ℕ) (e l k : ℕ) (how : Ending) →
    engine s store list limit events left ≡ done e l k how →
    IsMachine s store list limit events left e l k how
unfolding engine
engine_is_machine s store list limit events left e l k how h =
    let t = result_tells (length events) (length left) (outcome limits s store list limit) e l k how h in
    done_is_machine s store list limit events left e l k how t
    (outcome_comes s store list limit t.width t.names t.config t.comes)

-- ---- "It says that the limit is spent exactly when the machine has not ended within that many steps."
no_stop_is_limit : (t : Stop) → Limit ≡ stop_ending t → ⊥
unfolding stop_ending
no_stop_is_limit at_end e = clash (cc e)
no_stop_is_limit at_ret e = clash (cc e)
no_stop_is_limit at_halt e = clash (cc e)
no_stop_is_limit at_unset e = clash (cc e)
no_stop_is_limit (at_division id c) e = clash (cc e)

pub limit_said :
    (f : Function) (σ : Store) (xs : List Answer) (limit : ℕ) (how : Ending) (m : Mach) →
    Ended f σ xs limit how m →
    (how ≡ Limit) ↔
    ((n : ℕ) (t : Stop) (b p : ℕ) → (run f σ xs n).place ≡ stopped t b p → limit < (run f σ xs n).mach.steps)
limit_said f σ xs limit how m (by_stop n t b p e j h k) = (
  λ z. absurd (no_stop_is_limit t (sym z ∙ k)),
  λ z. absurd (omega (arith, h, z n t b p e, ap (λ (m : Mach). m.steps) j)),
)
limit_said f σ xs limit how m (by_limit e h j k) = (λ z. j, λ z. k)

-- then the steps are the limit
pub limit_steps :
    (f : Function) (σ : Store) (xs : List Answer) (limit : ℕ) (how : Ending) (m : Mach) →
    Ended f σ xs limit how m → how ≡ Limit → m.steps ≡ limit
limit_steps f σ xs limit how m (by_stop n t b p e j h k) z = absurd (no_stop_is_limit t (sym z ∙ k))
limit_steps f σ xs limit how m (by_limit e h j k) z = h

-- ---- a run that 13 refuses for an answer is one that halts within the limit
module _ (ctx : Context) (bs : List (Block Instr)) where
  halting_step : (b : ℕ) (is : List Instr) (s : Step) → Halts s → (moved bs b is s).stand ≡ over at_halt
  halting_step b is s (halts m) = refl

  pub unfit_within_halts : (k : ℕ) (c : Config) → unfit_within ctx bs k c ≡ true → (steps ctx bs k c).stand ≡ over at_halt
  unfolding unfit_within steps take_step
  unfit_within_halts zero c h = absurd (true≢false (sym h))
  unfit_within_halts (suc k) c h = go c.stand refl (unfit_within_halts k (take_step ctx bs c)) (fits_at ctx c.mach c.stand) refl h
    where
      go :
          (d : Stand) → c.stand ≡ d →
          (unfit_within ctx bs k (take_step ctx bs c) ≡ true → (steps ctx bs k (take_step ctx bs c)).stand ≡ over at_halt) →
          (b : Bool) → fits_at ctx c.mach c.stand ≡ b →
          (not b || unfit_within ctx bs k (take_step ctx bs c)) ≡ true →
          (steps ctx bs k (take_step ctx bs c)).stand ≡ over at_halt
      go d e r true f h = r h
      go (facing b i is) e r false f h =
          let g : fits ctx i c.mach ≡ false = ap (fits_at ctx c.mach) (sym e) ∙ f in
          let q : (take_step ctx bs c).stand ≡ over at_halt =
          ap (λ (d : Stand). (step_from ctx bs c.mach d).stand) e ∙ halting_step b is (step ctx i c.mach) (unfit_halts ctx i c.mach g) in
          let n = (take_step ctx bs c).mach in
          let w : take_step ctx bs c ≡ record { stand = over at_halt; mach = n } = λ j. record { stand = q j; mach = n } in
          ap (λ (x : Config). (steps ctx bs k x).stand) w ∙ ap (λ (x : Config). x.stand) (over_stays ctx bs k at_halt n)
      go (over s) e r false f h = absurd (true≢false (ap (fits_at ctx c.mach) (sym e) ∙ f))
