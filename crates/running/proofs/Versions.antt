-- "One proof over the id width covers both, runs included." (document 02, Point 7): an accepted record and what it is in the other version
-- have one run; the bytes of its events differ by their ids alone.
use Prim.Native.Nat.{ℕ}
use mathlib.Core.Path.{◌≡◌, refl, sym, ap, ◌∙◌}
use mathlib.Core.Logic.{◌↔◌}
use mathlib.Core.Bool.{Bool, true, false, cond}
use mathlib.Core.List.{List}
use mathlib.Core.Option.{Option}
use lib.ListN.{length}
use Rattle.arith.proofs.Clash.{clash}
use Rattle.arith.specs.Value.{Val}
use Rattle.std.specs.Prelude.{Ok, Err, None}
use Rattle.record.specs.Record.{Bytes, Instr, Placed, Record, plain, function, names_of, limits, id_bytes}
use Rattle.record.specs.Reader.{Res, got, fault}
use Rattle.record.specs.Tests.{version_test}
use Rattle.record.specs.Typing.{accept}
use Rattle.record.specs.Versions.{in_version, converted_bytes, instructions, first_wide}
use Rattle.record.proofs.Versions.{accepted_again}
use Rattle.machine.specs.Machine.{Answer, Event}
use Rattle.running.specs.declared.Ending.{Ending}
use Rattle.running.specs.declared.RunError.TheVariants.{Unfit}
use Rattle.running.specs.Steps.{Config}
use Rattle.running.specs.House.{stored, answers, events_bytes}
use Rattle.running.specs.Engine.{Outcome, refused, unfit, ran, running_for, lets_pass, with_inputs, with_read, with_record, outcome, ending_of, events_left, store_left, result, done, written, engine, engine_events, engine_store}
use Rattle.running.proofs.Engine.{Tells, result_tells, events_written, store_written}
use Rattle.running.proofs.Cases.{result_unfit}

-- the same outcome, with ids of w bytes
abbrev pub with_ids : ℕ → Outcome → Outcome
with_ids w (refused k o) = refused k o
with_ids w unfit = unfit
with_ids w (ran x N c) = ran w N c

inputs_in :
    (v limit : ℕ) (r : Record Instr) (vs : List (Option Val)) (xs : List Answer) →
    with_inputs limit (in_version v r) vs xs ≡ with_ids (id_bytes v) (with_inputs limit r vs xs)
unfolding with_inputs
inputs_in v limit r vs xs =
    let f = function r in
    go (lets_pass limit f vs xs) (names_of f) (running_for limit f vs xs)
  where
    go :
        (b : Bool) (N : ℕ) (c : Config) →
        cond b (ran (id_bytes v) N c) unfit ≡ with_ids (id_bytes v) (cond b (ran (id_bytes r.version) N c) unfit)
    go true N c = refl
    go false N c = refl

read_in :
    (v limit : ℕ) (r : Record Instr) (x : Res (List (Option Val))) (y : Res (List Answer)) →
    with_read limit (in_version v r) x y ≡ with_ids (id_bytes v) (with_read limit r x y)
unfolding with_read
read_in v limit r (got vs p) (got xs q) = inputs_in v limit r vs xs
read_in v limit r (got vs p) (fault k o) = refl
read_in v limit r (fault k o) list = refl

-- of a record that was accepted
abbrev accepted_outcome : ℕ → List ℕ → List ℕ → Record Instr → Outcome
accepted_outcome limit store list r = with_read limit r (stored (names_of (function r)) store 0) (answers list 0)

module _ (s : List ℕ) (h : Bytes s) (r : Record Placed) (p : ℕ) (a : accept limits s ≡ got r p) (v : ℕ) (ok : version_test v ≡ Ok tt)
    (e : first_wide (id_bytes v) (instructions r) ≡ None) (store list : List ℕ) (limit : ℕ) where
  -- check, 13, the store, the events and the steps do not see the version
  pub outcome_in :
      outcome limits (converted_bytes v r) store list limit ≡ with_ids (id_bytes v) (outcome limits s store list limit)
  unfolding outcome with_record
  outcome_in =
      let b = accepted_again s h r p a v ok e in
      rw (a, b.accepts)
      (ap (accepted_outcome limit store list) b.same
      ∙ read_in v limit (plain r) (stored (names_of (function (plain r))) store 0) (answers list 0))

  -- a run of s has the ids of s
  own_width : (w N : ℕ) (c : Config) → outcome limits s store list limit ≡ ran w N c → outcome limits s store list limit ≡ ran (id_bytes r.version) N c
  unfolding outcome with_record
  own_width w N c f =
      let same : accepted_outcome limit store list (plain r) ≡ ran w N c = rw a at f in
      rw a
      (read_in r.version limit (plain r) (stored (names_of (function (plain r))) store 0) (answers list 0)
      ∙ ap (with_ids (id_bytes r.version)) same)

-- two calls that are done: of a record s with ids of w bytes, and of a record t with ids of x bytes
pub record SameRun
    (s t store list : List ℕ) (limit w x : ℕ) (events left events₂ left₂ : List ℕ) (e l k : ℕ) (how : Ending) (e₂ l₂ k₂ : ℕ) (how₂ : Ending) :
    Type 0 where
  pub happened : List Event
  pub end_store : List ℕ
  pub events_first : engine_events s store list limit events left ≡ written (events_bytes w happened) events
  pub events_second : engine_events t store list limit events₂ left₂ ≡ written (events_bytes x happened) events₂
  pub store_first : engine_store s store list limit events left ≡ written end_store left
  pub store_second : engine_store t store list limit events₂ left₂ ≡ written end_store left₂
  pub events_count : (length (events_bytes w happened) ≡ e) × (length (events_bytes x happened) ≡ e₂)
  pub store_count : l ≡ l₂
  pub steps : k ≡ k₂
  pub ending : how ≡ how₂

module _ (s : List ℕ) (h : Bytes s) (r : Record Placed) (p : ℕ) (a : accept limits s ≡ got r p) (v : ℕ) (ok : version_test v ≡ Ok tt)
    (fits : first_wide (id_bytes v) (instructions r) ≡ None) (store list : List ℕ) (limit : ℕ) (events left events₂ left₂ : List ℕ) where
  -- what is told of each, by what each comes to
  told_alike :
      (e l k : ℕ) (how : Ending) (e₂ l₂ k₂ : ℕ) (how₂ : Ending) →
      Tells (length events) (length left) (outcome limits s store list limit) e l k how →
      Tells (length events₂) (length left₂) (outcome limits (converted_bytes v r) store list limit) e₂ l₂ k₂ how₂ →
      SameRun s (converted_bytes v r) store list limit (id_bytes r.version) (id_bytes v) events left events₂ left₂ e l k how e₂ l₂ k₂ how₂
  unfolding engine_events engine_store events_left
  told_alike e l k how e₂ l₂ k₂ how₂ t u =
      let o = outcome limits s store list limit in
      let own : o ≡ ran (id_bytes r.version) t.names t.config = own_width s h r p a v ok fits store list limit t.width t.names t.config t.comes in
      let width : t.width ≡ id_bytes r.version = cc (t.comes, own) in
      let both : ran u.width u.names u.config ≡ ran (id_bytes v) t.names t.config =
      sym u.comes ∙ outcome_in s h r p a v ok fits store list limit ∙ ap (with_ids (id_bytes v)) t.comes in
      let x : u.width ≡ id_bytes v = cc both in
      let n : u.names ≡ t.names = cc both in
      let c : u.config ≡ t.config = cc both in
      let ones : events_left t.width t.config ≡ events_bytes (id_bytes r.version) t.config.mach.events =
      ap (λ (w : ℕ). events_left w t.config) width in
      let twos : events_left u.width u.config ≡ events_bytes (id_bytes v) t.config.mach.events = λ i. events_left (x i) (c i) in
      let stores : store_left u.names u.config ≡ store_left t.names t.config = λ i. store_left (n i) (c i) in
      record {
        happened = t.config.mach.events;
        end_store = store_left t.names t.config;
        events_first =
            events_written events (length left) o t.width t.names t.config t.comes t.enough
            ∙ ap (λ (b : List ℕ). written b events) ones;
        events_second =
            events_written events₂ (length left₂) (outcome limits (converted_bytes v r) store list limit) u.width u.names u.config u.comes u.enough
            ∙ ap (λ (b : List ℕ). written b events₂) twos;
        store_first = store_written (length events) left o t.width t.names t.config t.comes t.enough;
        store_second =
            store_written (length events₂) left₂ (outcome limits (converted_bytes v r) store list limit) u.width u.names u.config u.comes u.enough
            ∙ ap (λ (b : List ℕ). written b left₂) stores;
        events_count = (ap length (sym ones) ∙ t.events_count, ap length (sym twos) ∙ u.events_count);
        store_count = sym t.store_count ∙ ap length (sym stores) ∙ u.store_count;
        steps = sym t.steps_count ∙ ap (λ (z : Config). z.mach.steps) (sym c) ∙ u.steps_count;
        ending = sym t.ending ∙ ap (λ (z : Config). ending_of z.stand) (sym c) ∙ u.ending;
      }

  -- where a call of each is done, it is one run: the same events with their ids as wide as each has them, the same store, steps and ending
  pub same_run :
      (e l k : ℕ) (how : Ending) (e₂ l₂ k₂ : ℕ) (how₂ : Ending) →
      engine s store list limit events left ≡ done e l k how →
      engine (converted_bytes v r) store list limit events₂ left₂ ≡ done e₂ l₂ k₂ how₂ →
      SameRun s (converted_bytes v r) store list limit (id_bytes r.version) (id_bytes v) events left events₂ left₂ e l k how e₂ l₂ k₂ how₂
  unfolding engine
  same_run e l k how e₂ l₂ k₂ how₂ f g =
      told_alike e l k how e₂ l₂ k₂ how₂
      (result_tells (length events) (length left) (outcome limits s store list limit) e l k how f)
      (result_tells (length events₂) (length left₂) (outcome limits (converted_bytes v r) store list limit) e₂ l₂ k₂ how₂ g)

  -- and 13 is of both or of none
  was_unfit : (o : Outcome) → with_ids (id_bytes v) o ≡ unfit → o ≡ unfit
  was_unfit (refused k q) e = clash (cc)
  was_unfit unfit e = refl
  was_unfit (ran w N c) e = clash (cc)

  pub same_unfit :
      (engine s store list limit events left ≡ Err Unfit) ↔ (engine (converted_bytes v r) store list limit events₂ left₂ ≡ Err Unfit)
  unfolding engine result
  same_unfit =
      let o = outcome_in s h r p a v ok fits store list limit in (
        λ e. let u = result_unfit (length events) (length left) (outcome limits s store list limit) e in rw (o, u),
        λ e.
            let u = result_unfit (length events₂) (length left₂) (outcome limits (converted_bytes v r) store list limit) e in
            let w : outcome limits s store list limit ≡ unfit = was_unfit (outcome limits s store list limit) (sym o ∙ u) in
            rw w,
      )
