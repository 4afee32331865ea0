-- From the runs and what was written to the engine's answer and its outputs.
use Prim.Native.Nat.{ℕ, ◌-◌, ◌<◌, ◌≤◌}
use mathlib.Core.Path.{◌≡◌, refl, sym, ap, ◌∙◌}
use mathlib.Core.Logic.{◌≢◌, ◌⊎◌, inl, inr}
use mathlib.Core.List.{List, append-nil}
use mathlib.Core.Bool.{Bool, true, false, cond, not}
use native.Mathlib.Omega.{arith}
use Rattle.std.proofs.lemmas.Bool.{or_parts}
use native.Mathlib.Nat.{add-zero}
use lib.ListN.{length}
use lib.Dec.{ltb}
use borrow.Author.Tests.{lt-ltb, le-ltb, ltb-false}
use Rattle.record.specs.Record.{limits, function, plain, names_of, id_bytes}
use Rattle.record.specs.Decode.{id_width}
use Rattle.machine.specs.Machine.{Event}
use Rattle.running.specs.declared.Ending.{Ending}
use Rattle.std.proofs.Common.{Err}
use Rattle.running.specs.declared.RunError.TheVariants.{Unfit, Room}
use Rattle.running.specs.Steps.{Config, shifted}
use Rattle.running.specs.House.{values_from, store_bytes, events_bytes}
use Rattle.running.specs.Engine.{unfit, ran, running_for, with_inputs, outcome, ending_of, events_left, store_left, too_short, result, written, Ran, done, engine, engine_events, engine_store}
use Rattle.running.proofs.Engine.{events_written, store_written}
use Rattle.running.proofs.Cases.{given_outcome, engine_unfit}
use Rattle.write_bytes.specs.Put.{put, Wrote}
use Rattle.write_bytes.proofs.Put.{put_first}
use Rattle.engine_cells.specs.declared.Cells.{Cells}
use Rattle.engine_cells.specs.Cells.{store_in}
use Rattle.engine_quiet.specs.declared.Ground.{Ground}
use Rattle.engine_quiet.specs.declared.Over.TheVariants as over
use Rattle.engine_quiet.specs.Spot.{stand_of}
use Rattle.engine_events.specs.declared.Turn.{Turn}
use Rattle.engine_events.specs.Turn.{config_in}
use Rattle.engine_steps.specs.Came.{unfit_of, Came}
use Rattle.engine.specs.Opened.{Begun, Engine, told_on}
use Rattle.engine.proofs.Begun.{stays, Fed}
use Rattle.engine.proofs.Runs.{Finishes, finishes, fits_on, same_events, Reached, unfit_later, none_told, reaches}

-- one of the two rooms is too short
module _ (room more e l : ℕ) where
  pub short_by : (room < e) ⊎ ((e ≤ room) × (more < l)) → too_short room more e l ≡ true
  short_by (inl h) = rw (lt-ltb room e h) refl
  short_by (inr h) = rw (le-ltb room e h.0, lt-ltb more l h.1) refl

-- ---- by where the run is at its end
module _
    (g : Ground) (store : List ℕ) {before : Cells 256} {t₀ : Turn} (fed : Fed g store before t₀)
    (events left : List ℕ)
  where
    abbrev s : List ℕ
    s = g.s.now

    abbrev types : List ℕ
    types = g.types.now

    abbrev list : List ℕ
    list = g.list.now

    -- 13 for an answer
    pub unfit_answer :
        unfit_of g t₀.more (config_in g before t₀) ≡ true →
        Engine s store list t₀.more events left events left (Err Unfit)
    unfit_answer h =
        stays s store list t₀.more events left (Err Unfit) refl
        (engine_unfit s store list t₀.more events left fed.given (fed.passes ∙ ap not h))

    -- size: the bytes of the store
    module _
        {after : Cells 256} {t : Turn} {added : List Event} (reached : Reached g before after t₀ t added)
        (size : ℕ) (stored : size ≡ length (store_bytes (values_from (store_in after) 0 (length types))))
      where
        abbrev last : Config
        last = shifted added (t₀.more - t.more) (config_in g after t)

        comes : outcome limits s store list t₀.more ≡ ran (id_width s) (length types) last
        unfolding with_inputs
        comes =
            let v = fed.given in
            let f = function (plain v.rec) in
            given_outcome s store list t₀.more events left v ∙
            ap (λ (x : Bool). cond x (ran (id_bytes v.rec.version) (names_of f) (running_for t₀.more f v.values v.told)) unfit)
            (fed.passes ∙ ap not reached.fits) ∙
            (λ i. ran (fed.width i) (fed.names i) ((fed.runs ∙ reached.config) i))

        event_bytes_are : events_left (id_width s) last ≡ events_bytes (id_width s) added
        unfolding events_left
        event_bytes_are = ap (events_bytes (id_width s)) (append-nil added)

        events_many : length (events_left (id_width s) last) ≡ t.event
        events_many = ap length event_bytes_are ∙ sym reached.size

        store_many : length (store_left (length types) last) ≡ size
        unfolding store_left
        store_many = sym stored

        steps_many : last.mach.steps ≡ t₀.more - t.more
        steps_many = add-zero (t₀.more - t.more)

        abbrev said : Bool → Ran
        said b = cond b (Err (Room t.event size)) (done t.event size (t₀.more - t.more) (ending_of (stand_of s t.spot)))

        short_as :
            too_short (length events) (length left) (length (events_left (id_width s) last)) (length (store_left (length types) last)) ≡
            too_short (length events) (length left) t.event size
        short_as = λ i. too_short (length events) (length left) (events_many i) (store_many i)

        answers : engine s store list t₀.more events left ≡ said (too_short (length events) (length left) t.event size)
        unfolding engine result
        answers =
            ap (result (length events) (length left)) comes ∙
            λ i.
            cond (short_as i) (Err (Room (events_many i) (store_many i)))
            (done (events_many i) (store_many i) (steps_many i) (ending_of (stand_of s t.spot)))

        -- 14
        pub room_answer :
            too_short (length events) (length left) t.event size ≡ true →
            Engine s store list t₀.more events left events left (Err (Room t.event size))
        room_answer h = stays s store list t₀.more events left (Err (Room t.event size)) refl (answers ∙ ap said h)

        -- done
        pub done_answer :
            {events' left' : List ℕ} {steps : ℕ} {how : Ending} →
            too_short (length events) (length left) t.event size ≡ false →
            events' ≡ put events 0 (events_bytes (id_width s) added) →
            left' ≡ put left 0 (store_bytes (values_from (store_in after) 0 (length types))) →
            steps ≡ t₀.more - t.more → how ≡ ending_of (stand_of s t.spot) →
            Engine s store list t₀.more events left events' left' (done t.event size steps how)
        unfolding engine_events engine_store store_left
        done_answer enough ee el es eh =
            let room = or_parts (ltb (length events) t.event) (ltb (length left) size) enough in
            let le : t.event ≤ length events = ltb-false (length events) t.event room.0 in
            let ll : size ≤ length left = ltb-false (length left) size room.1 in
            let o = outcome limits s store list t₀.more in
            record {
              answer = (λ i. done t.event size (es i) (eh i)) ∙ sym (answers ∙ ap said enough);
              events_are =
                  ee ∙ put_first events (events_bytes (id_width s) added) (omega (arith, reached.size, le)) ∙
                  sym
                  (events_written events (length left) o (id_width s) (length types) last comes (short_as ∙ enough) ∙
                  ap (λ (b : List ℕ). written b events) event_bytes_are);
              store_is =
                  el ∙ put_first left (store_bytes (values_from (store_in after) 0 (length types))) (omega (arith, stored, ll)) ∙
                  sym (store_written (length events) left o (id_width s) (length types) last comes (short_as ∙ enough));
            }

-- ---- by the runs of the code: from t₀ to r, before the first event, and from there, with events told, to t
module _
    {g : Ground} {store : List ℕ} {cells₀ cells₁ cells₂ : Cells 256} {l₁ m₁ l₂ m₂ : List ℕ} {t₀ r t : Turn}
    (fed : Fed g store cells₀ t₀) (begun : Begun g t₀)
    (a : Came g cells₀ cells₁ l₁ m₁ t₀ r) (b : Came g cells₁ cells₂ l₂ m₂ (told_on r) t) (events left : List ℕ)
  where
    abbrev Leaves : List ℕ → List ℕ → Ran → Type 0
    Leaves events' left' x = Engine g.s.now store g.list.now t₀.more events left events' left' x

    abbrev bytes : List ℕ
    bytes = store_bytes (values_from (store_in cells₂) 0 (length g.types.now))

    pub unfit_told : t.spot ≡ Err over.Unfit → Leaves events left (Err Unfit)
    unfit_told u = unfit_answer g store fed events left (unfit_later g a begun.waits (b.upto.unfit u))

    -- size: the bytes of the store
    module _ (fits : t.spot ≢ Err over.Unfit) {size : ℕ} {l₃ m₃ : List ℕ} (measured : Wrote l₃ m₃ 0 size bytes) where
      told : Finishes g cells₁ cells₂ l₂ m₂ (told_on r) t
      told = finishes g b refl fits

      reached : Reached g cells₀ cells₂ t₀ t told.added
      reached = reaches g a begun.waits begun.first b.upto.fewer told

      measure : size ≡ length bytes
      measure = omega (arith, measured.end)

      pub room_told :
          too_short (length events) (length left) t.event size ≡ true → Leaves events left (Err (Room t.event size))
      room_told h = room_answer g store fed events left reached size measure h

      -- again from there, with events written
      pub done_told :
          {again : Cells 256} {events' left' : List ℕ} {u : Turn} {how : Ending} {p : ℕ} →
          too_short (length events) (length left) t.event size ≡ false →
          Came g cells₁ again events events' (told_on r) u →
          Wrote left left' 0 p bytes →
          how ≡ ending_of (stand_of g.s.now t.spot) →
          Leaves events' left' (done t.event size (t₀.more - t.more) how)
      done_told {again} {events'} {left'} {u} {how} {p} enough c w h =
          let second = fits_on g c refl told.fits in
          let first : r.event ≡ 0 = none_told g a begun.waits begun.first in
          let same : second.added ≡ told.added = same_events g told second in
          done_answer g store fed events left reached size measure enough
          (second.wrote.out ∙ λ i. put events (first i) (events_bytes (id_width g.s.now) (same i))) w.out refl h
