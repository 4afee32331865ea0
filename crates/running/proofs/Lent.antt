-- What a call leaves in what was lent: nothing is written where it is not done, nothing beyond what it says where it is, and no lent part
-- changes its length.
use Prim.Native.Nat.{ℕ, ◌≤◌}
use mathlib.Core.Path.{◌≡◌, refl, sym, ap, ◌∙◌}
use mathlib.Core.Logic.{◌≢◌}
use mathlib.Core.Bool.{Bool, true, false, cond}
use mathlib.Core.List.{List}
use native.Mathlib.Omega.{arith}
use Rattle.arith.proofs.Clash.{clash}
use lib.ListN.{length, drop, length-append, length-drop}
use lib.Dec.{ltb}
use lib.Seq.{drop-append_seam}
use borrow.Author.Tests.{ltb-false}
use Rattle.std.proofs.lemmas.Bool.{or_parts}
use Rattle.record.specs.Record.{function, plain, names_of, limits, id_bytes}
use Rattle.running.specs.declared.Ending.{Ending}
use Rattle.std.specs.Prelude.{Ok, Err}
use Rattle.running.specs.Engine.{Ran, done}
use Rattle.running.specs.declared.RunError.TheVariants.{Room}
use Rattle.running.specs.House.{values_from, store_bytes, events_bytes}
use Rattle.running.specs.Engine.{Outcome, refused, unfit, ran, outcome, ending_of, events_left, store_left, too_short, result, written, events_out, store_out, engine, engine_events, engine_store}
use Rattle.running.proofs.Engine.{engine_is_machine}

-- ---- "Both write nothing."
abbrev pub is_done : Ran → Bool
is_done (Ok r) = true
is_done (Err e) = false

outcome_untouched :
    (events left : List ℕ) (o : Outcome) →
    is_done (result (length events) (length left) o) ≡ false →
    (events_out events (length left) o ≡ events) × (store_out (length events) left o ≡ left)
unfolding result events_out store_out
outcome_untouched events left (refused k o) h = (refl, refl)
outcome_untouched events left unfit h = (refl, refl)
outcome_untouched events left (ran w N c) h =
    go (too_short (length events) (length left) (length (events_left w c)) (length (store_left N c))) h
  where
    go :
        (b : Bool) →
        is_done
        (cond b (Err (Room (length (events_left w c)) (length (store_left N c))))
        (done (length (events_left w c)) (length (store_left N c)) c.mach.steps (ending_of c.stand))) ≡ false →
        (cond b events (written (events_left w c) events) ≡ events) × (cond b left (written (store_left N c) left) ≡ left)
    go true h = (refl, refl)
    go false h = clash (cc h)

-- ---- lengths
written_length : (bytes lent : List ℕ) → length bytes ≤ length lent → length (written bytes lent) ≡ length lent
written_length bytes lent h =
    omega (arith, length-append bytes (drop (length bytes) lent), length-drop (length bytes) lent, h)

written_beyond : (b lent out : List ℕ) (n : ℕ) → out ≡ written b lent → length b ≡ n → drop n out ≡ drop n lent
written_beyond b lent out n p q =
    (λ i. drop (sym q i) (p i)) ∙ drop-append_seam b (drop (length b) lent) ∙ ap (λ (x : ℕ). drop x lent) q

outcome_lengths :
    (events left : List ℕ) (o : Outcome) →
    (length (events_out events (length left) o) ≡ length events) × (length (store_out (length events) left o) ≡ length left)
unfolding events_out store_out
outcome_lengths events left (refused k o) = (refl, refl)
outcome_lengths events left unfit = (refl, refl)
outcome_lengths events left (ran w N c) =
    go (too_short (length events) (length left) (length (events_left w c)) (length (store_left N c))) refl
  where
    go :
        (b : Bool) → too_short (length events) (length left) (length (events_left w c)) (length (store_left N c)) ≡ b →
        (length (cond b events (written (events_left w c) events)) ≡ length events) ×
        (length (cond b left (written (store_left N c) left)) ≡ length left)
    go true e = (refl, refl)
    go false e =
        let h = or_parts (ltb (length events) (length (events_left w c))) (ltb (length left) (length (store_left N c))) e in (
          written_length (events_left w c) events (ltb-false (length events) (length (events_left w c)) h.0),
          written_length (store_left N c) left (ltb-false (length left) (length (store_left N c)) h.1),
        )

module _ (s store list : List ℕ) (limit : ℕ) (events left : List ℕ) where
  -- 13, 14 and check's refusals leave all that was lent
  pub untouched :
      is_done (engine s store list limit events left) ≡ false →
      (engine_events s store list limit events left ≡ events) × (engine_store s store list limit events left ≡ left)
  unfolding engine engine_events engine_store
  untouched h = outcome_untouched events left (outcome limits s store list limit) h

  pub not_done_untouched :
      ((e l k : ℕ) (how : Ending) → engine s store list limit events left ≢ done e l k how) →
      (engine_events s store list limit events left ≡ events) × (engine_store s store list limit events left ≡ left)
  not_done_untouched h = untouched (go (engine s store list limit events left) h)
    where
      go : (x : Ran) → ((e l k : ℕ) (how : Ending) → x ≢ done e l k how) → is_done x ≡ false
      go (Ok r) h = absurd (h r.events r.store r.steps r.ending refl)
      go (Err e) h = refl

  -- "lent bytes beyond the events and the store are untouched": beyond as many as it says
  pub beyond_untouched :
      (e l k : ℕ) (how : Ending) → engine s store list limit events left ≡ done e l k how →
      (drop e (engine_events s store list limit events left) ≡ drop e events) ×
      (drop l (engine_store s store list limit events left) ≡ drop l left)
  beyond_untouched e l k how h =
      let m = engine_is_machine s store list limit events left e l k how h in
      let r = m.given.rec in
      let es = events_bytes (id_bytes r.version) m.mach.events in
      let ls = store_bytes (values_from m.mach.store 0 (names_of (function (plain r)))) in
      (written_beyond es events _ e m.events_are m.events_count, written_beyond ls left _ l m.store_is m.store_count)

  pub lent_lengths :
      (length (engine_events s store list limit events left) ≡ length events) ×
      (length (engine_store s store list limit events left) ≡ length left)
  unfolding engine_events engine_store
  lent_lengths = outcome_lengths events left (outcome limits s store list limit)
