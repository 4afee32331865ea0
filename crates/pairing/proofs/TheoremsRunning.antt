-- Start here for running an accession (document 02, Point 6): what is proved of the engine, each theorem with its sentence.
-- The engine is defined in the crate running, specs/Engine.antt, the run by steps in specs/Steps.antt, the house form in specs/House.antt;
-- this file puts together what that crate's proofs and Continued and Resumed prove.
use Prim.Native.Nat.{ℕ, suc, ◌+◌, ◌*◌, ◌≤◌, ◌<◌}
use mathlib.Core.Path.{◌≡◌, refl, sym, ap, ◌∙◌}
use mathlib.Core.Logic.{◌≢◌, ◌↔◌}
use mathlib.Core.Bool.{true, false}
use mathlib.Core.List.{List}
use mathlib.Core.Option.{Option}
use lib.ListN.{length, drop}
use Rattle.arith.specs.Value.{Val}
use Rattle.std.specs.Prelude.{Err}
use Rattle.record.specs.declared.Fault.{Fault}
use Rattle.record.specs.Record.{Bytes, Placed, Record, Function, plain, function, limits, id_bytes}
use Rattle.record.specs.Reader.{got}
use Rattle.record.specs.Typing.{accept}
use Rattle.record.specs.Answer.{checked_as, checked}
use Rattle.record.proofs.Judged.{refused_as}
use Rattle.machine.specs.Machine.{Store, plain_machine, Answer, Stop, at_halt, stopped, run}
use Rattle.running.specs.declared.Ending.{Ending}
use Rattle.running.specs.declared.Ending.TheVariants.{Limit}
use Rattle.running.specs.declared.RunError.TheVariants.{Refused, Unfit, Room}
use Rattle.running.specs.Engine.{done}
use Rattle.running.specs.Steps.{over, Config, land, steps, start, config_of, shifted}
use Rattle.running.specs.House.{holding, store_bytes, events_bytes}
use Rattle.running.specs.Engine.{lets_pass, ending_of, too_short, engine, engine_events, engine_store}
use Rattle.running.proofs.Steps.{steps_steps, run_reaches}
use Rattle.running.proofs.Limit.{Ends, steps_reach}
use Rattle.running.proofs.Resumed.{resumed}
use Rattle.running.proofs.Engine.{Given, IsMachine, engine_is_machine, limit_said, limit_steps}
use Rattle.running.proofs.Lent.{not_done_untouched, beyond_untouched, lent_lengths}
use Rattle.running.proofs.Cases.{end_config, events_size, store_size, engine_done, refused_exactly, TooShort, room_exactly}
use Rattle.running.proofs.Unfit.{UnfitAt, WhyUnfit, unfit_exactly, unfit_would_halt}
use Rattle.running.proofs.Bounds.{FewValues, events_values, events_room, store_most}
use Rattle.pairing.proofs.Continued.{Continues, final_store_reads_back}
use Rattle.pairing.proofs.Resumed.{stopped_at, store_again, list_again, given_first, Resumes, resumes, resumes_unfit}

-- ---- the plain machine, by blocks and by steps
-- The limit counts steps, and the plain machine goes by blocks: what it has after n blocks is what the run by steps has after as many steps
-- as were counted;
pub blocks_by_steps :
    (f : Function) (σ : Store) (xs : List Answer) (n : ℕ) →
    config_of f.blocks (run f σ xs n) ≡ steps (plain_machine f) f.blocks (run f σ xs n).mach.steps (start f.blocks σ xs)
unfolding run
blocks_by_steps f = run_reaches (plain_machine f) f.blocks

-- and where the run by steps is over, some number of blocks is stopped with the same stop, store, answers, events and steps.
pub steps_by_blocks :
    (f : Function) (σ : Store) (xs : List Answer) (k : ℕ) (t : Stop) →
    let c = steps (plain_machine f) f.blocks k (start f.blocks σ xs) in
    c.stand ≡ over t → Ends (plain_machine f) f.blocks σ xs t c.mach
steps_by_blocks f = steps_reach (plain_machine f) f.blocks

module _ (s store list : List ℕ) (limit : ℕ) (events left : List ℕ) where
  -- ---- a call that is done
  -- "It does what the plain machine does": a call that is done says the machine's steps and how it ended, and leaves the machine's events
  -- and store at the front of what was lent.
  pub does_what_the_machine_does :
      (e l k : ℕ) (how : Ending) →
      engine s store list limit events left ≡ done e l k how → IsMachine s store list limit events left e l k how
  does_what_the_machine_does = engine_is_machine s store list limit events left

  -- "for every store and list that 13 lets pass": a call is done for each of them, if enough was lent.
  pub done_for_all_that_pass :
      (g : Given s store list) →
      lets_pass limit (function (plain g.rec)) g.values g.told ≡ true →
      too_short (length events) (length left) (events_size s store list limit events left g) (store_size s store list limit events left g) ≡ false →
      engine s store list limit events left ≡
      done (events_size s store list limit events left g) (store_size s store list limit events left g)
      (end_config s store list limit events left g).mach.steps (ending_of (end_config s store list limit events left g).stand)
  done_for_all_that_pass = engine_done s store list limit events left

  -- "It says that the limit is spent exactly when the machine has not ended within that many steps.": when each number of blocks that is
  -- stopped has more steps than the limit.
  pub limit_is_exact :
      (e l k : ℕ) (how : Ending) (h : engine s store list limit events left ≡ done e l k how) →
      let m = engine_is_machine s store list limit events left e l k how h in
      let f = function (plain m.given.rec) in
      (how ≡ Limit) ↔
      ((n : ℕ) (t : Stop) (b p : ℕ) → (run f (holding m.given.values) m.given.told n).place ≡ stopped t b p →
      limit < (run f (holding m.given.values) m.given.told n).mach.steps)
  limit_is_exact e l k how h =
      let m = engine_is_machine s store list limit events left e l k how h in
      limit_said (function (plain m.given.rec)) (holding m.given.values) m.given.told limit how m.mach m.ended

  -- Where it is spent, the steps are the limit; events and store are then the machine's, by `does_what_the_machine_does`.
  pub limit_is_counted : (e l k : ℕ) → engine s store list limit events left ≡ done e l k Limit → k ≡ limit
  limit_is_counted e l k h =
      let m = engine_is_machine s store list limit events left e l k Limit h in
      sym m.steps_count
      ∙ limit_steps (function (plain m.given.rec)) (holding m.given.values) m.given.told limit Limit m.mach m.ended refl

  -- ---- refusals
  -- "after check's refusals": it is refused as check refuses, with its reason and offset, whatever store and answers are.
  pub refused_as_checked :
      (f : Fault) → (engine s store list limit events left ≡ Err (Refused f)) ↔ (checked s ≡ Err f)
  unfolding checked
  refused_as_checked f =
      let h = refused_exactly s store list limit events left f in
      (λ e. ap checked_as (h.0 e), λ e. h.1 (refused_as s f e))

  -- 13: exactly where store or answers do not read, a stored value is not of its name's type, or one of the first `limit` steps takes an
  -- answer that does not fit its instruction.
  pub refused_as_unfit :
      (r : Record Placed) (p : ℕ) → accept limits s ≡ got r p →
      (engine s store list limit events left ≡ Err Unfit) ↔ WhyUnfit s store list limit r
  refused_as_unfit r p accepted = unfit_exactly s store list limit r events left p accepted

  -- 14: exactly where 13 lets pass, and the events or the store need more bytes than were lent; it says the bytes of both.
  pub refused_for_room : (e l : ℕ) → (engine s store list limit events left ≡ Err (Room e l)) ↔ TooShort s store list limit events left e l
  refused_for_room = room_exactly s store list limit events left

  -- ---- what was lent
  -- "Both write nothing.": each call that is not done leaves both lent parts as they were.
  pub refusals_leave_all :
      ((e l k : ℕ) (how : Ending) → engine s store list limit events left ≢ done e l k how) →
      (engine_events s store list limit events left ≡ events) × (engine_store s store list limit events left ≡ left)
  refusals_leave_all = not_done_untouched s store list limit events left

  -- "Otherwise lent bytes beyond the events and the store are untouched."
  pub bytes_beyond_stay :
      (e l k : ℕ) (how : Ending) → engine s store list limit events left ≡ done e l k how →
      (drop e (engine_events s store list limit events left) ≡ drop e events) ×
      (drop l (engine_store s store list limit events left) ≡ drop l left)
  bytes_beyond_stay = beyond_untouched s store list limit events left

  -- No lent part gets longer or shorter.
  pub lent_stay_as_long :
      (length (engine_events s store list limit events left) ≡ length events) ×
      (length (engine_store s store list limit events left) ≡ length left)
  lent_stay_as_long = lent_lengths s store list limit events left

-- An answer that 13 refuses is one that the machine halts at, within the limit ("any other answer .. halts"): so 13 refuses no run that the
-- machine goes on with.
pub unfit_answers_halt :
    (f : Function) (σ : Store) (xs : List Answer) (limit : ℕ) → UnfitAt (plain_machine f) f.blocks limit (start f.blocks σ xs) →
    let m = (steps (plain_machine f) f.blocks limit (start f.blocks σ xs)).mach in
    Ends (plain_machine f) f.blocks σ xs at_halt m × (m.steps ≤ limit)
unfit_answers_halt f = unfit_would_halt (plain_machine f) f.blocks

-- ---- how much to lend
-- No event of an accepted function has more than eight values,
pub few_values :
    (s : List ℕ) (r : Record Placed) (p : ℕ) → accept limits s ≡ got r p → (σ : Store) (xs : List Answer) (k : ℕ) →
    let f = function (plain r) in
    FewValues (steps (plain_machine f) f.blocks k (start f.blocks σ xs)).mach.events
few_values = events_values

-- so 148 bytes for each answer, and 148 more, hold the events of every run.
pub room_for_events :
    (s : List ℕ) (r : Record Placed) (p : ℕ) → accept limits s ≡ got r p → (σ : Store) (xs : List Answer) (k : ℕ) →
    let f = function (plain r) in
    length (events_bytes (id_bytes r.version) (steps (plain_machine f) f.blocks k (start f.blocks σ xs)).mach.events) ≤
    148 * suc (length xs)
room_for_events = events_room

-- And of a store 17 bytes for each name, with 5 before them: 4,357 for 256 names.
pub room_for_store : (vs : List (Option Val)) → length (store_bytes vs) ≤ 5 + 17 * length vs
room_for_store = store_most

-- ---- going on from what was left
-- The final store reads, as the values that the machine has, as a store of the same record whose values have their names' types.
pub final_store_is_a_store :
    (s store list : List ℕ) (limit : ℕ) (events left : List ℕ) (e l k : ℕ) (how : Ending) → Bytes s →
    (h : engine s store list limit events left ≡ done e l k how) →
    let m = engine_is_machine s store list limit events left e l k how h in
    Continues (function (plain m.given.rec)).types m.mach.store
final_store_is_a_store = final_store_reads_back

-- The machine by steps goes on from where it stands, wherever that is.
pub steps_go_on :
    (f : Function) (j k : ℕ) (c : Config) →
    steps (plain_machine f) f.blocks (j + k) c ≡ steps (plain_machine f) f.blocks k (steps (plain_machine f) f.blocks j c)
steps_go_on f = steps_steps (plain_machine f) f.blocks

-- A call starts at block 0. So where the limit was spent as block 0 begins, k steps more are k steps from the store and the answers that were
-- left, behind the events and the steps of the first.
pub run_goes_on :
    (f : Function) (σ : Store) (xs : List Answer) (limit k : ℕ) →
    let c = steps (plain_machine f) f.blocks limit (start f.blocks σ xs) in
    c.stand ≡ land f.blocks 0 →
    steps (plain_machine f) f.blocks (limit + k) (start f.blocks σ xs) ≡
    shifted c.mach.events c.mach.steps (steps (plain_machine f) f.blocks k (start f.blocks c.mach.store c.mach.answers))
run_goes_on f = resumed (plain_machine f) f.blocks

-- Of the engine, with the store that a first call wrote and the rest of its answers, where it was left as block 0 begins:
module _
    (s store list : List ℕ) (limit : ℕ) (events left : List ℕ) (e l k : ℕ) (how : Ending)
    (first : engine s store list limit events left ≡ done e l k how) (bytes : Bytes s) (told : Bytes list)
    (stands :
    (stopped_at s store list limit events left e l k how first).stand ≡
    land (function (plain (given_first s store list limit events left e l k how first).rec)).blocks 0)
    (j : ℕ) (events₂ left₂ events₃ left₃ : List ℕ) where
  abbrev store₂ : List ℕ
  store₂ = store_again s store list limit events left e l k how first

  abbrev list₂ : List ℕ
  list₂ = list_again s store list limit events left e l k how first

  -- A second call with limit j says and leaves what is still to come of one call with limit + j: that one has the events of both, the
  -- final store of the second, the steps of both, and ended as the second did.
  pub engine_goes_on :
      (e₂ l₂ k₂ : ℕ) (how₂ : Ending) → engine s store₂ list₂ j events₂ left₂ ≡ done e₂ l₂ k₂ how₂ →
      e + e₂ ≤ length events₃ → l₂ ≤ length left₃ →
      Resumes s store list limit events left e k store₂ list₂ j events₂ left₂ e₂ l₂ k₂ how₂ events₃ left₃
  engine_goes_on = resumes s store list limit events left e l k how first bytes told stands j events₂ left₂ events₃ left₃

  -- The second is 13 exactly where the one is.
  pub engine_goes_on_unfit : (engine s store₂ list₂ j events₂ left₂ ≡ Err Unfit) ↔ (engine s store list (limit + j) events₃ left₃ ≡ Err Unfit)
  engine_goes_on_unfit = resumes_unfit s store list limit events left e l k how first bytes told stands j events₂ left₂ events₃ left₃
