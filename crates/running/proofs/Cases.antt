-- The cases of a call in their order: check's refusal, 13, 14, done. Each case of inputs has its answer, and each answer its case; when 13
-- comes is in Unfit.
use Prim.Native.Nat.{ℕ}
use mathlib.Core.Path.{◌≡◌, refl, sym, ap, ◌∙◌}
use mathlib.Core.Bool.{Bool, true, false, cond}
use mathlib.Core.Logic.{◌↔◌}
use mathlib.Core.Option.{Option}
use mathlib.Core.List.{List}
use lib.ListN.{length}
use Rattle.arith.proofs.Clash.{clash}
use Rattle.record.specs.declared.Refusal.{Refusal}
use Rattle.arith.specs.Value.{Val}
use Rattle.machine.specs.Machine.{Answer}
use Rattle.record.specs.Record.{Record, Instr, Placed, Function, function, plain, names_of, limits, id_bytes}
use Rattle.record.specs.Reader.{Res, got, fault}
use Rattle.record.specs.Typing.{accept}
use Rattle.std.specs.Prelude.{Err}
use Rattle.record.specs.Answer.{fault_at}
use Rattle.running.specs.Engine.{Ran, done}
use Rattle.record.specs.declared.Fault.{Fault}
use Rattle.running.specs.declared.RunError.TheVariants.{Refused, Unfit, Room}
use Rattle.running.specs.Steps.{Config}
use Rattle.running.specs.House.{stored, answers}
use Rattle.running.specs.Engine.{Outcome, refused, unfit, ran, running_for, lets_pass, with_inputs, with_read, with_record, outcome, ending_of, events_left, store_left, too_short, result, engine}
use Rattle.running.proofs.Engine.{Given, outcome_comes}

module _ (s store list : List ℕ) (limit : ℕ) (events left : List ℕ) where
  -- "after check's refusals": whatever store and answers are
  pub engine_refuses :
      (k : Refusal) (o : ℕ) → accept limits s ≡ fault k o → engine s store list limit events left ≡ Err (Refused (fault_at k o))
  unfolding engine outcome with_record result
  engine_refuses k o e = rw e

  -- "13: store or answers do not read so"
  pub store_unread :
      (r : Record Placed) (p : ℕ) → accept limits s ≡ got r p →
      (k : Refusal) (o : ℕ) → stored (names_of (function (plain r))) store 0 ≡ fault k o →
      engine s store list limit events left ≡ Err Unfit
  unfolding engine outcome with_record with_read result
  store_unread r p e k o h = rw (e, h)

  pub answers_unread :
      (r : Record Placed) (p : ℕ) → accept limits s ≡ got r p →
      (k : Refusal) (o : ℕ) → answers list 0 ≡ fault k o →
      engine s store list limit events left ≡ Err Unfit
  unfolding engine outcome with_record with_read result
  answers_unread r p e k o h = rw (e, h) (go (stored (names_of (function (plain r))) store 0))
    where
      go : (v : Res _) → result (length events) (length left) (with_read limit (plain r) v (fault k o)) ≡ Err Unfit
      go (got vs q) = refl
      go (fault a b) = refl

  -- both read
  module _ (g : Given s store list) where
    abbrev f : Function
    f = function (plain g.rec)

    abbrev pub end_config : Config
    end_config = running_for limit f g.values g.told

    abbrev pub events_size : ℕ
    events_size = length (events_left (id_bytes g.rec.version) end_config)

    abbrev pub store_size : ℕ
    store_size = length (store_left (names_of f) end_config)

    -- what the call comes to
    pub given_outcome : outcome limits s store list limit ≡ with_inputs limit (plain g.rec) g.values g.told
    unfolding outcome with_record with_read
    given_outcome = rw (g.accepted, g.store_reads, g.list_reads)

    -- "a stored value is not of its name's type, or an answer taken within the limit does not fit its instruction"
    pub engine_unfit : lets_pass limit f g.values g.told ≡ false → engine s store list limit events left ≡ Err Unfit
    unfolding engine with_inputs result
    engine_unfit h = ap (result (length events) (length left)) given_outcome ∙ rw h

    -- "14: .. after 13; it returns the bytes each needs"
    pub engine_room :
        lets_pass limit f g.values g.told ≡ true →
        too_short (length events) (length left) events_size store_size ≡ true →
        engine s store list limit events left ≡ Err (Room events_size store_size)
    unfolding engine with_inputs result
    engine_room h k = ap (result (length events) (length left)) given_outcome ∙ rw (h, k)

    pub engine_done :
        lets_pass limit f g.values g.told ≡ true →
        too_short (length events) (length left) events_size store_size ≡ false →
        engine s store list limit events left ≡ done events_size store_size end_config.mach.steps (ending_of end_config.stand)
    unfolding engine with_inputs result
    engine_done h k = ap (result (length events) (length left)) given_outcome ∙ rw (h, k)

-- ---- what an answer says of the outcome
module _ (w N : ℕ) (c : Config) (room more : ℕ) where
  abbrev e_size : ℕ
  e_size = length (events_left w c)

  abbrev l_size : ℕ
  l_size = length (store_left N c)

  abbrev short : Bool
  short = too_short room more e_size l_size

  abbrev told : Bool → Ran
  told b = cond b (Err (Room e_size l_size)) (done e_size l_size c.mach.steps (ending_of c.stand))

  told_no_refusal : (b : Bool) (f : Fault) {A : Type 0} → told b ≡ Err (Refused f) → A
  told_no_refusal true f e = clash (cc e)
  told_no_refusal false f e = clash (cc e)

  told_no_unfit : (b : Bool) {A : Type 0} → told b ≡ Err Unfit → A
  told_no_unfit true e = clash (cc e)
  told_no_unfit false e = clash (cc e)

  told_room : (b : Bool) (e l : ℕ) → told b ≡ Err (Room e l) → (b ≡ true) × (e_size ≡ e) × (l_size ≡ l)
  told_room true e l h = (refl, cc h, cc h)
  told_room false e l h = clash (cc h)

pub result_refused : (room more : ℕ) (x : Outcome) (f : Fault) → result room more x ≡ Err (Refused f) → x ≡ refused f.refusal f.offset
unfolding result
result_refused room more (refused a b) f e = let p : fault_at a b ≡ f = cc e in ap (λ (g : Fault). refused g.refusal g.offset) p
result_refused room more unfit f e = clash (cc e)
result_refused room more (ran w N c) f e = told_no_refusal w N c room more (short w N c room more) f e

pub result_unfit : (room more : ℕ) (x : Outcome) → result room more x ≡ Err Unfit → x ≡ unfit
unfolding result
result_unfit room more (refused k o) e = clash (cc e)
result_unfit room more unfit e = refl
result_unfit room more (ran w N c) e = told_no_unfit w N c room more (short w N c room more) e

-- a run that needs e and l bytes, of which one is more than was lent
pub record Needs (room more : ℕ) (x : Outcome) (e l : ℕ) : Type 0 where
  pub width : ℕ
  pub names : ℕ
  pub config : Config
  pub comes : x ≡ ran width names config
  pub events_count : length (events_left width config) ≡ e
  pub store_count : length (store_left names config) ≡ l
  pub short : too_short room more e l ≡ true

pub result_room : (room more : ℕ) (x : Outcome) (e l : ℕ) → result room more x ≡ Err (Room e l) → Needs room more x e l
unfolding result
result_room room more (refused k o) e l h = clash (cc h)
result_room room more unfit e l h = clash (cc h)
result_room room more (ran w N c) e l h =
    let r = told_room w N c room more (short w N c room more) e l h in
    record {
      width = w;
      names = N;
      config = c;
      comes = refl;
      events_count = r.1;
      store_count = r.2;
      short = (λ i. too_short room more (sym r.1 i) (sym r.2 i)) ∙ r.0;
    }

-- ---- each answer has its case
module _ (s store list : List ℕ) (limit : ℕ) (events left : List ℕ) where
  no_refusal :
      (r : Record Instr) (v : Res (List (Option Val))) (a : Res (List Answer)) (k : Refusal) (o : ℕ) {A : Type 0} →
      with_read limit r v a ≡ refused k o → A
  unfolding with_read with_inputs
  no_refusal r (got vs p) (got xs q) k o {A} e = go (lets_pass limit (function r) vs xs) e
    where
      go : (b : Bool) → cond b (ran (id_bytes r.version) (names_of (function r)) (running_for limit (function r) vs xs)) unfit ≡ refused k o → A
      go true e = clash (cc e)
      go false e = clash (cc e)
  no_refusal r (got vs p) (fault a b) k o e = clash (cc e)
  no_refusal r (fault a b) list k o e = clash (cc e)

  record_refused : (k : Refusal) (o : ℕ) (x : Res (Record Placed)) → with_record limit store list x ≡ refused k o → x ≡ fault k o
  unfolding with_record
  record_refused k o (fault a b) e = let p : a ≡ k = cc e in let q : b ≡ o = cc e in λ i. fault (p i) (q i)
  record_refused k o (got r p) e = no_refusal (plain r) (stored (names_of (function (plain r))) store 0) (answers list 0) k o e

  -- check's refusals, exactly
  pub refused_exactly : (f : Fault) → (engine s store list limit events left ≡ Err (Refused f)) ↔ (accept limits s ≡ fault f.refusal f.offset)
  unfolding engine outcome
  refused_exactly f = (
    λ e. record_refused f.refusal f.offset (accept limits s) (result_refused (length events) (length left) (outcome limits s store list limit) f e),
    engine_refuses s store list limit events left f.refusal f.offset,
  )

  -- 14, exactly: inputs that 13 lets pass, the bytes that the run's events and its store need, and one of them more than was lent
  pub record TooShort (e l : ℕ) : Type 0 where
    pub given : Given s store list
    pub passed : lets_pass limit (function (plain given.rec)) given.values given.told ≡ true
    pub events_count : events_size s store list limit events left given ≡ e
    pub store_count : store_size s store list limit events left given ≡ l
    pub short : too_short (length events) (length left) e l ≡ true

  pub room_exactly : (e l : ℕ) → (engine s store list limit events left ≡ Err (Room e l)) ↔ TooShort e l
  unfolding engine
  room_exactly e l = (
    λ h. to (result_room (length events) (length left) (outcome limits s store list limit) e l h),
    λ h.
        engine_room s store list limit events left h.given h.passed
        ((λ i. too_short (length events) (length left) (h.events_count i) (h.store_count i)) ∙ h.short)
        ∙ λ i. Err (Room (h.events_count i) (h.store_count i)),
  )
    where
      to : Needs (length events) (length left) (outcome limits s store list limit) e l → TooShort e l
      to n =
          let c = outcome_comes s store list limit n.width n.names n.config n.comes in
          record {
            given = c.given;
            passed = c.passed;
            events_count = (λ i. length (events_left (c.width i) (c.config i))) ∙ n.events_count;
            store_count = (λ i. length (store_left (c.names i) (c.config i))) ∙ n.store_count;
            short = n.short;
          }
