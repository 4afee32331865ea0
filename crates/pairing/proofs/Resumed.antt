-- "so a run can be continued": where the limit was spent as block 0 begins, a call with the store and the rest of the answers that were left
-- goes on where the first left off, and comes to what one call over both limits comes to.
use Prim.Native.Nat.{ℕ, ◌+◌, ◌≤◌}
use mathlib.Core.Path.{◌≡◌, refl, sym, ap, ◌∙◌}
use mathlib.Core.Bool.{Bool, true, false, cond, not, ◌&&◌, ◌||◌}
use mathlib.Core.Logic.{◌↔◌}
use mathlib.Core.Option.{Option}
use mathlib.Core.List.{List, [], ◌++◌}
use native.Mathlib.Omega.{arith}
use lib.ListN.{length, take, drop, length-append}
use lib.Seq.{take-append_seam}
use borrow.Author.Tests.{not-true}
use Rattle.arith.proofs.Clash.{clash}
use Rattle.arith.specs.Value.{Val}
use Rattle.record.specs.Record.{Bytes, Placed, Record, Function, function, plain, names_of, limits, id_bytes}
use Rattle.record.specs.Reader.{got}
use Rattle.record.proofs.Tests.{and_left, and_right}
use Rattle.running.specs.declared.Ending.{Ending}
use Rattle.running.specs.declared.RunError.TheVariants.{Unfit}
use Rattle.std.specs.Prelude.{Err}
use Rattle.running.specs.Engine.{done}
use Rattle.machine.specs.Machine.{Store, Context, plain_machine, Answer, Event, Mach}
use Rattle.running.specs.Steps.{Config, land, steps, start, shifted}
use Rattle.running.specs.House.{of_types, holding, values_from, store_bytes, answers_bytes, events_bytes}
use Rattle.running.specs.Engine.{unfit_within, Outcome, refused, unfit, ran, starting, running_for, lets_pass, with_inputs, outcome, ending_of, events_left, store_left, too_short, result, written, engine, engine_events, engine_store}
use Rattle.running.proofs.Resumed.{resumed, unfit_resumed}
use Rattle.running.proofs.Answers.{Answerable, answers_back}
use Rattle.running.proofs.Given.{read_answerable, left_told}
use Rattle.running.proofs.Bounds.{events_append}
use Rattle.running.proofs.Engine.{Given, enough_room, outcome_comes, Tells, result_tells, IsMachine, engine_is_machine, events_written, store_written}
use Rattle.running.proofs.Cases.{given_outcome, result_unfit}
use Rattle.pairing.proofs.Continued.{Continues, left_continues}

-- behind a run that had es as its events and had counted k steps
abbrev pub behind : List Event → ℕ → Outcome → Outcome
behind es k (refused a b) = refused a b
behind es k unfit = unfit
behind es k (ran w N c) = ran w N (shifted es k c)

behind_either :
    (es : List Event) (k w N : ℕ) (c : Config) (b : Bool) → behind es k (cond b (ran w N c) unfit) ≡ cond b (ran w N (shifted es k c)) unfit
behind_either es k w N c true = refl
behind_either es k w N c false = refl

behind_unfit : (es : List Event) (k : ℕ) (o : Outcome) → behind es k o ≡ unfit → o ≡ unfit
behind_unfit es k (refused a b) e = clash (cc e)
behind_unfit es k unfit e = refl
behind_unfit es k (ran w N c) e = clash (cc e)

-- ---- what a call comes to
module _
    (s store list : List ℕ) (limit : ℕ) (bytes : Bytes s) (told : Bytes list) (g : Given s store list)
    (pass : lets_pass limit (function (plain g.rec)) g.values g.told ≡ true) where
  abbrev f : Function
  f = function (plain g.rec)

  abbrev ctx : Context
  ctx = plain_machine f

  -- where the run was left, with its values and answers
  abbrev c : Config
  c = running_for limit f g.values g.told

  abbrev vs : List (Option Val)
  vs = values_from c.mach.store 0 (names_of f)

  abbrev xs : List Answer
  xs = c.mach.answers

  continues : Continues f.types c.mach.store
  continues = left_continues s store list limit bytes g pass

  -- both read, as what was left
  pub left_given : Given s (store_bytes vs) (answers_bytes xs)
  left_given =
      record {
        rec = g.rec;
        rec_end = g.rec_end;
        values = vs;
        values_end = length (store_bytes vs);
        told = xs;
        told_end = length (answers_bytes xs);
        accepted = g.accepted;
        store_reads = continues.reads;
        list_reads =
            answers_back xs
            (left_told Answerable ctx f.blocks limit (holding g.values) g.told
            (read_answerable list told g.told g.told_end g.list_reads));
      }

  module _ (stands : c.stand ≡ land f.blocks 0) (j : ℕ) where
    -- no answer taken in the j steps is unfit
    abbrev fit_then : Bool
    fit_then = not (unfit_within ctx f.blocks j (start f.blocks c.mach.store xs))

    pass_one : lets_pass (limit + j) f g.values g.told ≡ fit_then
    pass_one =
        let a : of_types f.types g.values ≡ true = and_left (of_types f.types g.values) _ pass in
        let b : unfit_within ctx f.blocks limit (starting f g.values g.told) ≡ false =
        not-true _ (and_right (of_types f.types g.values) _ pass) in
        let u = unfit_resumed ctx f.blocks (holding g.values) g.told limit j stands in
        (λ i. a i && not (u i))
        ∙ ap (λ (x : Bool). not (x || unfit_within ctx f.blocks j (start f.blocks c.mach.store xs))) b

    pass_two : lets_pass j f vs xs ≡ fit_then
    pass_two = λ i. continues.typed i && not (unfit_within ctx f.blocks j (start f.blocks (continues.holds i) xs))

    config_one : running_for (limit + j) f g.values g.told ≡ shifted c.mach.events c.mach.steps (running_for j f vs xs)
    config_one =
        resumed ctx f.blocks (holding g.values) g.told limit j stands
        ∙ ap (λ (σ : Store). shifted c.mach.events c.mach.steps (steps ctx f.blocks j (start f.blocks σ xs))) (sym continues.holds)

    pub resumed_outcome :
        outcome limits s store list (limit + j) ≡
        behind c.mach.events c.mach.steps (outcome limits s (store_bytes vs) (answers_bytes xs) j)
    unfolding with_inputs left_given
    resumed_outcome =
        let w = id_bytes g.rec.version in
        let N = names_of f in
        let es = c.mach.events in
        let k = c.mach.steps in
        given_outcome s store list (limit + j) [] [] g
        ∙ (λ i. cond (pass_one i) (ran w N (config_one i)) unfit)
        ∙ sym (behind_either es k w N (running_for j f vs xs) fit_then)
        ∙ (λ i. behind es k (cond (sym pass_two i) (ran w N (running_for j f vs xs)) unfit))
        ∙ ap (behind es k) (sym (given_outcome s (store_bytes vs) (answers_bytes xs) j [] [] left_given))

-- ---- what two calls say and leave, and one over both limits
-- what was written at the front of what was lent
taken : (b lent out : List ℕ) (n : ℕ) → out ≡ written b lent → length b ≡ n → take n out ≡ b
taken b lent out n p q = (λ i. take (sym q i) (p i)) ∙ take-append_seam b (drop (length b) lent)

ran_done :
    (room more : ℕ) (o : Outcome) (w N : ℕ) (c : Config) →
    o ≡ ran w N c →
    too_short room more (length (events_left w c)) (length (store_left N c)) ≡ false →
    result room more o ≡ done (length (events_left w c)) (length (store_left N c)) c.mach.steps (ending_of c.stand)
unfolding result
ran_done room more o w N c p q = rw (p, q)

-- a call that is done, behind a run with es as its events; e: their bytes
record Both (es : List Event) (k w e : ℕ) {room₂ more₂ : ℕ} {o₂ : Outcome} {e₂ l₂ k₂ : ℕ} {how₂ : Ending}
    (o₃ : Outcome) (room more : ℕ) (t : Tells room₂ more₂ o₂ e₂ l₂ k₂ how₂) : Type 0 where
  comes : o₃ ≡ ran t.width t.names (shifted es k t.config)
  events : events_left t.width (shifted es k t.config) ≡ events_bytes w es ++ events_left t.width t.config
  enough : too_short room more (length (events_left t.width (shifted es k t.config))) (length (store_left t.names t.config)) ≡ false
  answer : result room more o₃ ≡ done (e + e₂) l₂ (k + k₂) how₂

two_as_one :
    (es : List Event) (k w e : ℕ) → length (events_bytes w es) ≡ e →
    (room₂ more₂ : ℕ) (o₂ : Outcome) (e₂ l₂ k₂ : ℕ) (how₂ : Ending) (t : Tells room₂ more₂ o₂ e₂ l₂ k₂ how₂) → w ≡ t.width →
    (o₃ : Outcome) → o₃ ≡ behind es k o₂ →
    (room more : ℕ) → e + e₂ ≤ room → l₂ ≤ more →
    Both es k w e o₃ room more t
unfolding events_left store_left
two_as_one es k w e size room₂ more₂ o₂ e₂ l₂ k₂ how₂ t width o₃ p room more h₁ h₂ =
    let d = t.config in
    let both : events_bytes t.width (es ++ d.mach.events) ≡ events_bytes w es ++ events_bytes t.width d.mach.events =
    events_append t.width es d.mach.events ∙ ap (λ (v : ℕ). events_bytes v es ++ events_bytes t.width d.mach.events) (sym width) in
    let n : length (events_bytes t.width (es ++ d.mach.events)) ≡ e + e₂ =
    ap length both ∙ length-append (events_bytes w es) (events_bytes t.width d.mach.events) ∙ (λ i. size i + t.events_count i) in
    let c : o₃ ≡ ran t.width t.names (shifted es k d) = p ∙ ap (behind es k) t.comes in
    let fits = enough_room room more (length (events_bytes t.width (es ++ d.mach.events))) (length (store_left t.names d))
    (omega (arith, n, h₁)) (omega (arith, t.store_count, h₂)) in
    record {
      comes = c;
      events = both;
      enough = fits;
      answer =
          ran_done room more o₃ t.width t.names (shifted es k d) c fits
          ∙ (λ i. done (n i) (t.store_count i) (k + t.steps_count i) (t.ending i));
    }

-- one call over both limits, by a first and a second call: the events of both, the store of the second, the steps of both, and how the
-- second ended
pub record Resumes
    (s store list : List ℕ) (limit : ℕ) (events left : List ℕ) (e k : ℕ)
    (store₂ list₂ : List ℕ) (j : ℕ) (events₂ left₂ : List ℕ) (e₂ l₂ k₂ : ℕ) (how₂ : Ending)
    (events₃ left₃ : List ℕ) : Type 0 where
  pub answer : engine s store list (limit + j) events₃ left₃ ≡ done (e + e₂) l₂ (k + k₂) how₂
  pub events_are :
      engine_events s store list (limit + j) events₃ left₃ ≡
      written (take e (engine_events s store list limit events left) ++ take e₂ (engine_events s store₂ list₂ j events₂ left₂)) events₃
  pub store_is :
      engine_store s store list (limit + j) events₃ left₃ ≡ written (take l₂ (engine_store s store₂ list₂ j events₂ left₂)) left₃

module _
    (s store list : List ℕ) (limit : ℕ) (events left : List ℕ) (e l k : ℕ) (how : Ending)
    (first : engine s store list limit events left ≡ done e l k how) where
  abbrev m : IsMachine s store list limit events left e l k how
  m = engine_is_machine s store list limit events left e l k how first

  abbrev pub given_first : Given s store list
  given_first = m.given

  abbrev function_first : Function
  function_first = function (plain given_first.rec)

  -- where the first call was left, the bytes of its store and of its answers
  abbrev pub stopped_at : Config
  stopped_at = running_for limit function_first given_first.values given_first.told

  abbrev pub store_again : List ℕ
  store_again = take l (engine_store s store list limit events left)

  abbrev pub list_again : List ℕ
  list_again = answers_bytes stopped_at.mach.answers

  abbrev w : ℕ
  w = id_bytes given_first.rec.version

  abbrev es : List Event
  es = stopped_at.mach.events

  first_size : length (events_bytes w es) ≡ e
  first_size = ap (λ (x : Mach). length (events_bytes w x.events)) (sym m.by_steps) ∙ m.events_count

  first_events : take e (engine_events s store list limit events left) ≡ events_bytes w es
  first_events =
      taken (events_bytes w m.mach.events) events _ e m.events_are m.events_count
      ∙ ap (λ (x : Mach). events_bytes w x.events) m.by_steps

  first_store : store_again ≡ store_bytes (values_from stopped_at.mach.store 0 (names_of function_first))
  first_store =
      taken (store_bytes (values_from m.mach.store 0 (names_of function_first))) left _ l m.store_is m.store_count
      ∙ ap (λ (x : Mach). store_bytes (values_from x.store 0 (names_of function_first))) m.by_steps

  module _ (bytes : Bytes s) (told : Bytes list) (stands : stopped_at.stand ≡ land function_first.blocks 0) (j : ℕ) where
    abbrev second_outcome : Outcome
    second_outcome = outcome limits s store_again list_again j

    one_outcome : outcome limits s store list (limit + j) ≡ behind es k second_outcome
    one_outcome =
        let steps_are : stopped_at.mach.steps ≡ k = ap (λ (x : Mach). x.steps) (sym m.by_steps) ∙ m.steps_count in
        resumed_outcome s store list limit bytes told given_first m.passed stands j
        ∙ λ i. behind es (steps_are i) (outcome limits s (sym first_store i) list_again j)

    module _ (events₂ left₂ events₃ left₃ : List ℕ) where
      -- 13 for the rest exactly where for the whole
      pub resumes_unfit : (engine s store_again list_again j events₂ left₂ ≡ Err Unfit) ↔ (engine s store list (limit + j) events₃ left₃ ≡ Err Unfit)
      unfolding engine result
      resumes_unfit = (
        λ h.
            ap (result (length events₃) (length left₃))
            (one_outcome ∙ ap (behind es k) (result_unfit (length events₂) (length left₂) second_outcome h)),
        λ h.
            ap (result (length events₂) (length left₂))
            (behind_unfit es k second_outcome (sym one_outcome ∙ result_unfit (length events₃) (length left₃) (outcome limits s store list (limit + j)) h)),
      )

      module _ (e₂ l₂ k₂ : ℕ) (how₂ : Ending) (second : engine s store_again list_again j events₂ left₂ ≡ done e₂ l₂ k₂ how₂) where
        pub resumes :
            e + e₂ ≤ length events₃ → l₂ ≤ length left₃ →
            Resumes s store list limit events left e k store_again list_again j events₂ left₂ e₂ l₂ k₂ how₂ events₃ left₃
        unfolding engine engine_events engine_store events_left store_left
        resumes h₁ h₂ =
            let o₂ = second_outcome in
            let t = result_tells (length events₂) (length left₂) o₂ e₂ l₂ k₂ how₂ second in
            let q = outcome_comes s store_again list_again j t.width t.names t.config t.comes in
            let same : got given_first.rec given_first.rec_end ≡ got q.given.rec q.given.rec_end =
            sym given_first.accepted ∙ q.given.accepted in
            let r : given_first.rec ≡ q.given.rec = cc same in
            let width : w ≡ t.width = ap (λ (x : Record Placed). id_bytes x.version) r ∙ q.width in
            let b = two_as_one es k w e first_size (length events₂) (length left₂) o₂ e₂ l₂ k₂ how₂ t width
            (outcome limits s store list (limit + j)) one_outcome (length events₃) (length left₃) h₁ h₂ in
            let es₂ = taken (events_left t.width t.config) events₂ _ e₂
            (events_written events₂ (length left₂) o₂ t.width t.names t.config t.comes t.enough) t.events_count in
            let ls₂ = taken (store_left t.names t.config) left₂ _ l₂
            (store_written (length events₂) left₂ o₂ t.width t.names t.config t.comes t.enough) t.store_count in
            record {
              answer = b.answer;
              events_are =
                  events_written events₃ (length left₃) _ t.width t.names (shifted es k t.config) b.comes b.enough
                  ∙ ap (λ (x : List ℕ). written x events₃) (b.events ∙ λ i. sym first_events i ++ sym es₂ i);
              store_is =
                  store_written (length events₃) left₃ _ t.width t.names (shifted es k t.config) b.comes b.enough
                  ∙ ap (λ (x : List ℕ). written x left₃) (sym ls₂);
            }
