-- A run by steps as far as it has come: one step more, quiet or with an event, and what it is when no more steps are taken.
use Prim.Native.Nat.{ℕ, suc, ◌+◌, ◌-◌, ◌<◌, ◌≤◌}
use mathlib.Core.Path.{◌≡◌, refl, sym, ap, ◌∙◌}
use mathlib.Core.Bool.{Bool, true, false, not, ◌&&◌, ◌||◌}
use mathlib.Core.Logic.{◌≢◌}
use mathlib.Core.List.{List, [], ◌++◌}
use native.Mathlib.Omega.{arith}
use lib.ListN.{length, get_or}
use Rattle.std.proofs.Common.{Ok, Err}
use Rattle.record.specs.Write.{join}
use Rattle.record.specs.Decode.{id_width}
use Rattle.record.specs.declared.Op.{Op}
use Rattle.record.specs.Record.{Instr, Block}
use Rattle.record.proofs.Rows.{one_more}
use Rattle.machine.specs.Machine.{Context, Event}
use Rattle.running.specs.Steps.{Config, take_step, steps, shifted}
use Rattle.running.specs.House.{events_bytes}
use Rattle.running.specs.Engine.{fits_at, unfit_within}
use Rattle.running.proofs.Shifted.{shifted_nothing, shifted_shifted, take_step_shifted, unfit_shifted}
use Rattle.write_bytes.proofs.Wrote.{wrote_nothing}
use Rattle.codes.specs.Op.{op_of}
use Rattle.engine_cells.specs.declared.Cells.{Cells}
use Rattle.engine_quiet.specs.declared.Ground.{Ground}
use Rattle.engine_quiet.specs.declared.Over.TheVariants.{Unfit}
use Rattle.engine_quiet.specs.declared.Spot.{Spot}
use Rattle.engine_quiet.specs.Spot.{told_types, blocks_of, stand_of, at_spot, quiet, quiet_op, code_at, Grounded, Facing, Moved}
use Rattle.engine_quiet.proofs.Spots.{quiet_of}
use Rattle.engine_quiet.proofs.Moved.{Run}
use Rattle.engine_events.specs.declared.Turn.{Turn}
use Rattle.engine_events.specs.Turn.{config_in, answers_left, ahead_of, events_ahead, Ready, Going, Stepped}
use Rattle.engine_events.proofs.Operands.{stands as before_of}
use Rattle.engine_steps.specs.Came.{waiting, steps_of, Calm, Goes, Upto}
use Rattle.engine_steps.proofs.Events.{events_then, no_bytes}

-- ---- the instruction at which a run stands
pub stands : {g : Ground} {t : Turn} {p : Spot} → Grounded g → Ready g t → t.spot ≡ Ok p → Going g p t
stands h ready here = record { grounded = h; ready = ready; here = here }

pub faces : {g : Ground} {t : Turn} {p : Spot} → Going g p t → Facing g p
faces h = record { grounded = h.grounded; standing = before_of h }

-- its operation, as the code reads it
pub coded :
    {g : Ground} (at : ℕ) {code : ℕ} {o : Op} → Grounded g → code ≡ get_or g.s.now (at + g.w) 0 → o ≡ op_of code →
    o ≡ op_of (code_at g.s.now at)
coded {g} at h e f = f ∙ ap op_of (e ∙ ap (λ (k : ℕ). get_or g.s.now (at + k) 0) h.width)

-- it has no event by the one as by the other
pub quiet_by : (c : ℕ) (o : Op) → o ≡ op_of c → quiet_op o ≡ quiet c
quiet_by c o e = ap quiet_op e ∙ quiet_of c

-- and waits by the one as by the other
pub waiting_by :
    (s : List ℕ) (p : Spot) (t : Turn) (o : Op) → o ≡ op_of (code_at s p.at) → waiting s p t ≡ (not t.tells && not (quiet_op o))
waiting_by s p t o e = ap (λ (b : Bool). not t.tells && not b) (sym (quiet_by (code_at s p.at) o e))

-- ---- a step without an event
-- standing elsewhere
abbrev pub moved_to : Turn → Run → Turn
moved_to t q =
    record { spot = q; more = t.more; answer = t.answer; answers = t.answers; event = t.event; tells = t.tells }

ahead_most : (q : Run) (n : ℕ) → ahead_of q n ≤ suc n
ahead_most (Ok p) n = omega arith
ahead_most (Err k) n = omega arith

module _ (g : Ground) (before after : Cells 256) (l : List ℕ) (p : Spot) (t : Turn) (q : Run) (moved : Moved g before after p q) where
  pub quiet_steps : Going g p t → Stepped g before after l l t (moved_to t q)
  unfolding events_bytes join
  quiet_steps going =
      let h = going.ready in
      record {
        ready =
            record {
              standing = moved.standing;
              sure = h.sure;
              answers = h.answers;
              events =
                  let all : events_ahead t ≡ suc t.answers = ap (λ (r : Run). ahead_of r t.answers) going.here in
                  omega (arith, h.events, all, ahead_most q t.answers);
            };
        more = refl;
        tells = refl;
        unfit = λ e. absurd (moved.stop e);
        fit =
            λ _. record {
              added = [];
              fits =
                  ap (λ (r : Run). fits_at (told_types g.types.now) (config_in g before t).mach (stand_of g.s.now r)) going.here ∙
                  moved.fits (answers_left g.list.now t);
              takes =
                  ap (λ (r : Run).
                  take_step (told_types g.types.now) (blocks_of g) (at_spot g.s.now before (answers_left g.list.now t) r 0)) going.here ∙
                  moved.takes (answers_left g.list.now t);
              wrote = wrote_nothing;
            };
      }

  pub quiet_calm : Calm t (moved_to t q)
  quiet_calm = record { event = refl; stop = moved.stop }

-- ---- as far as a run has come
pub upto_nothing :
    (g : Ground) (cells : Cells 256) (l : List ℕ) (t : Turn) →
    Ready g t →
    t.spot ≢ Err Unfit →
    Upto g cells cells l l t t
unfolding events_bytes join
upto_nothing g cells l t h ne =
    let z : t.more - t.more ≡ 0 = omega arith in
    let c = config_in g cells t in
    record {
      ready = h;
      fewer = omega arith;
      tells = refl;
      unfit = λ e. absurd (ne e);
      fit =
          λ _. record {
            added = [];
            rest = ap (steps_of g t.more) (sym (shifted_nothing c) ∙ ap (λ (k : ℕ). shifted [] k c) (sym z));
            same = refl;
            wrote = wrote_nothing;
            waited = λ _. refl;
          };
      calm = λ _. ne;
    }

-- ---- one step of the machine
module _ (ctx : Context) (bs : List (Block Instr)) (n : ℕ) (c d : Config) (fs : List Event) where
  -- k: the steps before it, after which es were told
  steps_on :
      (es : List Event) (k : ℕ) →
      take_step ctx bs c ≡ shifted fs 1 d →
      steps ctx bs (suc n) (shifted es k c) ≡ steps ctx bs n (shifted (es ++ fs) (k + 1) d)
  unfolding steps
  steps_on es k e =
      ap (steps ctx bs n) (take_step_shifted es k ctx bs c ∙ ap (shifted es k) e ∙ shifted_shifted es fs k 1 d)

  unfit_on :
      fits_at ctx c.mach c.stand ≡ true →
      take_step ctx bs c ≡ shifted fs 1 d →
      unfit_within ctx bs (suc n) c ≡ unfit_within ctx bs n d
  unfolding unfit_within
  unfit_on h e =
      (λ i. not (h i) || unfit_within ctx bs n (e i)) ∙ unfit_shifted fs 1 ctx bs n d

unfit_now :
    (ctx : Context) (bs : List (Block Instr)) (n : ℕ) (c : Config) →
    fits_at ctx c.mach c.stand ≡ false →
    unfit_within ctx bs (suc n) c ≡ true
unfolding unfit_within
unfit_now ctx bs n c h = λ i. not (h i) || unfit_within ctx bs n (take_step ctx bs c)

-- ---- one step more
-- with so many steps still to take
abbrev pub with_more : ℕ → Turn → Turn
with_more n t =
    record { spot = t.spot; more = n; answer = t.answer; answers = t.answers; event = t.event; tells = t.tells }

quiet_then : (a b : Bool) → not a && not b ≡ false → a ≡ false → b ≡ true
quiet_then a true h e = refl
quiet_then true false h e = sym e
quiet_then false false h e = sym h

module _
    (g : Ground) (before mid after : Cells 256) (l m o : List ℕ) (t u r : Turn)
    (p : Spot)
    (upto : Upto g before mid l m t u)
    (here : u.spot ≡ Ok p)
    (more : 0 < u.more)
    (stepped : Stepped g mid after m o u r)
    (went : waiting g.s.now p u ≡ false)
    (calm : quiet (code_at g.s.now p.at) ≡ true → Calm u r)
  where
    abbrev n : ℕ
    n = u.more - 1

    goes : Goes g before mid l m t u
    goes = upto.fit (λ e. let q : Ok p ≡ Err Unfit = sym here ∙ e in cc q)

    calm_then : t.tells ≡ false → Calm u r
    calm_then e = calm (quiet_then u.tells (quiet (code_at g.s.now p.at)) went (upto.tells ∙ e))

    goes_on : r.spot ≢ Err Unfit → Goes g before after l o t (with_more n r)
    goes_on ne =
        let does = stepped.fit ne in
        let z : u.more ≡ suc n = one_more u.more more in
        let c = config_in g mid u in
        let d = config_in g after r in
        let es = goes.added in
        let fs = does.added in
        let k = t.more - u.more in
        let few : u.more ≤ t.more = upto.fewer in
        let counts : k + 1 ≡ t.more - n = omega arith in
        let ctx = told_types g.types.now in
        let bs = blocks_of g in
        record {
          added = es ++ fs;
          rest =
              goes.rest ∙
              ap (λ (j : ℕ). steps ctx bs j (shifted es k c)) z ∙
              steps_on ctx bs n c d fs es k does.takes ∙
              ap (λ (j : ℕ). steps ctx bs n (shifted (es ++ fs) j d)) counts;
          same =
              goes.same ∙ ap (λ (j : ℕ). unfit_within ctx bs j c) z ∙ unfit_on ctx bs n c d fs does.fits does.takes;
          wrote = events_then (id_width g.s.now) es fs goes.wrote does.wrote;
          waited =
              λ e.
              let same : r.event ≡ u.event = (calm_then e).event in
              let end : r.event ≡ u.event + length (events_bytes (id_width g.s.now) fs) = does.wrote.end in
              let none : fs ≡ [] = no_bytes (id_width g.s.now) fs (omega (arith, same, end)) in
              (λ i. goes.waited e i ++ none i);
        }

    pub upto_step : Upto g before after l o t (with_more n r)
    upto_step =
        let few : u.more ≤ t.more = upto.fewer in
        record {
          ready =
              let h = stepped.ready in
              record { standing = h.standing; sure = h.sure; answers = h.answers; events = h.events };
          fewer = omega (arith, few);
          tells = stepped.tells ∙ upto.tells;
          unfit =
              λ e.
              let ctx = told_types g.types.now in
              let bs = blocks_of g in
              let c = config_in g mid u in
              goes.same ∙ ap (λ (j : ℕ). unfit_within ctx bs j c) (one_more u.more more) ∙
              unfit_now ctx bs n c (stepped.unfit e);
          fit = goes_on;
          calm = λ e. (calm_then e).stop;
        }
