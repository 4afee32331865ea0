-- The machine's step at an instruction with an event, from the code's run before it to that behind it.
use Prim.Native.Nat.{ℕ, suc, ◌+◌, ◌-◌, ◌*◌, ◌<◌, ◌≤◌}
use mathlib.Core.Path.{◌≡◌, refl, sym, ap, ◌∙◌, subst}
use mathlib.Core.Logic.{◌≢◌}
use mathlib.Core.List.{List, [], ◌∷◌}
use mathlib.Core.Bool.{Bool, true, false, cond}
use mathlib.Core.Option.{Option, none, some}
use native.Mathlib.Omega.{arith}
use lib.Dec.{eqb}
use borrow.Author.Tests.{ne_eqb}
use Rattle.arith.specs.Value.{Val}
use Rattle.record.specs.declared.NameIx.{NameIx}
use Rattle.record.specs.Record.{Instr, type_in}
use Rattle.record.specs.Form.{Form, new, effect, return}
use Rattle.record.specs.Write.{join}
use Rattle.record.specs.Decode.{id_width, instr_end}
use Rattle.machine.specs.Machine.{Context, Event, event_of, Mach, ends, at_ret, at_unset, tick, happens, read_all, perform, ask, tell, leave, act}
use Rattle.running.specs.House.{event_bytes, events_bytes}
use Rattle.running.specs.Steps.{moved, take_step}
use Rattle.running.specs.Engine.{fits_new, fits_told, fits_form, fits_at}
use Rattle.write_bytes.specs.Put.{Wrote}
use Rattle.write_bytes.proofs.Wrote.{wrote_nothing, wrote_last}
use Rattle.std.proofs.Common.{Option as CodeOption, None, Some, Result}
use Rattle.engine_cells.specs.declared.Cells.{Cells}
use Rattle.engine_cells.specs.Cells.{store_in}
use Rattle.engine_quiet.specs.declared.Ground.{Ground}
use Rattle.engine_quiet.specs.declared.Over.{Over}
use Rattle.engine_quiet.specs.declared.Over.TheVariants.{Ret, Unset}
use Rattle.engine_quiet.specs.declared.Spot.{Spot}
use Rattle.engine_quiet.specs.Spot.{stop_by, told_types, blocks_of, body_at, stand_of, code_at}
use Rattle.engine_quiet.proofs.Moved.{fits_here, takes_here}
use Rattle.engine_events.specs.declared.Turn.{Turn}
use Rattle.engine_events.specs.Turn.{most_event, far, config_in, ahead_of, events_ahead, instr_at, args_at, Ready, Going, Loud, EventAs, Stepped}
use Rattle.engine_events.specs.Replies.{has_dest, reply, fits_reply, Answered}
use Rattle.engine_events.proofs.Operands.{form_by, form_is, stands}
use Rattle.engine_events.proofs.Over.{over_turn, ready_over, over_told, over_silent}

-- ---- what tell_event says
-- its values were read, and the event is written up to a place
pub record Told (s : List ℕ) (at : ℕ) (l m : List ℕ) (to place : ℕ) (o : Option (List Val)) : Type 0 where
  pub values : List Val
  pub read : o ≡ some values
  pub wrote : Wrote l m to place (event_bytes (id_width s) (event_of (instr_at s at) values))
  pub near : place ≤ to + most_event

pub told_is :
    (s : List ℕ) (at : ℕ) (l m : List ℕ) (to place : ℕ) (r : CodeOption ℕ) (o : Option (List Val)) →
    r ≡ Some place → EventAs s at l m to r o → Told s at l m to place o
unfolding EventAs
told_is s at l m to place r none e h = let d : None ≡ Some place = sym h.0 ∙ e in absurd (cc d)
told_is s at l m to place r (some vs) e h =
    let d : Some h.place ≡ Some place = sym h.is ∙ e in
    let f : h.place ≡ place = cc d in
    record {
      values = vs;
      read = refl;
      wrote = subst (λ (p : ℕ). Wrote l m to p (event_bytes (id_width s) (event_of (instr_at s at) vs))) f h.wrote;
      near = omega (arith, f, h.near);
    }

pub told_not :
    (s : List ℕ) (at : ℕ) (l m : List ℕ) (to : ℕ) (r : CodeOption ℕ) (o : Option (List Val)) →
    r ≡ None → EventAs s at l m to r o → (o ≡ none) × (m ≡ l)
unfolding EventAs
told_not s at l m to r none e h = (refl, h.1)
told_not s at l m to r (some vs) e h = let d : Some h.place ≡ None = sym h.is ∙ e in absurd (cc d)

-- ---- the step by its form
module _ (types : List ℕ) (i : Instr) (m : Mach) (args : List NameIx) where
  abbrev ctx : Context
  ctx = told_types types

  abbrev by : Bool → Bool → Form
  by b r = cond b (new args) (cond r (return args) (effect args))

  act_unset : (b r : Bool) → read_all m.store args ≡ none → act ctx i (tick m) (by b r) ≡ ends at_unset (tick m)
  unfolding act tick ask tell leave
  act_unset true r e = ap (ask ctx i (tick m)) e
  act_unset false true e = ap (leave i (tick m)) e
  act_unset false false e = ap (tell i (tick m)) e

  fits_unset : (b r : Bool) → read_all m.store args ≡ none → fits_form ctx i m (by b r) ≡ true
  unfolding fits_form fits_new fits_told
  fits_unset true r e = ap (fits_new ctx i m.answers) e
  fits_unset false true e = refl
  fits_unset false false e = ap (fits_told m.answers) e

  module _ (vs : List Val) (e : read_all m.store args ≡ some vs) where
    act_ret : act ctx i (tick m) (by false true) ≡ ends at_ret (happens (tick m) (event_of i vs) m.answers)
    unfolding act tick leave
    act_ret = ap (leave i (tick m)) e

    fits_ret : fits_form ctx i m (by false true) ≡ true
    unfolding fits_form
    fits_ret = refl

    act_told : (b : Bool) → act ctx i (tick m) (by b false) ≡ reply b (type_in types i.dest) i (tick m) (event_of i vs) m.answers
    unfolding act tick ask perform tell reply
    act_told true = ap (ask ctx i (tick m)) e
    act_told false = ap (tell i (tick m)) e

    fits_is : (b : Bool) → fits_form ctx i m (by b false) ≡ fits_reply b (type_in types i.dest) m.answers
    unfolding fits_form fits_new fits_told fits_reply
    fits_is true = ap (fits_new ctx i m.answers) e
    fits_is false = ap (fits_told m.answers) e

-- ---- the step of a run
module _ (g : Ground) (cells : Cells 256) (l : List ℕ) (p : Spot) (t : Turn) (going : Going g p t) (loud : Loud g.s.now p.at) where
  abbrev s : List ℕ
  s = g.s.now

  abbrev types : List ℕ
  types = g.types.now

  abbrev ready : Ready g t
  ready = going.ready

  abbrev left : 0 < p.left
  left = (stands going).some

  abbrev at : ℕ
  at = p.at

  abbrev i : Instr
  i = instr_at s at

  abbrev mach : Mach
  mach = (config_in g cells t).mach

  abbrev rest : List Instr
  rest = body_at s (instr_end (id_width s) s at) (p.left - 1)

  abbrev values : Option (List Val)
  values = read_all (store_in cells) (args_at s at)

  takes_is :
      take_step (told_types types) (blocks_of g) (config_in g cells t) ≡
      moved (blocks_of g) p.block rest (act (told_types types) i (tick mach) (form_by (code_at s at) (args_at s at)))
  takes_is =
      ap (λ (r : Result Spot Over). take_step (told_types types) (blocks_of g) (record { stand = stand_of s r; mach = mach })) going.here ∙
      takes_here s p left (told_types types) (blocks_of g) mach ∙
      ap (λ (f : Form). moved (blocks_of g) p.block rest (act (told_types types) i (tick mach) f)) (form_is loud (type_in types))

  fits_by :
      fits_at (told_types types) mach (stand_of s t.spot) ≡ fits_form (told_types types) i mach (form_by (code_at s at) (args_at s at))
  fits_by =
      ap (λ (r : Result Spot Over). fits_at (told_types types) mach (stand_of s r)) going.here ∙
      fits_here s p left (told_types types) (blocks_of g) mach ∙
      ap (fits_form (told_types types) i mach) (form_is loud (type_in types))

  room : t.event + most_event * suc t.answers ≤ far
  room =
      let e : events_ahead t ≡ suc t.answers = ap (λ (r : Result Spot Over). ahead_of r t.answers) going.here in
      subst (λ (n : ℕ). t.event + most_event * n ≤ far) e ready.events

  -- an argument is not set
  pub step_unset : values ≡ none → Stepped g cells cells l l t (over_turn Unset t.event t.answer t.answers t)
  unfolding stop_by events_bytes join
  step_unset e =
      record {
        ready = ready_over g Unset t.event t.answer t.answers t ready.sure ready.answers (omega (arith, room));
        more = refl;
        tells = refl;
        unfit = λ z. absurd (cc z);
        fit = λ n.
            record {
              added = [];
              fits = fits_by ∙ fits_unset types i mach (args_at s at) (has_dest (code_at s at)) (eqb (code_at s at) 66) e;
              takes =
                  takes_is ∙
                  ap (moved (blocks_of g) p.block rest)
                  (act_unset types i mach (args_at s at) (has_dest (code_at s at)) (eqb (code_at s at) 66) e) ∙
                  over_silent g cells p.block rest Unset t.event t.answer t.answers t refl;
              wrote = wrote_nothing;
            };
      }

  module _ (m : List ℕ) (place : ℕ) (told : Told s at l m t.event place values) where
    abbrev event : Event
    event = event_of i told.values

    wrote_one : Wrote l m t.event place (events_bytes (id_width s) (event ∷ []))
    unfolding events_bytes
    wrote_one = wrote_last (event_bytes (id_width s) event) told.wrote

    pub room_left : place + most_event * t.answers ≤ far
    room_left = omega (arith, room, told.near)

    -- ret
    pub step_ret : code_at s at ≡ 66 → Stepped g cells cells l m t (over_turn Ret place t.answer t.answers t)
    unfolding stop_by
    step_ret c =
        let f : form_by (code_at s at) (args_at s at) ≡ return (args_at s at) = ap (λ (k : ℕ). form_by k (args_at s at)) c in
        record {
          ready =
              ready_over g Ret place t.answer t.answers t ready.sure ready.answers (omega (arith, room_left));
          more = refl;
          tells = refl;
          unfit = λ z. absurd (cc z);
          fit = λ n.
              record {
                added = event ∷ [];
                fits =
                    fits_by ∙ ap (fits_form (told_types types) i mach) f ∙
                    fits_ret types i mach (args_at s at) told.values told.read;
                takes =
                    takes_is ∙
                    ap (λ (u : Form). moved (blocks_of g) p.block rest (act (told_types types) i (tick mach) u)) f ∙
                    ap (moved (blocks_of g) p.block rest) (act_ret types i mach (args_at s at) told.values told.read) ∙
                    over_told g cells p.block rest Ret place t.answer t.answers t event;
                wrote = wrote_one;
              };
        }

    -- the others, by what the answer comes to
    pub step_told :
        (after : Cells 256) (r : Turn) → code_at s at ≢ 66 → Answered g cells after place p t r →
        Stepped g cells after l m t r
    step_told after r c a =
        let f : form_by (code_at s at) (args_at s at) ≡ cond (has_dest (code_at s at)) (new (args_at s at)) (effect (args_at s at)) =
        ap (λ (b : Bool). cond (has_dest (code_at s at)) (new (args_at s at)) (cond b (return (args_at s at)) (effect (args_at s at))))
        (ne_eqb (code_at s at) 66 c) in
        let fits = fits_by ∙ ap (fits_form (told_types types) i mach) f ∙
        fits_is types i mach (args_at s at) told.values told.read (has_dest (code_at s at)) in
        record {
          ready = a.ready;
          more = a.more;
          tells = a.tells;
          unfit = λ z. fits ∙ a.unfit z;
          fit = λ n.
              record {
                added = event ∷ [];
                fits = fits ∙ (a.fit n).fits;
                takes =
                    takes_is ∙
                    ap (λ (u : Form). moved (blocks_of g) p.block rest (act (told_types types) i (tick mach) u)) f ∙
                    ap (moved (blocks_of g) p.block rest)
                    (act_told types i mach (args_at s at) told.values told.read (has_dest (code_at s at))) ∙
                    (a.fit n).goes event;
                wrote = subst (λ (p : ℕ). Wrote l m t.event p (events_bytes (id_width s) (event ∷ []))) (sym a.told) wrote_one;
              };
        }
