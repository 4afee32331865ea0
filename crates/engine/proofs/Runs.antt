-- Runs of the code up to their end: where they leave the machine, and that two from the same place have the same events.
use Prim.Native.Nat.{ℕ, zero, suc, ◌+◌, ◌-◌, ◌≤◌}
use mathlib.Core.Path.{◌≡◌, refl, sym, ap, ◌∙◌}
use mathlib.Core.Logic.{◌≢◌}
use mathlib.Core.List.{List, [], append-nil}
use mathlib.Core.Bool.{Bool, true, false, not, ◌&&◌, true≢false}
use native.Mathlib.Omega.{arith}
use lib.ListN.{length}
use Rattle.std.proofs.Common.{Err}
use Rattle.record.specs.Record.{Instr, Block}
use Rattle.record.specs.Write.{join}
use Rattle.record.specs.Decode.{id_width}
use Rattle.machine.specs.Machine.{Context, Event, Stop, Mach}
use Rattle.running.specs.Steps.{over, Config, take_step, steps, shifted, shifted_mach}
use Rattle.running.specs.House.{events_bytes}
use Rattle.running.specs.Engine.{unfit_within}
use Rattle.running.proofs.Steps.{over_stays}
use Rattle.running.proofs.Shifted.{shifted_shifted, steps_shifted}
use Rattle.write_bytes.specs.Put.{Wrote}
use Rattle.engine_cells.specs.declared.Cells.{Cells}
use Rattle.engine_quiet.specs.declared.Ground.{Ground}
use Rattle.engine_quiet.specs.declared.Over.TheVariants.{Unfit}
use Rattle.engine_quiet.specs.declared.Spot.{Spot}
use Rattle.engine_quiet.specs.Spot.{stop_by, told_types, blocks_of, stand_of, quiet, code_at}
use Rattle.engine_events.specs.declared.Turn.{Turn}
use Rattle.engine_events.specs.Turn.{config_in}
use Rattle.engine_steps.specs.Came.{waiting, Rests, is_over, spent, waits, steps_of, unfit_of, Came}
use Rattle.engine.specs.Opened.{told_on}

-- ---- what is over takes no answer
over_fits :
    (ctx : Context) (bs : List (Block Instr)) (k : ℕ) (e : Stop) (m : Mach) →
    unfit_within ctx bs k (record { stand = over e; mach = m }) ≡ false
unfolding unfit_within take_step
over_fits ctx bs zero e m = refl
over_fits ctx bs (suc k) e m = over_fits ctx bs k e m

module _ (g : Ground) where
  abbrev s : List ℕ
  s = g.s.now

  never_waits : (p : Spot) (t : Turn) → t.tells ≡ true → waiting s p t ≢ true
  never_waits p t e w =
      let no : waiting s p t ≡ false = ap (λ (b : Bool). not b && not (quiet (code_at s p.at))) e in
      true≢false (sym w ∙ no)

  -- a run that tells its events and goes no further
  module _ (cells : Cells 256) (t : Turn) (tells : t.tells ≡ true) where
    rests_stays :
        Rests s t → (es : List Event) (k : ℕ) →
        steps_of g t.more (shifted es k (config_in g cells t)) ≡ shifted es k (config_in g cells t)
    unfolding steps
    rests_stays (is_over o h) es k =
        let m = shifted_mach es k (config_in g cells t).mach in
        let e = ap (stand_of s) h in
        (λ i. steps_of g t.more (record { stand = e i; mach = m })) ∙
        over_stays (told_types g.types.now) (blocks_of g) t.more (stop_by o) m ∙
        (λ i. record { stand = sym e i; mach = m })
    rests_stays (spent z) es k = ap (λ (n : ℕ). steps_of g n (shifted es k (config_in g cells t))) z
    rests_stays (waits p h w) es k = absurd (never_waits p t tells w)

    rests_fits : Rests s t → unfit_of g t.more (config_in g cells t) ≡ false
    unfolding unfit_within
    rests_fits (is_over o h) =
        let m = (config_in g cells t).mach in
        let e = ap (stand_of s) h in
        (λ i. unfit_of g t.more (record { stand = e i; mach = m })) ∙
        over_fits (told_types g.types.now) (blocks_of g) t.more (stop_by o) m
    rests_fits (spent z) = ap (λ (n : ℕ). unfit_of g n (config_in g cells t)) z
    rests_fits (waits p h w) = absurd (never_waits p t tells w)

  -- ---- a run that tells its events, from t to r
  pub record Finishes (before after : Cells 256) (l m : List ℕ) (t r : Turn) : Type 0 where
    pub added : List Event
    pub config :
        steps_of g t.more (config_in g before t) ≡ shifted added (t.more - r.more) (config_in g after r)
    pub fits : unfit_of g t.more (config_in g before t) ≡ false
    pub wrote : Wrote l m t.event r.event (events_bytes (id_width s) added)

  module _ {before after : Cells 256} {l m : List ℕ} {t r : Turn} (c : Came g before after l m t r) (tells : t.tells ≡ true) where
    pub finishes : r.spot ≢ Err Unfit → Finishes before after l m t r
    finishes n =
        let w = c.upto.fit n in
        let e = c.upto.tells ∙ tells in
        record {
          added = w.added;
          config = w.rest ∙ rests_stays after r e c.rests w.added (t.more - r.more);
          fits = w.same ∙ rests_fits after r e c.rests;
          wrote = w.wrote;
        }

    -- one that fits ends so
    pub fits_on : unfit_of g t.more (config_in g before t) ≡ false → Finishes before after l m t r
    fits_on h = finishes (λ e. absurd (cc (sym (c.upto.unfit e) ∙ h)))

  pub same_events :
      {before after after' : Cells 256} {l m l' m' : List ℕ} {t r r' : Turn} (a : Finishes before after l m t r) (b : Finishes before after' l' m' t r') →
      b.added ≡ a.added
  same_events a b =
      sym (append-nil b.added) ∙ ap (λ (c : Config). c.mach.events) (sym b.config ∙ a.config) ∙ append-nil a.added

  -- ---- from the start to r, before the first event, and then on to t
  pub record Reached (before after : Cells 256) (t₀ t : Turn) (added : List Event) : Type 0 where
    pub config :
        steps_of g t₀.more (config_in g before t₀) ≡ shifted added (t₀.more - t.more) (config_in g after t)
    pub fits : unfit_of g t₀.more (config_in g before t₀) ≡ false
    pub size : t.event ≡ length (events_bytes (id_width s) added)

  module _
      {cells₀ cells₁ : Cells 256} {l m : List ℕ} {t₀ r : Turn} (c : Came g cells₀ cells₁ l m t₀ r) (not_yet : t₀.tells ≡ false)
    where
      -- an answer that does not fit is met later, if at all
      pub unfit_later :
          unfit_of g r.more (config_in g cells₁ r) ≡ true →
          unfit_of g t₀.more (config_in g cells₀ t₀) ≡ true
      unfit_later h = (c.upto.fit (c.upto.calm not_yet)).same ∙ h

      pub none_told : t₀.event ≡ 0 → r.event ≡ 0
      unfolding events_bytes join
      none_told z =
          let w = c.upto.fit (c.upto.calm not_yet) in
          let e : length (events_bytes (id_width s) w.added) ≡ 0 =
          ap (λ (es : List Event). length (events_bytes (id_width s) es)) (w.waited not_yet) in
          omega (arith, w.wrote.end, e, z)

      pub reaches :
          {cells₂ : Cells 256} {l' m' : List ℕ} {t : Turn} → t₀.event ≡ 0 → t.more ≤ r.more →
          (f : Finishes cells₁ cells₂ l' m' (told_on r) t) → Reached cells₀ cells₂ t₀ t f.added
      reaches {cells₂} {l'} {m'} {t} z fewer f =
          let w = c.upto.fit (c.upto.calm not_yet) in
          let a = t₀.more - r.more in
          let b = r.more - t.more in
          let k : a + b ≡ t₀.more - t.more = omega (arith, fewer, c.upto.fewer) in
          record {
            config =
                w.rest ∙
                ap (λ (es : List Event). steps_of g r.more (shifted es a (config_in g cells₁ r))) (w.waited not_yet) ∙
                steps_shifted [] a (told_types g.types.now) (blocks_of g) r.more (config_in g cells₁ r) ∙
                ap (shifted [] a) f.config ∙
                shifted_shifted [] f.added a b (config_in g cells₂ t) ∙
                ap (λ (n : ℕ). shifted f.added n (config_in g cells₂ t)) k;
            fits = w.same ∙ f.fits;
            size = omega (arith, f.wrote.end, none_told z);
          }
