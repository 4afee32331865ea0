-- What the run by blocks has, the run by steps has after as many steps as were counted.
use Prim.Native.Nat.{ℕ, zero, suc, ◌+◌}
use mathlib.Core.Path.{◌≡◌, refl, sym, ap, ◌∙◌}
use mathlib.Core.Option.{Option, none, some}
use mathlib.Core.List.{List, [], ◌∷◌}
use native.Mathlib.Omega.{arith}
use native.Mathlib.Nat.{add-zero}
use lib.ListN.{drop}
use Rattle.record.specs.Record.{Instr, Block}
use Rattle.machine.specs.Machine.{Store, Context, Answer, Stop, at_end, Mach, Step, goes, jumps, ends, step, Out, falls, leaps, breaks, after, run_block, Place, before, stopped, Run, nth, arrived, arrive, passes, through, advance_from, advance, begin, iterate, run_with}
use Rattle.running.proofs.Kept.{mach_of, step_counts}
use Rattle.running.specs.Steps.{Stand, over, Config, first_of, land_in, land, moved, take_step, steps, start, stand_at, config_of}

-- ---- landing
abbrev landed : Option (Block Instr) → ℕ → Stand → Stand
landed none b other = over at_end
landed (some x) b other = first_of b x.body other

land_in_step :
    (bs : List (Block Instr)) (b c : ℕ) →
    land_in c (drop b bs) ≡ landed (nth bs b) c (land_in (suc c) (drop (suc b) bs))
unfolding land_in nth
land_in_step [] zero c = refl
land_in_step [] (suc b) c = refl
land_in_step (x ∷ bs) zero c = refl
land_in_step (x ∷ bs) (suc b) c = land_in_step bs b c

-- at the block's first instruction, or where the next block leads
land_step : (bs : List (Block Instr)) (b : ℕ) → land bs b ≡ landed (nth bs b) b (land bs (suc b))
unfolding land
land_step bs b = land_in_step bs b b

-- arriving at a block is landing at it
arrive_lands : (bs : List (Block Instr)) (b : ℕ) → stand_at bs (arrive bs b) ≡ land bs b
unfolding arrive
arrive_lands bs b = go (nth bs b) (land_step bs b)
  where
    go : (o : Option (Block Instr)) → land bs b ≡ landed o b (land bs (suc b)) → stand_at bs (arrived o b) ≡ land bs b
    go none e = sym e
    go (some x) e = refl

-- ---- steps one after the other
module _ (ctx : Context) (bs : List (Block Instr)) where
  pub steps_steps : (j k : ℕ) (c : Config) → steps ctx bs (j + k) c ≡ steps ctx bs k (steps ctx bs j c)
  unfolding steps
  steps_steps zero k c = let e : 0 + k ≡ k = omega arith in ap (λ (n : ℕ). steps ctx bs n c) e
  steps_steps (suc j) k c =
      let e : suc j + k ≡ suc (j + k) = omega arith in
      ap (λ (n : ℕ). steps ctx bs n c) e ∙ steps_steps j k (take_step ctx bs c)

  -- "A stopped run stays as it is"
  pub over_stays : (k : ℕ) (s : Stop) (m : Mach) → steps ctx bs k (record { stand = over s; mach = m }) ≡ record { stand = over s; mach = m }
  unfolding steps take_step
  over_stays zero s m = refl
  over_stays (suc k) s m = over_stays k s m

  -- d stands `used` steps behind c
  pub record Leads (c d : Config) : Type 0 where
    pub used : ℕ
    pub count : d.mach.steps ≡ c.mach.steps + used
    pub there : steps ctx bs used c ≡ d

  no_step : (c : Config) → Leads c c
  unfolding steps
  no_step c = record { used = 0; count = sym (add-zero c.mach.steps); there = refl }

  -- ---- one block
  -- where a block leaves the run; b: its number
  abbrev left : ℕ → Out → Config
  left b (falls m) = record { stand = land bs (suc b); mach = m }
  left b (leaps c m) = record { stand = land bs c; mach = m }
  left b (breaks s p m) = record { stand = over s; mach = m }

  abbrev facing_first : ℕ → List Instr → Mach → Config
  facing_first b is m = record { stand = first_of b is (land bs (suc b)); mach = m }

  -- a first step, and what the rest of the block does then
  first_leads :
      (b : ℕ) (i : Instr) (is : List Instr) (p : ℕ) (m : Mach) →
      ((n : Mach) → Leads (facing_first b is n) (left b (run_block ctx is (suc p) n))) →
      (s : Step) → step ctx i m ≡ s → (mach_of s).steps ≡ suc m.steps →
      Leads (facing_first b (i ∷ is) m) (left b (after s p (run_block ctx is (suc p))))
  unfolding steps take_step
  first_leads b i is p m rest (goes n) e k =
      let r = rest n in
      record {
        used = suc r.used;
        count = omega (arith, k, r.count);
        there = ap (λ (s : Step). steps ctx bs r.used (moved bs b is s)) e ∙ r.there;
      }
  first_leads b i is p m rest (jumps c n) e k = record { used = 1; count = omega (arith, k); there = ap (moved bs b is) e }
  first_leads b i is p m rest (ends s n) e k = record { used = 1; count = omega (arith, k); there = ap (moved bs b is) e }

  block_leads : (b : ℕ) (is : List Instr) (p : ℕ) (m : Mach) → Leads (facing_first b is m) (left b (run_block ctx is p m))
  unfolding run_block
  block_leads b [] p m = no_step (facing_first b [] m)
  block_leads b (i ∷ is) p m =
      first_leads b i is p m (λ n. block_leads b is (suc p) n) (step ctx i m) refl (step_counts ctx i m)

  -- ---- one block more of a run
  passes_at : (b : ℕ) (l : List ℕ) (o : Out) → config_of bs (passes bs b l o) ≡ left b o
  unfolding passes
  passes_at b l (falls m) = λ i. record { stand = arrive_lands bs (suc b) i; mach = m }
  passes_at b l (leaps c m) = λ i. record { stand = arrive_lands bs c i; mach = m }
  passes_at b l (breaks s p m) = refl

  through_leads :
      (b : ℕ) (l : List ℕ) (m : Mach) (o : Option (Block Instr)) →
      Leads (record { stand = landed o b (land bs (suc b)); mach = m }) (config_of bs (through ctx bs b l m o))
  unfolding through
  through_leads b l m none = no_step (record { stand = over at_end; mach = m })
  through_leads b l m (some x) =
      rw (passes_at b l (run_block ctx x.body 0 m)) (block_leads b x.body 0 m)

  from_leads : (q : Place) (l : List ℕ) (m : Mach) → Leads (record { stand = stand_at bs q; mach = m }) (config_of bs (advance_from ctx bs q l m))
  unfolding advance_from
  from_leads (before b) l m = rw (land_step bs b) (through_leads b l m (nth bs b))
  from_leads (stopped s b p) l m = no_step (record { stand = over s; mach = m })

  pub advance_leads : (r : Run) → Leads (config_of bs r) (config_of bs (advance ctx bs r))
  unfolding advance
  advance_leads r = from_leads r.place r.passed r.mach

  leads_on : (c d e : Config) → Leads c d → Leads d e → Leads c e
  leads_on c d e h k =
      record {
        used = h.used + k.used;
        count = omega (arith, h.count, k.count);
        there = steps_steps h.used k.used c ∙ ap (steps ctx bs k.used) h.there ∙ k.there;
      }

  iterate_leads : (n : ℕ) (r : Run) → Leads (config_of bs r) (config_of bs (iterate n (advance ctx bs) r))
  unfolding iterate
  iterate_leads zero r = no_step (config_of bs r)
  iterate_leads (suc n) r =
      let q = iterate n (advance ctx bs) r in
      leads_on (config_of bs r) (config_of bs q) (config_of bs (advance ctx bs q)) (iterate_leads n r) (advance_leads q)

  begin_at : (σ : Store) (xs : List Answer) → config_of bs (begin bs σ xs) ≡ start bs σ xs
  unfolding begin start
  begin_at σ xs = λ i. record { stand = arrive_lands bs 0 i; mach = record { store = σ; answers = xs; events = []; steps = 0 } }

  -- after n blocks the run is where as many steps lead as it has counted
  pub run_reaches :
      (σ : Store) (xs : List Answer) (n : ℕ) →
      config_of bs (run_with ctx bs σ xs n) ≡ steps ctx bs (run_with ctx bs σ xs n).mach.steps (start bs σ xs)
  unfolding run_with begin
  run_reaches σ xs n =
      let r = iterate_leads n (begin bs σ xs) in
      let u : r.used ≡ (iterate n (advance ctx bs) (begin bs σ xs)).mach.steps = omega (arith, r.count) in
      sym r.there ∙ λ i. steps ctx bs (u i) (begin_at σ xs i)
