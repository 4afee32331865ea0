-- The run by steps and the run by blocks end alike, and the limit is spent exactly where the machine has not ended within it.
use Prim.Native.Nat.{ℕ, zero, suc, ◌+◌, ◌-◌, ◌≤◌, ◌<◌}
use mathlib.Core.Path.{◌≡◌, refl, sym, ap, ◌∙◌, subst}
use mathlib.Core.Bool.{true, false}
use mathlib.Core.Logic.{◌↔◌}
use mathlib.Core.Option.{Option, none, some}
use mathlib.Core.List.{List, [], ◌∷◌}
use native.Mathlib.Omega.{arith}
use Rattle.arith.proofs.Clash.{clash}
use native.Mathlib.Decide.{dec_le}
use lib.ListN.{drop}
use Rattle.record.specs.Record.{Instr, Block}
use Rattle.machine.specs.Machine.{Store, Context, Answer, Stop, at_end, Mach, Step, goes, jumps, ends, step, Out, falls, leaps, breaks, after, run_block, Place, before, stopped, Run, nth, arrived, arrive, passes, through, advance_from, advance, begin, iterate, run_with}
use Rattle.running.specs.Steps.{Stand, facing, over, Config, running, moved, step_from, take_step, steps, start, stand_at}
use Rattle.running.proofs.Kept.{mach_of, step_counts}
use Rattle.running.proofs.Steps.{steps_steps, over_stays, run_reaches}

module _ (ctx : Context) (bs : List (Block Instr)) where
  -- ---- what k steps count
  moved_counts : (b : ℕ) (is : List Instr) (s : Step) → (moved bs b is s).mach.steps ≡ (mach_of s).steps
  moved_counts b is (goes m) = refl
  moved_counts b is (jumps c m) = refl
  moved_counts b is (ends s m) = refl

  from_counts : (m : Mach) (d : Stand) → (step_from ctx bs m d).mach.steps ≤ suc m.steps
  from_counts m (facing b i is) = omega (arith, moved_counts b is (step ctx i m), step_counts ctx i m)
  from_counts m (over s) = omega arith

  pub steps_at_most : (k : ℕ) (c : Config) → (steps ctx bs k c).mach.steps ≤ c.mach.steps + k
  unfolding steps take_step
  steps_at_most zero c = omega arith
  steps_at_most (suc k) c = omega (arith, steps_at_most k (take_step ctx bs c), from_counts c.mach c.stand)

  -- where steps are left to do, all k were done
  pub steps_spent : (k : ℕ) (c : Config) → running (steps ctx bs k c).stand ≡ true → (steps ctx bs k c).mach.steps ≡ c.mach.steps + k
  unfolding steps take_step
  steps_spent zero c h = omega arith
  steps_spent (suc k) c h = go c.stand refl (steps_spent k (take_step ctx bs c) h)
    where
      go :
          (d : Stand) → c.stand ≡ d →
          (steps ctx bs k (take_step ctx bs c)).mach.steps ≡ (take_step ctx bs c).mach.steps + k →
          (steps ctx bs k (take_step ctx bs c)).mach.steps ≡ c.mach.steps + suc k
      go (facing b i is) e r =
          let t : take_step ctx bs c ≡ moved bs b is (step ctx i c.mach) = ap (step_from ctx bs c.mach) e in
          let u : (take_step ctx bs c).mach.steps ≡ suc c.mach.steps =
          ap (λ (d : Config). d.mach.steps) t ∙ moved_counts b is (step ctx i c.mach) ∙ step_counts ctx i c.mach in
          omega (arith, u, r)
      go (over s) e r =
          let t : take_step ctx bs c ≡ record { stand = over s; mach = c.mach } = ap (step_from ctx bs c.mach) e in
          let u : running (steps ctx bs k (take_step ctx bs c)).stand ≡ false =
          ap (λ (d : Config). running (steps ctx bs k d).stand) t ∙ ap (λ (d : Config). running d.stand) (over_stays ctx bs k s c.mach) in
          clash (cc)

  -- what is over after j steps is the same after any more
  pub stays : (j k : ℕ) (c : Config) (s : Stop) → j ≤ k → (steps ctx bs j c).stand ≡ over s → steps ctx bs k c ≡ steps ctx bs j c
  stays j k c s l e =
      let d = steps ctx bs j c in
      let n : k ≡ j + (k - j) = omega arith in
      let o : d ≡ record { stand = over s; mach = d.mach } = λ i. record { stand = e i; mach = d.mach } in
      ap (λ (x : ℕ). steps ctx bs x c) n
      ∙ steps_steps ctx bs j (k - j) c
      ∙ ap (steps ctx bs (k - j)) o
      ∙ over_stays ctx bs (k - j) s d.mach
      ∙ sym o

  pub same_end :
      (j k : ℕ) (c : Config) (s t : Stop) →
      (steps ctx bs j c).stand ≡ over s → (steps ctx bs k c).stand ≡ over t → steps ctx bs j c ≡ steps ctx bs k c
  same_end j k c s t d e = go (dec_le j k)
    where
      go : Dec (j ≤ k) → steps ctx bs j c ≡ steps ctx bs k c
      go (yes l) = sym (stays j k c s l d)
      go (no l) = stays k j c t (omega arith) e

  -- ---- progress
  abbrev out_mach : Out → Mach
  out_mach (falls m) = m
  out_mach (leaps c m) = m
  out_mach (breaks s p m) = m

  after_counts :
      (s : Step) (p : ℕ) (rest : Mach → Out) (k : ℕ) →
      ((n : Mach) → n.steps ≤ (out_mach (rest n)).steps) →
      k ≤ (mach_of s).steps →
      k ≤ (out_mach (after s p rest)).steps
  after_counts (goes m) p rest k h l = omega (arith, h m, l)
  after_counts (jumps b m) p rest k h l = l
  after_counts (ends s m) p rest k h l = l

  block_counts : (is : List Instr) (p : ℕ) (m : Mach) → m.steps ≤ (out_mach (run_block ctx is p m)).steps
  unfolding run_block
  block_counts [] p m = omega arith
  block_counts (i ∷ is) p m =
      after_counts (step ctx i m) p (run_block ctx is (suc p)) m.steps (λ n. block_counts is (suc p) n) (omega (arith, step_counts ctx i m))

  first_counts : (i : Instr) (is : List Instr) (p : ℕ) (m : Mach) → suc m.steps ≤ (out_mach (run_block ctx (i ∷ is) p m)).steps
  unfolding run_block
  first_counts i is p m =
      after_counts (step ctx i m) p (run_block ctx is (suc p)) (suc m.steps) (λ n. block_counts is (suc p) n) (omega (arith, step_counts ctx i m))

  -- r is stopped, or has counted at least k
  pub data Far (r : Run) (k : ℕ) : Type 0 where
    is_stopped : (s : Stop) (b p : ℕ) → r.place ≡ stopped s b p → Far r k
    has_counted : k ≤ r.mach.steps → Far r k

  abbrev more : ℕ → Run → Run
  more n r = iterate n (advance ctx bs) r

  more_first : (n : ℕ) (r : Run) → more n (advance ctx bs r) ≡ more (suc n) r
  unfolding iterate
  more_first zero r = refl
  more_first (suc n) r = ap (advance ctx bs) (more_first n r)

  more_more : (j n : ℕ) (r : Run) → more j (more n r) ≡ more (j + n) r
  unfolding iterate
  more_more zero n r = let e : n ≡ 0 + n = omega arith in ap (λ (x : ℕ). more x r) e
  more_more (suc j) n r =
      let e : suc (j + n) ≡ suc j + n = omega arith in
      ap (advance ctx bs) (more_more j n r) ∙ ap (λ (x : ℕ). more x r) e

  -- some number of blocks more
  pub record Onwards (r : Run) (k : ℕ) : Type 0 where
    pub blocks : ℕ
    pub far : Far (more blocks r) k

  abbrev before_run : ℕ → List ℕ → Mach → Run
  before_run b l m = record { place = before b; passed = l; mach = m }

  after_first : (r q : Run) (k : ℕ) → advance ctx bs r ≡ q → Onwards q k → Onwards r k
  after_first r q k e o =
      record { blocks = suc o.blocks; far = subst (λ (x : Run). Far x k) (ap (more o.blocks) (sym e) ∙ more_first o.blocks r) o.far }

  nth_drop : (bs : List (Block Instr)) (b : ℕ) → nth bs b ≡ nth (drop b bs) 0
  unfolding nth
  nth_drop [] zero = refl
  nth_drop [] (suc b) = refl
  nth_drop (x ∷ bs) zero = refl
  nth_drop (x ∷ bs) (suc b) = nth_drop bs b

  drop_next : (bs : List (Block Instr)) (b : ℕ) → drop (suc b) bs ≡ drop 1 (drop b bs)
  drop_next [] zero = refl
  drop_next [] (suc b) = refl
  drop_next (x ∷ bs) zero = refl
  drop_next (x ∷ bs) (suc b) = drop_next bs b

  -- at a block, or past the last
  arrived_onwards :
      (o : Option (Block Instr)) (b : ℕ) (l : List ℕ) (m : Mach) (k : ℕ) →
      Onwards (before_run b l m) k →
      Onwards (record { place = arrived o b; passed = l; mach = m }) k
  unfolding iterate
  arrived_onwards none b l m k h = record { blocks = 0; far = is_stopped at_end b 0 refl }
  arrived_onwards (some x) b l m k h = h

  -- a block with instructions takes a step; behind an empty one are the blocks that follow it
  passes_onwards :
      (is : List Instr) (b : ℕ) (l : List ℕ) (m : Mach) →
      ((l : List ℕ) → Onwards (before_run (suc b) l m) (suc m.steps)) →
      Onwards (passes bs b l (run_block ctx is 0 m)) (suc m.steps)
  unfolding passes run_block iterate arrive
  passes_onwards [] b l m h = arrived_onwards (nth bs (suc b)) (suc b) (b ∷ l) m (suc m.steps) (h (b ∷ l))
  passes_onwards (i ∷ is) b l m h = record { blocks = 0; far = has_counted (go (run_block ctx (i ∷ is) 0 m) (first_counts i is 0 m)) }
    where
      go : (o : Out) → suc m.steps ≤ (out_mach o).steps → suc m.steps ≤ (passes bs b l o).mach.steps
      go (falls n) k = k
      go (leaps c n) k = k
      go (breaks s p n) k = k

  -- rest: the blocks from b on
  block_onwards :
      (rest : List (Block Instr)) (b : ℕ) (l : List ℕ) (m : Mach) →
      drop b bs ≡ rest →
      Onwards (before_run b l m) (suc m.steps)
  unfolding advance advance_from through nth iterate
  block_onwards [] b l m e =
      let f : nth bs b ≡ none = nth_drop bs b ∙ ap (λ (xs : List (Block Instr)). nth xs 0) e in
      let g : advance ctx bs (before_run b l m) ≡ record { place = stopped at_end b 0; passed = l; mach = m } =
      ap (through ctx bs b l m) f in
      after_first _ _ _ g (record { blocks = 0; far = is_stopped at_end b 0 refl })
  block_onwards (x ∷ rest) b l m e =
      let f : nth bs b ≡ some x = nth_drop bs b ∙ ap (λ (xs : List (Block Instr)). nth xs 0) e in
      let d : drop (suc b) bs ≡ rest = drop_next bs b ∙ ap (drop 1) e in
      let g : advance ctx bs (before_run b l m) ≡ passes bs b l (run_block ctx x.body 0 m) = ap (through ctx bs b l m) f in
      after_first _ _ _ g (passes_onwards x.body b l m (λ l. block_onwards rest (suc b) l m d))

  run_onwards : (r : Run) (k : ℕ) → k ≤ r.mach.steps → Onwards r (suc k)
  unfolding iterate
  run_onwards r k h = go r.place refl
    where
      raise : (q : Run) → Far q (suc r.mach.steps) → Far q (suc k)
      raise q (is_stopped s b p e) = is_stopped s b p e
      raise q (has_counted l) = has_counted (omega (arith, l, h))

      go : (q : Place) → r.place ≡ q → Onwards r (suc k)
      go (before b) e =
          let f : before_run b r.passed r.mach ≡ r = λ i. record { place = sym e i; passed = r.passed; mach = r.mach } in
          let o = block_onwards (drop b bs) b r.passed r.mach refl in
          let g : Far (more o.blocks r) (suc r.mach.steps) =
          subst (λ (x : Run). Far (more o.blocks x) (suc r.mach.steps)) f o.far in
          record { blocks = o.blocks; far = raise (more o.blocks r) g }
      go (stopped s b p) e = record { blocks = 0; far = is_stopped s b p e }

  -- for each k some number of blocks is stopped or has counted k
  pub onwards : (r : Run) (k : ℕ) → Onwards r k
  unfolding iterate
  onwards r zero = record { blocks = 0; far = has_counted (omega arith) }
  onwards r (suc k) = go (onwards r k).blocks (onwards r k).far
    where
      go : (n : ℕ) → Far (more n r) k → Onwards r (suc k)
      go n (is_stopped s b p e) = record { blocks = n; far = is_stopped s b p e }
      go n (has_counted h) =
          let o = run_onwards (more n r) k h in
          record { blocks = o.blocks + n; far = subst (λ (x : Run). Far x (suc k)) (more_more o.blocks n r) o.far }

  -- ---- the two runs from the same start
  module _ (σ : Store) (xs : List Answer) where
    abbrev by_blocks : ℕ → Run
    by_blocks n = run_with ctx bs σ xs n

    abbrev by_steps : ℕ → Config
    by_steps k = steps ctx bs k (start bs σ xs)

    -- for each k some number of blocks is stopped or has counted k
    pub progress : (k : ℕ) → (n : ℕ) × Far (by_blocks n) k
    unfolding run_with
    progress k = let o = onwards (begin bs σ xs) k in (o.blocks, o.far)

    start_counts : (k : ℕ) → (by_steps k).mach.steps ≤ k
    unfolding start
    start_counts k = omega (arith, steps_at_most k (start bs σ xs))

    -- a run by blocks that is stopped, as the run by steps has it
    stopped_at : (n : ℕ) (s : Stop) (b p : ℕ) → (by_blocks n).place ≡ stopped s b p → (by_steps (by_blocks n).mach.steps).stand ≡ over s
    stopped_at n s b p e =
        ap (λ (c : Config). c.stand) (sym (run_reaches ctx bs σ xs n)) ∙ ap (stand_at bs) e

    -- the run by blocks is stopped by s, with that machine
    pub record Ends (s : Stop) (m : Mach) : Type 0 where
      pub blocks : ℕ
      pub block : ℕ
      pub index : ℕ
      pub place : (by_blocks blocks).place ≡ stopped s block index
      pub mach : (by_blocks blocks).mach ≡ m

    -- where the run by steps is over, the run by blocks is stopped with the same stop, store, events, answers and steps
    pub steps_reach : (k : ℕ) (s : Stop) → (by_steps k).stand ≡ over s → Ends s (by_steps k).mach
    steps_reach k s e = go (progress (suc k)).0 (progress (suc k)).1
      where
        go : (n : ℕ) → Far (by_blocks n) (suc k) → Ends s (by_steps k).mach
        go n (is_stopped t b p f) =
            let w = run_reaches ctx bs σ xs n in
            let q : by_steps (by_blocks n).mach.steps ≡ by_steps k =
            same_end (by_blocks n).mach.steps k (start bs σ xs) t s (stopped_at n t b p f) e in
            let o : over t ≡ over s = sym (stopped_at n t b p f) ∙ ap (λ (c : Config). c.stand) q ∙ e in
            let z : t ≡ s = cc o in
            record {
              blocks = n;
              block = b;
              index = p;
              place = f ∙ ap (λ (x : Stop). stopped x b p) z;
              mach = ap (λ (c : Config). c.mach) (w ∙ q);
            }
        go n (has_counted h) =
            let w = run_reaches ctx bs σ xs n in
            let q : by_steps (by_blocks n).mach.steps ≡ by_steps k = stays k (by_blocks n).mach.steps (start bs σ xs) s (omega (arith, h)) e in
            let u : (by_blocks n).mach.steps ≡ (by_steps k).mach.steps = ap (λ (c : Config). c.mach.steps) (w ∙ q) in
            absurd (omega (arith, u, h, start_counts k))

    -- "It says that the limit is spent exactly when the machine has not ended within that many steps."
    pub limit_exact :
        (limit : ℕ) →
        (running (by_steps limit).stand ≡ true) ↔
        ((n : ℕ) (s : Stop) (b p : ℕ) → (by_blocks n).place ≡ stopped s b p → limit < (by_blocks n).mach.steps)
    limit_exact limit = (λ h n s b p e. within n s b p e h (dec_le (by_blocks n).mach.steps limit), λ h. spent (by_steps limit).stand refl h)
      where
        within :
            (n : ℕ) (s : Stop) (b p : ℕ) → (by_blocks n).place ≡ stopped s b p → running (by_steps limit).stand ≡ true →
            Dec ((by_blocks n).mach.steps ≤ limit) → limit < (by_blocks n).mach.steps
        within n s b p e h (yes l) =
            let d = stopped_at n s b p e in
            let q : (by_steps limit).stand ≡ over s =
            ap (λ (c : Config). c.stand) (stays (by_blocks n).mach.steps limit (start bs σ xs) s l d) ∙ d in
            let r : false ≡ true = sym (ap running q) ∙ h in
            clash (cc r)
        within n s b p e h (no l) = omega (arith, l)

        spent :
            (d : Stand) → (by_steps limit).stand ≡ d →
            ((n : ℕ) (s : Stop) (b p : ℕ) → (by_blocks n).place ≡ stopped s b p → limit < (by_blocks n).mach.steps) →
            running d ≡ true
        spent (facing b i is) e h = refl
        spent (over s) e h =
            let r = steps_reach limit s e in
            let l : limit < (by_blocks r.blocks).mach.steps = h r.blocks s r.block r.index r.place in
            let u : (by_blocks r.blocks).mach.steps ≡ (by_steps limit).mach.steps = ap (λ (m : Mach). m.steps) r.mach in
            absurd (omega (arith, l, u, start_counts limit))

    -- where it is spent the steps are the limit
    pub limit_counts : (limit : ℕ) → running (by_steps limit).stand ≡ true → (by_steps limit).mach.steps ≡ limit
    unfolding start
    limit_counts limit h = omega (arith, steps_spent limit (start bs σ xs) h)
