-- Progress: a run of a function that fits, from a typed store, keeps the store typed, stops as unset only where an instruction reads a
-- name that holds nothing, and in a division only where one by 0 stands. So it has read no unset name exactly as long as it has not
-- stopped as unset. Rests on one step.
use Prim.Native.Nat.{ℕ, zero, suc, ◌+◌}
use mathlib.Core.Path.{◌≡◌, refl, sym, ap, ◌∙◌, subst}
use mathlib.Core.Logic.{◌≢◌}
use mathlib.Core.Bool.{Bool, true, false, ◌&&◌, true≢false, and_assoc}
use mathlib.Core.List.{List, [], ◌∷◌, ◌++◌}
use mathlib.Core.Option.{Option, none, some, none-ne-some}
use native.Mathlib.Nat.{add-zero}
use native.Mathlib.Omega.{arith}
use Rattle.arith.specs.Operation.{Cause}
use Rattle.arith.proofs.Clash.{clash}
use Rattle.record.specs.declared.NameIx.{NameIx}
use Rattle.record.specs.Record.{Instr, Block, Function, names_of, type_in}
use Rattle.machine.specs.Machine.{Store, Context, plain_machine, Answer, Stop, at_end, at_ret, at_halt, at_unset, at_division, Mach, Step, step, Out, falls, leaps, breaks, after, run_block, Place, before, stopped, Run, nth, arrived, arrive, passes, through, advance_from, advance, begin, iterate, run_with, run}
use Rattle.machine.specs.Reached.{Reached, onward, reached_in, reached_of, reached_from, reached_with, reached, all_set, none_unset, read_no_unset}
use Rattle.pairing.specs.Joint.{Performed}
use Rattle.pairing.specs.Demand.{stop, shown, body_of, TypedStore}
use Rattle.pairing.proofs.Fit.{FitBody, FitFunction}
use Rattle.pairing.specs.Progress.{instr_at, ReadsUnset, DividesByZero, Progress, not_unset, quiet}
use Rattle.pairing.proofs.Operands.{TypedIn}
use Rattle.pairing.proofs.Stores.{Divided, Does, goes_on, jumps_to, stops_set, stops_unset, step_does}
use Rattle.pairing.proofs.Context.{FitBlocks, fit_nth}

-- ---- one block
-- is: its instructions from place p on; c: whether those that were reached have read no unset name
data Did (N : ℕ) (t : NameIx → ℕ) (is : List Instr) (p : ℕ) (c : Bool) : Out → Type 0 where
  fell : {m : Mach} → c ≡ true → TypedIn N t m.store → Did N t is p c (falls m)
  leapt : {b : ℕ} {m : Mach} → c ≡ true → TypedIn N t m.store → Did N t is p c (leaps b m)
  broke :
      {s : Stop} {q : ℕ} {m : Mach} (i : Instr) (d : ℕ) →
      q ≡ p + d →
      nth is d ≡ some i →
      not_unset s ≡ true →
      Divided t m.store i s →
      c ≡ true →
      TypedIn N t m.store →
      Did N t is p c (breaks s q m)
  broke_unset :
      {q : ℕ} {m : Mach} (i : Instr) (d : ℕ) →
      q ≡ p + d →
      nth is d ≡ some i →
      all_set m.store i.args ≡ false →
      c ≡ false →
      TypedIn N t m.store →
      Did N t is p c (breaks at_unset q m)

module _ (N : ℕ) (ctx : Context) (performed : (i : Instr) → Performed ctx i) where
  abbrev t : NameIx → ℕ
  t = ctx.types

  -- an instruction more, whose arguments are set
  later : (i : Instr) (is : List Instr) (p : ℕ) (a c : Bool) (o : Out) → a ≡ true → Did N t is (suc p) c o → Did N t (i ∷ is) p (a && c) o
  unfolding nth
  later i is p a c o e (fell u h) = fell (rw (e, u) refl) h
  later i is p a c o e (leapt u h) = leapt (rw (e, u) refl) h
  later i is p a c o e (broke {q = r} k d q n s v u h) =
      let place : r ≡ p + suc d = omega (arith, q) in
      broke k (suc d) place n s v (rw (e, u) refl) h
  later i is p a c o e (broke_unset {q = r} k d q n s u h) =
      let place : r ≡ p + suc d = omega (arith, q) in
      broke_unset k (suc d) place n s (rw (e, u) refl) h

  block_did :
      (is : List Instr) → FitBody N t is → (p : ℕ) (m : Mach) → TypedIn N t m.store →
      Did N t is p (none_unset (reached_in ctx is m)) (run_block ctx is p m)
  unfolding run_block reached_in none_unset nth
  block_did [] fit p m h = fell refl h
  block_did (i ∷ is) fit p m h = go (step ctx i m) (step_does N ctx i m fit.0 (performed i) h) (block_did is fit.1.1 (suc p))
    where
      go :
          (s : Step) → Does N t m.store i i.args s →
          ((m' : Mach) → TypedIn N t m'.store → Did N t is (suc p) (none_unset (reached_in ctx is m')) (run_block ctx is (suc p) m')) →
          Did N t (i ∷ is) p (all_set m.store i.args && none_unset (onward s (reached_in ctx is))) (after s p (run_block ctx is (suc p)))
      go s (goes_on {m = m'} a k) rest =
          later i is p (all_set m.store i.args) (none_unset (reached_in ctx is m')) (run_block ctx is (suc p) m') a (rest m' k)
      go s (jumps_to a k) rest = leapt (rw a refl) k
      go s (stops_set u v a k) rest = broke i 0 (sym (add-zero p)) refl u v (rw a refl) k
      go s (stops_unset {m = m'} a e) rest =
          broke_unset i 0 (sym (add-zero p)) refl (subst (λ σ. all_set σ i.args ≡ false) (sym e) a) (rw a refl)
          (subst (TypedIn N t) (sym e) h)

-- ---- a run
-- c: whether it has read no unset name
pub record Ran (N : ℕ) (t : NameIx → ℕ) (bs : List (Block Instr)) (c : Bool) (r : Run) : Type 0 where
  pub exact : c ≡ quiet r.place
  pub typed : TypedIn N t r.mach.store
  pub stop : (b p : ℕ) → r.place ≡ stopped at_unset b p → ReadsUnset bs r.mach.store b p
  pub division : (b p k : ℕ) (c : Cause) → r.place ≡ stopped (at_division k c) b p → DividesByZero t bs r.mach.store b p k

-- a run that has not stopped as unset
not_stopped : {P : Type 0} (p : Place) (b q : ℕ) → quiet p ≡ true → p ≡ stopped at_unset b q → P
unfolding quiet not_unset
not_stopped p b q h e = absurd (true≢false (sym h ∙ ap quiet e))

quiet_ran :
    (N : ℕ) (t : NameIx → ℕ) (bs : List (Block Instr)) (c : Bool) (r : Run) →
    quiet r.place ≡ true → c ≡ true → TypedIn N t r.mach.store →
    ((b p k : ℕ) (c : Cause) → r.place ≡ stopped (at_division k c) b p → DividesByZero t bs r.mach.store b p k) → Ran N t bs c r
quiet_ran N t bs c r q e h d = record { exact = e ∙ sym q; typed = h; stop = λ b p s. not_stopped r.place b p q s; division = d }

-- before a block, or at the end
arrived_ran :
    (N : ℕ) (t : NameIx → ℕ) (bs : List (Block Instr)) (c : Bool) (o : Option (Block Instr)) (b : ℕ) (l : List ℕ) (m : Mach) →
    c ≡ true → TypedIn N t m.store → Ran N t bs c (record { place = arrived o b; passed = l; mach = m })
unfolding quiet not_unset
arrived_ran N t bs c none b l m e h =
    quiet_ran N t bs c (record { place = stopped at_end b 0; passed = l; mach = m }) refl e h (λ b' p k a g. clash (cc g))
arrived_ran N t bs c (some x) b l m e h =
    quiet_ran N t bs c (record { place = before b; passed = l; mach = m }) refl e h (λ b' p k a g. clash (cc g))

module _ (N : ℕ) (ctx : Context) (performed : (i : Instr) → Performed ctx i) (bs : List (Block Instr)) (fit : FitBlocks N ctx.types bs) where
  abbrev types : NameIx → ℕ
  types = ctx.types

  -- the instruction at place d of the block x is that at place p of block b
  instr_there :
      (b : ℕ) (x : Block Instr) (i : Instr) (p d : ℕ) → nth bs b ≡ some x → p ≡ d → nth x.body d ≡ some i → instr_at bs b p ≡ some i
  instr_there b x i p d e z f = ap (λ (y : Option (Block Instr)). nth (body_of y) p) e ∙ ap (nth x.body) z ∙ f

  passes_ran :
      (b : ℕ) (l : List ℕ) (x : Block Instr) (c : Bool) (o : Out) → nth bs b ≡ some x →
      Did N types x.body 0 c o → Ran N types bs c (passes bs b l o)
  unfolding passes arrive quiet not_unset
  passes_ran b l x c o e (fell {m = m} u h) = arrived_ran N types bs c (nth bs (suc b)) (suc b) (b ∷ l) m u h
  passes_ran b l x c o e (leapt {b = d} {m = m} u h) = arrived_ran N types bs c (nth bs d) d (b ∷ l) m u h
  passes_ran b l x c o e (broke {s = s} {q = q} {m = m} i d n f v w u h) =
      quiet_ran N types bs c (record { place = stopped s b q; passed = l; mach = m }) v u h
      (λ b' p k a g.
      let y : b ≡ b' = cc g in
      let z : q ≡ p = cc g in
      let st : s ≡ at_division k a = cc g in
      let place : p ≡ d = omega (arith, n, z) in
      subst (λ j. DividesByZero types bs m.store j p k) y
      (record { instr = i; there = instr_there b x i p d e place f; by_zero = subst (Divided types m.store i) st w }))
  passes_ran b l x c o e (broke_unset {q = q} {m = m} i d n f a u h) =
      record {
        exact = u;
        typed = h;
        division = λ b' p k a g. clash (cc g);
        stop =
            λ b' p s.
            let y : b ≡ b' = cc s in
            let z : q ≡ p = cc s in
            let place : p ≡ d = omega (arith, n, z) in
            subst (λ k. ReadsUnset bs m.store k p) y
            (record { instr = i; there = instr_there b x i p d e place f; unset = a });
      }

  through_ran :
      (b : ℕ) (l : List ℕ) (m : Mach) (o : Option (Block Instr)) → nth bs b ≡ o → TypedIn N types m.store →
      Ran N types bs (none_unset (reached_of ctx o m)) (through ctx bs b l m o)
  unfolding through none_unset quiet not_unset
  through_ran b l m none e h = arrived_ran N types bs true none b l m refl h
  through_ran b l m (some x) e h =
      passes_ran b l x (none_unset (reached_in ctx x.body m)) (run_block ctx x.body 0 m) e
      (block_did N ctx performed x.body (fit_nth N types bs fit b x e) 0 m h)

  advance_ran :
      (c : Bool) (p : Place) (l : List ℕ) (m : Mach) → Ran N types bs c (record { place = p; passed = l; mach = m }) →
      Ran N types bs (c && none_unset (reached_from ctx bs p m)) (advance_from ctx bs p l m)
  unfolding advance_from reached_from quiet none_unset
  advance_ran c (before b) l m r =
      subst (λ a. Ran N types bs (a && none_unset (reached_of ctx (nth bs b) m)) (through ctx bs b l m (nth bs b))) (sym r.exact)
      (through_ran b l m (nth bs b) refl r.typed)
  advance_ran c (stopped s b p) l m r =
      subst (λ a. Ran N types bs a (record { place = stopped s b p; passed = l; mach = m })) (and_true c) r
    where
      and_true : (a : Bool) → a ≡ (a && true)
      and_true true = refl
      and_true false = refl

  none_unset_append : (cs ds : List Reached) → none_unset (cs ++ ds) ≡ (none_unset cs && none_unset ds)
  unfolding none_unset
  none_unset_append [] ds = refl
  none_unset_append (c ∷ cs) ds =
      ap (λ b. all_set c.store c.instr.args && b) (none_unset_append cs ds) ∙
      sym (and_assoc (all_set c.store c.instr.args) (none_unset cs) (none_unset ds))

  pub run_ran :
      (σ : Store) (answers : List Answer) → TypedIn N types σ → (n : ℕ) →
      Ran N types bs (none_unset (reached_with ctx bs σ answers n)) (run_with ctx bs σ answers n)
  unfolding reached_with run_with iterate advance none_unset begin arrive
  run_ran σ answers h zero = arrived_ran N types bs true (nth bs 0) 0 [] _ refl h
  run_ran σ answers h (suc n) =
      let r = run_with ctx bs σ answers n in
      let so_far = reached_with ctx bs σ answers n in
      subst (λ c. Ran N types bs c (advance ctx bs r)) (sym (none_unset_append so_far (reached_from ctx bs r.place r.mach)))
      (advance_ran (none_unset so_far) r.place r.passed r.mach (run_ran σ answers h n))

-- ---- the test and what is shown
quiet_stop : (s : Stop) → not_unset s ≡ true → stop s ≢ stop at_unset
unfolding not_unset
quiet_stop at_end h e = clash (cc e)
quiet_stop at_ret h e = clash (cc e)
quiet_stop at_halt h e = clash (cc e)
quiet_stop at_unset h e = absurd (true≢false (sym h))
quiet_stop (at_division i c) h e = clash (cc e)

quiet_shown : (p : Place) → quiet p ≡ true → shown p ≢ stop at_unset
unfolding shown quiet
quiet_shown (before b) h e = clash (cc e)
quiet_shown (stopped s b p) h e = quiet_stop s h e

stop_quiet : (s : Stop) → stop s ≢ stop at_unset → not_unset s ≡ true
unfolding not_unset
stop_quiet at_end h = refl
stop_quiet at_ret h = refl
stop_quiet at_halt h = refl
stop_quiet at_unset h = absurd (h refl)
stop_quiet (at_division i c) h = refl

shown_quiet : (p : Place) → shown p ≢ stop at_unset → quiet p ≡ true
unfolding shown quiet
shown_quiet (before b) h = refl
shown_quiet (stopped s b p) h = stop_quiet s h

-- ---- the runs of a function
module _ (f : Function) (fit : FitFunction f) (σ : Store) (typed : TypedStore f σ) (answers : List Answer) (n : ℕ) where
  ran : Ran (names_of f) (type_in f.types) f.blocks (read_no_unset f σ answers n) (run f σ answers n)
  unfolding read_no_unset reached run
  ran =
      run_ran (names_of f) (plain_machine f) (λ i vs v e. absurd (none-ne-some v e)) f.blocks fit.blocks σ answers typed n

  pub progress : Progress f (run f σ answers n)
  progress = record { typed = ran.typed; stop = ran.stop; division = ran.division }

  -- having read no unset name is not having stopped as unset
  pub unset_exactly : read_no_unset f σ answers n ≡ quiet (run f σ answers n).place
  unset_exactly = ran.exact

  pub read_then_quiet : read_no_unset f σ answers n ≡ true → shown (run f σ answers n).place ≢ stop at_unset
  read_then_quiet e = quiet_shown (run f σ answers n).place (sym unset_exactly ∙ e)

  pub quiet_then_read : shown (run f σ answers n).place ≢ stop at_unset → read_no_unset f σ answers n ≡ true
  quiet_then_read h = unset_exactly ∙ shown_quiet (run f σ answers n).place h
