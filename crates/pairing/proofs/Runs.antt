-- Two lists of paired blocks run alike, from two stores that agree on the original names, over any number of blocks. Rests on the runs of
-- paired blocks.
use Prim.Native.Nat.{ℕ, zero, suc, ◌+◌, ◌≤◌}
use mathlib.Core.Path.{◌≡◌, refl, ap}
use mathlib.Core.Logic.{◌≢◌}
use mathlib.Core.Option.{Option, none, some}
use mathlib.Core.List.{List, [], ◌∷◌}
use native.Mathlib.Omega.{arith}
use lib.ListN.{take}
use Rattle.record.specs.Record.{Instr, Block}
use Rattle.numbering.specs.Number.{count_saves}
use Rattle.machine.specs.Machine.{Store, Answer, Stop, at_end, at_unset, Mach, Out, run_block, Place, before, stopped, Run, nth, arrived, arrive, passes, through, advance_from, advance, begin, iterate, run_with}
use Rattle.pairing.specs.Joint.{Setting, Paired, start_joint, PairedBlocks, no_blocks, block_pair}
use Rattle.pairing.specs.Demand.{stop, shown, saves_field, saves_passed, saves_before, Agree}
use Rattle.pairing.proofs.Relation.{StartsIn, start_valuation, start_related}
use Rattle.pairing.proofs.Steps.{Alike, alike_by}
use Rattle.pairing.proofs.Blocks.{Left, both_fall, both_leap, both_break, breaks_unset, block_left}

-- ---- the blocks at a number
data At (Γ : Setting) : Option (Block Instr) → Option (Block Instr) → Type 0 where
  neither : At Γ none none
  each :
      {b c : Block Instr} →
      Paired Γ (start_joint Γ.args) b.body c.body →
      c.saves ≡ count_saves Γ.names c.body →
      At Γ (some b) (some c)

paired_at : {Γ : Setting} {bs cs : List (Block Instr)} → PairedBlocks Γ bs cs → (b : ℕ) → At Γ (nth bs b) (nth cs b)
unfolding nth
paired_at no_blocks b = neither
paired_at (block_pair h s r) zero = each h s
paired_at (block_pair h s r) (suc b) = paired_at r b

-- ---- what two runs have reached; cs: the blocks of the second
data Reached (Γ : Setting) (cs : List (Block Instr)) : Run → Run → Type 0 where
  both_before :
      {b : ℕ} {l : List ℕ} {m₁ m₂ : Mach} →
      Alike Γ (saves_passed cs l) m₁ m₂ →
      Reached Γ cs (record { place = before b; passed = l; mach = m₁ }) (record { place = before b; passed = l; mach = m₂ })
  both_stopped :
      {s : Stop} {b p q : ℕ} {l : List ℕ} {m₁ m₂ : Mach} →
      Alike Γ (saves_passed cs l + saves_before Γ.names cs (stopped s b q)) m₁ m₂ →
      Reached Γ cs (record { place = stopped s b p; passed = l; mach = m₁ }) (record { place = stopped s b q; passed = l; mach = m₂ })
  stopped_unset :
      {b p : ℕ} {l : List ℕ} {m₁ : Mach} {r : Run} →
      Reached Γ cs (record { place = stopped at_unset b p; passed = l; mach = m₁ }) r

module _ (Γ : Setting) (cs : List (Block Instr)) where
  -- past the last block
  ended_reached :
      (b : ℕ) (l : List ℕ) (m₁ m₂ : Mach) →
      Alike Γ (saves_passed cs l) m₁ m₂ →
      Reached Γ cs (record { place = stopped at_end b 0; passed = l; mach = m₁ })
      (record { place = stopped at_end b 0; passed = l; mach = m₂ })
  unfolding saves_before count_saves
  ended_reached b l m₁ m₂ a =
      let n : saves_passed cs l ≡ saves_passed cs l + saves_before Γ.names cs (stopped at_end b 0) = omega arith in
      both_stopped (alike_by n a)

  arrived_reached :
      (o₁ o₂ : Option (Block Instr)) (b : ℕ) (l : List ℕ) (m₁ m₂ : Mach) →
      At Γ o₁ o₂ →
      Alike Γ (saves_passed cs l) m₁ m₂ →
      Reached Γ cs (record { place = arrived o₁ b; passed = l; mach = m₁ })
      (record { place = arrived o₂ b; passed = l; mach = m₂ })
  arrived_reached o₁ o₂ b l m₁ m₂ neither a = ended_reached b l m₁ m₂ a
  arrived_reached o₁ o₂ b l m₁ m₂ (each h s) a = both_before a

  -- the saves filed for a block that is passed
  filed_passed :
      (b : ℕ) (l : List ℕ) (c : Block Instr) →
      nth cs b ≡ some c →
      c.saves ≡ count_saves Γ.names c.body →
      saves_passed cs l + count_saves Γ.names c.body ≡ saves_passed cs (b ∷ l)
  unfolding saves_passed
  filed_passed b l c p s =
      let q : saves_field (nth cs b) ≡ c.saves = ap saves_field p in
      omega (arith, s)

-- ---- one block more
module _ (Γ : Setting) (bs cs : List (Block Instr)) (few : Γ.args ≤ Γ.names) (paired : PairedBlocks Γ bs cs) where
  arrive_reached :
      (b : ℕ) (l : List ℕ) (m₁ m₂ : Mach) →
      Alike Γ (saves_passed cs l) m₁ m₂ →
      Reached Γ cs (record { place = arrive bs b; passed = l; mach = m₁ })
      (record { place = arrive cs b; passed = l; mach = m₂ })
  unfolding arrive
  arrive_reached b l m₁ m₂ a = arrived_reached Γ cs (nth bs b) (nth cs b) b l m₁ m₂ (paired_at paired b) a

  passes_reached :
      (b : ℕ) (l : List ℕ) (c : Block Instr) (o₁ o₂ : Out) →
      nth cs b ≡ some c →
      c.saves ≡ count_saves Γ.names c.body →
      Left Γ (saves_passed cs l) c.body 0 o₁ o₂ →
      Reached Γ cs (passes bs b l o₁) (passes cs b l o₂)
  unfolding passes saves_before
  passes_reached b l c o₁ o₂ p s (both_fall {m₁ = m₁} {m₂ = m₂} a) =
      arrive_reached (suc b) (b ∷ l) m₁ m₂ (alike_by (filed_passed Γ cs b l c p s) a)
  passes_reached b l c o₁ o₂ p s (both_leap {m₁ = m₁} {m₂ = m₂} {b = d} a) =
      arrive_reached d (b ∷ l) m₁ m₂ (alike_by (filed_passed Γ cs b l c p s) a)
  passes_reached b l c o₁ o₂ p s (both_break {s = t} {r = r} d q a) =
      let e : r ≡ d = omega (arith, q) in
      let n :
      count_saves Γ.names (take d c.body) ≡ saves_before Γ.names cs (stopped t b r) = rw (p, e) in
      both_stopped (alike_by (ap (λ (x : ℕ). saves_passed cs l + x) n) a)
  passes_reached b l c o₁ o₂ p s breaks_unset = stopped_unset

  through_reached :
      (b : ℕ) (l : List ℕ) (m₁ m₂ : Mach) (o₁ o₂ : Option (Block Instr)) →
      nth cs b ≡ o₂ →
      At Γ o₁ o₂ →
      Alike Γ (saves_passed cs l) m₁ m₂ →
      Reached Γ cs (through Γ.ctx bs b l m₁ o₁) (through Γ.ctx cs b l m₂ o₂)
  unfolding through
  through_reached b l m₁ m₂ o₁ o₂ p neither a = ended_reached Γ cs b l m₁ m₂ a
  through_reached b l m₁ m₂ o₁ o₂ p (each {b = x} {c = y} h s) a =
      passes_reached b l y (run_block Γ.ctx x.body 0 m₁) (run_block Γ.ctx y.body 0 m₂) p s
      (block_left h (start_valuation Γ.args m₁.store) m₁ m₂ (saves_passed cs l) 0 0
      (start_related Γ m₁.store m₂.store few a.stores) a.ahead)

  advance_reached : (r₁ r₂ : Run) → Reached Γ cs r₁ r₂ → Reached Γ cs (advance Γ.ctx bs r₁) (advance Γ.ctx cs r₂)
  unfolding advance advance_from
  advance_reached r₁ r₂ (both_before {b = b} {l = l} {m₁ = m₁} {m₂ = m₂} a) =
      through_reached b l m₁ m₂ (nth bs b) (nth cs b) refl (paired_at paired b) a
  advance_reached r₁ r₂ (both_stopped a) = both_stopped a
  advance_reached r₁ r₂ stopped_unset = stopped_unset

  iterate_reached :
      (r₁ r₂ : Run) →
      Reached Γ cs r₁ r₂ →
      (n : ℕ) →
      Reached Γ cs (iterate n (advance Γ.ctx bs) r₁) (iterate n (advance Γ.ctx cs) r₂)
  unfolding iterate
  iterate_reached r₁ r₂ h zero = h
  iterate_reached r₁ r₂ h (suc n) =
      advance_reached (iterate n (advance Γ.ctx bs) r₁) (iterate n (advance Γ.ctx cs) r₂) (iterate_reached r₁ r₂ h n)

  runs_reached :
      (σ₁ σ₂ : Store) →
      StartsIn Γ σ₁ σ₂ →
      (answers : List Answer) (n : ℕ) →
      Reached Γ cs (run_with Γ.ctx bs σ₁ answers n) (run_with Γ.ctx cs σ₂ answers n)
  unfolding run_with begin saves_passed
  runs_reached σ₁ σ₂ s answers n =
      iterate_reached (begin bs σ₁ answers) (begin cs σ₂ answers)
      (arrive_reached 0 [] (starting σ₁ answers) (starting σ₂ answers)
      (record { stores = s; ahead = record { answers = refl; events = refl; steps = refl } })) n
    where
      starting : Store → List Answer → Mach
      starting σ xs = record { store = σ; answers = xs; events = []; steps = 0 }

-- ---- what that shows
alike_agree :
    (Γ : Setting) (cs : List (Block Instr)) {p q : Place} {l : List ℕ} {m₁ m₂ : Mach} →
    shown q ≡ shown p →
    Alike Γ (saves_passed cs l + saves_before Γ.names cs q) m₁ m₂ →
    Agree Γ.names cs (record { place = p; passed = l; mach = m₁ }) (record { place = q; passed = l; mach = m₂ })
alike_agree Γ cs e a =
    record {
      events = a.ahead.events;
      values = a.stores.same;
      place = e;
      answers = a.ahead.answers;
      passed = refl;
      steps = a.ahead.steps;
    }

reached_agree :
    (Γ : Setting) (cs : List (Block Instr)) (r₁ r₂ : Run) →
    Reached Γ cs r₁ r₂ →
    shown r₁.place ≢ stop at_unset →
    Agree Γ.names cs r₁ r₂
unfolding shown saves_before
reached_agree Γ cs r₁ r₂ (both_before a) h = alike_agree Γ cs refl (alike_by (omega arith) a)
reached_agree Γ cs r₁ r₂ (both_stopped a) h = alike_agree Γ cs refl a
reached_agree Γ cs r₁ r₂ stopped_unset h = absurd (h refl)

pub runs_alike :
    (Γ : Setting) (bs cs : List (Block Instr)) →
    Γ.args ≤ Γ.names →
    PairedBlocks Γ bs cs →
    (σ₁ σ₂ : Store) →
    StartsIn Γ σ₁ σ₂ →
    (answers : List Answer) (n : ℕ) →
    shown (run_with Γ.ctx bs σ₁ answers n).place ≢ stop at_unset →
    Agree Γ.names cs (run_with Γ.ctx bs σ₁ answers n) (run_with Γ.ctx cs σ₂ answers n)
runs_alike Γ bs cs few paired σ₁ σ₂ s answers n h =
    reached_agree Γ cs (run_with Γ.ctx bs σ₁ answers n) (run_with Γ.ctx cs σ₂ answers n)
    (runs_reached Γ bs cs few paired σ₁ σ₂ s answers n) h
