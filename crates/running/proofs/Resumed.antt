-- A run that was cut by the limit goes on from what it left: anywhere, from its configuration (`steps_steps`); and from its store and the
-- rest of its answers alone where it stands as block 0 begins, since a call starts there.
use Prim.Native.Nat.{ℕ, zero, suc, ◌+◌}
use mathlib.Core.Path.{◌≡◌, sym, ap, ◌∙◌}
use mathlib.Core.Bool.{Bool, not, ◌||◌, or_assoc}
use mathlib.Core.List.{List, [], ◌++◌, append-nil}
use native.Mathlib.Omega.{arith}
use Rattle.record.specs.Record.{Instr, Block}
use Rattle.machine.specs.Machine.{Store, Context, Answer}
use Rattle.running.specs.Steps.{Config, land, take_step, steps, start, shifted}
use Rattle.running.specs.Engine.{fits_at, unfit_within}
use Rattle.running.proofs.Steps.{steps_steps}
use Rattle.running.proofs.Shifted.{steps_shifted, unfit_shifted}

-- what stands as a start does is a start, behind its events and steps
pub start_shifted :
    (bs : List (Block Instr)) (c : Config) → c.stand ≡ land bs 0 →
    c ≡ shifted c.mach.events c.mach.steps (start bs c.mach.store c.mach.answers)
unfolding start
start_shifted bs c e =
    let m = c.mach in
    let p : m.events ≡ m.events ++ [] = sym (append-nil m.events) in
    let q : m.steps ≡ m.steps + 0 = omega arith in
    λ i. record { stand = e i; mach = record { store = m.store; answers = m.answers; events = p i; steps = q i } }

module _ (ctx : Context) (bs : List (Block Instr)) where
  -- the first j + k steps: the first j, and k from there
  pub unfit_steps :
      (j k : ℕ) (c : Config) → unfit_within ctx bs (j + k) c ≡ (unfit_within ctx bs j c || unfit_within ctx bs k (steps ctx bs j c))
  unfolding unfit_within steps
  unfit_steps zero k c = let e : 0 + k ≡ k = omega arith in ap (λ (n : ℕ). unfit_within ctx bs n c) e
  unfit_steps (suc j) k c =
      let e : suc j + k ≡ suc (j + k) = omega arith in
      let d = take_step ctx bs c in
      let a = not (fits_at ctx c.mach c.stand) in
      ap (λ (n : ℕ). unfit_within ctx bs n c) e
      ∙ ap (λ (b : Bool). a || b) (unfit_steps j k d)
      ∙ sym (or_assoc a (unfit_within ctx bs j d) (unfit_within ctx bs k (steps ctx bs j d)))

  -- "goes on where the run left off": k steps more are k steps from the store and the answers that were left, behind the events and steps
  module _ (σ : Store) (xs : List Answer) (limit k : ℕ) where
    abbrev left : Config
    left = steps ctx bs limit (start bs σ xs)

    abbrev again : Config
    again = start bs left.mach.store left.mach.answers

    pub resumed :
        left.stand ≡ land bs 0 →
        steps ctx bs (limit + k) (start bs σ xs) ≡ shifted left.mach.events left.mach.steps (steps ctx bs k again)
    resumed e =
        steps_steps ctx bs limit k (start bs σ xs)
        ∙ ap (steps ctx bs k) (start_shifted bs left e)
        ∙ steps_shifted left.mach.events left.mach.steps ctx bs k again

    -- an answer taken then fits if it did not, or does, in the run over both
    pub unfit_resumed :
        left.stand ≡ land bs 0 →
        unfit_within ctx bs (limit + k) (start bs σ xs) ≡ (unfit_within ctx bs limit (start bs σ xs) || unfit_within ctx bs k again)
    unfit_resumed e =
        unfit_steps limit k (start bs σ xs)
        ∙ ap (λ (b : Bool). unfit_within ctx bs limit (start bs σ xs) || b)
        (ap (unfit_within ctx bs k) (start_shifted bs left e)
        ∙ unfit_shifted left.mach.events left.mach.steps ctx bs k again)
