-- Demand 3 and the bound on saves, as statements about a function and its rewriting. The theorems are in proofs/.
use Rattle.std.specs.Prelude.{ℕ, ◌+◌, ◌≤◌, ◌<◌, ◌≡◌, true, cond, List, [], ◌∷◌, take}
use Rattle.std.proofs.Math.Option.{Option, none, some}
use Rattle.arith.specs.Value.{Val, HasType}
use Rattle.record.specs.declared.NameIx.{NameIx}
use Rattle.record.specs.Record.{Instr, Block, Function, names_of, type_in}
use Rattle.record.specs.Shape.{shape_of}
use Rattle.record.specs.Good.{Each}
use Rattle.numbering.specs.Number.{count_saves}
use Rattle.machine.specs.Machine.{Store, Answer, Stop, Place, before, stopped, Run, nth, run}
use Rattle.machine.specs.Reached.{read_no_unset}

-- P of each of a list
abbrev pub All : {A : Type 0} → (A → Type 0) → List A → Type 0
All P xs = Each (λ left x. P x) xs

-- "the same next block or the same stop"
pub data Shown : Type 0 where
  next_block : ℕ → Shown
  stop : Stop → Shown

unfoldable pub shown : Place → Shown
shown (before b) = next_block b
shown (stopped s b p) = stop s

abbrev pub saves_field : Option (Block Instr) → ℕ
saves_field none = 0
saves_field (some b) = b.saves

abbrev pub body_of : Option (Block Instr) → List Instr
body_of none = []
body_of (some b) = b.body

-- "the saves filed for the blocks passed, a block counted each time it is passed"
unfoldable pub saves_passed : List (Block Instr) → List ℕ → ℕ
saves_passed bs [] = 0
saves_passed bs (b ∷ passed) = saves_field (nth bs b) + saves_passed bs passed

-- "where an instruction stops the runs, the saves standing before it in its block are added"
unfoldable pub saves_before : ℕ → List (Block Instr) → Place → ℕ
saves_before N bs (before b) = 0
saves_before N bs (stopped s b p) = count_saves N (take p (body_of (nth bs b)))

-- the two runs are alike; bs: the blocks of the second, N: how many names are original
pub record Agree (N : ℕ) (bs : List (Block Instr)) (r₁ r₂ : Run) : Type 0 where
  pub events : r₂.mach.events ≡ r₁.mach.events
  pub values : (x : NameIx) → x.0 < N → r₂.mach.store x ≡ r₁.mach.store x
  pub place : shown r₂.place ≡ shown r₁.place
  pub answers : r₂.mach.answers ≡ r₁.mach.answers
  pub passed : r₂.passed ≡ r₁.passed
  pub steps : r₂.mach.steps ≡ r₁.mach.steps + (saves_passed bs r₂.passed + saves_before N bs r₂.place)

-- "Typed store: each name has a value of its type or nothing; made names may hold anything."
abbrev pub TypedStore : Function → Store → Type 0
TypedStore f σ = (x : NameIx) → x.0 < names_of f → (v : Val) → σ x ≡ some v → HasType (type_in f.types x) v

-- "the same typed store in which every argument is set": the same on the original names
pub record Starts (f : Function) (σ₁ σ₂ : Store) : Type 0 where
  pub typed : TypedStore f σ₁
  pub set : (x : NameIx) → x.0 < f.args → (v : Val) × (σ₁ x ≡ some v)
  pub same : (x : NameIx) → x.0 < names_of f → σ₂ x ≡ σ₁ x

-- demand 3 for a function f and another, g: over every store, list of answers and number of blocks,
-- "if the first run has read no unset name by then"
abbrev pub RunAlike : Function → Function → Type 0
RunAlike f g =
    (σ₁ σ₂ : Store) →
    Starts f σ₁ σ₂ →
    (answers : List Answer) (n : ℕ) →
    read_no_unset f σ₁ answers n ≡ true →
    Agree (names_of f) g.blocks (run f σ₁ answers n) (run g σ₂ answers n)

-- how many instructions have a destination
unfoldable pub count_dests : List Instr → ℕ
count_dests [] = 0
count_dests (i ∷ is) = cond (shape_of i.code).dest 1 0 + count_dests is

-- "No block has more saves than the same block of the input has instructions with a destination."
abbrev pub SavesBounded : Function → Function → Type 0
SavesBounded f g =
    (b : ℕ) → saves_field (nth g.blocks b) ≤ count_dests (body_of (nth f.blocks b))
