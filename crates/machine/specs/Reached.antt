-- "has read no unset name": the instructions that a run has come to, each with the store that it found, and whether each argument of
-- theirs had a value there. What the machine does where one has none is not asked here.
use Rattle.std.specs.Prelude.{ℕ, zero, suc, Bool, true, false, ◌&&◌, List, [], ◌∷◌, ◌++◌}
use Rattle.std.proofs.Math.Option.{Option, none, some}
use Rattle.arith.specs.Value.{Val}
use Rattle.record.specs.declared.NameIx.{NameIx}
use Rattle.record.specs.Record.{Instr, Block, Function}
use Rattle.machine.specs.Machine.{Store, Context, plain_machine, Answer, Mach, Step, goes, jumps, ends, step, Place, before, stopped, nth, run_with}

-- ---- what a run has come to
-- an instruction, and the store that it found
pub record Reached : Type 0 where
  pub instr : Instr
  pub store : Store

-- behind an instruction: nothing more of its block, where it leaves the block or stops the run
abbrev pub onward : Step → (Mach → List Reached) → List Reached
onward (goes m) rest = rest m
onward (jumps b m) rest = []
onward (ends s m) rest = []

-- of a block's instructions, in order
unfoldable pub reached_in : Context → List Instr → Mach → List Reached
reached_in ctx [] m = []
reached_in ctx (i ∷ is) m = record { instr = i; store = m.store } ∷ onward (step ctx i m) (reached_in ctx is)

abbrev pub reached_of : Context → Option (Block Instr) → Mach → List Reached
reached_of ctx none m = []
reached_of ctx (some b) m = reached_in ctx b.body m

-- in the block that a run stands before; a stopped run comes to nothing more
unfoldable pub reached_from : Context → List (Block Instr) → Place → Mach → List Reached
reached_from ctx bs (before b) m = reached_of ctx (nth bs b) m
reached_from ctx bs (stopped s b p) m = []

-- in n blocks
unfoldable pub reached_with : Context → List (Block Instr) → Store → List Answer → ℕ → List Reached
reached_with ctx bs σ xs zero = []
reached_with ctx bs σ xs (suc n) =
    let r = run_with ctx bs σ xs n in reached_with ctx bs σ xs n ++ reached_from ctx bs r.place r.mach

-- by the run of a function
unfoldable pub reached : Function → Store → List Answer → ℕ → List Reached
reached f σ xs n = reached_with (plain_machine f) f.blocks σ xs n

-- ---- what was read
-- "Set: having a value."
unfoldable pub is_set : Option Val → Bool
is_set none = false
is_set (some v) = true

-- each of these names is set
unfoldable pub all_set : Store → List NameIx → Bool
all_set σ [] = true
all_set σ (x ∷ xs) = is_set (σ x) && all_set σ xs

-- no instruction of these has read a name that holds nothing
unfoldable pub none_unset : List Reached → Bool
none_unset [] = true
none_unset (c ∷ cs) = all_set c.store c.instr.args && none_unset cs

-- "has read no unset name by then": within n blocks
unfoldable pub read_no_unset : Function → Store → List Answer → ℕ → Bool
read_no_unset f σ xs n = none_unset (reached f σ xs n)
