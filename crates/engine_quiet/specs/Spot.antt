-- Where a run stands in the record, as the machine by steps has it, and what a step without an event does.
use Rattle.std.specs.Prelude.{ℕ, ◌+◌, ◌-◌, ◌<◌, ◌≤◌, List, [], map, Bool, true, false, ◌||◌, ◌≡◌, ◌≢◌, leb, eqb, length, get_or, Ok, Err, Result}
use Rattle.std.proofs.Math.Option.{none}
use Rattle.arith.specs.Operation.{by_zero}
use Rattle.record.specs.declared.Op.{Op}
use Rattle.record.specs.declared.Op.TheVariants as op
use Rattle.record.specs.Record.{Instr, Block, type_in}
use Rattle.record.specs.Reader.{num_at}
use Rattle.record.specs.Decode.{id_width, names_count, instr_end}
use Rattle.record.specs.Again.{instrs_from, instrs_end, Passing, block_in}
use Rattle.machine.specs.Machine.{Context, Answer, Stop, at_end, at_ret, at_halt, at_unset, at_division}
use Rattle.running.specs.Steps.{Stand, over, Config, first_of, land, take_step}
use Rattle.running.specs.Engine.{fits_at}
use Rattle.engine_cells.specs.Cells.{store_in}
use Rattle.engine_cells.specs.declared.Cells.{Cells}
use Rattle.engine_pure.specs.declared.Stop.{Stop as NoValue}
use Rattle.engine_pure.specs.declared.Stop.TheVariants as lacks
use Rattle.engine_quiet.specs.declared.Ground.{Ground}
use Rattle.engine_quiet.specs.declared.Over.{Over}
use Rattle.engine_quiet.specs.declared.Over.TheVariants.{End, Ret, Halt, Unset, Division, Unfit}
use Rattle.engine_quiet.specs.declared.Spot.{Spot}

-- ---- stops
-- an answer that does not fit is no stop, and is told apart by Unfit alone
unfoldable pub stop_by : Over → Stop
stop_by End = at_end
stop_by Ret = at_ret
stop_by Halt = at_halt
stop_by Unset = at_unset
stop_by (Division id) = at_division id by_zero
stop_by Unfit = at_division 0 by_zero

-- ---- views; the bytes of an id are those of the record
-- the function's blocks, by the table of their places
abbrev pub laid_out : List ℕ → List ℕ → List (Block Instr)
laid_out s starts = map (block_in (id_width s) s) starts

-- what a machine is told of a function whose names have these types
abbrev pub told_types : List ℕ → Context
told_types types = record { types = type_in types; performs = λ code vs. none }

-- the n instructions from a place on
abbrev pub body_at : List ℕ → ℕ → ℕ → List Instr
body_at s at n = instrs_from (id_width s) s at n

-- before the first of the instructions left, of which there is one; or over
abbrev pub stand_of : List ℕ → Result Spot Over → Stand
stand_of s (Ok p) = first_of p.block (body_at s p.at p.left) (over at_end)
stand_of s (Err k) = over (stop_by k)

-- with these cells and answers, no event so far, and k steps counted
abbrev pub at_spot : List ℕ → Cells 256 → List Answer → Result Spot Over → ℕ → Config
at_spot s cells xs r k = record { stand = stand_of s r; mach = record { store = store_in cells; answers = xs; events = []; steps = k } }

-- ---- what a run rests on
-- the n instructions from a place on pass check's tests and lie in the record
pub record Sound (s : List ℕ) (at n : ℕ) : Type 0 where
  pub passing : Passing (names_count s) (body_at s at n)
  pub inside : instrs_end (id_width s) s at n ≤ length s

-- so do those of every block
pub record Laid (g : Ground) : Type 0 where
  pub names : names_count g.s.now ≤ 256
  pub each : (b : ℕ) → b < length g.starts.now → Sound g.s.now (get_or g.starts.now b 0 + 2 + 2) (num_at g.s.now (get_or g.starts.now b 0) 2)

-- and an id has as many bytes as is said
pub record Grounded (g : Ground) : Type 0 where
  pub width : g.w ≡ id_width g.s.now
  pub laid : Laid g

-- a run stands before an instruction of one of the blocks
pub record Before (g : Ground) (p : Spot) : Type 0 where
  pub sound : Sound g.s.now p.at p.left
  pub placed : p.block < length g.starts.now
  pub some : 0 < p.left

-- or is over
abbrev pub Standing : Ground → Result Spot Over → Type 0
Standing g (Ok p) = Before g p
Standing g (Err k) = Unit {0}

-- it stands before an instruction, over the same ground
pub record Facing (g : Ground) (p : Spot) : Type 0 where
  pub grounded : Grounded g
  pub standing : Before g p

-- ---- a step without an event
-- the codes of those: const, 1 to 14, jmp, br, nop
unfoldable pub quiet : ℕ → Bool
quiet code = leb code 14 || (eqb code 64 || (eqb code 65 || eqb code 69))

-- the operations without an event
unfoldable pub quiet_op : Op → Bool
quiet_op op.Const = true
quiet_op (op.One o) = true
quiet_op (op.Two o) = true
quiet_op (op.New c) = false
quiet_op (op.Effect c) = false
quiet_op op.Nop = true
quiet_op op.Jmp = true
quiet_op op.Br = true
quiet_op op.Ret = false

-- the code of the instruction at a place
abbrev pub code_at : List ℕ → ℕ → ℕ
code_at s at = num_at s (at + id_width s) 1

-- the function's blocks
abbrev pub blocks_of : Ground → List (Block Instr)
blocks_of g = laid_out g.s.now g.starts.now

-- landed at block b, or at the next that is not empty
pub record Landed (g : Ground) (d : Stand) (r : Result Spot Over) : Type 0 where
  pub stand : stand_of g.s.now r ≡ d
  pub standing : Standing g r
  pub stop : r ≢ Err Unfit

-- behind an operation at p, by what it answered: landed at the next instruction, or over
unfoldable pub Behind : Ground → Spot → Result Unit NoValue → Result Spot Over → Type 0
Behind g p (Ok u) r =
    Landed g (first_of p.block (body_at g.s.now (instr_end (id_width g.s.now) g.s.now p.at) (p.left - 1)) (land (blocks_of g) (p.block + 1))) r
Behind g p (Err lacks.Division) r = r ≡ Err (Division (num_at g.s.now p.at (id_width g.s.now)))
Behind g p (Err lacks.Unset) r = r ≡ Err Unset

-- from p to r: the machine's step, whatever answers are left, which takes none of them
pub record Moved (g : Ground) (before after : Cells 256) (p : Spot) (r : Result Spot Over) : Type 0 where
  pub fits :
      (xs : List Answer) →
      fits_at (told_types g.types.now) (at_spot g.s.now before xs (Ok p) 0).mach (stand_of g.s.now (Ok p)) ≡ true
  pub takes :
      (xs : List Answer) →
      take_step (told_types g.types.now) (blocks_of g) (at_spot g.s.now before xs (Ok p) 0) ≡ at_spot g.s.now after xs r 1
  pub standing : Standing g r
  pub stop : r ≢ Err Unfit
