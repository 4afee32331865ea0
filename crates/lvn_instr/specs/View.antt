-- What the code of one instruction speaks of: instructions by their operation, and its answers as those of the definitions.
use Rattle.std.specs.Prelude.{ℕ, ◌+◌, ◌<◌, ◌≡◌, Bool, true, false, cond}
use Rattle.std.proofs.Math.Option.{Option, none, some}
use Rattle.arith.specs.Value.{Val}
use Rattle.arith.specs.Operation.{Expr}
use Rattle.record.specs.declared.NameIx.{NameIx}
use Rattle.record.specs.declared.Op.{Op}
use Rattle.record.specs.declared.Op.TheVariants.{Const, One, Two, New, Effect, Nop, Jmp, Br, Ret}
use Rattle.record.specs.declared.Instruction.{Instruction}
use Rattle.record.specs.Record.{Instr}
use Rattle.record.specs.Form.{Form, pure, new, effect, return, nop, jump, branch, form}
use Rattle.record.specs.View.{code_of, instr_of}
use Rattle.numbering.specs.declared.ValNum.{ValNum}
use Rattle.numbering.specs.declared.Value.{Value}
use Rattle.numbering.specs.State.{State, known}
use Rattle.numbering.specs.Number.{reads, make_val, make_id_instr, val_to_instr, Emitted as EmittedAs, unchanged, place}
use Rattle.numbering.specs.View.{expr_of}
use Rattle.numbering.proofs.Simplified.{MaybeOk}
use Rattle.codes.specs.Op.{op_of}
use Rattle.lvn_state.specs.View.{saves_of}
use Rattle.lvn_state.specs.Room.{Low, Maps}
use Rattle.lvn_instr.specs.declared.Emitted.{Emitted}

-- ---- what is asked of an instruction
-- its operation is that of its code, and it reads its arguments
pub record Ready (i : Instruction) : Type 0 where
  pub coded : op_of (code_of i.op) ≡ i.op
  pub reading : (t : NameIx → ℕ) → reads (form t (instr_of i)) ≡ (instr_of i).args

-- its names are below m
pub record Named (m : ℕ) (i : Instr) : Type 0 where
  pub low : Low m i.args
  pub dest : i.dest.0 < m

-- ---- by the operation
-- the value expression of an instruction, none where it is new each time or there is no value
abbrev pub value_by : State → Form → Option (Expr ValNum)
value_by s (pure e) = make_val s e
value_by s (new xs) = none
value_by s (effect xs) = none
value_by s (return xs) = none
value_by s nop = none
value_by s (jump b) = none
value_by s (branch a b c) = none

-- whether a state has the numbers of names and the values of another
abbrev pub Reads : State → State → Type 0
Reads s t = (s.env ≡ t.env) × (s.vals ≡ t.vals)

-- no constant is refused
abbrev pub Any : Val → Type 0
Any v = Unit {0}

-- what is asked where i, whose value is v, is placed: that dest, the next number and the next made name have room among so many names and
-- numbers
pub record Placeable (names numbers : ℕ) (s : State) (n : ℕ) (i : Instruction) (v : Value) : Type 0 where
  pub dest : i.dest.0 < names
  pub number : s.next < numbers
  pub made : n + s.temps < 65535
  pub maps : Maps names numbers
  pub operand : MaybeOk Any 65535 (expr_of v)

-- ---- what is written
-- the instruction of a value expression; one that is new each time stays
abbrev pub written_as : State → Instr → Option (Expr ValNum) → Instr
written_as s i none = i
written_as s i (some e) = val_to_instr s i e

-- a copy of a number that is there; the instruction w of a value that has none
abbrev pub chosen : State → Instr → Instr → Option ValNum → Instr
chosen s i w none = w
chosen s i w (some v) = make_id_instr (known s v) s i v

abbrev pub has_dest : Op → Bool
has_dest Const = true
has_dest (One o) = true
has_dest (Two o) = true
has_dest (New c) = true
has_dest (Effect c) = false
has_dest Nop = false
has_dest Jmp = false
has_dest Br = false
has_dest Ret = false

-- an instruction by its operation, whose arguments are replaced and whose value expression is e
abbrev pub by_op : ℕ → State → Instr → Op → Option (Expr ValNum) → EmittedAs
by_op N s i o e = cond (has_dest o) (place N s i e) (unchanged s i)

-- an answer, with the state behind it
abbrev pub emitted_of : State → Emitted → EmittedAs
emitted_of s r = record { state = s; saves = saves_of r.made (instr_of r.instr); instr = instr_of r.instr }
