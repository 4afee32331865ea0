-- Reading an instruction of an accepted record a second time: what it asks, and what the code then has.
use Rattle.std.specs.Prelude.{ℕ, ◌+◌, ◌^◌, ◌<◌, ◌≤◌, List, ◌≡◌, length}
use Rattle.record.specs.declared.Shape.{Shape}
use Rattle.record.specs.Record.{Lit, Instr}
use Rattle.record.specs.Reader.{num_at}
use Rattle.record.specs.Good.{LitOk}
use Rattle.record.specs.View.{instr_of}
use Rattle.record.specs.Shape.{targets, shape_of}
use Rattle.record.specs.Decode.{lit_at, count_at, count_from, callee_at, targets_at, operands_from, operands_end, instr_from, instr_end}
use Rattle.record.specs.Sizes.{longest_operands, longest_instr}
use Rattle.codes.specs.Op.{op_of}
use Rattle.read_instrs.specs.declared.Read.{Read}
use Rattle.read_instrs.specs.declared.Parts.{Parts}

-- the literal at a place
abbrev pub lit_from : List ℕ → ℕ → Lit
lit_from s p = record { kind = num_at s p 1; bits = num_at s (p + 1) 8 }

-- its literal passes the tests (so does the one that stands for none), and there are at most eight arguments
pub record Readable (i : Instr) : Type 0 where
  pub lit : LitOk i.lit
  pub args : length i.args ≤ 8

-- where the parts behind a code stand, and that there are few of each, so that none stands far from the first
pub record PartsAt (s : List ℕ) (at code : ℕ) (p : Parts) : Type 0 where
  pub shape : p.shape ≡ shape_of code
  pub literal : p.literal ≡ lit_at p.shape s at
  pub count : p.count ≡ count_at p.shape s at
  pub args : p.args ≡ count_from p.shape s p.count
  pub callee : p.callee ≡ callee_at p.shape s at
  pub blocks : p.blocks ≡ targets_at p.shape s at
  pub targets : p.targets ≡ targets p.shape p.args
  pub few_args : p.args ≤ 8
  pub few_targets : p.targets ≤ 8
  pub literal_near : p.literal ≤ at + 2
  pub count_near : p.count ≤ at + 11
  pub callee_near : p.callee ≤ at + 28
  pub blocks_near : p.blocks ≤ at + 30

-- what stands behind an id x and a code
pub record OperandsAgain (sh : Shape) (s : List ℕ) (at x code : ℕ) (r : Read) : Type 0 where
  pub instr : instr_of r.instr ≡ operands_from sh s at x code
  pub op : r.instr.op ≡ op_of code
  pub next : r.next ≡ operands_end sh s at
  pub near : r.next ≤ at + longest_operands
  pub id : r.instr.id ≡ x

-- the instruction at a place, its operation, the place behind it, and what writing asks of it; w: the bytes of an id
pub record ReadAgain (w : ℕ) (s : List ℕ) (at : ℕ) (r : Read) : Type 0 where
  pub instr : instr_of r.instr ≡ instr_from w s at
  pub op : r.instr.op ≡ op_of (num_at s (at + w) 1)
  pub next : r.next ≡ instr_end w s at
  pub near : r.next ≤ at + longest_instr
  pub id : r.instr.id < 256 ^ w
