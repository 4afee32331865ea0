-- What holds of every run of an accepted function from a typed store: its store stays typed, it stops as unset only where an
-- instruction reads a name that holds nothing, and in a division only where one by 0 stands.
use Rattle.std.specs.Prelude.{ℕ, ◌≡◌, Bool, true, false, List}
use Rattle.std.proofs.Math.Option.{Option, some}
use Rattle.arith.specs.declared.Two.TheVariants.{Div}
use Rattle.arith.specs.Value.{int}
use Rattle.arith.specs.Operation.{Cause, two}
use Rattle.record.specs.declared.NameIx.{NameIx}
use Rattle.record.specs.Record.{Instr, Block, Function, type_in}
use Rattle.record.specs.Form.{pure, form}
use Rattle.machine.specs.Machine.{Store, Stop, at_end, at_ret, at_halt, at_unset, at_division, Place, before, stopped, Run, nth}
use Rattle.machine.specs.Reached.{all_set}
use Rattle.pairing.specs.Demand.{body_of, TypedStore}

-- the instruction at place p of block b
abbrev pub instr_at : List (Block Instr) → ℕ → ℕ → Option Instr
instr_at bs b p = nth (body_of (nth bs b)) p

-- "reading nothing stops as unset": there is an instruction there, and an argument of it holds nothing
pub record ReadsUnset (bs : List (Block Instr)) (σ : Store) (b p : ℕ) : Type 0 where
  pub instr : Instr
  pub there : instr_at bs b p ≡ some instr
  pub unset : all_set σ instr.args ≡ false

-- the instruction has the id k and is a division whose divisor holds 0; t: the type of each name
pub record ByZero (t : NameIx → ℕ) (σ : Store) (i : Instr) (k : ℕ) : Type 0 where
  pub id : i.id ≡ k
  pub dividend : NameIx
  pub divisor : NameIx
  pub division : form t i ≡ pure (two Div dividend divisor)
  pub zero : σ divisor ≡ some (int 0)

-- "div by 0 .. stops there, by id and cause": there is such an instruction there
pub record DividesByZero (t : NameIx → ℕ) (bs : List (Block Instr)) (σ : Store) (b p k : ℕ) : Type 0 where
  pub instr : Instr
  pub there : instr_at bs b p ≡ some instr
  pub by_zero : ByZero t σ instr k

pub record Progress (f : Function) (r : Run) : Type 0 where
  pub typed : TypedStore f r.mach.store
  pub stop : (b p : ℕ) → r.place ≡ stopped at_unset b p → ReadsUnset f.blocks r.mach.store b p
  pub division :
      (b p k : ℕ) (c : Cause) → r.place ≡ stopped (at_division k c) b p →
      DividesByZero (type_in f.types) f.blocks r.mach.store b p k

-- whether a run has not stopped as unset, as a test
unfoldable pub not_unset : Stop → Bool
not_unset at_end = true
not_unset at_ret = true
not_unset at_halt = true
not_unset at_unset = false
not_unset (at_division i c) = true

unfoldable pub quiet : Place → Bool
quiet (before b) = true
quiet (stopped s b p) = not_unset s
