-- What `handle_overwrite` does, as two cases: no save, or one. Laws that hold of both go by these.
use Prim.Native.Nat.{ℕ, ◌≤◌}
use mathlib.Core.Path.{◌≡◌, refl}
use mathlib.Core.Option.{Option, none, some}
use native.Mathlib.Omega.{arith}
use Rattle.arith.specs.declared.One.TheVariants.{Not, Id}
use Rattle.arith.specs.Map.{pick}
use Rattle.arith.specs.Operation.{Expr, constant, one, two}
use Rattle.record.specs.Record.{NameIx-discrete, Instr}
use Rattle.numbering.specs.declared.ValNum.{ValNum}
use Rattle.numbering.specs.State.{State, rehome}
use Rattle.numbering.specs.Number.{Saved, no_save, save, save_at, handle_overwrite}

-- no save, or one whose made name takes a number as its home
pub data Overwritten (N : ℕ) (s : State) (i : Instr) : Saved → Type 0 where
  kept : Overwritten N s i (no_save s)
  moved : (v : ValNum) → Overwritten N s i (save N s i v)

picked : {P A : Type 0} (Q : A → Type 0) (d : Dec P) (a b : A) → Q a → Q b → Q (pick d a b)
picked Q (yes p) a b x y = x
picked Q (no h) a b x y = y

save_at_overwritten : (N : ℕ) (s : State) (i : Instr) (o : Option ValNum) → Overwritten N s i (save_at N s i o)
unfolding save_at
save_at_overwritten N s i none = kept
save_at_overwritten N s i (some v) =
    picked (Overwritten N s i) (NameIx-discrete (s.locs v) i.dest) (save N s i v) (no_save s) (moved v) kept

pub overwritten : (N : ℕ) (s : State) (i : Instr) (e : Option (Expr ValNum)) → Overwritten N s i (handle_overwrite N s i e)
unfolding handle_overwrite
overwritten N s i none = save_at_overwritten N s i (s.env i.dest)
overwritten N s i (some (constant v)) = save_at_overwritten N s i (s.env i.dest)
overwritten N s i (some (one Not a)) = save_at_overwritten N s i (s.env i.dest)
overwritten N s i (some (one Id a)) =
    picked (Overwritten N s i) (NameIx-discrete (s.locs a) i.dest) (no_save s) (save_at N s i (s.env i.dest))
    kept
    (save_at_overwritten N s i (s.env i.dest))
overwritten N s i (some (two o a b)) = save_at_overwritten N s i (s.env i.dest)

-- ---- what both keep
pub overwritten_next : (N : ℕ) (s : State) (i : Instr) (q : Saved) → Overwritten N s i q → q.state.next ≡ s.next
unfolding save rehome
overwritten_next N s i q kept = refl
overwritten_next N s i q (moved v) = refl

pub overwritten_temps : (N : ℕ) (s : State) (i : Instr) (q : Saved) → Overwritten N s i q → s.temps ≤ q.state.temps
unfolding save rehome
overwritten_temps N s i q kept = omega arith
overwritten_temps N s i q (moved v) = omega arith
