-- br from a spot: by what its name holds the run lands at the first block number or at the second, or is over as unset.
use Prim.Native.Nat.{ℕ, ◌+◌}
use mathlib.Core.Path.{◌≡◌, refl, ap}
use mathlib.Core.Bool.{Bool, true, false}
use mathlib.Core.Option.{Option, none, some}
use Rattle.std.proofs.Common.{None, Some, Err}
use Rattle.arith.specs.Value.{Val}
use Rattle.arith.specs.Operation.{as_bool}
use Rattle.record.specs.declared.Op.TheVariants as op
use Rattle.record.specs.Record.{nm, type_in}
use Rattle.record.specs.Form.{branch, form}
use Rattle.record.specs.Reader.{num_at}
use Rattle.record.specs.Decode.{id_width, names_count, index_from}
use Rattle.machine.specs.Machine.{bool_in}
use Rattle.running.specs.Steps.{land}
use Rattle.codes.specs.Op.{op_of}
use Rattle.engine_cells.specs.declared.Cells.{Cells}
use Rattle.engine_cells.specs.Cells.{held_as, store_in}
use Rattle.engine_cells.proofs.ByKind.{is_bool, was_none}
use Rattle.engine_quiet.specs.declared.Ground.{Ground}
use Rattle.engine_quiet.specs.declared.Over.TheVariants.{Unset}
use Rattle.engine_quiet.specs.declared.Spot.{Spot}
use Rattle.engine_quiet.specs.Spot.{blocks_of, code_at, Facing, Landed, Moved}
use Rattle.engine_quiet.proofs.Bodies.{first_passes}
use Rattle.engine_quiet.proofs.Forms.{branch_form}
use Rattle.engine_quiet.proofs.Moved.{Run, here, branch_moved, branch_unset}

-- ---- what is held as a condition
no_bool : (o : Option Val) → None ≡ held_as as_bool o → bool_in o ≡ none
no_bool none e = refl
no_bool (some v) e = was_none as_bool (some v) v e refl

a_bool : (o : Option Val) (b : Bool) → Some b ≡ held_as as_bool o → bool_in o ≡ some b
unfolding as_bool
a_bool o b e = ap bool_in (is_bool o b e)

-- ---- x: the index of the name; row: the place behind the code
module _
    (g : Ground) (before : Cells 256) (p : Spot) (facing : Facing g p) (coded : op.Br ≡ op_of (code_at g.s.now p.at))
    (row : ℕ) (er : row ≡ p.at + g.w + 1) (x : ℕ) (ex : x ≡ num_at g.s.now (row + 1) 2) (r : Run) where
  formed : form (type_in g.types.now) (here g.s.now p) ≡ branch (nm x) (num_at g.s.now (row + 3) 2) (num_at g.s.now (row + 5) 2)
  unfolding index_from
  formed =
      rw (ex, er, facing.grounded.width)
      (branch_form (id_width g.s.now) g.s.now p.at (names_count g.s.now)
      (first_passes g.s.now p.at p.left facing.standing.sound facing.standing.some) coded (type_in g.types.now))

  pub branch_lacks : None ≡ held_as as_bool (store_in before (nm x)) → r ≡ Err Unset → Moved g before before p r
  branch_lacks n eq = branch_unset g before p facing r (nm x) _ _ formed (no_bool (store_in before (nm x)) n) eq

  pub branch_first :
      Some true ≡ held_as as_bool (store_in before (nm x)) → (b : ℕ) → b ≡ num_at g.s.now (row + 3) 2 →
      Landed g (land (blocks_of g) b) r → Moved g before before p r
  branch_first e b eb l =
      branch_moved g before p facing r (nm x) _ _ formed true (a_bool (store_in before (nm x)) true e) (rw eb at l)

  pub branch_second :
      Some false ≡ held_as as_bool (store_in before (nm x)) → (c : ℕ) → c ≡ num_at g.s.now (row + 5) 2 →
      Landed g (land (blocks_of g) c) r → Moved g before before p r
  branch_second e c ec l =
      branch_moved g before p facing r (nm x) _ _ formed false (a_bool (store_in before (nm x)) false e) (rw ec at l)
