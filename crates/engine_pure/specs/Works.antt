-- What const and the operators do to the cells, by the operations of the machine. at: the place behind a code, where dest stands.
use Rattle.std.specs.Prelude.{ℕ, ◌+◌, ◌<◌, ◌≤◌, List, ◌≡◌, length, Result as CodeResult, Ok, Err}
use Rattle.std.proofs.Math.Option.{Option, some}
use Rattle.arith.specs.Map.{upd}
use Rattle.arith.specs.Value.{Val}
use Rattle.arith.specs.Operation.{Result, ok, stops, unset}
use Rattle.record.specs.declared.NameIx.{NameIx}
use Rattle.record.specs.Record.{NameIx-discrete}
use Rattle.record.specs.Reader.{num_at}
use Rattle.engine_cells.specs.declared.Cell.{Cell}
use Rattle.engine_cells.specs.declared.Cells.{Cells}
use Rattle.engine_cells.specs.Cells.{cell_holds, store_in}
use Rattle.engine_pure.specs.declared.Stop.{Stop}
use Rattle.engine_pure.specs.declared.Stop.TheVariants.{Division, Unset}

-- ---- results in the code
-- what is held then, or why it is nothing
abbrev pub Told : Type 0
Told = CodeResult (Option Val) Stop

unfoldable pub told : Result → Told
told (ok v) = Ok (some v)
told (stops c) = Err Division
told unset = Err Unset

-- by a cell
abbrev pub cells_held : CodeResult Cell Stop → Told
cells_held (Ok c) = Ok (cell_holds c)
cells_held (Err e) = Err e

-- a result put into dest's cell; where there is none, no cell changes
unfoldable pub Works : {N : ℕ} → Cells N → Cells N → NameIx → Result → CodeResult Unit Stop → Type 0
Works before after d (ok v) r = (r ≡ Ok tt) × (store_in after ≡ upd NameIx-discrete (store_in before) d (some v))
Works before after d (stops c) r = (r ≡ Err Division) × (after ≡ before)
Works before after d unset r = (r ≡ Err Unset) × (after ≡ before)

-- ---- so many bytes of operands lie in the record, and dest has one of the N cells
abbrev pub Lies : ℕ → List ℕ → ℕ → ℕ → Type 0
Lies N s at n = (at + n ≤ length s) × (num_at s at 2 < N)
