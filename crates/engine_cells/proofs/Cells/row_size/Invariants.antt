-- What the loop keeps: the bytes so far and those left are all of them.
use Prim.Native.Nat.{◌*◌, ◌≤◌}
use mathlib.Core.Path.{◌≡◌}
use Rattle.machine.specs.Machine.{read_all}
use Rattle.engine_cells.specs.Cells.{store_in, row_from, size_of}
use Rattle.engine_cells.proofs.Rows.{size_on, read_on}
use Rattle.engine_cells.proofs.Cells.row_size.Given as goal

abbrev pub invariant-loop-i : goal.invariant-loop-i
invariant-loop-i g l = record {
  few : l.size ≤ 17 * l.i;
  rest : size_on l.size (read_on (store_in l.self) l.s l.at l.n l.i) ≡ size_of (read_all (store_in l.self) (row_from l.s l.at l.n));
}
