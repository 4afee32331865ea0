-- What the loop keeps: a list with those left written is one with all of them.
use Prim.Native.Nat.{ℕ, ◌+◌, ◌*◌, ◌≤◌}
use mathlib.Core.List.{List}
use Rattle.machine.specs.Machine.{read_all}
use Rattle.engine_cells.specs.Cells.{store_in, row_from, RowWritten}
use Rattle.engine_cells.proofs.Rows.{read_on}
use Rattle.engine_cells.proofs.Cells.put_row.Given as goal

abbrev pub invariant-loop-i : goal.invariant-loop-i
invariant-loop-i g l = record {
  few : l.q ≤ l.to + 17 * l.i;
  rest :
      (m : List ℕ) →
      RowWritten l.out m l.q (read_on (store_in l.self) l.s l.at l.n l.i) →
      RowWritten l.initial.out m l.to (read_all (store_in l.self) (row_from l.s l.at l.n));
}
