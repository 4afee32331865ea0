-- What the loop keeps.
use Prim.Native.Nat.{◌+◌, ◌-◌, ◌*◌, ◌≤◌}
use Rattle.write_bytes.proofs.Wrote.{Rest}
use Rattle.engine_house.specs.Reads.{values_held}
use Rattle.engine_house.proofs.put_cells.Given as goal

abbrev pub invariant-loop-x : goal.invariant-loop-x
invariant-loop-x g l = record {
  near : l.q ≤ l.at + 17 * l.x;
  rest : Rest l.out l.q (values_held l.cells l.x (l.n - l.x)) l.initial.out l.at (values_held l.cells 0 l.n);
}
