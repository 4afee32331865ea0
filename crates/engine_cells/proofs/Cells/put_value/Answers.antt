-- `engine_cells::Cells::put_value` meets its contract: the parts of a value are written one behind the other.
use Prim.Native.Nat.{◌+◌}
use native.Mathlib.Omega.{arith}
use Rattle.running.specs.House.{value_bytes}
use Rattle.write_bytes.specs.Put.{Wrote}
use Rattle.engine_cells.specs.Cells.{cell_value}
use Rattle.engine_cells.proofs.Values.{plain_wrote, pointer_wrote, value_in_wrote, size_most}
use Rattle.engine_cells.proofs.Cells.put_value.Goals.{then-c-le-HELD, else-c-le-HELD}
use Rattle.engine_cells.proofs.Cells.put_value.Goals as goal

pub returns : goal.returns
returns g c = let a = c.args in
    let r = c.get-c.result in
    let wrote : Wrote a.out.now c.if-c-le-HELD.out a.at (a.at + c.value_size.result) (value_bytes (cell_value r)) =
    rw c.value_size.ensures
    (elim c.if-c-le-HELD.branch [
      | then-c-le-HELD w ↦
          rw w.out-is (plain_wrote _ _ _ w.written_word.result w.if-c-le-HELD.true w.written_word.ensures c.put_u8.ensures w.put_u64.ensures)
      | else-c-le-HELD w ↦
          rw w.out-is (pointer_wrote _ _ _ w.if-c-le-HELD.false c.put_u8.ensures w.put_u64-else-c-le-HELD.ensures w.put_u64-else-c-le-HELD-2.ensures)
    ]) in
    (value_in_wrote a.self.now a.x r c.get-c.ensures wrote, omega (arith, size_most r.kind c.value_size.result c.value_size.ensures))
