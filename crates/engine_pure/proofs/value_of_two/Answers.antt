-- `engine_pure::value_of_two` meets its contract: the operator is applied to two bools, and a pointer is moved by an int.
use Prim.Native.Nat.{◌+◌}
use Rattle.engine_cells.proofs.Store.{name_at}
use Rattle.engine_pure.proofs.Evals.{both_bool, moved}
use Rattle.engine_pure.proofs.value_of_two.Goals as goal

pub returns-in_ok-bool_at-in-And-2 : goal.returns-in_ok-bool_at-in-And-2
returns-in_ok-bool_at-in-And-2 g c = both_bool _ _ _ _ _ _ _ c.in_ok-bool_at-in-And.ensures c.in_ok-bool_at-in-And-2.ensures c.of_bools.ensures

pub returns-in_ok-int_at-in-PtrAdd : goal.returns-in_ok-int_at-in-PtrAdd
returns-in_ok-int_at-in-PtrAdd g c = let a = c.args in
    let held = name_at a.cells.now a.s.now (a.at + 3) _ c.number_of.ensures.0 c.get-p.ensures in
    rw c.in-PtrAdd.is (moved _ _ _ _ _ _ c.in_ok-int_at-in-PtrAdd.ensures held c.shift.ensures)
