-- What the loop keeps: the rest from here gives the whole store.
use Rattle.engine_house.proofs.Store.{StoreLoop}
use Rattle.engine_house.proofs.read_store.Given as goal

abbrev pub invariant-loop-i : goal.invariant-loop-i
invariant-loop-i g l = StoreLoop l.s l.types l.cells l.p l.i
