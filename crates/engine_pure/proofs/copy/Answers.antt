-- `engine_pure::copy` meets its contract: a name that holds nothing is unset.
use Rattle.engine_cells.proofs.Store.{name_at}
use Rattle.engine_pure.proofs.Evals.{copy_nothing}
use Rattle.engine_pure.proofs.copy.Goals as goal

pub returns-then-c : goal.returns-then-c
returns-then-c g c = copy_nothing _ _ _ (name_at c.args.cells.now c.args.s.now c.args.place _ c.number_of.ensures.0 c.get-c.ensures) c.if-c.true
