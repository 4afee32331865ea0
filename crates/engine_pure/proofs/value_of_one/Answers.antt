-- `engine_pure::value_of_one` meets its contract: a bool that was read is negated.
use Rattle.engine_pure.proofs.Evals.{negated}
use Rattle.engine_pure.proofs.value_of_one.Goals as goal

pub returns-in_ok-bool_at-in-Not : goal.returns-in_ok-bool_at-in-Not
returns-in_ok-bool_at-in-Not g c = rw c.in-Not.is (negated _ _ _ _ c.in_ok-bool_at-in-Not.ensures c.bool.ensures)
