-- `demands::figures_as_promised` meets its contract: by the contract of figures and the theorems about the definitions.
use Rattle.pairing.proofs.Contract.{contract_meets_promise}
use Rattle.demands.proofs.figures_as_promised.Goals as goal

pub returns : goal.returns
returns c = contract_meets_promise _ _ _ _ c.figures.ensures.0 c.figures.ensures.1
