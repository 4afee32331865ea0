-- `demands::rewrite_as_demanded` meets its contract: by the contract of rewrite and the theorems about the definitions.
use native.Mathlib.Omega.{arith}
use Rattle.pairing.proofs.Contract.{contract_meets_demands}
use Rattle.record.proofs.Octets.{octets}
use Rattle.demands.proofs.rewrite_as_demanded.Goals as goal

-- of a slice that is lent it is known that each element is a value of its type
pub returns : goal.returns
returns c = let bytes = octets c.args.input.now (λ i. omega (arith, c.type_inv.input i)) in
    contract_meets_demands _ _ _ _ bytes c.rewrite.ensures.0 c.rewrite.ensures.1
