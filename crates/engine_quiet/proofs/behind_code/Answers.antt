-- `engine_quiet::behind_code` meets its contract: the code lies in the record.
use native.Mathlib.Omega.{arith}
use Rattle.engine_quiet.proofs.Bodies.{code_inside}
use Rattle.engine_quiet.proofs.behind_code.Goals as goal

pub overflow_add-result : goal.overflow_add-result
overflow_add-result c = omega (arith, code_inside c.requires)

pub overflow_add-result-2 : goal.overflow_add-result-2
overflow_add-result-2 c = omega (arith, code_inside c.requires)

pub returns-clause-inside : goal.returns-clause-inside
returns-clause-inside c = code_inside c.requires
