-- `engine_report::program` meets its contract: 10, or by the parts of its input.
use native.Mathlib.Omega.{arith}
use Rattle.engine_report.proofs.Shown.{shows_refused, too_long, program_shown}
use Rattle.engine_report.proofs.program.Goals as goal

pub returns-then-input-gt-MOST_INPUT : goal.returns-then-input-gt-MOST_INPUT
returns-then-input-gt-MOST_INPUT c = shows_refused _ c.put_refused.ensures (omega (arith, c.put_refused.auto.out)) (too_long _ c.if-input-gt-MOST_INPUT.true)

pub returns : goal.returns
returns c = program_shown _ _ _ (omega arith) (omega arith) c.run_input.ensures
