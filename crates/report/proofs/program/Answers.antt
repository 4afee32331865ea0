-- `report::program` meets its contract: by what rewrite answers.
use mathlib.Core.Path.{sym, ◌∙◌}
use mathlib.Core.List.{[], ◌∷◌}
use native.Mathlib.Omega.{arith}
use Rattle.report.proofs.Printed.{prints_long, prints_refused, prints_line, prints_rewriting}
use Rattle.report.proofs.program.Goals as goal

pub returns-then-input-gt-MOST_INPUT : goal.returns-then-input-gt-MOST_INPUT
returns-then-input-gt-MOST_INPUT c = prints_line _ _ (record { number = 10; values = 8192 ∷ [] }) (prints_long _ c.if-input-gt-MOST_INPUT.true)
    c.put_refusal.ensures (omega arith)

pub returns-in-Ok : goal.returns-in-Ok
returns-in-Ok c = prints_rewriting c.args.buffer.now _ _ (omega arith) c.if-input-gt-MOST_INPUT.false
    (sym c.rewrite.ensures.0 ∙ c.in-Ok.is) c.rewrite.ensures.1 (omega (arith, c.rewrite.auto.output))

pub returns-in-Err : goal.returns-in-Err
returns-in-Err c = prints_line _ _ _
    (prints_refused c.args.buffer.now _ _ _ _ (omega arith) c.if-input-gt-MOST_INPUT.false
    (sym c.rewrite.ensures.0 ∙ c.in-Err.is) c.number.ensures c.value.ensures)
    c.put_refusal-in-Err.ensures (omega (arith, c.rewrite.auto.output))
