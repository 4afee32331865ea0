-- `read_fields::indexes_at` meets its contract: the rest from here gives the whole answer.
use mathlib.Core.Path.{sym, ◌∙◌}
use Rattle.std.proofs.Common.{◌-◌}
use native.Mathlib.Omega.{arith}
use Rattle.record.specs.Reader.{field}
use Rattle.record.specs.Tests.{below}
use Rattle.record.proofs.Following.{handed_on, row_stopped, row_went, times_done}
use Rattle.read_fields.proofs.indexes_at.Goals as goal

pub returns-in_err-p : goal.returns-in_err-p
returns-in_err-p c =
    handed_on c.from_residual.result c.in_err-p.field-0.0 c.from_residual.ensures.1
    ∙ row_stopped (field 2 (below c.args.n)) _ _ _ _ c.loop-test.true _ (sym c.index_at.ensures ∙ c.in_err-p.was)
    ∙ c.loop.invariant

pub loop-preserved : goal.loop-preserved
loop-preserved c =
    row_went (field 2 (below c.args.n)) _ _ _ _ c.loop-test.true _ (sym c.index_at.ensures ∙ c.in_ok-p.was)
    ∙ c.loop.invariant

pub returns : goal.returns
returns c = times_done (λ left. field 2 (below c.args.n)) c.args.s.now c.loop.p (c.args.count - c.loop.counter) (omega arith) ∙ c.loop.invariant
