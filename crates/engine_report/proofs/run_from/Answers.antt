-- `engine_report::run_from` meets its contract: 10, or what the engine answers and leaves.
use mathlib.Core.Path.{sym}
use native.Mathlib.Omega.{arith}
use lib.Seq.{length-take-le}
use Rattle.engine_report.proofs.Shown.{shows_refused, no_limit, run_shown}
use Rattle.engine_report.proofs.run_from.Goals as goal

pub returns-then-s-c-ne8 : goal.returns-then-s-c-ne8
returns-then-s-c-ne8 c = shows_refused _ c.put_refused.ensures (omega (arith, c.put_refused.auto.out)) (no_limit _ _ _ _ _ _ c.if-s-c-ne8.true)

pub slice_bounds-run-end : goal.slice_bounds-run-end
slice_bounds-run-end c = sym (length-take-le _ _ (omega arith))

pub returns : goal.returns
returns c = let a = c.args in
    run_shown a.s.now a.a a.b a.c _ a.events.now a.left.now c.run-ran.result _ c.if-s-c-ne8.false c.be-limit.ensures.0
    c.run-ran.ensures c.put_answer-n.ensures (omega (arith, c.put_answer-n.ensures.0, c.put_answer-n.auto.out)) c.parts_of.ensures
