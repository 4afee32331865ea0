-- `check_types::Typed::body` meets its contract: what the instructions left answer is what all answer.
use Prim.Native.Nat.{◌+◌, ◌-◌}
use mathlib.Core.Path.{◌≡◌, ap, ◌∙◌}
use native.Mathlib.Omega.{arith}
use Rattle.std.specs.Prelude.{Err}
use Rattle.check_types.specs.Passes.{body_verdict}
use Rattle.check_types.proofs.Laws.{body_broke, body_went, body_done}
use Rattle.check_types.proofs.Typed.body_at.Goals as goal

pub returns-then-not-typed_at : goal.returns-then-not-typed_at
returns-then-not-typed_at c = let l = c.loop in (
  ap Err c.fault.ensures
      ∙ body_broke _ _ _ l.p (c.args.n - l.counter) (omega arith) _ c.typed_at.ensures c.if-not-typed_at.true
      ∙ l.invariant.same,
  tt,
)

pub loop-preserved : goal.loop-preserved
loop-preserved c = let l = c.loop in
    let a = c.args in
    let one : a.n - (l.counter + 1) ≡ a.n - l.counter - 1 = omega arith in
    record {
      within = omega (arith, l.invariant.within, c.instr_end-p.ensures.1);
      same =
          ap (body_verdict a.self.now.width a.self.now.types.now a.self.now.bytes.now c.instr_end-p.result) one
          ∙ body_went _ _ _ l.p (a.n - l.counter) (omega arith) _ _ c.typed_at.ensures c.if-not-typed_at.false c.instr_end-p.ensures.0
          ∙ l.invariant.same;
    }

pub returns : goal.returns
returns c = let l = c.loop in
    (body_done _ _ _ l.p (c.args.n - l.counter) (omega arith) ∙ l.invariant.same, omega (arith, l.invariant.within))
