-- `check_types::Typed::blocks` meets its contract: what the blocks left answer is what all answer.
use Prim.Native.Nat.{◌+◌, ◌-◌, ◌≤◌}
use mathlib.Core.Path.{◌≡◌, sym, ap, ◌∙◌}
use native.Mathlib.Omega.{arith}
use Rattle.record.proofs.Following.{handed_on}
use Rattle.read_layout.specs.Bounds.{block_reach}
use Rattle.check_types.specs.Passes.{blocks_verdict}
use Rattle.check_types.proofs.Laws.{blocks_stopped, blocks_went, blocks_done}
use Rattle.check_types.proofs.Typed.blocks_at.Goals as goal

pub returns-in_err-p : goal.returns-in_err-p
returns-in_err-p c = let l = c.loop in
    handed_on c.from_residual.result c.in_err-p.field-0.0 c.from_residual.ensures.1
    ∙ blocks_stopped _ _ _ l.p (c.args.n - l.counter) (omega arith) _ (sym c.block_at.ensures.0 ∙ c.in_err-p.was)
    ∙ l.invariant.same

pub loop-preserved : goal.loop-preserved
loop-preserved c = let l = c.loop in
    let a = c.args in
    let one : a.n - (l.counter + 1) ≡ a.n - l.counter - 1 = omega arith in
    let went : c.in_ok-p.p ≤ l.p + block_reach = rw c.in_ok-p.was at c.block_at.ensures.1 in
    record {
      within = omega (arith, l.invariant.within, went);
      same =
          ap (blocks_verdict a.self.now.width a.self.now.types.now a.self.now.bytes.now c.in_ok-p.p) one
          ∙ blocks_went _ _ _ l.p (a.n - l.counter) (omega arith) _ (sym c.block_at.ensures.0 ∙ c.in_ok-p.was)
          ∙ l.invariant.same;
    }

pub returns : goal.returns
returns c = let l = c.loop in
    blocks_done _ _ _ l.p (c.args.n - l.counter) (omega arith) ∙ l.invariant.same
