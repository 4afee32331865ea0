-- What the loop keeps: how far it has come, and that what the blocks left answer is what all answer.
use Prim.Native.Nat.{◌+◌, ◌-◌, ◌*◌, ◌≤◌}
use mathlib.Core.Path.{◌≡◌}
use Rattle.read_layout.specs.Bounds.{block_reach}
use Rattle.check_types.specs.Passes.{blocks_verdict}
use Rattle.check_types.proofs.Typed.blocks_at.Given as goal

abbrev pub invariant-loop : goal.invariant-loop
invariant-loop l = record {
  within : l.p ≤ l.fn.at + block_reach * l.counter;
  same : blocks_verdict l.self.width l.self.types.now l.self.bytes.now l.p (l.fn.n - l.counter) ≡ blocks_verdict l.self.width l.self.types.now l.self.bytes.now l.fn.at l.fn.n;
}
