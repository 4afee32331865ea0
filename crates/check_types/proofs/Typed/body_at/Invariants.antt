-- What the loop keeps: how far it has come, and that what the instructions left answer is what all answer.
use Prim.Native.Nat.{◌+◌, ◌-◌, ◌*◌, ◌≤◌}
use mathlib.Core.Path.{◌≡◌}
use Rattle.read_layout.specs.Bounds.{instr_reach}
use Rattle.check_types.specs.Passes.{body_verdict}
use Rattle.check_types.proofs.Typed.body_at.Given as goal

abbrev pub invariant-loop : goal.invariant-loop
invariant-loop l = record {
  within : l.p ≤ l.fn.at + instr_reach * l.counter;
  same : body_verdict l.self.width l.self.types.now l.self.bytes.now l.p (l.fn.n - l.counter) ≡ body_verdict l.self.width l.self.types.now l.self.bytes.now l.fn.at l.fn.n;
}
