-- What the loop keeps.
use Prim.Native.Nat.{◌+◌, ◌-◌, ◌*◌, ◌≤◌}
use mathlib.Core.Path.{◌≡◌}
use Rattle.record.specs.Decode.{behind, instr_end}
use Rattle.read_layout.specs.Bounds.{instr_reach}
use Rattle.read_layout.proofs.body_end.Given as goal

abbrev pub invariant-loop : goal.invariant-loop
invariant-loop l =
    (l.p + instr_reach * (l.fn.n - l.counter) ≤ l.at + instr_reach * l.n)
    × (behind (instr_end l.w l.s) l.p (l.fn.n - l.counter) ≡ behind (instr_end l.w l.s) l.at l.n)
