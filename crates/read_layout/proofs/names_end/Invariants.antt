-- What the loop keeps.
use Prim.Native.Nat.{◌+◌, ◌-◌, ◌*◌, ◌≤◌}
use mathlib.Core.Path.{◌≡◌}
use Rattle.record.specs.Decode.{behind, name_end}
use Rattle.read_layout.specs.Bounds.{name_reach}
use Rattle.read_layout.proofs.names_end.Given as goal

abbrev pub invariant-loop : goal.invariant-loop
invariant-loop l =
    (l.p + name_reach * (l.fn.n - l.counter) ≤ l.at + name_reach * l.n)
    × (behind (name_end l.s) l.p (l.fn.n - l.counter) ≡ behind (name_end l.s) l.at l.n)
