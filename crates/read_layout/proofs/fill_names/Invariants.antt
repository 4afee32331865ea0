-- What the loop keeps.
use Prim.Native.Nat.{◌+◌, ◌-◌, ◌*◌, ◌≤◌}
use mathlib.Core.Path.{◌≡◌}
use lib.ListN.{length}
use lib.Seq.{sets}
use Rattle.record.specs.Decode.{behind, name_end}
use Rattle.read_layout.specs.Bounds.{name_reach}
use Rattle.read_layout.specs.Layout.{types_from, places_from}
use Rattle.read_layout.proofs.fill_names.Given as goal

abbrev pub invariant-loop-i : goal.invariant-loop-i
invariant-loop-i l = (l.p + name_reach * (l.fn.n - l.i) ≤ l.at + name_reach * l.n)
    × (length l.types ≡ length l.initial.types) × (length l.places ≡ length l.initial.places)
    × (behind (name_end l.s) l.p (l.fn.n - l.i) ≡ behind (name_end l.s) l.at l.n)
    × (sets l.types l.i (types_from l.s l.p (l.fn.n - l.i)) ≡ sets l.initial.types 0 (types_from l.s l.at l.n))
    × (sets l.places l.i (places_from l.s l.p (l.fn.n - l.i)) ≡ sets l.initial.places 0 (places_from l.s l.at l.n))
