-- What the loop keeps.
use Prim.Native.Nat.{◌-◌, ◌<◌}
use mathlib.Core.Path.{◌≡◌}
use lib.ListN.{length}
use lib.Seq.{sets}
use Rattle.record.specs.Decode.{behind, block_end}
use Rattle.record.specs.Sizes.{places_end}
use Rattle.read_layout.specs.Layout.{blocks_from}
use Rattle.read_layout.proofs.fill_blocks.Given as goal

abbrev pub invariant-loop-i : goal.invariant-loop-i
invariant-loop-i l = (l.p < places_end) × (length l.places ≡ length l.initial.places)
    × (behind (block_end l.w l.s) l.p (l.fn.n - l.i) ≡ behind (block_end l.w l.s) l.at l.n)
    × (sets l.places l.i (blocks_from l.w l.s l.p (l.fn.n - l.i)) ≡ sets l.initial.places 0 (blocks_from l.w l.s l.at l.n))
