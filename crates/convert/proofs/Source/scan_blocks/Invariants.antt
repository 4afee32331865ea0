-- What the loop keeps: what is found from here, with the instructions before it, is what is found of all.
use Prim.Native.Nat.{◌+◌, ◌-◌, ◌*◌, ◌≤◌}
use mathlib.Core.Path.{◌≡◌}
use Rattle.record.specs.Decode.{behind, block_end}
use Rattle.convert.proofs.Scan.{in_blocks}
use Rattle.convert.proofs.Source.scan_blocks.Given as goal

abbrev pub invariant-loop : goal.invariant-loop
invariant-loop g l =
    let a = l.self in
    let s = a.reads.now in
    let left = l.n - l.counter in
    (behind (block_end g.row.FROM s) l.p left ≡ behind (block_end g.row.FROM s) l.at l.n) ×
    (in_blocks g.row.FROM g.row.TO s l.count l.p left ≡ in_blocks g.row.FROM g.row.TO s 0 l.at l.n) × (l.count + 65535 * left ≤ 65535 * l.n)
