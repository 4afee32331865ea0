-- What the loop keeps: what is found from here is what is found of all.
use Prim.Native.Nat.{◌-◌}
use mathlib.Core.Path.{◌≡◌}
use Rattle.record.specs.Decode.{behind, instr_end}
use Rattle.convert.proofs.Scan.{in_body}
use Rattle.convert.proofs.Source.scan_body.Given as goal

abbrev pub invariant-loop : goal.invariant-loop
invariant-loop g l =
    let a = l.self in
    let s = a.reads.now in
    let left = l.n - l.counter in
    (behind (instr_end g.row.FROM s) l.p left ≡ behind (instr_end g.row.FROM s) l.at l.n) × (in_body g.row.FROM g.row.TO s l.p left ≡ in_body g.row.FROM g.row.TO s l.at l.n)
