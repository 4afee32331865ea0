-- What the loop keeps: what is left to write gives the whole.
use Rattle.std.proofs.Common.{◌≡◌, ◌+◌, ◌*◌, map, drop}
use Rattle.record.specs.Write.{be, join}
use Rattle.write_bytes.proofs.Wrote.{Rest}
use Rattle.write_instrs.proofs.put_row.Given as goal

abbrev pub invariant-loop-x : goal.invariant-loop-x
invariant-loop-x l = (l.p ≡ l.at + 2 * l.x-index) ×
    Rest l.out l.p (join (map (be 2) (drop l.x-index l.row))) l.initial.out l.at (join (map (be 2) l.row))
