-- What the loop keeps: what is left from here stands there and has room, and written it gives the whole.
use Prim.Native.Nat.{◌-◌}
use Rattle.convert.proofs.Rows.{instrs, Row, Going}
use Rattle.convert.proofs.Source.put_body.Given as goal

abbrev pub invariant-loop : goal.invariant-loop
invariant-loop g l =
    let kind = instrs g.row.FROM l.self.reads.now in
    let left = l.n - l.counter in
    Row kind g.row.TO l.to left × Going kind g.row.TO l.initial.to l.n l.initial.out l.to left l.out
