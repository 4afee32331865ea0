-- What the loop keeps: what is left to write gives the whole.
use Rattle.std.proofs.Common.{◌+◌, ◌*◌, ◌≤◌}
use Rattle.write_bytes.proofs.Wrote.{Rest}
use Rattle.write_names.specs.Named.{longest_made}
use Rattle.write_names.proofs.Laws.{names_left}
use Rattle.write_names.proofs.Names.put_made_names.Given as goal

abbrev pub invariant-loop-k : goal.invariant-loop-k
invariant-loop-k l = (l.p ≤ l.at + longest_made * l.k) ×
    Rest l.out l.p (names_left l.self.bytes.now l.made l.k) l.initial.out l.at (names_left l.self.bytes.now l.made 0)
