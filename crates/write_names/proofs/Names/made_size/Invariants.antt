-- What the loop keeps: the sizes so far and of those left are the sizes of all.
use Rattle.std.proofs.Common.{◌≡◌, ◌+◌, ◌*◌, ◌≤◌, length}
use Rattle.write_names.specs.Named.{made_reach}
use Rattle.write_names.proofs.Laws.{names_left}
use Rattle.write_names.proofs.Names.made_size.Given as goal

abbrev pub invariant-loop-k : goal.invariant-loop-k
invariant-loop-k l = (l.size ≤ made_reach * l.k) × (l.size + length (names_left l.self.bytes.now l.made l.k) ≡ length (names_left l.self.bytes.now l.made 0))
