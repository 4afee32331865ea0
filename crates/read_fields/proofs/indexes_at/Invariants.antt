-- What the loop keeps: what is left to read gives the verdict.
use mathlib.Core.Path.{◌≡◌}
use Rattle.std.proofs.Common.{◌-◌}
use Rattle.record.specs.Reader.{field, times}
use Rattle.record.specs.Tests.{below}
use Rattle.record.specs.Answer.{verdict}
use Rattle.read_fields.proofs.indexes_at.Given as goal

abbrev pub invariant-loop : goal.invariant-loop
invariant-loop l = (verdict (times (l.fn.count - l.counter) (λ _. field 2 (below l.n)) l.s l.p) ≡ verdict (times l.fn.count (λ _. field 2 (below l.n)) l.s l.fn.at))
