-- What the loop keeps: the names left answer what all answer.
use Rattle.std.proofs.Common.{◌≡◌, ◌-◌, Bool}
use Rattle.record.specs.Reader.{num_at, times}
use Rattle.record.specs.Answer.{verdict}
use Rattle.numbering.specs.NameText.{name_part, parts_of}
use Rattle.name_text.proofs.names_within.Given as goal

abbrev pub invariant-loop : goal.invariant-loop
invariant-loop l = ((b : Bool) → verdict (times (num_at l.s 6 2 - l.counter) (λ _. name_part b) l.s l.p) ≡ verdict (parts_of b l.s))
