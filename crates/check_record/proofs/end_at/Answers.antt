-- `check_record::end_at` meets its contract: its test is the definition's.
use mathlib.Core.Path.{ap, ◌∙◌}
use Rattle.std.specs.Prelude.{Err}
use Rattle.check_record.proofs.Laws.{bytes_left, no_byte_left}
use Rattle.check_record.proofs.end_at.Goals as goal

pub returns-then-at-s : goal.returns-then-at-s
returns-then-at-s c = ap Err c.fault.ensures ∙ bytes_left _ _ c.if-at-s.true

pub returns : goal.returns
returns c = no_byte_left _ _ c.if-at-s.false
