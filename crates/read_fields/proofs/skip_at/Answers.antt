-- `read_fields::skip_at` meets its contract: by how many bytes are left.
use mathlib.Core.Path.{sym, ap, ◌∙◌}
use native.Mathlib.Omega.{arith}
use Rattle.std.specs.Prelude.{Err}
use Rattle.record.specs.Tests.{any}
use Rattle.record.specs.Answer.{verdict}
use Rattle.record.proofs.Following.{field_past, field_there}
use Rattle.read_fields.proofs.skip_at.Goals as goal

pub returns-then-left-w : goal.returns-then-left-w
returns-then-left-w c = ap Err c.fault.ensures ∙ sym (ap verdict (field_past _ any _ _ (omega arith)))

pub returns : goal.returns
returns c = sym (ap verdict (field_there _ _ _ (omega arith)))
