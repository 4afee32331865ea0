-- `read_fields::Reader::field` meets its contract: by how many bytes are left.
use mathlib.Core.Path.{sym, ap, ◌∙◌}
use native.Mathlib.Omega.{arith}
use Rattle.std.specs.Prelude.{Err}
use Rattle.record.specs.Tests.{any}
use Rattle.record.proofs.Following.{field_past}
use Rattle.read_fields.specs.Answer.{res}
use Rattle.read_fields.proofs.Laws.{field_is}
use Rattle.read_fields.proofs.Reader.field.Goals as goal

pub returns-then-left : goal.returns-then-left
returns-then-left g c = ap (λ f. res (Err f)) c.fault.ensures ∙ sym (field_past g.row.N any _ _ (omega arith))

pub returns : goal.returns
returns g c = field_is _ _ g.row.N _ c.number_of.ensures.0 (omega arith)
