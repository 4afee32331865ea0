-- `read_layout::name_end` meets its contract: type, length and text, whose sum the end bounds.
use mathlib.Core.Path.{◌∙◌}
use Rattle.record.specs.Decode.{name_end}
use native.Mathlib.Omega.{arith}
use Rattle.read_layout.proofs.Ends.{name_past}
use Rattle.read_layout.proofs.name_end.Goals as goal

pub returns : goal.returns
returns c = let n = c.from.ensures ∙ c.u8_at.ensures in (name_past _ _ _ n, omega (arith, c.from.ensures, c.u8_at.type_inv))

pub overflow_add-result : goal.overflow_add-result
unfolding name_end
overflow_add-result c = omega arith

pub overflow_add-result-2 : goal.overflow_add-result-2
unfolding name_end
overflow_add-result-2 c = omega arith

pub overflow_add-at : goal.overflow_add-at
unfolding name_end
overflow_add-at c = omega arith

pub overflow_add-result-3 : goal.overflow_add-result-3
unfolding name_end
overflow_add-result-3 c = omega arith
