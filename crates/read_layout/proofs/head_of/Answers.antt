-- `read_layout::head_of` meets its contract: the head is read where the names that are walked end.
use mathlib.Core.Path.{ap, ◌∙◌}
use Rattle.record.specs.Decode.{behind, name_end, names_end}
use Rattle.read_layout.proofs.head_of.Goals as goal

pub returns : goal.returns
unfolding names_end
returns c = c.layout_at.ensures.says (c.names_end.ensures.0 ∙ ap (behind (name_end c.args.s.now) 8) (c.from.ensures ∙ c.names_count.ensures))
