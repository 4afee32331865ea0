-- `read_layout::layout_at` meets its contract: each field is read where the definition reads it.
use mathlib.Core.Path.{◌∙◌}
use Rattle.read_layout.proofs.Ends.{head_says}
use Rattle.read_layout.proofs.layout_at.Goals as goal

pub returns-clause-says : goal.returns-clause-says
returns-clause-says c e =
    head_says _ _ _ _ _ _ c.id_width.ensures.0 (c.from.ensures ∙ c.u8_at.ensures) c.names_count.ensures (c.from-2.ensures ∙ c.u16_at.ensures) e
