-- `read_layout::id_width` meets its contract: the version is the byte at 4.
use mathlib.Core.Path.{ap, ◌∙◌}
use Rattle.record.specs.Record.{id_bytes}
use Rattle.read_layout.proofs.id_width.Goals as goal

pub returns : goal.returns
returns c = (c.id_bytes.ensures.0 ∙ ap id_bytes c.byte_or.ensures.0, c.id_bytes.ensures.1)
