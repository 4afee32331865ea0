-- `check_texts::same_bytes` meets its contract: `==` compares the bytes in turn.
use mathlib.Core.Path.{◌∙◌}
use Rattle.check_texts.proofs.Laws.{same_is}
use Rattle.check_texts.proofs.same_bytes.Goals as goal

pub returns : goal.returns
returns c = c.eq.ensures ∙ same_is _ _
