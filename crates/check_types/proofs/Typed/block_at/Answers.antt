-- `check_types::Typed::block` meets its contract: it answers as its body.
use Rattle.check_types.proofs.Laws.{block_is, block_within}
use Rattle.check_types.proofs.Typed.block_at.Goals as goal

pub returns : goal.returns
returns c = (
  block_is _ _ _ _ _ _ c.block_head-n.ensures.0 (rw c.block_head-n.ensures.1.1 at c.body_at.ensures.0),
  block_within _ _ _ c.block_head-n.ensures.1.0 (rw c.block_head-n.ensures.1.1 at c.body_at.ensures.1),
)
