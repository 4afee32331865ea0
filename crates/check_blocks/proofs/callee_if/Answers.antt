-- `check_blocks::callee_if` meets its contract: by whether the shape has one.
use borrow.Author.Rules.{rules}
use Rattle.check_blocks.proofs.Laws.{part_is}
use Rattle.check_blocks.proofs.callee_if.Goals as goal

pub returns : goal.returns
returns c = part_is _ _ _ _ _ _ (λ e. search rules) c.if_there.ensures.no
