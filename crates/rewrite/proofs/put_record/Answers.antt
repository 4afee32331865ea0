-- `rewrite::put_record` meets its contract: the front, and the blocks behind it.
use mathlib.Core.Path.{refl}
use native.Mathlib.Omega.{arith}
use Rattle.rewrite.specs.Parts.{rewriting_in}
use Rattle.rewrite.proofs.Parts.{four_bytes, parts_written}
use Rattle.rewrite.proofs.put_record.Goals as goal

pub overflow_sub-size : goal.overflow_sub-size
overflow_sub-size c = omega (arith, c.requires.1.1.0, four_bytes (rewriting_in c.args.src.now.reads.now))

pub returns : goal.returns
returns c = parts_written _ _ _ c.put_front-at.ensures.0 c.put_blocks.ensures.0 c.requires.1.1.0 refl
