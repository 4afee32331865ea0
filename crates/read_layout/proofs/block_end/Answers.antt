-- `read_layout::block_end` meets its contract: it is the place behind as many instructions as are counted.
use mathlib.Core.Path.{ap, ◌∙◌}
use Rattle.record.specs.Decode.{behind, instr_end}
use native.Mathlib.Omega.{arith}
use Rattle.read_layout.proofs.Ends.{block_past}
use Rattle.read_layout.proofs.block_end.Goals as goal

pub returns : goal.returns
returns c = let n = c.block_head-n.ensures in
    let r = c.body_end.ensures in
    (block_past _ _ _ _ _ n.0 (r.0 ∙ ap (λ k. behind (instr_end c.args.w c.args.s.now) k c.block_head-n.result.0) n.1.1), omega (arith, r.1, n.1.0, n.1.1))
