-- `rewrite::measure` meets its contract: the blocks written to nothing, and what stands before them.
use native.Mathlib.Omega.{arith}
use borrow.Author.Rules.{rules}
use mir.Syntax.{w16}
use mir.Val.{Fits}
use Rattle.rewrite.specs.Parts.{rewriting_in}
use Rattle.rewrite.proofs.Parts.{parts_size}
use Rattle.rewrite.proofs.measure.Goals as goal

pub returns : goal.returns
returns c = let s = c.args.src.now.reads.now in
    let f = c.front_size-at.ensures in
    let b = c.put_blocks-b.ensures in
    let t : Fits w16 c.put_blocks-b.result.count.total = search rules in
    rw c.from-2.ensures (
      parts_size (rewriting_in s) 0 c.front_size-at.result c.put_blocks-b.result.at.q f.0 (omega (arith, b.0.end)),
      (b.1.0, (omega (arith, f.1.0, b.1.1.0), (b.1.1.1, omega (arith, t.fits)))),
    )
