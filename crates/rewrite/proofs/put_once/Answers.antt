-- `rewrite::put_once` meets its contract: the blocks are written, moved up, and the front is written before them.
use Prim.Native.Nat.{◌+◌, ◌-◌}
use mathlib.Core.Path.{refl}
use native.Mathlib.Omega.{arith}
use borrow.Author.Rules.{rules}
use mir.Syntax.{w16}
use mir.Val.{Fits}
use Rattle.record.proofs.Again.{names_on}
use Rattle.rewrite.specs.Parts.{rewriting_in}
use Rattle.rewrite.proofs.Parts.{parts_size, parts_moved}
use Rattle.rewrite.proofs.put_once.Goals as goal

pub move_up-requires : goal.move_up-requires
move_up-requires c = let n = c.put_blocks-b.result.at.q - (c.args.src.now.end + 2) in
    let f = c.front_size-at.ensures in
    let size = parts_size (rewriting_in c.args.src.now.reads.now) 0 c.front_size-at.result n f.0
    (omega (arith, c.put_blocks-b.ensures.0.end)) in
    (f.1.1, omega (arith, size, c.requires.1, c.put_blocks-b.auto))

pub overflow_sub-at : goal.overflow_sub-at
overflow_sub-at c = omega (arith, c.front_size-at.ensures.1.1, names_on c.requires.0.typed.reads)

pub returns : goal.returns
returns c = let R = rewriting_in c.args.src.now.reads.now in
    let n = c.put_blocks-b.result.at.q - (c.args.src.now.end + 2) in
    let b = c.put_blocks-b.ensures in
    let t : Fits w16 c.put_blocks-b.result.count.total = search rules in
    let f = c.front_size-at.ensures in
    rw c.from-2.ensures (
      parts_size R 0 c.front_size-at.result n f.0 (omega (arith, b.0.end)),
      (
        b.1.0.many,
        (parts_moved R _ _ b.0 f.0 f.1.1 c.requires.1 c.move_up.ensures c.put_front.ensures.0.out refl, omega (arith, t.fits)),
      ),
    )
