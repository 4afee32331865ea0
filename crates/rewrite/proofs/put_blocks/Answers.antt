-- `rewrite::put_blocks` meets its contract: the numbering of its blocks.
use Prim.Native.Nat.{ℕ, ◌*◌, ◌≤◌}
use mathlib.Core.List.{[]}
use mathlib.Core.Path.{sym, subst}
use native.Mathlib.Omega.{arith}
use lib.ListN.{length}
use Rattle.record.proofs.Again.{few_blocks}
use Rattle.record.specs.Again.{Reads}
use Rattle.record.specs.Reader.{num_at}
use Rattle.rewrite.proofs.Known.{named_many, blocks_count, blocks_ask, blocks_put, blocks_noted, blocks_figured}
use Rattle.rewrite.proofs.put_blocks.Goals as goal

pub blocks_lvn-requires : goal.blocks_lvn-requires
blocks_lvn-requires c = let p = c.requires.0 in
    let e = c.layout_at-layout.ensures in
    let h = subst (Reads c.args.src.now.reads.now) (sym e.names.1) p.reads in
    let l = e.says p.reads.names in
    (named_many h l p.types, blocks_ask h l p.types c.args.at c.requires.1)

pub returns : goal.returns
returns c = let p = c.requires.0 in
    let s = c.args.src.now.reads.now in
    let e = c.layout_at-layout.ensures in
    let h = subst (Reads s) (sym e.names.1) p.reads in
    let l = e.says p.reads.names in
    let room = subst (λ (k : ℕ). 256 * num_at s k 2 ≤ length c.args.names.now) (sym e.names.1) p.names in
    let done = c.blocks_lvn.ensures in (
      blocks_put h l p.types c.args.at done,
      (
        blocks_noted h l p.types c.args.at done room,
        (omega (arith, (done []).close, blocks_count h l, few_blocks h), blocks_figured h l p.types c.args.at done),
      ),
    )
