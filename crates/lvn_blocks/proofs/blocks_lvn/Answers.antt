-- `lvn_blocks::blocks_lvn` meets its contract: what is left from here gives the whole.
use Prim.Native.Nat.{◌-◌}
use mathlib.Core.Path.{◌≡◌, refl, sym, subst}
use native.Mathlib.Omega.{arith}
use Rattle.lvn_blocks.specs.Blocks.{BlocksAsk}
use Rattle.lvn_blocks.proofs.Blocks.{laid_out, going_all, going_none, going_less, alike_less, ask_one, ask_less}
use Rattle.lvn_blocks.proofs.Heads.{block_figure, figure_fits}
use Rattle.lvn_blocks.proofs.blocks_lvn.Invariants.{function_of}
use Rattle.lvn_blocks.proofs.blocks_lvn.Goals as goal

pub loop-i-init : goal.loop-i-init
loop-i-init c = let src = c.args.src.now in
    let z : src.layout.blocks - 0 ≡ src.layout.blocks = omega arith in
    (subst (BlocksAsk src.layout src.reads.now c.args.from (record { k = 0; total = 0 })) (sym z) c.requires.1, (refl, λ bs. going_all z))

pub block_lvn-next-requires : goal.block_lvn-next-requires
block_lvn-next-requires c = let l = c.loop-i in
    ask_one (c.args.src.now.layout.blocks - l.i) (omega arith) l.invariant.0

pub overflow_sub-count : goal.overflow_sub-count
overflow_sub-count c = let l = c.loop-i in
    (figure_fits (ask_one (c.args.src.now.layout.blocks - l.i) (omega arith) l.invariant.0) c.block_lvn-next.ensures).0

pub note_figure-requires : goal.note_figure-requires
note_figure-requires c = let l = c.loop-i in
    let ask = ask_one (c.args.src.now.layout.blocks - l.i) (omega arith) l.invariant.0 in
    (omega (arith, ask.reads), (figure_fits ask c.block_lvn-next.ensures).1)

pub loop-i-preserved : goal.loop-i-preserved
loop-i-preserved c = let l = c.loop-i in
    let src = c.args.src.now in
    let F = src.layout in
    let n = F.blocks - l.i in
    let d = c.block_lvn-next in
    let figure = block_figure (ask_one n (omega arith) l.invariant.0) d.ensures in (
      ask_less n (omega arith) l.invariant.0 _ (omega arith) d.ensures,
      (
        alike_less d.ensures l.invariant.1.0,
        λ bs.
            let laid = laid_out F (function_of F src.types.now bs) c.requires.0 refl d.ensures figure in
            going_less l.at l.count d.result d.new.count n _ F.end F.blocks _ l.i (omega arith) (omega arith) (omega arith) (omega arith)
            laid.0 laid.1 c.note_figure.ensures (l.invariant.1.1 bs),
      ),
    )

pub returns : goal.returns
returns c = let l = c.loop-i in λ bs. going_none l.count (c.args.src.now.layout.blocks - l.i) (omega arith) l.invariant.1.0 (l.invariant.1.1 bs)
