-- What the loop keeps: what is left from here gives the whole.
use Prim.Native.Nat.{ℕ, ◌-◌}
use mathlib.Core.List.{List}
use mathlib.Core.Path.{◌≡◌}
use Rattle.record.specs.Record.{Instr, Block, Function}
use Rattle.read_layout.specs.declared.Layout.{Layout}
use Rattle.lvn_blocks.specs.Blocks.{BlocksAsk}
use Rattle.lvn_blocks.proofs.Blocks.{Going}
use Rattle.lvn_blocks.proofs.blocks_lvn.Given as goal

abbrev pub function_of : Layout → List ℕ → List (Block Instr) → Function
function_of F ts bs = record { args = F.args; types = ts; blocks = bs }

abbrev pub invariant-loop-i : goal.invariant-loop-i
invariant-loop-i l =
    let F = l.src.layout in
    let n = F.blocks - l.i in
    BlocksAsk F l.src.reads.now l.at l.count n ×
    ((l.count.k ≡ l.count.total) ×
    ((bs : List (Block Instr)) →
    Going F.width (function_of F l.src.types.now bs) l.src.reads.now l.fn.from F.blocks l.initial.names l.initial.each l.initial.out
    l.at l.count.k n l.names l.each l.out))
