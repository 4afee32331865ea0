-- What the loop keeps: what is left from here gives the whole.
use Prim.Native.Nat.{◌-◌}
use Rattle.record.specs.Record.{type_in}
use Rattle.lvn_state.specs.View.{state_of}
use Rattle.lvn_blocks.specs.Block.{Asks}
use Rattle.lvn_blocks.proofs.Turned.{Going}
use Rattle.lvn_blocks.proofs.body_lvn.Given as goal

abbrev pub invariant-loop : goal.invariant-loop
invariant-loop g l = Asks g.row.M g.row.N l.src.layout l.src.reads.now (state_of l.st) l.at (l.count - l.counter) ×
    Going l.src.layout l.src.reads.now (type_in l.src.types.now) l.initial.at (state_of l.initial.st) l.count l.initial.names l.initial.out
    l.at (state_of l.st) (l.count - l.counter) l.names l.out
