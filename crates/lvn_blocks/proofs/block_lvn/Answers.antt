-- `lvn_blocks::block_lvn` meets its contract: the state starts anew with K, the body is done from it, and the head says how many were written.
use native.Mathlib.Omega.{arith}
use Rattle.record.specs.Record.{type_in}
use Rattle.lvn_state.specs.View.{state_of}
use Rattle.lvn_blocks.proofs.Heads.{body_asks, head_fits, block_done}
use Rattle.lvn_blocks.proofs.block_lvn.Goals as goal

pub body_lvn-end-requires : goal.body_lvn-end-requires
body_lvn-end-requires c = let n = c.u16_at-n in
    (omega arith, rw c.from.ensures (body_asks (state_of c.restart.new.self) n.result n.ensures c.requires c.restart.ensures))

pub overflow_sub-saves : goal.overflow_sub-saves
overflow_sub-saves c = let a = c.args in
    let n = c.u16_at-n in
    let t = c.body_lvn-end in
    let f = head_fits n.result (type_in a.src.now.types.now) a.at a.count.now t.result (state_of c.restart.new.self) (state_of t.new.st)
    n.ensures c.requires c.restart.ensures (rw c.from.ensures at t.ensures) in
    omega (arith, f.1.0, c.made-made.ensures)

pub overflow_add-n : goal.overflow_add-n
overflow_add-n c = let a = c.args in
    let n = c.u16_at-n in
    let t = c.body_lvn-end in
    let f = head_fits n.result (type_in a.src.now.types.now) a.at a.count.now t.result (state_of c.restart.new.self) (state_of t.new.st)
    n.ensures c.requires c.restart.ensures (rw c.from.ensures at t.ensures) in
    omega (arith, f.0, f.1.0, f.1.1.0, c.made-made.ensures)

pub returns : goal.returns
returns c = let a = c.args in
    let n = c.u16_at-n in
    let t = c.body_lvn-end in
    block_done n.result (type_in a.src.now.types.now) a.at a.count.now t.result (state_of c.restart.new.self) (state_of t.new.st)
    n.ensures c.requires c.restart.ensures (rw c.from.ensures at t.ensures) c.made-made.result c.made-made.ensures c.put_block_head.ensures
