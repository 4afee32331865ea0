-- `lvn_blocks::body_lvn` meets its contract: what is left from here gives the whole.
use Prim.Native.Nat.{◌-◌}
use mathlib.Core.Path.{◌≡◌, sym, subst}
use native.Mathlib.Omega.{arith}
use Rattle.lvn_state.specs.View.{state_of}
use Rattle.lvn_blocks.specs.Block.{Asks}
use Rattle.lvn_blocks.proofs.Turned.{going_all, going_none, going_less, asks_one, asks_less}
use Rattle.lvn_blocks.proofs.body_lvn.Goals as goal

pub loop-init : goal.loop-init
loop-init g c = let a = c.args in
    let z : a.count - 0 ≡ a.count = omega arith in
    (subst (Asks g.row.M g.row.N a.src.now.layout a.src.now.reads.now (state_of a.st.now) a.from) (sym z) c.requires, going_all z)

pub turn_once-at-requires : goal.turn_once-at-requires
turn_once-at-requires g c = let l = c.loop in
    (omega arith, asks_one (c.args.count - l.counter) (omega arith) l.invariant.0)

pub loop-preserved : goal.loop-preserved
loop-preserved g c = let l = c.loop in
    let d = c.turn_once-at in
    let n = c.args.count - l.counter in (
      asks_less n (omega arith) l.invariant.0 d.ensures _ (omega arith),
      going_less l.at d.result (state_of l.st) (state_of d.new.st) n _ (omega arith) (omega arith) d.ensures l.invariant.1,
    )

pub returns : goal.returns
returns g c = let l = c.loop in
    going_none (state_of l.st) (c.args.count - l.counter) (omega arith) l.invariant.1
