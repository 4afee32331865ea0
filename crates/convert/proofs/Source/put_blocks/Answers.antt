-- `convert::Source::put_blocks` meets its contract: what is left from here gives the whole.
use Prim.Native.Nat.{◌-◌, ◌<◌}
use mathlib.Core.Path.{◌≡◌, sym, subst}
use native.Mathlib.Omega.{arith}
use Rattle.record.specs.Again.{blocks_in, blocks_behind}
use Rattle.convert.proofs.Rows.{blocks, Row, row_first, row_rest, going_all, going_less, going_none}
use Rattle.convert.proofs.Source.put_blocks.Goals as goal

pub loop-init : goal.loop-init
unfolding blocks_in blocks_behind
loop-init g c = let a = c.args in
    let kind = blocks g.row.FROM a.self.reads.now in
    let z : a.n - 0 ≡ a.n = omega arith in
    (subst (Row kind g.row.TO a.at) (sym z) c.requires, going_all kind g.row.TO a.at _ _ z)

pub put_block-to-requires : goal.put_block-to-requires
put_block-to-requires g c = let a = c.args in
    let kind = blocks g.row.FROM a.self.reads.now in
    (omega arith, row_first kind g.row.TO c.loop.to (a.n - c.loop.counter) (omega (arith, c.loop-test.true)) c.loop.invariant.0)

pub loop-preserved : goal.loop-preserved
loop-preserved g c = let a = c.args in
    let kind = blocks g.row.FROM a.self.reads.now in
    let left = a.n - c.loop.counter in
    let more : c.loop.counter < a.n = c.loop-test.true in
    let done = c.put_block-to in (
      row_rest kind g.row.TO c.loop.to done.result left _ (omega (arith, more)) (omega arith) done.ensures c.loop.invariant.0,
      going_less kind g.row.TO a.at a.n c.loop.to done.result left _ (omega (arith, more)) (omega arith) done.ensures c.loop.invariant.1,
    )

pub returns : goal.returns
unfolding blocks_in blocks_behind
returns g c = let a = c.args in
    let kind = blocks g.row.FROM a.self.reads.now in
    going_none kind g.row.TO a.at a.n c.loop.to (a.n - c.loop.counter) (omega arith) c.loop.invariant.1
