-- `convert::Source::scan_blocks` meets its contract: what is found from here, with the instructions before it, is what is found of all.
use Prim.Native.Nat.{◌+◌, ◌-◌, ◌*◌, ◌<◌, ◌≤◌}
use mathlib.Core.Path.{◌≡◌, sym, ap, ◌∙◌}
use native.Mathlib.Omega.{arith}
use Rattle.record.specs.Decode.{behind, block_end}
use Rattle.record.proofs.Following.{handed_on}
use Rattle.record.proofs.Rows.{behind_next, behind_within}
use Rattle.record.proofs.Ends.{block_grows}
use Rattle.convert.proofs.Scan.{in_blocks, body_inside, blocks_wide, blocks_on, all_blocks, blocks_done}
use Rattle.convert.proofs.Source.scan_blocks.Goals as goal

pub loop-init : goal.loop-init
loop-init g c = let a = c.args in
    let s = a.self.reads.now in
    let z : a.n - 0 ≡ a.n = omega arith in
    (ap (behind (block_end g.row.FROM s) a.at) z, ap (in_blocks g.row.FROM g.row.TO s 0 a.at) z, omega arith)

pub block_head-size-requires : goal.block_head-size-requires
block_head-size-requires g c = let a = c.args in
    let s = a.self.reads.now in
    omega (arith, behind_within (block_end g.row.FROM s) (block_grows g.row.FROM s) c.loop.p _ _ c.loop.invariant.0, c.requires.0)

pub scan_body-requires : goal.scan_body-requires
scan_body-requires g c = let a = c.args in
    let s = a.self.reads.now in
    let h = c.block_head-size.ensures in
    let more : c.loop.counter < a.n = c.loop-test.true in
    omega (
      arith,
      body_inside g.row.FROM g.row.TO s c.loop.p (a.n - c.loop.counter) _ _ (omega (arith, more)) h.0 h.1.1,
      c.loop.invariant.0,
      c.requires.0,
    )

pub returns-in_err-p : goal.returns-in_err-p
returns-in_err-p g c = let a = c.args in
    let h = c.block_head-size.ensures in
    let more : c.loop.counter < a.n = c.loop-test.true in
    handed_on c.from_residual.result c.in_err-p.field-0.0 c.from_residual.ensures.1
    ∙ blocks_wide g.row.FROM g.row.TO a.self.reads.now c.loop.count c.loop.p (a.n - c.loop.counter) _ _ _ (omega (arith, more)) h.0 h.1.1
    (sym c.in_err-p.was ∙ c.scan_body.ensures)
    ∙ c.loop.invariant.1 ∙ all_blocks g.row.FROM g.row.TO a.self.reads.now a.at a.n

pub loop-preserved : goal.loop-preserved
loop-preserved g c = let a = c.args in
    let h = c.block_head-size.ensures in
    let more : c.loop.counter < a.n = c.loop-test.true in
    let on =
    blocks_on g.row.FROM g.row.TO a.self.reads.now c.loop.count c.loop.p (a.n - c.loop.counter) (a.n - (c.loop.counter + 1)) _ _ _ (omega (arith, more)) (omega arith)
    h.0 h.1.1 (sym c.in_ok-p.was ∙ c.scan_body.ensures) in
    let most : c.loop.count + 65535 * (a.n - c.loop.counter) ≤ 65535 * a.n = c.loop.invariant.2 in (
      behind_next _ _ _ _ c.loop-test.true _ on.0 ∙ c.loop.invariant.0,
      on.1 ∙ c.loop.invariant.1,
      omega (arith, most, more, h.1.0),
    )

pub returns : goal.returns
returns g c = let a = c.args in
    blocks_done g.row.FROM g.row.TO a.self.reads.now c.loop.count c.loop.p (a.n - c.loop.counter) (omega arith) ∙ c.loop.invariant.1
    ∙ all_blocks g.row.FROM g.row.TO a.self.reads.now a.at a.n
