-- `engine_cells::Cells::row_size` meets its contract.
use mathlib.Core.Path.{◌≡◌, ◌∙◌}
use native.Mathlib.Omega.{arith}
use Rattle.engine_cells.specs.Cells.{store_in}
use Rattle.engine_cells.proofs.Values.{size_most}
use Rattle.engine_cells.proofs.Rows.{size_begun, size_unset, size_went, size_done}
use Rattle.engine_cells.proofs.Cells.row_size.Goals as goal

pub loop-i-init : goal.loop-i-init
loop-i-init g c = record { few = omega arith; rest = size_begun (store_in c.args.self.now) c.args.s.now c.args.at c.args.n }

pub returns-then-kind : goal.returns-then-kind
returns-then-kind g c = let a = c.args in (
  size_unset a.self.now a.s.now a.at a.n c.loop-i.i c.be.result c.get-kind.result c.loop-i.size
      c.be.ensures.0 c.get-kind.ensures (omega (arith, c.loop-i-test.true, c.from-i-end.ensures)) c.if-kind.true ∙ c.loop-i.invariant.rest,
  λ k e. absurd (cc e),
)

pub loop-i-preserved : goal.loop-i-preserved
loop-i-preserved g c = let a = c.args in
    let z = c.value_size-size in
    let m = size_most c.get-kind.result.kind z.result z.ensures in
    record {
      few = omega (arith, m, c.loop-i.invariant.few);
      rest =
          size_went a.self.now a.s.now a.at a.n c.loop-i.i c.be.result c.get-kind.result c.loop-i.size
          c.be.ensures.0 c.get-kind.ensures (omega (arith, c.loop-i-test.true, c.from-i-end.ensures)) z.result c.if-kind.false z.ensures ∙
          c.loop-i.invariant.rest;
    }

pub returns : goal.returns
returns g c = let a = c.args in
    let l = c.loop-i in (
      size_done (store_in a.self.now) a.s.now a.at a.n l.i l.size (omega (arith, c.loop-i-test.false, c.from-i-end.ensures)) ∙ l.invariant.rest,
      λ k e. let f : l.size ≡ k = cc e in omega (arith, f, l.invariant.few, l.auto.i-end, c.from-i-end.ensures),
    )
