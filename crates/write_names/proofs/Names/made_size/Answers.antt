-- `write_names::Names::made_size` meets its contract: the sizes so far and of those left are the sizes of all.
use mathlib.Core.Path.{◌∙◌}
use native.Mathlib.Omega.{arith}
use Rattle.write_names.proofs.Sizes.{size_less, size_none}
use Rattle.write_names.proofs.Names.made_size.Goals as goal

pub loop-k-preserved : goal.loop-k-preserved
loop-k-preserved c = let l = c.loop-k in
    let e = c.made_name_size-size.ensures in (
      omega (arith, l.invariant.0, e.1),
      size_less c.args.self.bytes.now c.args.made.now l.k l.size _ c.loop-k-test.true e.0 ∙ l.invariant.1,
    )

pub returns : goal.returns
returns c = let l = c.loop-k in
    let a = c.args in
    (size_none a.self.bytes.now a.made.now l.k l.size c.loop-k-test.false ∙ l.invariant.1, omega (arith, l.invariant.0, l.auto.k-end))
