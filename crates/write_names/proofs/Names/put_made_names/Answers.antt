-- `write_names::Names::put_made_names` meets its contract: written on with those left, the output is as written with all.
use native.Mathlib.Omega.{arith}
use Rattle.write_bytes.proofs.Wrote.{rest_less, rest_none}
use Rattle.write_names.proofs.Laws.{names_less, names_none}
use Rattle.write_names.proofs.Names.put_made_names.Goals as goal

pub loop-k-preserved : goal.loop-k-preserved
loop-k-preserved c = let l = c.loop-k in
    let e = c.put_made_name-p.ensures in (
      omega (arith, l.invariant.0, e.1),
      rest_less _ _ _ (names_less c.args.self.bytes.now c.args.made.now l.k c.loop-k-test.true) e.0 l.invariant.1,
    )

pub returns : goal.returns
returns c = let l = c.loop-k in
    let a = c.args in
    (rest_none _ (names_none a.self.bytes.now a.made.now l.k c.loop-k-test.false) l.invariant.1, omega (arith, l.invariant.0, l.auto.k-end))
