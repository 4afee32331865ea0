-- `read_layout::names_end` meets its contract: the place behind those left from p on is the place behind all.
use mathlib.Core.Path.{◌≡◌, ap, ◌∙◌}
use Prim.Native.Nat.{◌+◌, ◌-◌}
use native.Mathlib.Omega.{arith}
use Rattle.record.specs.Decode.{behind, name_end}
use Rattle.record.proofs.Rows.{behind_next, behind_done}
use Rattle.read_layout.proofs.names_end.Goals as goal

pub loop-init : goal.loop-init
loop-init c = let e : c.args.n - 0 ≡ c.args.n = omega arith in
    (omega arith, ap (behind (name_end c.args.s.now) c.args.at) e)

pub name_end-p-requires : goal.name_end-p-requires
unfolding name_end
name_end-p-requires c = omega (arith, c.type_inv.s (c.loop.p + 1), c.loop-test.true, c.loop.invariant.0, c.requires)

pub loop-preserved : goal.loop-preserved
loop-preserved c = let inv = c.loop.invariant in
    let e = c.name_end-p.ensures in
    (omega (arith, inv.0, e.1, c.loop-test.true), behind_next _ _ _ _ c.loop-test.true _ e.0 ∙ inv.1)

pub returns : goal.returns
returns c = let inv = c.loop.invariant in
    (behind_done _ _ (c.args.n - c.loop.counter) (omega arith) ∙ inv.1, omega (arith, inv.0))
