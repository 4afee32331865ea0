-- `engine_quiet::land` meets its contract.
use mathlib.Core.Path.{refl}
use native.Mathlib.Omega.{arith}
use Rattle.engine_quiet.proofs.Landing.{land_empty, land_found, land_ended}
use Rattle.engine_quiet.proofs.land.Goals as goal

pub loop-c-init : goal.loop-c-init
loop-c-init c = refl

pub returns-then-left-gt0 : goal.returns-then-left-gt0
returns-then-left-gt0 c = let l = c.loop-c in
    let h = c.block_head-left.ensures in
    land_found c.args.g.now c.args.b l.c l.invariant c.loop-c-test.true _ _ refl h.0 _ h.1.1 c.requires c.if-left-gt0.true

pub loop-c-preserved : goal.loop-c-preserved
loop-c-preserved c = let l = c.loop-c in
    let h = c.block_head-left.ensures in
    land_empty c.args.g.now c.args.b l.c l.invariant c.loop-c-test.true _ _ refl h.0 (omega arith)

pub returns : goal.returns
returns c = let l = c.loop-c in
    land_ended c.args.g.now c.args.b l.c l.invariant c.loop-c-test.false
