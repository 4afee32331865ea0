-- `write_bytes::move_up` meets its contract: what is left to move gives the whole answer.
use Rattle.std.proofs.Common.{◌≡◌, ◌-◌, suc, refl, ap, ◌∙◌, rules, arith}
use Rattle.write_bytes.proofs.Moved.{moved, moved_none, moved_more, moved_all}
use Rattle.write_bytes.proofs.move_up.Goals as goal

pub loop-left-init : goal.loop-left-init
loop-left-init c = let a = c.args in (refl, moved_none a.out.now a.from a.to a.n (omega arith))

pub loop-left-preserved : goal.loop-left-preserved
loop-left-preserved c = let l = c.loop-left in
    let a = c.args in
    let s : l.left ≡ suc (l.left - 1) = omega (arith, c.loop-left-test.true) in (
      search rules,
      moved_more a.out.now a.from a.to a.n l.out (l.left - 1) (omega arith) (omega arith) (omega (arith, c.loop-left-test.true))
          (l.invariant.1 ∙ ap (moved a.out.now a.from a.to a.n) s),
    )

pub returns : goal.returns
returns c = let l = c.loop-left in
    let a = c.args in
    l.invariant.1 ∙ ap (moved a.out.now a.from a.to a.n) (omega (arith, c.loop-left-test.false)) ∙ moved_all a.out.now a.from a.to a.n
