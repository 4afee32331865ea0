-- `write_bytes::put_digits` meets its contract: what is left to write gives the whole answer.
use Prim.Native.Nat.{ℕ, suc, ◌+◌, ◌-◌}
use mathlib.Core.Path.{◌≡◌, refl, sym, ap, ◌∙◌}
use native.Mathlib.Omega.{arith}
use Rattle.numbering.specs.Made.{digits}
use Rattle.write_bytes.specs.Put.{put}
use Rattle.write_bytes.proofs.Digits.{last_digits, left_all, left_less, left_none}
use Rattle.write_bytes.proofs.Stand.{wrote_stand}
use Rattle.write_bytes.proofs.put_digits.Goals as goal

pub loop-i-init : goal.loop-i-init
loop-i-init c = let a = c.args in left_all a.out.now a.at _ a.k c.count_digits-n.ensures.0

pub loop-i-preserved : goal.loop-i-preserved
loop-i-preserved c = let l = c.loop-i in
    let at = c.args.at in
    let e : l.i ≡ suc (l.i - 1) = omega (arith, c.loop-i-test.true) in
    left_less l.out at (l.i - 1) l.left _ refl c.put_u8.ensures ∙ sym (ap (λ (z : ℕ). put l.out at (last_digits z l.left)) e) ∙ l.invariant

pub returns : goal.returns
returns c = let l = c.loop-i in
    let n = c.count_digits-n in
    let a = c.args in
    let d : l.out ≡ put a.out.now a.at (digits a.k) =
    sym (left_none l.out a.at _ l.left (omega (arith, c.loop-i-test.false))) ∙ l.invariant in
    (wrote_stand (digits a.k) (record { out = d; end = ap (λ (z : ℕ). a.at + z) n.ensures.0 }), omega (arith, n.ensures.1))
