-- `check_texts::used_in` meets its contract: what the names left answer is what all answer.
use Prim.Native.Nat.{◌+◌, ◌-◌, ◌<◌, ◌≤◌}
use mathlib.Core.Path.{◌≡◌, sym, ◌∙◌, subst}
use native.Mathlib.Omega.{arith}
use lib.ListN.{length}
use Rattle.record.specs.Decode.{name_end}
use Rattle.record.proofs.Rows.{behind_went}
use Rattle.check_texts.proofs.Laws.{next_within, used_hit, used_miss, used_none}
use Rattle.check_texts.proofs.used_in.Goals as goal

pub same_name-requires : goal.same_name-requires
same_name-requires c = let w = c.loop in
    next_within c.args.s.now w.p _ (omega arith) _ w.invariant.within

pub returns-then-same_name : goal.returns-then-same_name
returns-then-same_name c = let w = c.loop in
    used_hit c.args.s.now w.p (c.args.before.count - w.counter) (omega arith) _ (sym c.same_name.ensures ∙ c.if-same_name.true) ∙ w.invariant.same

pub name_end-p-requires : goal.name_end-p-requires
name_end-p-requires c = let w = c.loop in
    let s = c.args.s.now in
    omega (arith, next_within s w.p (c.args.before.count - w.counter) (omega arith) (length s) w.invariant.within)

pub loop-preserved : goal.loop-preserved
loop-preserved c = let s = c.args.s.now in
    let t = c.args.text.now in
    let w = c.loop in
    let left = c.args.before.count - w.counter in
    let z : 0 < left = omega arith in
    let one : c.args.before.count - (w.counter + 1) ≡ left - 1 = omega arith in
    let e = c.name_end-p.ensures.0 in
    record {
      within = rw one (subst (λ q. q ≤ length s) (sym (behind_went (name_end s) w.p left z _ e)) w.invariant.within);
      same =
          rw (one, e)
          (used_miss s w.p left z t (sym c.same_name.ensures ∙ c.if-same_name.false) ∙ w.invariant.same);
    }

pub returns : goal.returns
returns c = let w = c.loop in
    used_none c.args.s.now w.p (c.args.before.count - w.counter) _ (omega arith) ∙ w.invariant.same
