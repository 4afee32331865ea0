-- `check_names::names_at` meets its contract: what the names left answer is what all answer, and each text seen has its mark.
use mathlib.Core.Path.{◌≡◌, refl, ◌∙◌}
use mathlib.Core.Bool.{false, cond}
use native.Mathlib.Omega.{arith}
use lib.ListN.{get_or, length-set}
use Rattle.record.specs.Decode.{name_end}
use Rattle.record.proofs.Following.{handed_on}
use Rattle.record.proofs.Rows.{behind_done}
use Rattle.check_names.proofs.Laws.{more_seen, names_stopped, names_went, names_done, names_all}
use Rattle.check_names.proofs.Marks.{none_marked, marked_more, searched_behind, name_searched}
use Rattle.check_names.proofs.names_at.Goals as goal
use Rattle.check_names.proofs.names_at.Goals.{then-seen-h, else-seen-h}

pub loop-i-init : goal.loop-i-init
loop-i-init c = let a = c.args in
    let s = a.s.now in record {
      place = behind_done (name_end s) a.at 0 refl;
      same = names_all a.lim s a.at a.count;
      long = refl;
      marked = none_marked _ s a.at;
    }

pub name_at-requires : goal.name_at-requires
name_at-requires c = let a = c.args in
    let w = c.loop-i in
    let count : c.if-seen-h.before ≡ cond (get_or w.seen c.mark_at-h.result false) w.i 0 =
    elim c.if-seen-h.branch [ then-seen-h v ↦ rw v.if-seen-h.true v.before-is | else-seen-h v ↦ rw v.if-seen-h.false v.before-is ] in
    searched_behind a.s.now a.at _ w.p w.seen _ _ count w.invariant.place

pub returns-in_err-p : goal.returns-in_err-p
returns-in_err-p c = let w = c.loop-i in
    let a = c.args in
    let s = a.s.now in
    let count : c.if-seen-h.before ≡ cond (get_or w.seen c.mark_at-h.result false) w.i 0 =
    elim c.if-seen-h.branch [ then-seen-h v ↦ rw v.if-seen-h.true v.before-is | else-seen-h v ↦ rw v.if-seen-h.false v.before-is ] in
    let searched = name_searched s a.at _ w.p w.seen _ _ count a.lim _ w.invariant.marked in
    handed_on c.from_residual.result c.in_err-p.field-0.0 c.from_residual.ensures.1
    ∙ names_stopped a.lim s a.at a.count w.i w.p (omega arith) w.invariant.place _
    (searched c.mark_at-h.ensures.1 c.name_at.ensures ∙ c.in_err-p.was)
    ∙ w.invariant.same

pub loop-i-preserved : goal.loop-i-preserved
loop-i-preserved c = let w = c.loop-i in
    let a = c.args in
    let s = a.s.now in
    let count : c.if-seen-h.before ≡ cond (get_or w.seen c.mark_at-h.result false) w.i 0 =
    elim c.if-seen-h.branch [ then-seen-h v ↦ rw v.if-seen-h.true v.before-is | else-seen-h v ↦ rw v.if-seen-h.false v.before-is ] in
    let searched = name_searched s a.at _ w.p w.seen _ _ count a.lim _ w.invariant.marked in
    let next =
    names_went a.lim s a.at a.count w.i w.p (omega arith) w.invariant.place _
    (searched c.mark_at-h.ensures.1 c.name_at.ensures ∙ c.in_ok-p.was) in
    let more = more_seen a.lim s a.at a.count w.i w.p (omega arith) w.invariant.place in record {
      place = next.0;
      same = next.1 ∙ w.invariant.same;
      long = length-set w.seen _ _ ∙ w.invariant.long;
      marked = marked_more w.seen _ (omega (arith, w.invariant.long, c.mark_at-h.ensures.0)) _ _ _ more (c.mark_at-h.ensures.1 next.2) w.invariant.marked;
    }

pub returns : goal.returns
returns c = let w = c.loop-i in
    names_done _ _ _ _ _ (omega arith) ∙ w.invariant.same
