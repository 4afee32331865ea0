-- `engine::run_told` meets its contract: what the runs over no output come to is the machine's run, and the run that writes has the same
-- events.
use mathlib.Core.Path.{sym, ap, ◌∙◌}
use Rattle.running.proofs.Engine.{enough_room}
use Rattle.std.proofs.Common.{Err}
use Rattle.record.proofs.Following.{handed_on}
use Rattle.engine_pure.proofs.Works.{read_some, read_none}
use Rattle.engine.proofs.Ended.{ended_fit, ended_unfit}
use Rattle.engine.proofs.Begun.{store_refused, fed}
use Rattle.engine.proofs.Answers.{short_by, unfit_told, room_told, done_told}
use Rattle.engine.proofs.run_told.Goals as goal

pub returns-in_err-ok_or : goal.returns-in_err-ok_or
returns-in_err-ok_or c = let a = c.args in
    let r = c.requires in
    let (n, u) = read_none _ _ _ c.in_err-ok_or.ensures.value in
    let e = handed_on c.from_residual.result c.in_err-ok_or.field-0.0 c.from_residual.ensures.1 ∙ ap Err u in
    rw e
    (store_refused a.g.now a.store.now a.t0 r.opened r.begun _ (rw (sym n) at c.read_store.ensures) a.events.now a.left.now)

pub returns-in_err-how : goal.returns-in_err-how
returns-in_err-how c = let a = c.args in
    let r = c.requires in
    let (u, k) = ended_unfit _ _ (sym c.ending.ensures ∙ c.in_err-how.was) in
    rw (handed_on c.from_residual-in_err-how.result c.in_err-how.field-0.0 c.from_residual-in_err-how.ensures.1 ∙ ap Err k)
    (unfit_told (fed a.g.now a.store.now a.t0 r.opened r.begun c.read_store.new.cells c.read_store.ensures (sym (read_some _ _ _ c.in_ok-ok_or.ensures.value)))
    r.begun c.steps.ensures c.steps-t.ensures a.events.now a.left.now u)

pub returns-then-events-t : goal.returns-then-events-t
returns-then-events-t c = let a = c.args in
    let r = c.requires in
    let (h, u) = ended_fit a.g.now _ _ c.steps-t.ensures.upto.ready.standing (sym c.ending.ensures ∙ c.in_ok-how.was) in
    room_told (fed a.g.now a.store.now a.t0 r.opened r.begun c.read_store.new.cells c.read_store.ensures (sym (read_some _ _ _ c.in_ok-ok_or.ensures.value)))
    r.begun c.steps.ensures c.steps-t.ensures a.events.now a.left.now u c.put_store-size.ensures (short_by _ _ _ _ c.then-events-t.either)

pub returns : goal.returns
returns c = let a = c.args in
    let r = c.requires in
    let (h, u) = ended_fit a.g.now _ _ c.steps-t.ensures.upto.ready.standing (sym c.ending.ensures ∙ c.in_ok-how.was) in
    done_told (fed a.g.now a.store.now a.t0 r.opened r.begun c.read_store.new.cells c.read_store.ensures (sym (read_some _ _ _ c.in_ok-ok_or.ensures.value)))
    r.begun c.steps.ensures c.steps-t.ensures a.events.now a.left.now u c.put_store-size.ensures
    (enough_room _ _ _ _ c.if-events-t.false c.if-left-size.false) c.steps-2.ensures c.put_store.ensures h
