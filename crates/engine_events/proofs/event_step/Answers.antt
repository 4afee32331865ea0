-- `engine_events::event_step` meets its contract: the event is told, and then the machine's step is ret's, or what the answer comes to.
use Prim.Native.Nat.{ℕ}
use mathlib.Core.Path.{sym, ◌∙◌, subst}
use mathlib.Core.Logic.{◌≢◌}
use mathlib.Core.List.{List}
use native.Mathlib.Omega.{arith}
use borrow.Author.Rules.{rules}
use Rattle.record.specs.declared.Op.TheVariants as op
use Rattle.machine.specs.Machine.{read_all}
use Rattle.engine_cells.specs.Cells.{store_in}
use Rattle.engine_events.specs.Turn.{args_at, Stepped}
use Rattle.engine_quiet.specs.Spot.{code_at}
use Rattle.engine_events.proofs.Operands.{stands_loud, dest_code, ret_code, ret_op}
use Rattle.engine_events.proofs.Events.{near_going, near_row, row_by}
use Rattle.engine_events.proofs.Steps.{told_is, told_not, step_unset, room_left, step_ret, step_told}
use Rattle.engine_events.proofs.event_step.Goals as goal

pub overflow_add-p : goal.overflow_add-p
overflow_add-p c = let r = c.requires in
    omega (arith, near_going r.going (stands_loud r.going r.coded r.loud) (omega arith))

pub overflow_add-p-2 : goal.overflow_add-p-2
overflow_add-p-2 c = let r = c.requires in
    omega (arith, near_going r.going (stands_loud r.going r.coded r.loud) (omega arith))

pub past_if-row-requires : goal.past_if-row-requires
past_if-row-requires c = let r = c.requires in
    omega (arith, near_going r.going (stands_loud r.going r.coded r.loud) (omega arith))

pub tell_event-requires : goal.tell_event-requires
tell_event-requires c = let a = c.args in
    let r = c.requires.going in
    let loud = stands_loud r c.requires.coded c.requires.loud in
    let has = c.has_dest.ensures ∙ dest_code (code_at a.g.now.s.now a.p.at) a.op c.requires.coded loud.loud in
    let row = row_by a.g.now.s.now a.p.at a.g.now.w c.past_if-row.result c.has_dest.result r.grounded.width has c.past_if-row.ensures.0 in
    record {
      grounded = r.grounded;
      loud = loud;
      coded = c.requires.coded;
      counted = row;
      near = near_row loud a.g.now.w r.grounded.width c.past_if-row.result row (omega arith);
      room = omega (arith, r.ready.events);
    }

pub returns-then-eq : goal.returns-then-eq
returns-then-eq c = let a = c.args in
    let r = c.requires.going in
    let loud = stands_loud r c.requires.coded c.requires.loud in
    let told = told_is a.g.now.s.now a.p.at a.out.now _ a.t.event c.in-Some.event c.tell_event.result
    (read_all (store_in a.cells.now) (args_at a.g.now.s.now a.p.at)) c.in-Some.is c.tell_event.ensures in
    subst (Stepped a.g.now a.cells.now a.cells.now a.out.now _ a.t) (sym c.ended.ensures)
    (step_ret a.g.now a.cells.now a.out.now a.p a.t r loud _ c.in-Some.event told
    (ret_code (code_at a.g.now.s.now a.p.at) a.op c.requires.coded (search rules)))

pub answered-requires-clause-loud : goal.answered-requires-clause-loud
answered-requires-clause-loud c = let r = c.requires.going in
    stands_loud r c.requires.coded c.requires.loud

pub answered-requires-clause-room : goal.answered-requires-clause-room
answered-requires-clause-room c = let a = c.args in
    let r = c.requires.going in
    let loud = stands_loud r c.requires.coded c.requires.loud in
    let told = told_is a.g.now.s.now a.p.at a.out.now _ a.t.event c.in-Some.event c.tell_event.result
    (read_all (store_in a.cells.now) (args_at a.g.now.s.now a.p.at)) c.in-Some.is c.tell_event.ensures in
    room_left a.g.now a.cells.now a.out.now a.p a.t r loud _ c.in-Some.event told

pub returns-else-eq : goal.returns-else-eq
returns-else-eq c = let a = c.args in
    let r = c.requires.going in
    let loud = stands_loud r c.requires.coded c.requires.loud in
    let told = told_is a.g.now.s.now a.p.at a.out.now _ a.t.event c.in-Some.event c.tell_event.result
    (read_all (store_in a.cells.now) (args_at a.g.now.s.now a.p.at)) c.in-Some.is c.tell_event.ensures in
    step_told a.g.now a.cells.now a.out.now a.p a.t r loud _ c.in-Some.event told _ c.answered.result
    (λ e. let other : a.op ≢ op.Ret = search rules in other (ret_op (code_at a.g.now.s.now a.p.at) a.op c.requires.coded e))
    c.answered.ensures

pub returns-in-None : goal.returns-in-None
returns-in-None c = let a = c.args in
    let r = c.requires.going in
    let loud = stands_loud r c.requires.coded c.requires.loud in
    let none_read = told_not a.g.now.s.now a.p.at a.out.now _ a.t.event c.tell_event.result
    (read_all (store_in a.cells.now) (args_at a.g.now.s.now a.p.at)) c.in-None.is c.tell_event.ensures in
    subst (λ (m : List ℕ). Stepped a.g.now a.cells.now a.cells.now a.out.now m a.t c.ended-in-None.result) (sym none_read.1)
    (subst (Stepped a.g.now a.cells.now a.cells.now a.out.now a.out.now a.t) (sym c.ended-in-None.ensures)
    (step_unset a.g.now a.cells.now a.out.now a.p a.t r loud none_read.0))
