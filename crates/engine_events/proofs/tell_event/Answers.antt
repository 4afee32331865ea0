-- `engine_events::tell_event` meets its contract: the event is written where the output has its first place, and measured anyway.
use Prim.Native.Nat.{ℕ}
use mathlib.Core.Path.{sym, ap, ◌∙◌, subst}
use mathlib.Core.List.{List}
use native.Mathlib.Omega.{arith}
use Rattle.record.specs.declared.NameIx.{NameIx}
use Rattle.machine.specs.Machine.{read_all}
use Rattle.engine_cells.specs.Cells.{store_in, size_of}
use Rattle.engine_cells.proofs.Rows.{row_set}
use Rattle.engine_events.specs.Turn.{args_at, EventPut}
use Rattle.engine_events.proofs.Events.{args_by, event_past, event_told, event_unset}
use Rattle.engine_events.proofs.tell_event.Goals as goal
use Rattle.engine_events.proofs.tell_event.Goals.{then-to-out, else-to-out}

pub returns-in_err-n : goal.returns-in_err-n
returns-in_err-n c = let a = c.args in
    let s = a.g.now.s.now in
    let read = read_all (store_in a.cells.now) in
    let args = args_by c.requires.loud a.row c.u8_at.result c.requires.counted c.u8_at.ensures in
    rw c.from_residual.ensures
    (event_unset s a.at a.out.now a.to (read (args_at s a.at))
    (c.in_err-n.ensures.0 ∙ ap (λ (xs : List NameIx). size_of (read xs)) args))

pub put_event-requires-clause-set : goal.put_event-requires-clause-set
put_event-requires-clause-set c = let a = c.args in
    let s = a.g.now.s.now in
    let read = read_all (store_in a.cells.now) in
    let args = args_by c.requires.loud a.row c.u8_at.result c.requires.counted c.u8_at.ensures in
    row_set (read (args_at s a.at)) c.in_ok-n.n (c.in_ok-n.ensures.0 ∙ ap (λ (xs : List NameIx). size_of (read xs)) args)

pub returns : goal.returns
returns c = let a = c.args in
    let s = a.g.now.s.now in
    let read = read_all (store_in a.cells.now) in
    let put : EventPut s a.at a.out.now c.if-to-out.out a.to (read (args_at s a.at)) =
    elim c.if-to-out.branch [
      | then-to-out w ↦ subst (λ (m : List ℕ). EventPut s a.at a.out.now m a.to (read (args_at s a.at))) (sym w.out-is) w.put_event.ensures
      | else-to-out w ↦ subst (λ (m : List ℕ). EventPut s a.at a.out.now m a.to (read (args_at s a.at))) (sym w.out-is)
          (event_past s a.at a.out.now a.to (read (args_at s a.at)) w.if-to-out.false)
    ] in
    let args = args_by c.requires.loud a.row c.u8_at.result c.requires.counted c.u8_at.ensures in
    event_told s a.at a.out.now a.to c.if-to-out.out (read (args_at s a.at)) a.g.now.w c.in_ok-n.n
    c.u8_at.result c.requires.grounded.width
    (c.in_ok-n.ensures.0 ∙ ap (λ (xs : List NameIx). size_of (read xs)) args)
    (c.row_size.ensures.1 c.in_ok-n.n c.in_ok-n.was) (omega (arith, c.u8_at.ensures, c.requires.near)) c.requires.near.0 put
