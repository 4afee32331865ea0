-- `engine_events::answered` meets its contract: each of its ways is one of the machine's with this answer.
use Prim.Native.Nat.{ℕ}
use mathlib.Core.Path.{sym, ap, ◌∙◌, subst}
use native.Mathlib.Omega.{arith}
use borrow.Author.Rules.{rules}
use Rattle.record.specs.Decode.{instr_end}
use Rattle.engine_house.specs.Reads.{IsSet}
use Rattle.engine_house.proofs.Again.{set_again}
use Rattle.engine_quiet.specs.declared.Over.TheVariants.{Halt, Unfit}
use Rattle.engine_quiet.specs.Spot.{code_at}
use Rattle.engine_events.specs.declared.Turn.{Turn}
use Rattle.engine_events.specs.Replies.{dest_op, Answered}
use Rattle.engine_events.proofs.Operands.{dest_code}
use Rattle.engine_events.proofs.Events.{near_going, dest_cell}
use Rattle.engine_events.proofs.Answers.{sure_first}
use Rattle.engine_events.proofs.Over.{over_turn}
use Rattle.engine_events.proofs.Replies.{answered_none, answered_halt, answered_unfit, answered_goes}
use Rattle.engine_events.proofs.answered.Goals as goal

pub returns-then-t-eq0 : goal.returns-then-t-eq0
returns-then-t-eq0 c = let a = c.args in
    subst (Answered a.g.now a.cells.now a.cells.now a.event a.p a.t) (sym c.ended.ensures)
    (answered_none a.g.now a.cells.now a.event a.p a.t c.requires.going c.requires.loud c.requires.room c.if-t-eq0.true)

pub returns-then-eq : goal.returns-then-eq
returns-then-eq c = let a = c.args in
    let x = c.answer_again-answer in
    let end = c.end in
    let e = c.ended-then-eq.ensures ∙ ap (λ (u : Turn). over_turn Halt a.event u.answer u.answers u) c.taken-u.ensures in
    subst (Answered a.g.now a.cells.now a.cells.now a.event a.p a.t) (sym e)
    (answered_halt a.g.now a.cells.now a.event a.p a.t c.requires.going c.requires.loud c.requires.room
    (omega (arith, c.if-t-eq0.false)) x.result x.ensures end.result end.ensures.0 end.ensures.1 (search rules))

pub overflow_add-at : goal.overflow_add-at
overflow_add-at c = omega (arith, near_going c.requires.going c.requires.loud (omega arith))

pub overflow_add-at-2 : goal.overflow_add-at-2
overflow_add-at-2 c = omega (arith, near_going c.requires.going c.requires.loud (omega arith))

pub takes-requires-clause-operands : goal.takes-requires-clause-operands
takes-requires-clause-operands c = omega (arith, near_going c.requires.going c.requires.loud (omega arith))

pub takes-requires-clause-dest : goal.takes-requires-clause-dest
takes-requires-clause-dest c = let r = c.requires in
    dest_cell r.loud c.args.g.now.w r.going.grounded.width (dest_op c.args.op)
    (dest_code (code_at c.args.g.now.s.now c.args.p.at) c.args.op r.coded r.loud.loud) r.going.grounded.laid.names

pub takes-requires-clause-set : goal.takes-requires-clause-set
takes-requires-clause-set c = let a = c.args in
    subst IsSet (sym c.answer_again-answer.ensures)
    (set_again a.g.now.list.now a.t.answer
    (sure_first a.g.now.list.now a.t.answer a.t.answers (omega (arith, c.if-t-eq0.false)) c.requires.going.ready.sure))

pub returns-then-not-takes : goal.returns-then-not-takes
returns-then-not-takes c = let a = c.args in
    let x = c.answer_again-answer in
    let end = c.end in
    let has = dest_code (code_at a.g.now.s.now a.p.at) a.op c.requires.coded c.requires.loud.loud in
    let e = c.ended-then-not-takes.ensures ∙ ap (λ (u : Turn). over_turn Unfit a.event u.answer u.answers u) c.taken-u.ensures in
    subst (Answered a.g.now a.cells.now _ a.event a.p a.t) (sym e)
    (answered_unfit a.g.now a.cells.now a.event a.p a.t c.requires.going c.requires.loud c.requires.room
    (omega (arith, c.if-t-eq0.false)) x.result x.ensures end.result end.ensures.0 end.ensures.1
    a.g.now.w (dest_op a.op) c.requires.going.grounded.width has c.takes.result c.takes.ensures.0 _ c.if-not-takes.true)

pub instr_end-requires : goal.instr_end-requires
instr_end-requires c = let n = near_going c.requires.going c.requires.loud (omega arith) in (n.0, omega (arith, n.1))

pub onward-requires-clause-next : goal.onward-requires-clause-next
onward-requires-clause-next c = let a = c.args in
    c.instr_end.ensures.0 ∙ ap (λ (w : ℕ). instr_end w a.g.now.s.now a.p.at) c.requires.going.grounded.width

pub returns : goal.returns
returns c = let a = c.args in
    let x = c.answer_again-answer in
    let end = c.end in
    let has = dest_code (code_at a.g.now.s.now a.p.at) a.op c.requires.coded c.requires.loud.loud in
    let next = c.instr_end in
    subst
    (λ (u : Turn). Answered a.g.now a.cells.now c.takes.new.cells a.event a.p a.t
    (record { spot = c.onward.result; more = u.more; answer = u.answer; answers = u.answers; event = a.event; tells = u.tells }))
    (sym c.taken-u.ensures)
    (answered_goes a.g.now a.cells.now a.event a.p a.t c.requires.going c.requires.loud c.requires.room
    (omega (arith, c.if-t-eq0.false)) x.result x.ensures end.result end.ensures.0 end.ensures.1
    a.g.now.w (dest_op a.op) c.requires.going.grounded.width has c.takes.result c.takes.ensures.0
    _ c.onward.result next.result c.if-not-takes.false (search rules)
    (next.ensures.0 ∙ ap (λ (x : ℕ). instr_end x a.g.now.s.now a.p.at) c.requires.going.grounded.width)
    c.takes.ensures.1 c.onward.ensures)
