-- `engine_events::put_event` meets its contract: the parts of the event are written one behind the other.
use mathlib.Core.Path.{sym, ap, ◌∙◌, subst}
use native.Mathlib.Omega.{arith}
use Rattle.record.specs.Reader.{num_at}
use Rattle.record.specs.View.{code_of}
use Rattle.codes.proofs.Op.{op_code}
use Rattle.write_bytes.specs.Put.{IdWidth}
use Rattle.write_bytes.proofs.Numbers.{id_width}
use Rattle.engine_quiet.specs.Spot.{code_at}
use Rattle.engine_events.specs.Replies.{callee_op}
use Rattle.engine_events.proofs.Operands.{callee_code}
use Rattle.engine_events.proofs.Events.{event_put}
use Rattle.engine_events.proofs.put_event.Goals as goal

pub read_id-requires : goal.read_id-requires
read_id-requires c = let r = c.requires.telling in
    (omega (arith, r.near), subst IdWidth (sym r.grounded.width) (id_width (num_at c.args.g.now.s.now 4 1)))

pub put_word-requires : goal.put_word-requires
put_word-requires c =
    (subst IdWidth (sym c.requires.telling.grounded.width) (id_width (num_at c.args.g.now.s.now 4 1)), c.read_id.ensures.1)

pub returns : goal.returns
returns c = let a = c.args in
    let r = c.requires.telling in
    event_put r.loud a.row c.u8_at-n.result r.counted c.u8_at-n.ensures
    a.cells.now a.out.now _ a.g.now.w a.to c.read_id.result c.from.result
    c.callee_at.result (callee_op a.op) r.grounded.width
    c.read_id.ensures.0 (c.from.ensures ∙ ap code_of r.coded ∙ op_code (code_at a.g.now.s.now a.at))
    (callee_code (code_at a.g.now.s.now a.at) a.op r.coded) (rw c.from-2.ensures at c.callee_at.ensures)
    c.put_word.ensures c.put_u8.ensures c.put_u16.ensures c.put_u8-2.ensures c.put_row.ensures
