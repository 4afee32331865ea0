-- `rewrite::rewrite_measured` meets its contract: the size decides, and a record that has room is written.
use Rattle.rewrite.proofs.Answers.{room_result, room_output, written_result, written_output}
use Rattle.rewrite.proofs.rewrite_measured.Goals as goal

pub returns-then-out-size : goal.returns-then-out-size
returns-then-out-size c = let out = c.args.out.now in
    let m = c.measure-size.ensures in
    (room_result _ _ m.0 out c.if-out-size.true, room_output _ _ m.0 out c.if-out-size.true)

pub returns : goal.returns
returns c = let out = c.args.out.now in
    let m = c.measure-size.ensures in (
      written_result _ _ m.0 out c.if-out-size.false m.1.0.many,
      written_output _ _ m.0 out c.if-out-size.false c.put_record.ensures,
    )
