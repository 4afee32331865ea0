-- `write_bytes::put_as_room` meets its contract: by how much room there is.
use Rattle.std.proofs.Common.{sym, ◌∙◌, arith}
use Rattle.write_bytes.proofs.Put.{put_out}
use Rattle.write_bytes.proofs.Copies.{put_room}
use Rattle.write_bytes.proofs.put_as_room.Goals as goal

pub returns-then-at-out : goal.returns-then-at-out
returns-then-at-out c = let a = c.args in sym (put_out a.out.now a.at a.text.now c.if-at-out.true)

pub returns-else-text-room : goal.returns-else-text-room
returns-else-text-room c = let a = c.args in
    c.put_whole-else-text-room.ensures ∙ sym (put_room a.out.now a.at a.text.now _ (omega arith))
