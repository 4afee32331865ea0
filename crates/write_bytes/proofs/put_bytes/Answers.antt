-- `write_bytes::put_bytes` meets its contract: by how much room there is.
use mathlib.Core.Path.{sym}
use native.Mathlib.Omega.{arith}
use Rattle.write_bytes.proofs.Put.{put_out}
use Rattle.write_bytes.proofs.Copies.{put_whole, put_clipped}
use Rattle.write_bytes.proofs.put_bytes.Goals as goal

pub returns-then-at-out : goal.returns-then-at-out
returns-then-at-out c = let a = c.args in sym (put_out a.out.now a.at a.bytes.now c.if-at-out.true)

pub returns-then-bytes-room : goal.returns-then-bytes-room
returns-then-bytes-room c = let a = c.args in
    put_whole a.out.now a.bytes.now a.at _ (omega arith) (omega arith) c.copy_from_slice.ensures.after

pub returns-else-bytes-room : goal.returns-else-bytes-room
returns-else-bytes-room c = let a = c.args in
    put_clipped a.out.now a.bytes.now a.at _ (omega arith) (omega arith) c.copy_from_slice-else-bytes-room.ensures.after
