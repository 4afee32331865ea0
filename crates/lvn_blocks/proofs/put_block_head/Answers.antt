-- `lvn_blocks::put_block_head` meets its contract.
use mathlib.Core.Path.{refl}
use Rattle.record.proofs.Stands.{length_be}
use Rattle.write_bytes.proofs.Put.{put_then}
use Rattle.lvn_blocks.proofs.put_block_head.Goals as goal

pub returns : goal.returns
returns c = let a = c.args in
    put_then a.out.now a.at 2 _ _ _ refl (length_be 2 a.n) c.put_u16.ensures c.put_u16-2.ensures
