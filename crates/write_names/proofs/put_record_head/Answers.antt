-- `write_names::put_record_head` meets its contract: three fields one behind the other.
use Rattle.write_names.proofs.Laws.{head_wrote}
use Rattle.write_names.proofs.put_record_head.Goals as goal

pub returns : goal.returns
returns c = head_wrote _ _ _ c.put_u8.ensures c.put_u8-2.ensures c.put_u16.ensures
