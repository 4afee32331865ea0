-- `write_bytes::put_be` meets its contract: the last N of the number's eight bytes.
use Rattle.write_bytes.proofs.Numbers.{bytes_put}
use Rattle.write_bytes.proofs.put_be.Goals as goal

pub returns : goal.returns
returns g c = let a = c.args in bytes_put a.out.now a.at g.row.N a.x c.requires.0 c.requires.1 c.to_be_bytes.ensures c.put_bytes.ensures
