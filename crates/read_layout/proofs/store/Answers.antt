-- `read_layout::store` meets its contract: past the end of a table nothing is set.
use mathlib.Core.Path.{sym}
use lib.Seq.{set_out}
use Rattle.read_layout.proofs.store.Goals as goal

pub returns-else-i-table : goal.returns-else-i-table
returns-else-i-table g c = sym (set_out _ _ c.args.v c.if-i-table.false)
