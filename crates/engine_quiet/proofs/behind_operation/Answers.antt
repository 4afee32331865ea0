-- `engine_quiet::behind_operation` meets its contract.
use mathlib.Core.Path.{sym, subst}
use native.Mathlib.Omega.{arith}
use Rattle.record.specs.Reader.{num_at}
use Rattle.write_bytes.specs.Put.{IdWidth}
use Rattle.write_bytes.proofs.Numbers.{id_width}
use Rattle.engine_quiet.proofs.Bodies.{code_inside}
use Rattle.engine_quiet.proofs.behind_operation.Goals as goal

pub read_id-requires : goal.read_id-requires
read_id-requires c = let f = c.requires.facing in
    (omega (arith, code_inside f), subst IdWidth (sym f.grounded.width) (id_width (num_at c.args.g.now.s.now 4 1)))
