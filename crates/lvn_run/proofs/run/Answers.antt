-- `lvn_run::run` writes the program's output: what is read are the first bytes of the input, as many as tell.
use Rattle.std.proofs.Common.{arith}
use Rattle.read_input.proofs.Whole.{wrote_whole}
use Rattle.engine_report.proofs.Shown.{too_long}
use Rattle.lvn_run.proofs.Wrote.{wrote_parts}
use Rattle.lvn_run.proofs.run.Goals as goal

pub returns : goal.returns
returns g c =
    let read = c.in_ok-n.ensures in
    let bytes = wrote_parts _ _ _ _ _ _ _ _ c.in_ok-write_all.ensures.bytes c.in_ok-write_all-2.ensures.bytes c.write_all-3.ensures.bytes in
    wrote_whole _ 262144 _ too_long _ _ (g.R.Read.remaining c.read_full.new.reader) _ _ c.read_full.new.buf _ c.in_ok-n.n
    (omega (arith, c.read_full.auto.buf)) read.bound.0 read.bytes read.end c.program-parts.ensures.all bytes
