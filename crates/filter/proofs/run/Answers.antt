-- `filter::run` writes the program's output: what is read are the first bytes of the input, as many as tell.
use Rattle.std.proofs.Common.{arith}
use Rattle.read_input.proofs.Whole.{wrote_whole}
use Rattle.report.proofs.Printed.{prints_long}
use Rattle.filter.proofs.run.Goals as goal

pub returns : goal.returns
returns g c =
    let read = c.in_ok-count.ensures in
    wrote_whole _ 8192 _ prints_long _ _ (g.R.Read.remaining c.read_full.new.reader) _ _ c.read_full.new.buf _ c.in_ok-count.count
    (omega (arith, c.read_full.auto.buf)) read.bound.0 read.bytes read.end c.program_read-n.ensures.1 c.write_all.ensures.bytes
