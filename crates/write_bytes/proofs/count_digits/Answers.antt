-- `write_bytes::count_digits` meets its contract: one more than the power of ten below.
use native.Mathlib.Omega.{arith}
use native.Mathlib.Nat.{pow-suc}
use lib.ListN.{length}
use mathlib.Core.Path.{ap, sym}
use Rattle.numbering.proofs.Digits.{digits_one}
use Rattle.write_bytes.proofs.Digits.{digits_count}
use Rattle.write_bytes.proofs.count_digits.Goals as goal

pub returns-then-k-eq0 : goal.returns-then-k-eq0
returns-then-k-eq0 c = (sym (ap length (digits_one c.args.k (omega (arith, c.if-k-eq0.true)))), omega arith)

pub returns-else-k-eq0 : goal.returns-else-k-eq0
returns-else-k-eq0 c = let log = c.ilog10 in
    let next = pow-suc 10 log.result in
    let n = digits_count log.result c.args.k log.ensures.power_le (omega (arith, next, log.ensures.next_power_gt)) in
    (omega (arith, n), omega (arith, log.ensures.bound))
