-- `report::put_refusal` meets its contract: its parts, one behind the other.
use Prim.Native.Nat.{◌≤◌}
use native.Mathlib.Omega.{arith}
use lib.ListN.{length}
use Rattle.numbering.specs.Made.{digits}
use Rattle.numbering.proofs.Digits.{digits_few}
use mathlib.Core.Path.{◌≡◌, ap}
use Rattle.write_bytes.specs.Put.{Wrote}
use Rattle.write_bytes.proofs.Stand.{stand_wrote}
use Rattle.report.proofs.Line.{line_wrote}
use Rattle.report.proofs.put_refusal.Goals as goal

pub returns : goal.returns
returns c =
    let n = c.args.number in
    let w : Wrote _ _ _ _ _ =
    line_wrote n c.args.value c.from.ensures c.put_text-p.ensures.0 (stand_wrote (digits c.from.result) c.put_digits-q.ensures.0)
    c.put_text-from.ensures.0 (stand_wrote (digits c.args.value) c.put_digits-end.ensures.0) c.put_u8.ensures in
    let few : length (digits n) ≤ 3 = digits_few n 2 (omega (arith, c.ranges.number)) in
    let same : length (digits c.from.result) ≡ length (digits n) = ap (λ x. length (digits x)) c.from.ensures in
    (w, omega (arith, c.put_text-p.ensures.1, c.put_digits-q.ensures.0.behind, c.put_text-from.ensures.1, c.put_digits-end.ensures.1))
