-- `write_bytes::put_made_text` meets its contract: its parts, one behind the other.
use Prim.Native.Nat.{◌≤◌}
use native.Mathlib.Omega.{arith}
use lib.ListN.{length}
use Rattle.numbering.specs.Made.{digits}
use Rattle.numbering.proofs.Digits.{digits_few}
use Rattle.write_bytes.proofs.Stand.{stand_wrote}
use Rattle.write_bytes.proofs.Made.{text_wrote}
use Rattle.write_bytes.proofs.put_made_text.Goals as goal

pub returns : goal.returns
returns c = let a = c.args in
    let t = a.text.now in
    let d = stand_wrote (digits a.k) c.put_digits.ensures.0 in
    let few : length (digits a.k) ≤ 10 = digits_few a.k 9 (omega arith) in (
      text_wrote t a.k c.put_u8.ensures c.put_text-p.ensures.0 c.put_text-q.ensures.0 d,
      omega (arith, d.end, c.put_text-p.ensures.1, c.put_text-q.ensures.1),
    )
