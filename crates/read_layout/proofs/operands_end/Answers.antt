-- `read_layout::operands_end` meets its contract: what the tables say of the code.
use native.Mathlib.Omega.{arith}
use Rattle.read_layout.proofs.Follows.{follows}
use Rattle.read_layout.proofs.operands_end.Goals as goal

pub returns : goal.returns
returns c =
    let e = follows _ _ _ _ _ _ _ _ c.min-i.ensures c.from.ensures c.byte_or-n.ensures.0 c.from-2.ensures c.from-3.ensures c.byte_or-n.ensures.1 in
    (e.0, omega (arith, e.1))
