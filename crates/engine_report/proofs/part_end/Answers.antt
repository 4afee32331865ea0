-- `engine_report::part_end` meets its contract: cut off by the end, or whole.
use mathlib.Core.Path.{refl}
use native.Mathlib.Omega.{arith}
use Rattle.engine_report.proofs.Shown.{part_cut, part_whole}
use Rattle.engine_report.proofs.part_end.Goals as goal

pub returns-then-left-n : goal.returns-then-left-n
returns-then-left-n c = (part_cut _ _ _ _ refl c.be.ensures.0 (omega (arith, c.if-left-n.true, c.left.ensures)), (omega arith, omega arith))

pub returns : goal.returns
returns c = (
  part_whole _ _ _ _ refl c.be.ensures.0 (omega (arith, c.if-left-n.false, c.left.ensures)),
  (omega arith, omega (arith, c.if-left-n.false, c.left.ensures)),
)
