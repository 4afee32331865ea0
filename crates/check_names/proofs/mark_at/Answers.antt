-- `check_names::mark_at` meets its contract: a text that is cut off is not asked for.
use native.Mathlib.Omega.{arith}
use Rattle.record.specs.Decode.{name_end}
use Rattle.check_names.proofs.mark_at.Goals as goal

pub returns-then-left-lt2 : goal.returns-then-left-lt2
unfolding name_end
returns-then-left-lt2 c = (omega arith, λ f. absurd (omega (arith, f, c.left.ensures, c.if-left-lt2.true)))

pub returns-then-left-n : goal.returns-then-left-n
unfolding name_end
returns-then-left-n c = (omega arith, λ f. absurd (omega (arith, f, c.left-2.ensures, c.if-left-n.true, c.from-n.ensures, c.u8_at.ensures)))

pub text_of-requires : goal.text_of-requires
unfolding name_end
text_of-requires c =
    omega (arith, c.left.ensures, c.if-left-lt2.false, c.left-2.ensures, c.if-left-n.false, c.from-n.ensures, c.u8_at.ensures)
