-- `replay_lines::Cursor::number`: a digit more.
use Rattle.std.proofs.Common.{◌≡◌, true, ap, sym, ◌∙◌, arith}
use Rattle.std.specs.Char.{is_ascii_digit}
use Rattle.replay_lines.proofs.Decimal.{value_more, behind_more, behind, value_after}
use Rattle.replay_lines.proofs.Cursor.number.Goals as goal

pub loop-c-preserved : goal.loop-c-preserved
loop-c-preserved c =
    let x = c.in-Some.c.now in
    let t = c.in-Some.rest.now in
    let split = sym c.in-Some.ensures.cases.0 in
    let digit : is_ascii_digit x ≡ true = sym c.is_ascii_digit.ensures.value ∙ c.if-not-is_ascii_digit.false in (
      value_more c.loop-c.value _ x t digit (omega (arith, c.from.ensures)) ∙ ap (value_after c.loop-c.value) split ∙ c.loop-c.invariant.0,
      behind_more x t digit ∙ ap behind split ∙ c.loop-c.invariant.1,
    )
