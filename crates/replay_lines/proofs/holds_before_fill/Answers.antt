-- `replay_lines::holds_before_fill`: as its two parts answer.
use Rattle.std.proofs.Common.{length, sym, ap, ◌∙◌}
use Rattle.std.specs.List.{list_all}
use Rattle.std.proofs.lemmas.List.{take_rest}
use Rattle.replay_lines.proofs.holds_before_fill.Goals as goal

pub returns-then-starts_with : goal.returns-then-starts_with
returns-then-starts_with g c =
    let rest = take_rest c.args.all.now (length c.args.first.now) in
    rw (sym c.starts_with.ensures.value ∙ c.if-starts_with.true)
    (c.are_filled.ensures ∙ ap (list_all (λ x. g.T.PartialEq.eq x c.args.fill)) rest)

pub returns-else-starts_with : goal.returns-else-starts_with
returns-else-starts_with g c = rw (sym c.starts_with.ensures.value ∙ c.if-starts_with.false) c.if-starts_with.false
