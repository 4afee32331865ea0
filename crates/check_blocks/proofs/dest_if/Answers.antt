-- `check_blocks::dest_if` meets its contract: by whether the shape has one.
use mathlib.Core.Path.{◌≡◌, sym, ◌∙◌}
use borrow.Author.Rules.{rules}
use mathlib.Core.Bool.{true}
use Rattle.record.specs.Reader.{field}
use Rattle.record.specs.Tests.{below}
use Rattle.record.specs.Answer.{verdict}
use Rattle.record.proofs.Following.{index_verdict}
use Rattle.check_blocks.proofs.Laws.{part_is}
use Rattle.check_blocks.proofs.dest_if.Goals as goal

pub returns : goal.returns
returns c = let a = c.args in
    let there : a.there ≡ true → c.if_there.result ≡ verdict (field 2 (below a.n) a.s.now a.at) = λ e. search rules in
    part_is _ _ _ _ _ _ (λ e. there e ∙ sym (index_verdict _ _ _)) c.if_there.ensures.no
