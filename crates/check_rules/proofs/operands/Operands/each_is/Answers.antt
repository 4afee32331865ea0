-- `check_rules::operands::Operands::each_is` meets its contract: each type is tested.
use Prim.Native.Nat.{◌+◌, ◌*◌}
use mathlib.Core.Path.{ap, ◌∙◌}
use mathlib.Core.List.{map}
use native.Mathlib.Omega.{arith}
use borrow.Author.Rules.{rules}
use borrow.Author.Tests.{tests}
use lib.Dec.{eqb}
use Rattle.std.proofs.lemmas.Iterator.{YieldsList-from_range}
use Rattle.std.proofs.lemmas.Iterator.Search.{all_from_yields_List}
use Rattle.record.specs.Record.{type_in}
use Rattle.record.specs.Typing.{each_is}
use Rattle.record.specs.Decode.{items, two_on, index_from}
use Rattle.check_rules.proofs.Laws.{each_all}
use Rattle.check_rules.proofs.operands.Operands.each_is.Goals as goal

pub returns : goal.returns
returns c = let a = c.args in
    let f = type_in a.self.now.types.now in
    let one = index_from a.self.now.bytes.now in
    all_from_yields_List (λ k. eqb (f (one (a.at + 2 * k))) a.t) _ _ _ c.all.ensures.ran (YieldsList-from_range 0 a.n a.n (search rules) (omega arith)) (λ x b q k. search (rules, tests))
    ∙ each_all f one a.t a.at 0 a.n ∙ ap (λ p. each_is a.t (map f (items one two_on p a.n))) (omega arith)
