-- `check_texts::all_text` meets its contract: each byte is tested.
use mathlib.Core.Path.{◌∙◌}
use mathlib.Core.Bool.{◌||◌}
use borrow.Author.Rules.{rules}
use borrow.Author.Tests.{tests}
use Rattle.std.proofs.lemmas.Iterator.{YieldsList-from_slice}
use Rattle.std.proofs.lemmas.Iterator.Search.{all_from_yields_List}
use Rattle.record.specs.Text.{digit, letter}
use Rattle.check_texts.proofs.Laws.{all_is}
use Rattle.check_texts.proofs.all_text.Goals as goal

pub returns : goal.returns
returns c =
    all_from_yields_List (λ b. letter b || digit b) _ _ _ c.all.ensures.ran (YieldsList-from_slice c.args.text.now cc) (λ x b q k. search (rules, tests))
    ∙ all_is _
