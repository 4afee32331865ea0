-- `name_text::chosen` meets its contract: the four cases of the choice.
use mathlib.Core.Path.{refl, ap, ◌∙◌}
use Rattle.numbering.specs.declared.NameError.TheVariants.{Refused}
use Rattle.numbering.specs.NameText.{refused}
use Rattle.name_text.proofs.Laws.{chosen_few, chosen_past, chosen_first, chosen_second}
use Rattle.name_text.proofs.chosen.Goals as goal

pub returns-then-m-n : goal.returns-then-m-n
returns-then-m-n c = let n = c.from-n.ensures ∙ c.names_count.ensures in
    let m = c.from-m.ensures ∙ c.names_count-2.ensures in
    λ p q ea er. chosen_few _ c.args.rewriting.now _ _ _ p q _ n m ea er c.if-m-n.true refl

pub returns-then-m-index : goal.returns-then-m-index
returns-then-m-index c = let n = c.from-n.ensures ∙ c.names_count.ensures in
    let m = c.from-m.ensures ∙ c.names_count-2.ensures in
    λ p q ea er. chosen_past _ c.args.rewriting.now _ _ _ p q _ n m ea er c.if-m-n.false
    c.if-m-index.true (ap (λ f. refused (Refused f)) c.fault.ensures)

pub returns-then-index-n : goal.returns-then-index-n
returns-then-index-n c = let n = c.from-n.ensures ∙ c.names_count.ensures in
    let m = c.from-m.ensures ∙ c.names_count-2.ensures in
    λ p q ea er. chosen_first _ c.args.rewriting.now _ _ _ p q _ n m ea er c.if-m-n.false
    c.if-m-index.false c.if-index-n.true c.text_in.ensures

pub returns : goal.returns
returns c = let n = c.from-n.ensures ∙ c.names_count.ensures in
    let m = c.from-m.ensures ∙ c.names_count-2.ensures in
    λ p q ea er. chosen_second _ c.args.rewriting.now _ _ _ p q _ n m ea er c.if-m-n.false
    c.if-m-index.false c.if-index-n.false c.text_in-2.ensures
