-- `check_names::text_test` meets its contract: its three tests, in the definition's order.
use mathlib.Core.Path.{◌≡◌, sym, ap, ◌∙◌}
use mathlib.Core.Bool.{not, ◌&&◌, ◌||◌, and_assoc}
use Rattle.record.specs.Text.{well_formed, reserved, among}
use Rattle.record.specs.Tests.{need, text_test}
use Rattle.record.specs.declared.Refusal.TheVariants.{Text}
use Rattle.record.proofs.Following.{and_settled, and_other}
use Rattle.read_layout.specs.Layout.{texts_from}
use Rattle.check_names.proofs.text_test.Goals as goal
use Rattle.check_names.proofs.text_test.Goals.{then-well_formed, else-well_formed, then-stands, else-stands}

pub returns : goal.returns
unfolding text_test
returns c = let a = c.args in
    let formed = c.well_formed-2.ensures in
    let allowed = a.lim.made || not (reserved a.text.now) in
    let new = not (among a.text.now (texts_from a.s.now a.before.from a.before.count)) in
    let stands : c.if-well_formed.stands ≡ (well_formed a.text.now && allowed) =
    elim c.if-well_formed.branch [
      | then-well_formed w ↦ and_other _ allowed _ (sym formed ∙ w.if-well_formed.true) (w.stands-is ∙ w.may_stand-stands.ensures)
      | else-well_formed w ↦ and_settled _ allowed _ (sym formed ∙ w.if-well_formed.false) (w.stands-is ∙ formed)
    ] in
    let all : c.if-stands.need ≡ ((well_formed a.text.now && allowed) && new) =
    elim c.if-stands.branch [
      | then-stands w ↦ and_other _ new _ (sym stands ∙ w.if-stands.true) (w.need-is ∙ ap not w.used_in.ensures)
      | else-stands w ↦ and_settled _ new _ (sym stands ∙ w.if-stands.false) (w.need-is ∙ stands)
    ] in
    c.need.ensures ∙ ap (λ b. need b Text) (all ∙ and_assoc (well_formed a.text.now) allowed new)
