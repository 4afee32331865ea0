-- `lvn_state::LvnState::handle_overwrite` meets its contract.
use mathlib.Core.Path.{◌≡◌, sym, ap, ◌∙◌}
use native.Mathlib.Omega.{arith}
use borrow.Author.Rules.{rules}
use borrow.Author.Tests.{eqb-true, eqb-false}
use lib.Dec.{eqb}
use lib.ListN.{length}
use mathlib.Core.Bool.{true, false}
use mathlib.Core.Logic.{◌≢◌}
use Rattle.record.specs.declared.NameIx.{NameIx}
use Rattle.record.specs.Record.{nm}
use Rattle.numbering.specs.View.{expr_of}
use Rattle.lvn_values.specs.Table.{numbered_of}
use Rattle.lvn_state.specs.View.{locs_of}
use Rattle.lvn_state.proofs.Saves.{kept_itself, kept_unnumbered, kept_away, save_made}
use Rattle.lvn_state.proofs.Views.{home_inside}
use Rattle.lvn_state.proofs.LvnState.handle_overwrite.Goals as goal

pub returns-then-writes_home : goal.returns-then-writes_home
returns-then-writes_home g c = let s = c.args.self.now in
    let v = s.values in
    kept_itself s.env s.homes v.heads v.nums v.count s.made c.args.n c.args.dest (expr_of c.args.v) (sym c.if-writes_home.ensures)

pub returns-in_err-num : goal.returns-in_err-num
returns-in_err-num g c = let s = c.args.self.now in
    let v = s.values in
    rw c.from_residual.ensures
    (kept_unnumbered s.env s.homes v.heads v.nums v.count s.made c.args.n c.args.dest (expr_of c.args.v)
    (sym c.if-writes_home.ensures) (sym c.number.ensures.0 ∙ ap numbered_of c.in_err-num.was))

pub returns-then-ne : goal.returns-then-ne
returns-then-ne g c = let s = c.args.self.now in
    let v = s.values in
    let d = c.args.dest in
    let u = c.in_ok-num.num in
    let e : eqb c.home.result.0 d.0 ≡ false = search rules in
    let away : locs_of s.homes u ≢ d = λ p. eqb-false _ _ e (ap (λ (y : NameIx). y.0) (c.home.ensures ∙ p)) in
    kept_away s.env s.homes v.heads v.nums v.count s.made c.args.n d (expr_of c.args.v) (sym c.if-writes_home.ensures)
    u (sym c.number.ensures.0 ∙ ap numbered_of c.in_ok-num.was) away

pub bounds-self-from : goal.bounds-self-from
bounds-self-from g c = let s = c.args.self.now in
    let d = c.args.dest in
    let k : length s.homes ≡ g.row.N = search rules in
    let e : eqb c.home.result.0 d.0 ≡ true = search rules in
    let at : locs_of s.homes c.in_ok-num.num ≡ d = sym c.home.ensures ∙ (λ i. nm (eqb-true _ _ e i)) in
    let l = home_inside s.homes c.in_ok-num.num d at (omega (arith, c.requires.0, c.requires.1.1.names)) in
    omega (arith, c.from.ensures, l, k)

pub returns : goal.returns
returns g c = let s = c.args.self.now in
    let v = s.values in
    let d = c.args.dest in
    let u = c.in_ok-num.num in
    let e : eqb c.home.result.0 d.0 ≡ true = search rules in
    let at : locs_of s.homes u ≡ d = sym c.home.ensures ∙ (λ i. nm (eqb-true _ _ e i)) in
    let l = home_inside s.homes u d at (omega (arith, c.requires.0, c.requires.1.1.names)) in
    rw c.from.ensures
    (save_made s.env s.homes v.heads v.nums v.count s.made c.args.n d (expr_of c.args.v) (sym c.if-writes_home.ensures)
    u (sym c.number.ensures.0 ∙ ap numbered_of c.in_ok-num.was) at l)
