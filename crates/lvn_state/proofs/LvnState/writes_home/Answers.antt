-- `lvn_state::LvnState::writes_home` meets its contract: only an id can be `x = id x`.
use borrow.Author.Rules.{rules}
use borrow.Enum.Refused.{opened}
use mathlib.Core.Bool.{true, false}
use mathlib.Core.Path.{◌≡◌, ap, ◌∙◌}
use lib.Dec.{eqb}
use Rattle.arith.specs.declared.One.TheVariants.{Not, Id}
use Rattle.record.specs.declared.NameIx.{NameIx}
use Rattle.lvn_state.specs.View.{locs_of, itself}
use Rattle.lvn_state.proofs.Itself.{not_itself}
use Rattle.lvn_state.proofs.LvnState.writes_home.Goals as goal

pub returns-in-One-Id-default : goal.returns-in-One-Id-default
unfolding itself
returns-in-One-Id-default _ c = let p = c.in-One-Id-default in
    let e : p.field-0 ≡ Id = search rules in
    let h : true ≡ eqb c.home.result.0 c.args.dest.0 = search rules in
    rw (p.is, e) (h ∙ ap (λ (x : NameIx). eqb x.0 c.args.dest.0) c.home.ensures)

pub returns-in_default : goal.returns-in_default
unfolding itself
returns-in_default _ c = let p = c.in-One-Id-default in
    let e : p.field-0 ≡ Id = search rules in
    let h : false ≡ eqb c.home.result.0 c.args.dest.0 = search rules in
    rw (p.is, e) (h ∙ ap (λ (x : NameIx). eqb x.0 c.args.dest.0) c.home.ensures)

pub returns-in_default-2 : goal.returns-in_default-2
unfolding itself
returns-in_default-2 _ c = let e : c.in_default.field-0 ≡ Not = search rules in
    rw (c.in_default.is, e)

pub returns-in_default-3 : goal.returns-in_default-3
unfolding itself
returns-in_default-3 _ c = let a = c.args in not_itself (locs_of a.self.now.homes) a.dest a.v (opened c.in_default.in_default-own.keys2)
