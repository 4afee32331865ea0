-- `engine_quiet::branch` meets its contract.
use mathlib.Core.Path.{refl, sym, ap, ◌∙◌}
use Rattle.std.proofs.Common.{Some}
use Rattle.engine_quiet.proofs.Branching.{branch_lacks, branch_first, branch_second}
use Rattle.engine_quiet.proofs.branch.Goals as goal

pub returns-in-Some-true : goal.returns-in-Some-true
returns-in-Some-true c = let a = c.args in
    let k = c.in-Some-true in
    branch_first a.g.now a.cells.now a.p c.requires.facing c.requires.coded
    _ c.behind_code-row.ensures.place _ c.be.ensures.0 _ (ap Some (sym k.field-0-test) ∙ k.ensures)
    _ (c.from.ensures ∙ c.u16_at.ensures) c.land.ensures

pub returns-in-Some-false : goal.returns-in-Some-false
returns-in-Some-false c = let a = c.args in
    let k = c.in-Some-false in
    branch_second a.g.now a.cells.now a.p c.requires.facing c.requires.coded
    _ c.behind_code-row.ensures.place _ c.be.ensures.0 _ (ap Some (sym k.field-0-test) ∙ k.ensures)
    _ (c.from-in-Some-false.ensures ∙ c.u16_at-in-Some-false.ensures) c.land-in-Some-false.ensures

pub returns-in-None : goal.returns-in-None
returns-in-None c = let a = c.args in
    branch_lacks a.g.now a.cells.now a.p c.requires.facing c.requires.coded
    _ c.behind_code-row.ensures.place _ c.be.ensures.0 _ c.in-None.ensures refl
