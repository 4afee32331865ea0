-- `lvn_values::Values::find` meets its contract: the search from here on gives the whole answer.
use mathlib.Core.Bool.{◌&&◌}
use mathlib.Core.Path.{sym, ap, ◌∙◌}
use lib.Dec.{eqb}
use Rattle.lvn_values.specs.declared.Entry.{Entry}
use Rattle.lvn_values.proofs.Search.{search_none, here_it_is, not_here}
use Rattle.lvn_values.proofs.Values.find.Goals as goal

pub returns-then-eq : goal.returns-then-eq
returns-then-eq _ c = λ x h.
    let s = c.args.self.now in
    let e = c.args.e in
    let t = sym (ap (λ (y : Entry). eqb y.head e.head && eqb y.num e.num) c.entry.ensures) ∙ sym c.eq.ensures ∙ c.if-eq.true in
    here_it_is s.heads s.nums e.head e.num s.count c.loop-i.i x h c.loop-i-test.true t ∙ c.loop-i.invariant x h

pub loop-i-preserved : goal.loop-i-preserved
loop-i-preserved _ c = λ x h.
    let s = c.args.self.now in
    let e = c.args.e in
    let t = sym (ap (λ (y : Entry). eqb y.head e.head && eqb y.num e.num) c.entry.ensures) ∙ sym c.eq.ensures ∙ c.if-eq.false in
    not_here s.heads s.nums e.head e.num s.count c.loop-i.i x h c.loop-i-test.true t ∙ c.loop-i.invariant x h

pub returns : goal.returns
returns _ c = λ x h.
    let s = c.args.self.now in
    let e = c.args.e in
    search_none s.heads s.nums e.head e.num s.count c.loop-i.i x h c.loop-i-test.false ∙ c.loop-i.invariant x h
