-- `lvn_values::Entry::of` meets its contract: what stands there for each form is read as the value.
use Prim.Native.Nat.{ℕ}
use mathlib.Core.Path.{ap, ◌∙◌}
use Rattle.lvn_values.specs.declared.Entry.{Entry}
use Rattle.lvn_values.specs.Table.{packed, expr_at}
use Rattle.lvn_values.proofs.Entries.{two_entry, one_entry, constant_read, no_entry}
use Rattle.lvn_values.proofs.Entry.of.Goals as goal

pub returns-in-Unique : goal.returns-in-Unique
returns-in-Unique c = rw c.in-Unique.is (no_entry 0)

pub returns-in-Constant : goal.returns-in-Constant
returns-in-Constant c = rw c.in-Constant.is (ap (λ (e : Entry). expr_at e.head e.num) c.constant.ensures ∙ constant_read c.in-Constant.c)

pub returns-in-One : goal.returns-in-One
returns-in-One c = let p = c.operation.ensures in
    let a = c.in-One.a in
    rw c.in-One.is
    (ap (λ (e : Entry). expr_at e.head e.num) p.0 ∙
    ap (λ (k : ℕ). expr_at (packed k a.0 0) 0) c.from.ensures ∙ one_entry c.in-One.o a p.1.0)

pub returns-in-Two : goal.returns-in-Two
returns-in-Two c = let p = c.operation-in-Two.ensures in
    let a = c.in-Two.a in
    let b = c.in-Two.b in
    rw c.in-Two.is
    (ap (λ (e : Entry). expr_at e.head e.num) p.0 ∙
    ap (λ (k : ℕ). expr_at (packed k a.0 b.0) 0) c.from-in-Two.ensures ∙ two_entry c.in-Two.o a b p.1.0 p.1.1)
