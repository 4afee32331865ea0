-- `figures::figures_typed` meets its contract: a table is long enough for the saves of all blocks, and what is noted over it is the answer.
use mathlib.Core.Path.{sym, ◌∙◌}
use native.Mathlib.Omega.{arith}
use Rattle.record.proofs.Again.{few_blocks}
use Rattle.figures.proofs.figures_typed.Goals as goal

pub with_table-requires-clause-few : goal.with_table-requires-clause-few
with_table-requires-clause-few c = omega (arith, c.from.ensures, c.blocks-2.ensures, few_blocks c.requires.0.reads)

pub returns : goal.returns
returns c = let h = c.with_table.ensures.4.1 in
    let e = rw h.0 at h.1.1 in
    (e.0, sym h.1.0 ∙ e.1)

pub with_table-requires-clause-callable : goal.with_table-requires-clause-callable
with_table-requires-clause-callable c = let p = c.requires in
    λ names e many same. (record { typed = p.0; names = rw (c.from.ensures, c.blocks-2.ensures) at many }, rw same p.1)
