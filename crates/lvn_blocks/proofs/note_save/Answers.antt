-- `lvn_blocks::note_save` meets its contract.
use Prim.Native.Nat.{ℕ}
use mathlib.Core.Path.{sym, ap, ◌∙◌}
use lib.ListN.{set}
use Rattle.record.specs.View.{instr_of}
use Rattle.lvn_blocks.proofs.Lines.{noted_one, noted_none}
use Rattle.lvn_blocks.proofs.note_save.Goals as goal

pub returns-then-is_some : goal.returns-then-is_some
unfolding instr_of
returns-then-is_some c = let e = c.args.e.now in
    let l = c.args.names.now in
    c.store.ensures ∙ ap (λ (i : ℕ). set l i e.instr.dest.0) c.from.ensures ∙
    noted_one l c.args.k (instr_of e.instr) e.made (sym c.if-is_some.ensures)

pub returns-else-is_some : goal.returns-else-is_some
returns-else-is_some c = let e = c.args.e.now in noted_none c.args.names.now c.args.k (instr_of e.instr) e.made (sym c.if-is_some.ensures)
