-- `lvn_instr::emit` meets its contract.
use mathlib.Core.Path.{sym, ◌∙◌}
use mathlib.Core.Bool.{false}
use Rattle.record.specs.View.{instr_of}
use Rattle.numbering.specs.View.{expr_of}
use Rattle.lvn_state.specs.View.{state_of}
use Rattle.lvn_instr.proofs.Placed.{by_dest}
use Rattle.lvn_instr.proofs.emit.Goals as goal

pub returns-else-has_dest : goal.returns-else-has_dest
returns-else-has_dest _ c = let a = c.args in
    let s = state_of a.st.now in
    c.unchanged.ensures s ∙ by_dest a.n s (instr_of a.i.now) a.i.now.op (expr_of a.v) false (sym c.if-has_dest.ensures)
