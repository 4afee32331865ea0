-- `lvn_blocks::put_lines` meets its contract.
use mathlib.Core.List.{[], ◌∷◌}
use native.Mathlib.Omega.{arith}
use Rattle.record.specs.View.{instr_of}
use Rattle.lvn_state.specs.View.{saves_of}
use Rattle.lvn_blocks.proofs.Lines.{body_one, body_then}
use Rattle.lvn_blocks.proofs.put_lines.Goals as goal

pub returns : goal.returns
returns c = let e = c.args.e.now in
    let i = instr_of e.instr in
    let p = c.put_save-p.ensures in
    let q = c.put_instr.ensures in
    (body_then c.args.w (saves_of e.made i) (i ∷ []) p.0 (body_one c.args.w i q.0), omega (arith, p.1, q.1))
