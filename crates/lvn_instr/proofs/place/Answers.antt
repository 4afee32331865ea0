-- `lvn_instr::place` meets its contract.
use mathlib.Core.Path.{◌≡◌, refl, ap, ◌∙◌}
use native.Mathlib.Omega.{arith}
use Rattle.record.specs.View.{instr_of}
use Rattle.numbering.specs.Number.{Saved}
use Rattle.numbering.specs.View.{expr_of}
use Rattle.lvn_state.specs.View.{state_of, saved_of}
use Rattle.lvn_values.specs.Table.{numbered_of}
use Rattle.lvn_instr.proofs.Placed.{placed, id_there, overwrite_next}
use Rattle.lvn_instr.proofs.place.Goals as goal

pub number_dest-number-requires : goal.number_dest-number-requires
unfolding instr_of
number_dest-number-requires _ c = let a = c.args in
    let p = c.requires in
    let i = instr_of a.i.now in
    let e = expr_of a.v in
    let q = c.handle_overwrite-made in
    let n : q.new.self.values.count ≡ a.st.now.values.count =
    ap (λ (z : Saved). z.state.next) (q.ensures i refl) ∙ overwrite_next a.n (state_of a.st.now) i e in
    (omega arith, (p.dest, (omega (arith, n, p.number), (omega (arith, n, p.number, p.maps.numbers), id_there e p.operand))))

pub returns : goal.returns
unfolding instr_of
returns _ c = let a = c.args in
    let i = instr_of a.i.now in
    let q = c.handle_overwrite-made in
    let w = c.val_to_instr-w in
    let d = c.number_dest-number in
    placed a.n (state_of a.st.now) i (expr_of a.v) (saved_of q.new.self q.result i) (state_of d.new.self)
    (instr_of w.result) (instr_of c.choose.result) q.result (numbered_of d.result)
    (q.ensures i refl) (w.ensures (state_of a.st.now) refl) d.ensures.0 d.ensures.1 (c.choose.ensures (state_of d.new.self) refl refl)
