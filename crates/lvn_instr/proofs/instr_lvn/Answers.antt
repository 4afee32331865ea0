-- `lvn_instr::instr_lvn` meets its contract.
use Prim.Native.Nat.{ℕ, ◌<◌}
use mathlib.Core.List.{map}
use mathlib.Core.Path.{◌≡◌, refl, sym, ap, ◌∙◌, subst}
use native.Mathlib.Omega.{arith}
use Rattle.record.specs.Record.{nm, Instr, type_in}
use Rattle.record.specs.View.{row_of, instr_of}
use Rattle.record.specs.declared.NameIx.{NameIx}
use Rattle.numbering.specs.View.{expr_of}
use Rattle.lvn_state.specs.View.{state_of}
use Rattle.lvn_instr.specs.View.{by_op}
use Rattle.lvn_instr.proofs.Placed.{seen_next, seen_temps, instr_by_op}
use Rattle.lvn_instr.proofs.instr_lvn.Goals as goal

pub gen_new_vals-requires : goal.gen_new_vals-requires
unfolding instr_of
gen_new_vals-requires _ c = let p = c.requires in (omega arith, (rw c.as_slice.ensures.0 p.1.0.low, (p.1.1.0, omega (arith, p.1.1.0, p.1.1.1.1.numbers))))

pub emit-requires : goal.emit-requires
unfolding instr_of
emit-requires g c = let p = c.requires in
    let a = c.args in
    let h = c.gen_new_vals in
    let r = c.rewrite_instr-j in
    let s = state_of a.st.now in
    let t = state_of h.new.self in
    let xs = map nm (row_of a.i.args) in
    let e = rw c.as_slice.ensures.0 at h.ensures in
    let m : h.new.self.made ≡ a.st.now.made = seen_temps s xs t e in
    let d : r.result.dest ≡ a.i.dest = ap (λ (z : Instr). z.dest) (r.ensures.0 t refl refl) in (
      omega arith,
      record {
        dest = subst (λ (x : NameIx). x.0 < g.row.M) (sym d) p.1.0.dest;
        number = seen_next g.row.M g.row.N s xs t e p.1.0.low p.1.1.0;
        made = omega (arith, m, p.1.1.1.0);
        maps = p.1.1.1.1;
        operand = c.make_val-v.ensures.1;
      },
    )

pub returns : goal.returns
unfolding instr_of
returns _ c = let a = c.args in
    let types = type_in a.types.now in
    let h = c.gen_new_vals in
    let v = c.make_val-v in
    let r = c.rewrite_instr-j in
    let t = state_of h.new.self in
    c.emit.ensures ∙ ap (λ o. by_op a.n t (instr_of r.result) o (expr_of v.result)) r.ensures.1.1 ∙
    instr_by_op a.n types (state_of a.st.now) a.i c.requires.0 t (instr_of r.result) (expr_of v.result)
    (rw c.as_slice.ensures.0 at h.ensures) (r.ensures.0 t refl refl) (v.ensures.0 t types (refl, refl)
    (ap (λ (k : ℕ). types (nm k)) (sym c.from.ensures) ∙ sym c.type_of-t.ensures))
