-- Document 02, Point 5: what is written of a phi, and the number that its dest gets.
use Prim.Native.Nat.{ℕ, suc}
use mathlib.Core.Path.{◌≡◌, refl, sym, ap, ◌∙◌, subst}
use mathlib.Core.List.{List}
use mathlib.Core.Option.{none, some}
use Rattle.arith.proofs.Map.{upd_same}
use Rattle.record.specs.declared.NameIx.{NameIx}
use Rattle.record.specs.Record.{NameIx-discrete, Instr}
use Rattle.record.proofs.Form.{phi_form}
use Rattle.numbering.specs.State.{vn, ValNum-discrete, State, start, new_number, gen_new_vals}
use Rattle.numbering.specs.Number.{reads, rewrite_instr, handle_overwrite, Emitted, place, by_form, instr_lvn}
use Rattle.numbering.specs.Shared.{behind, NewNumber}
use Rattle.numbering.proofs.Given.{Numbers, start_numbers, gen_numbers, behind_numbers}
use Rattle.numbering.proofs.Overwritten.{overwritten, overwritten_next}

module _ (N : ℕ) (t : NameIx → ℕ) (s : State) (i : Instr) (phi : i.code ≡ 39) where
  -- its arguments numbered
  abbrev seen : State
  seen = gen_new_vals s i.args

  abbrev placed : Emitted
  placed = place N seen (rewrite_instr seen i.args i) none

  phi_placed : instr_lvn N t s i ≡ placed
  unfolding instr_lvn reads by_form
  phi_placed = rw (phi_form t i phi)

  pub phi_kept : (instr_lvn N t s i).instr ≡ rewrite_instr seen i.args i
  unfolding place
  phi_kept = ap (λ (e : Emitted). e.instr) phi_placed

  -- the next number, with dest as its home; it has no value by which another could be found to be the same
  pub phi_new : NewNumber seen.next i.dest (instr_lvn N t s i).state
  unfolding place new_number
  phi_new =
      let j = rewrite_instr seen i.args i in
      let q = handle_overwrite N seen j none in
      let n : q.state.next ≡ seen.next = overwritten_next N seen j q (overwritten N seen j none) in
      let v : vn seen.next ≡ vn q.state.next = ap vn (sym n) in
      subst (NewNumber seen.next i.dest) (sym (ap (λ (e : Emitted). e.state) phi_placed))
      (record {
        number = upd_same NameIx-discrete q.state.env i.dest (some (vn q.state.next)) i.dest refl ∙ ap (λ (k : ℕ). some (vn k)) n;
        home = upd_same ValNum-discrete q.state.locs (vn q.state.next) i.dest (vn seen.next) v;
        value = upd_same ValNum-discrete q.state.vals (vn q.state.next) none (vn seen.next) v;
        next = ap suc n;
      })

-- in a block of which A names are arguments, wherever it stands, it is above the number of every name there
pub phi_above :
    (N : ℕ) (t : NameIx → ℕ) (A k : ℕ) (js : List Instr) (i : Instr) → i.code ≡ 39 →
    let s = behind N t (start A k) js in
    let seen = gen_new_vals s i.args in
    Numbers seen × NewNumber seen.next i.dest (instr_lvn N t s i).state
phi_above N t A k js i phi =
    let s = behind N t (start A k) js in
    (gen_numbers s i.args (behind_numbers N t (start A k) js (start_numbers A k)), phi_new N t s i phi)
