-- Instructions of an accepted record, read again, are ones that numbering takes: their names have room, they read their arguments,
-- and their operations are of the codes that they have.
use Prim.Native.Nat.{ℕ, ◌+◌, ◌<◌, ◌≤◌}
use mathlib.Core.Path.{◌≡◌, sym, ap, ◌∙◌, subst}
use mathlib.Core.List.{List, [], ◌∷◌}
use mathlib.Core.Bool.{Bool, true, false}
use native.Mathlib.Omega.{arith}
use Rattle.record.specs.declared.NameIx.{NameIx}
use Rattle.record.specs.Record.{nm, Instr}
use Rattle.record.specs.Shape.{shape_of}
use Rattle.record.specs.Form.{form}
use Rattle.record.specs.Reader.{num_at}
use Rattle.record.specs.View.{code_of, instr_of}
use Rattle.record.specs.Good.{There, Each, IndexOk, InstrOk}
use Rattle.record.specs.Decode.{instr_from}
use Rattle.record.proofs.Tests.{below_lt}
use Rattle.numbering.specs.Number.{reads}
use Rattle.numbering.proofs.Codes.{reads_args, reads_below}
use Rattle.codes.specs.Op.{op_of}
use Rattle.codes.proofs.Op.{op_code}
use Rattle.read_instrs.specs.declared.Read.{Read}
use Rattle.read_instrs.specs.Again.{ReadAgain}
use Rattle.lvn_state.specs.Room.{Low}
use Rattle.lvn_instr.specs.View.{Ready, Named}

-- ---- names
module _ (N m : ℕ) (room : N ≤ m) where
  low_below : (xs : List NameIx) → Each (λ left x. x.0 < N) xs → Low m xs
  low_below [] e = tt
  low_below (x ∷ xs) e = (let l : x.0 < N = e.0 in omega arith, low_below xs e.1)

  dest_low : (b : Bool) (x : NameIx) → 0 < m → There b (IndexOk N) (nm 0) x → x.0 < m
  dest_low true x some e = let l : x.0 < N = below_lt N x.0 e in omega arith
  dest_low false x some e = let z : x.0 ≡ 0 = ap (λ (y : NameIx). y.0) e in omega arith

module _ {N B left m : ℕ} (i : Instr) (h : InstrOk N B left i) (room : N ≤ m) where
  pub reads_low : (t : NameIx → ℕ) → Low m (reads (form t i))
  reads_low t = low_below N m room (reads (form t i)) (reads_below N B left t i h)

  instr_named : 0 < m → Named m i
  instr_named some =
      record {
        low = subst (Low m) (reads_args N B left (λ x. 0) i h) (reads_low (λ x. 0));
        dest = dest_low N m room (shape_of i.code).dest i.dest some h.rest.dest;
      }

-- ---- an instruction read again
module _
    {w N B left : ℕ} {s : List ℕ} {at : ℕ} {r : Read} (h : InstrOk N B left (instr_from w s at)) (a : ReadAgain w s at r)
  where
    pub ready : Ready r.instr
    ready =
        record {
          coded = ap op_of (ap code_of a.op ∙ op_code (num_at s (at + w) 1)) ∙ sym a.op;
          reading = subst (λ (j : Instr). (t : NameIx → ℕ) → reads (form t j) ≡ j.args) (sym a.instr)
              (λ t. reads_args N B left t (instr_from w s at) h);
        }

    pub named : {m : ℕ} → N ≤ m → 0 < m → Named m (instr_of r.instr)
    named {m} room some = subst (Named m) (sym a.instr) (instr_named (instr_from w s at) h room some)
