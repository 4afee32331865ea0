-- The form of an instruction by its operation, and the arguments that it reads.
use Prim.Native.Nat.{ℕ, zero, suc, ◌<◌}
use mathlib.Core.Path.{◌≡◌, refl, sym, ap, ◌∙◌}
use mathlib.Core.List.{List, [], ◌∷◌, map}
use native.Mathlib.Omega.{arith}
use lib.ListN.{length, get_or}
use Rattle.arith.specs.declared.One.{One}
use Rattle.arith.specs.declared.Two.{Two}
use Rattle.record.specs.declared.NameIx.{NameIx}
use Rattle.record.specs.declared.Op.{Op}
use Rattle.record.specs.declared.Op.TheVariants as ops
use Rattle.record.specs.declared.Instruction.{Instruction}
use Rattle.record.specs.Record.{nm, arg}
use Rattle.record.specs.Form.{form}
use Rattle.record.specs.View.{row_of, instr_of}
use Rattle.numbering.specs.Number.{reads}
use Rattle.codes.specs.Op.{form_as}
use Rattle.codes.proofs.Op.{form_op}
use Rattle.lvn_state.specs.View.{names_in}
use Rattle.lvn_instr.specs.View.{Ready}

-- ---- arguments
arg_at :
    (k n : ℕ) (l : List ℕ) → k < length (names_in n l) → get_or (names_in n l) k (nm 0) ≡ nm (get_or l k 0)
arg_at k zero l h = absurd (omega arith)
arg_at k (suc n) [] h = absurd (omega arith)
arg_at zero (suc n) (x ∷ l) h = refl
arg_at (suc k) (suc n) (x ∷ l) h = arg_at k n l (omega arith)

module _ (i : Instruction) (ready : Ready i) where
  pub instr_form : (t : NameIx → ℕ) (o : Op) → i.op ≡ o → form t (instr_of i) ≡ form_as o t (instr_of i)
  unfolding instr_of
  instr_form t o e = form_op t (instr_of i) ∙ ap (λ (p : Op). form_as p t (instr_of i)) (ready.coded ∙ e)

  abbrev untyped : NameIx → ℕ
  untyped x = 0

  op_reads : (o : Op) → i.op ≡ o → reads (form_as o untyped (instr_of i)) ≡ map nm (row_of i.args)
  unfolding instr_of
  op_reads o e = sym (ap reads (instr_form untyped o e)) ∙ ready.reading untyped

  pub one_arg : (o : One) → i.op ≡ ops.One o → arg (instr_of i) 0 ≡ nm (get_or i.args.items 0 0)
  unfolding instr_of reads
  one_arg o e =
      let l : 1 ≡ length (map nm (row_of i.args)) = ap length (op_reads (ops.One o) e) in
      arg_at 0 i.args.count i.args.items (omega arith)

  pub two_args :
      (o : Two) → i.op ≡ ops.Two o →
      (arg (instr_of i) 0 ≡ nm (get_or i.args.items 0 0)) × (arg (instr_of i) 1 ≡ nm (get_or i.args.items 1 0))
  unfolding instr_of reads
  two_args o e =
      let l : 2 ≡ length (map nm (row_of i.args)) = ap length (op_reads (ops.Two o) e) in
      (arg_at 0 i.args.count i.args.items (omega arith), arg_at 1 i.args.count i.args.items (omega arith))
