-- The instructions without an event by their operation: the form of each, the values in it by their places, and where the next stands.
use Prim.Native.Nat.{ℕ, ◌+◌, ◌*◌, ◌<◌, ◌≤◌}
use mathlib.Core.Path.{◌≡◌, refl, sym, ap, ◌∙◌}
use mathlib.Core.List.{List}
use mathlib.Core.Bool.{Bool, true, false, cond}
use native.Mathlib.Omega.{arith}
use lib.ListN.{get_or}
use Rattle.arith.specs.declared.One.{One}
use Rattle.arith.specs.declared.Two.{Two}
use Rattle.arith.specs.Operation.{constant, one, two}
use Rattle.record.specs.declared.NameIx.{NameIx}
use Rattle.record.specs.declared.Op.{Op}
use Rattle.record.specs.declared.Op.TheVariants as op
use Rattle.record.specs.declared.Shape.{Shape}
use Rattle.record.specs.Record.{Lit, Instr, arg}
use Rattle.record.specs.Shape.{const, value, effect, terminator, targets, shape_of}
use Rattle.record.specs.Reader.{num_at}
use Rattle.record.specs.Decode.{index_from, instr_from, instr_end}
use Rattle.record.specs.Form.{pure, nop, jump, branch, value_of, form}
use Rattle.record.specs.View.{code_of}
use Rattle.record.specs.Again.{Passes}
use Rattle.record.proofs.Form.{one_shape, two_shape}
use Rattle.codes.specs.Op.{op_of, form_as}
use Rattle.codes.proofs.Op.{op_from, form_op}
use Rattle.engine_quiet.proofs.Operands.{count_place, count_there, row_end, callee_end, code_is, dest_is, lit_is, lit_ends, arg_is, block_is, ends_at, dest_below, kind_most, count_least, count_greatest}
use Rattle.engine_quiet.proofs.Operands as shape

-- ---- the instruction at a place, of a record of N names that it passes
module _ (w : ℕ) (s : List ℕ) (at N : ℕ) (ok : Passes N (instr_from w s at)) where
  abbrev here : Instr
  here = instr_from w s at

  abbrev code : ℕ
  code = shape.code_of w s at

  abbrev behind_code : ℕ
  behind_code = at + w + 1

  -- its form by its operation; t: the type of each name
  formed : (o : Op) → o ≡ op_of code → (t : NameIx → ℕ) → form t here ≡ form_as o t here
  formed o e t =
      form_op t here ∙ ap (λ (c : ℕ). form_as (op_of c) t here) (code_is w s at) ∙
      sym (ap (λ (q : Op). form_as q t here) e)

  -- const
  module _ (e : op.Const ≡ op_of code) where
    const_shape : shape_of code ≡ const
    unfolding code_of shape_of
    const_shape = ap shape_of (op_from code op.Const e)

    const_dest : (shape_of code).dest ≡ true
    const_dest = ap (λ (sh : Shape). sh.dest) const_shape

    const_literal : (shape_of code).literal ≡ true
    const_literal = ap (λ (sh : Shape). sh.literal) const_shape

    pub const_is : here.dest ≡ index_from s behind_code
    const_is = dest_is w s at const_dest

    pub const_form :
        (t : NameIx → ℕ) →
        form t here ≡
        pure (constant (value_of (t (index_from s behind_code)) (num_at s (behind_code + 2) 1) (num_at s (behind_code + 3) 8)))
    const_form t =
        let three : behind_code + 2 + 1 ≡ behind_code + 3 = omega arith in
        formed op.Const e t ∙
        ap (λ (d : NameIx). pure (constant (value_of (t d) here.lit.kind here.lit.bits))) const_is ∙
        ap (λ (l : Lit). pure (constant (value_of (t (index_from s behind_code)) l.kind l.bits))) (lit_is w s at const_dest const_literal) ∙
        ap (λ (q : ℕ). pure (constant (value_of (t (index_from s behind_code)) (num_at s (behind_code + 2) 1) (num_at s q 8)))) three

    pub const_end : instr_end w s at ≡ behind_code + 11
    const_end =
        lit_ends w s at const_dest const_literal (ap (λ (sh : Shape). sh.callee) const_shape)
        (ap (λ (sh : Shape). targets sh 0) const_shape)

    pub const_below : num_at s behind_code 2 < N
    const_below = dest_below w s at N ok const_dest

    pub const_kind : num_at s (behind_code + 2) 1 ≤ 3
    const_kind = kind_most w s at N ok const_dest const_literal

  -- the others, by their shape
  module _ (sh : Shape) (e : shape_of code ≡ sh) (l : sh.literal ≡ false) (x : sh.callee ≡ false) (same : sh.most ≡ sh.few) where
    abbrev literal_too : (shape_of code).literal ≡ false
    literal_too = ap (λ (k : Shape). k.literal) e ∙ l

    -- where the count of the arguments stands
    abbrev row : ℕ
    row = count_place sh behind_code

    row_first : count_place (shape_of code) behind_code ≡ row
    row_first = ap (λ (k : Shape). count_place k behind_code) e

    args_fixed : count_there (shape_of code) s behind_code ≡ sh.few
    args_fixed =
        let few : (shape_of code).few ≡ sh.few = ap (λ (k : Shape). k.few) e in
        let most : (shape_of code).most ≡ sh.most = ap (λ (k : Shape). k.most) e in
        omega (arith, count_least w s at N ok literal_too, count_greatest w s at N ok literal_too, few, most, same)

    row_fixed : callee_end (shape_of code) s behind_code ≡ row + 1 + 2 * sh.few
    row_fixed =
        let call : callee_end (shape_of code) s behind_code ≡ row_end (shape_of code) s behind_code =
        ap (λ (b : Bool). cond b (row_end (shape_of code) s behind_code + 2) (row_end (shape_of code) s behind_code))
        (ap (λ (k : Shape). k.callee) e ∙ x) in
        omega (arith, call, row_first, args_fixed)

    targets_fixed : targets (shape_of code) (count_there (shape_of code) s behind_code) ≡ targets sh sh.few
    targets_fixed =
        ap (λ (k : Shape). targets k (count_there (shape_of code) s behind_code)) e ∙ ap (targets sh) args_fixed

    fixed_end : instr_end w s at ≡ row + 1 + 2 * sh.few + 2 * targets sh sh.few
    fixed_end = omega (arith, ends_at w s at literal_too, row_fixed, targets_fixed)

    fixed_arg : (k q : ℕ) → k < sh.few → row + 1 + 2 * k ≡ q → arg here k ≡ index_from s q
    fixed_arg k q h f =
        arg_is w s at literal_too k (omega (arith, h, args_fixed)) ∙
        ap (index_from s) (omega (arith, row_first, f))

    fixed_block :
        (k q : ℕ) → k < targets sh sh.few → row + 1 + 2 * sh.few + 2 * k ≡ q →
        get_or here.blocks k 0 ≡ num_at s q 2
    fixed_block k q h f =
        block_is w s at literal_too k (omega (arith, h, targets_fixed)) ∙
        ap (λ (p : ℕ). num_at s p 2) (omega (arith, row_fixed, f))

  -- an operator of n names
  module _ (n : ℕ) (e : shape_of code ≡ value n) where
    dest_there : (shape_of code).dest ≡ true
    dest_there = ap (λ (sh : Shape). sh.dest) e

    pub value_is : here.dest ≡ index_from s behind_code
    value_is = dest_is w s at dest_there

    pub value_below : num_at s behind_code 2 < N
    value_below = dest_below w s at N ok dest_there

    pub value_end : instr_end w s at ≡ behind_code + 3 + 2 * n
    value_end = fixed_end (value n) e refl refl refl ∙ omega arith

    value_arg : (k q : ℕ) → k < n → behind_code + 3 + 2 * k ≡ q → arg here k ≡ index_from s q
    value_arg k q h f = fixed_arg (value n) e refl refl refl k q h (omega (arith, f))

  module _ (o : One) (e : op.One o ≡ op_of code) where
    pub one_shaped : shape_of code ≡ value 1
    unfolding code_of
    one_shaped = ap shape_of (op_from code (op.One o) e) ∙ one_shape o

    pub one_form : (t : NameIx → ℕ) → form t here ≡ pure (one o (index_from s (behind_code + 3)))
    one_form t =
        formed (op.One o) e t ∙
        ap (λ (a : NameIx). pure (one o a)) (value_arg 1 one_shaped 0 (behind_code + 3) (omega arith) (omega arith))

  module _ (o : Two) (e : op.Two o ≡ op_of code) where
    pub two_shaped : shape_of code ≡ value 2
    unfolding code_of
    two_shaped = ap shape_of (op_from code (op.Two o) e) ∙ two_shape o

    pub two_form :
        (t : NameIx → ℕ) → form t here ≡ pure (two o (index_from s (behind_code + 3)) (index_from s (behind_code + 5)))
    two_form t =
        let a = value_arg 2 two_shaped 0 (behind_code + 3) (omega arith) (omega arith) in
        let b = value_arg 2 two_shaped 1 (behind_code + 5) (omega arith) (omega arith) in
        formed (op.Two o) e t ∙ (λ i. pure (two o (a i) (b i)))

  -- jmp, br and nop
  pub jump_form : op.Jmp ≡ op_of code → (t : NameIx → ℕ) → form t here ≡ jump (num_at s (at + w + 2) 2)
  unfolding code_of shape_of
  jump_form e t =
      let sh = ap shape_of (op_from code op.Jmp e) in
      formed op.Jmp e t ∙
      ap jump (fixed_block (terminator 0 0 1) sh refl refl refl 0 (at + w + 2) (omega arith) (omega arith))

  pub branch_form :
      op.Br ≡ op_of code → (t : NameIx → ℕ) →
      form t here ≡ branch (index_from s (behind_code + 1)) (num_at s (behind_code + 3) 2) (num_at s (behind_code + 5) 2)
  unfolding code_of shape_of
  branch_form e t =
      let sh = ap shape_of (op_from code op.Br e) in
      let a = fixed_arg (terminator 1 1 2) sh refl refl refl 0 (behind_code + 1) (omega arith) (omega arith) in
      let b = fixed_block (terminator 1 1 2) sh refl refl refl 0 (behind_code + 3) (omega arith) (omega arith) in
      let c = fixed_block (terminator 1 1 2) sh refl refl refl 1 (behind_code + 5) (omega arith) (omega arith) in
      formed op.Br e t ∙ (λ i. branch (a i) (b i) (c i))

  module _ (e : op.Nop ≡ op_of code) where
    pub nop_form : (t : NameIx → ℕ) → form t here ≡ nop
    nop_form t = formed op.Nop e t

    pub nop_end : instr_end w s at ≡ at + w + 2
    unfolding code_of shape_of
    nop_end = fixed_end (effect 0) (ap shape_of (op_from code op.Nop e)) refl refl refl ∙ omega arith
