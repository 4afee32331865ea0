-- What an accepted function satisfies: names below N, destinations where the form has one, terminators last, and types.
-- From the tests that its record passes, the ranges of its numbers, and the rules of its codes.
use Prim.Native.Nat.{ℕ, ◌<◌, ◌^◌}
use mathlib.Core.Path.{◌≡◌, refl, sym, ap, ◌∙◌, subst}
use mathlib.Core.List.{List, [], ◌∷◌}
use mathlib.Core.Bool.{Bool, true, not, ◌||◌}
use lib.ListN.{length, length-map}
use lib.Dec.{T, eqb}
use lib.Ieee.Bits.{is_true}
use borrow.Author.Tests.{eqb-true}
use Rattle.arith.proofs.Clash.{clash}
use Rattle.arith.specs.Value.{tbool}
use Rattle.arith.specs.Operation.{Expr, constant, one, two}
use Rattle.arith.specs.Code.{code1, code2, with_code, one_of, two_of}
use Rattle.record.specs.declared.NameIx.{NameIx}
use Rattle.record.specs.declared.Limits.{Limits}
use Rattle.record.specs.Record.{Bytes, Instr, Placed, Block, Record, function, plain, type_in, arg, limits}
use Rattle.record.specs.Shape.{shape_of}
use Rattle.record.specs.Reader.{got}
use Rattle.record.specs.Form.{Form, pure, branch, form, value_of}
use Rattle.record.specs.Typing.{well_typed, accept}
use Rattle.record.specs.Good.{Each, InstrOk, BlockOk, RecordOk}
use Rattle.record.specs.Ranged.{RangedInstr, RangedBlock, Ranged}
use Rattle.record.proofs.Tests.{at_most_le, names_args, code_known, code_last}
use Rattle.record.proofs.Form.{FormOf, of_constant, of_one, of_two, of_new, of_jump, of_branch, of_return, of_nop, of_effect, form_of, recode, all_below, at_known}
use Rattle.record.proofs.Accepted.{read_ok}
use Rattle.record.proofs.Ranged.{read_ranged}
use Rattle.record.proofs.Typed.{TypedBody, TypedFunction, accept_typed}
use Rattle.numbering.proofs.Codes.{reads_args, reads_below, instr_original, operands_of}
use Rattle.std.specs.Bool.{beq}
use Rattle.std.specs.Cmp.{booleans_Decides}
use Rattle.std.proofs.lemmas.List.{nil_from_length}
use Rattle.pairing.specs.Joint.{Typed}
use Rattle.pairing.specs.Demand.{All}
use Rattle.pairing.proofs.Fit.{terminates, FitInstr, FitBody, FitFunction}
use Rattle.pairing.proofs.Rules.{one_typed, two_typed, fits_rule, branch_rule, constant_typed}

-- ---- forms and shapes agree
abbrev agree : (NameIx → ℕ) → Instr → ℕ → Bool
agree t i c = beq (shape_of c).last (terminates (form t (recode i c)))

-- computed at each code of the tables
codes_agree : (t : NameIx → ℕ) (i : Instr) → all_below 72 (λ c. not (shape_of c).known || agree t i c) ≡ true
unfolding shape_of form terminates one_of two_of with_code code1 code2
codes_agree t i = refl

-- ---- an instruction that passes its tests
module _ {N B left : ℕ} (t : NameIx → ℕ) (i : Instr) (ok : InstrOk N B left i) where
  last_terminates : (shape_of i.code).last ≡ terminates (form t i)
  last_terminates = (booleans_Decides _ _).0 (at_known (agree t i) (codes_agree t i) i.code (code_known (eqb left 0) i.code ok.code))

  -- a terminator has nothing behind it
  stands_last : T (terminates (form t i)) → left ≡ 0
  stands_last h =
      let l : (shape_of i.code).last ≡ true = last_terminates ∙ is_true (terminates (form t i)) h in
      eqb-true left 0 (code_last (eqb left 0) i.code ok.code l)

  -- ---- types
  module _ (range : i.lit.bits < 256 ^ 8) (rule : well_typed t i ≡ true) where
    form_typed : {f : Form} → FormOf t i f → (e : Expr NameIx) → f ≡ pure e → Typed t e (t i.dest)
    unfolding shape_of
    form_typed (of_constant c) e p =
        let v = value_of (t i.dest) i.lit.kind i.lit.bits in
        let h = (operands_of N B left t i ok (shape_of 0) (ap shape_of c)).lit in
        let j : constant v ≡ e = cc in
        subst (λ (e : Expr NameIx). Typed t e (t i.dest)) j
        (constant_typed (t i.dest) i.lit.kind i.lit.bits
        (at_most_le 3 i.lit.kind h.kind) h.bits range (fits_rule t i c rule))
    form_typed (of_one o c) e p =
        let j : one o (arg i 0) ≡ e = cc in
        subst (λ (e : Expr NameIx). Typed t e (t i.dest)) j (one_typed t i o c rule)
    form_typed (of_two o c) e p =
        let j : two o (arg i 0) (arg i 1) ≡ e = cc in
        subst (λ (e : Expr NameIx). Typed t e (t i.dest)) j (two_typed t i o c rule)
    form_typed of_new e p = clash (cc)
    form_typed (of_jump c) e p = clash (cc)
    form_typed (of_branch c) e p = clash (cc)
    form_typed (of_return c) e p = clash (cc)
    form_typed (of_nop c) e p = clash (cc)
    form_typed of_effect e p = clash (cc)

    form_tested : {f : Form} → FormOf t i f → (x : NameIx) (b c : ℕ) → f ≡ branch x b c → t x ≡ tbool
    form_tested (of_constant e) x b c p = clash (cc)
    form_tested (of_one o e) x b c p = clash (cc)
    form_tested (of_two o e) x b c p = clash (cc)
    form_tested of_new x b c p = clash (cc)
    form_tested (of_jump e) x b c p = clash (cc)
    form_tested (of_branch e) x b c p =
        let j : arg i 0 ≡ x = cc in
        ap t (sym j) ∙ branch_rule t i e rule
    form_tested (of_return e) x b c p = clash (cc)
    form_tested (of_nop e) x b c p = clash (cc)
    form_tested of_effect x b c p = clash (cc)

    pub instr_fit : FitInstr N t i
    instr_fit =
        record {
          args = reads_below N B left t i ok;
          all_read = reads_args N B left t i ok;
          original = instr_original N B left t i ok;
          typed = form_typed (form_of t i);
          tested = form_tested (form_of t i);
        }

-- ---- blocks and functions
module _ (N B w : ℕ) (t : NameIx → ℕ) where
  pub body_fit : (is : List Instr) → Each (InstrOk N B) is → Each (λ left i. RangedInstr w i) is → TypedBody t is → FitBody N t is
  body_fit [] ok range typed = tt
  body_fit (i ∷ is) ok range typed = (
    instr_fit t i ok.0 range.0.bits typed.0,
    ((λ h. nil_from_length is (stands_last t i ok.0 h)), body_fit is ok.1 range.1 typed.1),
  )

  blocks_fit :
      (lim : Limits) (bs : List (Block Instr)) →
      Each (λ left b. BlockOk lim N B b) bs →
      Each (λ left b. RangedBlock w b) bs →
      Each (λ left b. TypedBody t b.body) bs →
      All (λ (b : Block Instr). FitBody N t b.body) bs
  blocks_fit lim [] ok range typed = tt
  blocks_fit lim (b ∷ bs) ok range typed =
      (body_fit b.body ok.0.body range.0.body typed.0, blocks_fit lim bs ok.1 range.1 typed.1)

-- a record that passes its tests, in range and well typed
pub good_fit : (lim : Limits) (r : Record Instr) → RecordOk lim r → Ranged r → TypedFunction (function r) → FitFunction (function r)
good_fit lim r ok range typed =
    let n : length (function r).types ≡ length r.names = length-map r.names (λ x. x.type) in
    record {
      few = rw n (names_args lim.names r.args (length r.names) ok.size);
      blocks = rw n (blocks_fit _ _ _ (type_in (function r).types) lim r.blocks ok.blocks range.blocks typed);
    }

-- an accepted function
pub accepted_fit : (s : List ℕ) → Bytes s → (r : Record Placed) (p : ℕ) → accept limits s ≡ got r p → FitFunction (function (plain r))
accepted_fit s bytes r p e =
    let h = accept_typed limits s r p e in
    good_fit limits (plain r) (read_ok limits s r p h.reads) (read_ranged limits s bytes r p h.reads) h.typed
