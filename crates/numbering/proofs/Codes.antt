-- An instruction that passes its tests reads its arguments, and its code has a destination where its form gives a value: so it is an
-- original instruction, as the laws of saves ask.
use Prim.Native.Nat.{ℕ, ◌<◌, ◌≤◌}
use mathlib.Core.Path.{◌≡◌, refl, sym, ap, ◌∙◌, subst}
use mathlib.Core.List.{List, [], ◌∷◌}
use mathlib.Core.Bool.{Bool, true, false, not, ◌||◌}
use native.Mathlib.Omega.{arith}
use lib.ListN.{length, get_or}
use lib.Dec.{eqb}
use Rattle.arith.proofs.Clash.{clash}
use Rattle.std.specs.Bool.{beq}
use Rattle.std.specs.Cmp.{booleans_Decides}
use Rattle.std.proofs.lemmas.List.{nil_from_length}
use Rattle.arith.specs.Code.{code1, code2, with_code, one_of, two_of}
use Rattle.record.specs.declared.NameIx.{NameIx}
use Rattle.record.specs.declared.Shape.{Shape}
use Rattle.std.specs.Prelude.{Ok}
use Rattle.record.specs.Record.{nm, Instr}
use Rattle.record.specs.Shape.{shape_of, const, value, terminator, effect as effect_shape}
use Rattle.record.specs.Form.{Form, pure, new, effect, return, nop, jump, branch, form}
use Rattle.record.specs.Tests.{count_test}
use Rattle.record.specs.Good.{There, Each, IndexOk, ArgsOk, OperandsOk, InstrOk}
use Rattle.record.proofs.Tests.{below_lt, count_few, count_most, code_known}
use Rattle.record.proofs.Form.{FormOf, of_constant, of_one, of_two, of_new, of_jump, of_branch, of_return, of_nop, of_effect, form_of, recode, one_shape, two_shape, all_below, at_known}
use Rattle.numbering.specs.Number.{reads}
use Rattle.numbering.proofs.Saves.{Dests, Original, Originals}

-- ---- parts that are there
pub there_true : {A : Type 0} (P : A → Type 0) (d x : A) (b : Bool) → b ≡ true → There b P d x → P x
there_true P d x true e h = h
there_true P d x false e h = clash (cc)

pub dest_below : (N B left : ℕ) (i : Instr) → InstrOk N B left i → (shape_of i.code).dest ≡ true → i.dest.0 < N
dest_below N B left i h e = below_lt N i.dest.0 (there_true (IndexOk N) (nm 0) i.dest (shape_of i.code).dest e h.rest.dest)

indexes_below : (N : ℕ) (xs : List NameIx) → Each (λ left x. IndexOk N x) xs → Each (λ left x. x.0 < N) xs
indexes_below N [] h = tt
indexes_below N (x ∷ xs) h = (below_lt N x.0 h.0, indexes_below N xs h.1)

args_below : (N : ℕ) (sh : Shape) (xs : List NameIx) (b : Bool) → There b (ArgsOk N sh) [] xs → Each (λ left x. x.0 < N) xs
args_below N sh xs true h = indexes_below N xs h.each
args_below N sh xs false h = subst (λ (ys : List NameIx). Each (λ left x. x.0 < N) ys) (sym h) tt

-- ---- arguments by their count
one_there : (xs : List NameIx) → length xs ≡ 1 → get_or xs 0 (nm 0) ∷ [] ≡ xs
one_there [] e = absurd (omega arith)
one_there (x ∷ []) e = refl
one_there (x ∷ (y ∷ xs)) e = absurd (omega arith)

two_there : (xs : List NameIx) → length xs ≡ 2 → get_or xs 0 (nm 0) ∷ get_or xs 1 (nm 0) ∷ [] ≡ xs
two_there [] e = absurd (omega arith)
two_there (x ∷ []) e = absurd (omega arith)
two_there (x ∷ (y ∷ [])) e = refl
two_there (x ∷ (y ∷ (z ∷ xs))) e = absurd (omega arith)

-- the count that a shape asks for
exactly : (sh : Shape) (n : ℕ) (xs : List NameIx) → sh.few ≡ n → sh.most ≡ n → count_test sh (length xs) ≡ Ok tt → length xs ≡ n
exactly sh n xs f m c =
    let a : sh.few ≤ length xs = count_few sh (length xs) c in
    let b : length xs ≤ sh.most = count_most sh (length xs) c in
    omega arith

-- ---- forms
-- whether it has a dest
unfoldable pub gives_value : Form → Bool
gives_value (pure e) = true
gives_value (new xs) = true
gives_value (effect xs) = false
gives_value (return xs) = false
gives_value nop = false
gives_value (jump b) = false
gives_value (branch a b c) = false

-- the code has a dest where the form of i with it gives a value
abbrev agrees : (NameIx → ℕ) → Instr → ℕ → Bool
agrees t i c = beq (shape_of c).dest (gives_value (form t (recode i c)))

-- every code is tried
codes_agree : (t : NameIx → ℕ) (i : Instr) → all_below 72 (λ c. not (shape_of c).known || agrees t i c) ≡ true
unfolding shape_of form gives_value one_of two_of with_code code1 code2
codes_agree t i = refl

-- ---- an instruction that passes its tests
module _ (N B left : ℕ) (t : NameIx → ℕ) (i : Instr) (h : InstrOk N B left i) where
  pub form_dest : (shape_of i.code).dest ≡ gives_value (form t i)
  form_dest =
      (booleans_Decides (shape_of i.code).dest (gives_value (form t i))).0
      (at_known (agrees t i) (codes_agree t i) i.code (code_known (eqb left 0) i.code h.code))

  -- what stands behind a code of the shape sh
  pub operands_of : (sh : Shape) → shape_of i.code ≡ sh → OperandsOk N B sh i
  operands_of sh e = subst (λ (z : Shape). OperandsOk N B z i) e h.rest

  reads_by : {f : Form} → FormOf t i f → reads f ≡ i.args
  unfolding reads shape_of
  reads_by (of_constant e) = sym (operands_of const (ap shape_of e)).args
  reads_by (of_one o e) =
      one_there i.args (exactly (value 1) 1 i.args refl refl (operands_of (value 1) (ap shape_of (sym e) ∙ one_shape o)).args.count)
  reads_by (of_two o e) =
      two_there i.args (exactly (value 2) 2 i.args refl refl (operands_of (value 2) (ap shape_of (sym e) ∙ two_shape o)).args.count)
  reads_by of_new = refl
  reads_by (of_jump e) =
      let sh = terminator 0 0 1 in
      sym (nil_from_length i.args (exactly sh 0 i.args refl refl (operands_of sh (ap shape_of e)).args.count))
  reads_by (of_branch e) =
      let sh = terminator 1 1 2 in
      one_there i.args (exactly sh 1 i.args refl refl (operands_of sh (ap shape_of e)).args.count)
  reads_by (of_return e) = refl
  reads_by (of_nop e) =
      let sh = effect_shape 0 in
      sym (nil_from_length i.args (exactly sh 0 i.args refl refl (operands_of sh (ap shape_of e)).args.count))
  reads_by of_effect = refl

  -- it reads its arguments
  pub reads_args : reads (form t i) ≡ i.args
  reads_args = reads_by (form_of t i)

  pub reads_below : Each (λ left x. x.0 < N) (reads (form t i))
  reads_below =
      subst (λ (xs : List NameIx). Each (λ left x. x.0 < N) xs) (sym reads_args)
      (args_below N (shape_of i.code) i.args (not (shape_of i.code).literal) h.rest.args)

  pub instr_original : Original N t i
  unfolding gives_value
  instr_original = dests (form t i) (shape_of i.code).dest form_dest (dest_below N B left i h)
    where
      dests : (f : Form) (d : Bool) → d ≡ gives_value f → (d ≡ true → i.dest.0 < N) → Dests N d i.dest f
      dests (pure e) d q b = (q, b q)
      dests (new xs) d q b = (q, b q)
      dests (effect xs) d q b = q
      dests (return xs) d q b = q
      dests nop d q b = q
      dests (jump c) d q b = q
      dests (branch a c e) d q b = q

pub body_originals : (N B : ℕ) (t : NameIx → ℕ) (is : List Instr) → Each (InstrOk N B) is → Originals N t is
body_originals N B t [] h = tt
body_originals N B t (i ∷ is) h = (instr_original N B (length is) t i h.0, body_originals N B t is h.1)
