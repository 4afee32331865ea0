-- The operands of an instruction with an event: what stands where, by its code alone, and its form.
use Prim.Native.Nat.{ℕ, ◌+◌, ◌*◌, ◌<◌, ◌≤◌}
use mathlib.Core.Path.{◌≡◌, refl, sym, ap, ◌∙◌, subst}
use mathlib.Core.List.{List}
use mathlib.Core.Bool.{Bool, true, false, cond, not, ◌&&◌, ◌||◌}
use mathlib.Core.Option.{Option, none, some}
use native.Mathlib.Omega.{arith}
use Rattle.std.specs.Bool.{beq}
use Rattle.std.specs.Cmp.{booleans_Decides}
use lib.ListN.{length}
use lib.Dec.{leb, ltb, eqb}
use borrow.Author.Tests.{leb-true, not-true, le-ltb, ne_eqb}
use Rattle.arith.proofs.Clash.{clash}
use Rattle.arith.specs.Code.{one_of, two_of, with_code, code1, code2}
use Rattle.record.specs.declared.NameIx.{NameIx}
use Rattle.record.specs.declared.Op.{Op}
use Rattle.record.specs.declared.Op.TheVariants as op
use Rattle.record.specs.Record.{Instr}
use Rattle.record.specs.Shape.{shape_of}
use Rattle.record.specs.Form.{Form, new, effect, return, form}
use Rattle.record.specs.Reader.{num_at}
use Rattle.record.specs.Decode.{index_from, id_width, names_count}
use Rattle.record.specs.View.{code_of}
use Rattle.record.proofs.Tests.{and_left, and_right, or_second}
use Rattle.record.proofs.Form.{all_below, at_known}
use Rattle.codes.specs.Op.{op_of}
use Rattle.codes.proofs.Op.{op_from, op_test}
use Rattle.engine_cells.specs.Cells.{row_from}
use Rattle.engine_quiet.specs.declared.Ground.{Ground}
use Rattle.engine_quiet.specs.declared.Spot.{Spot}
use Rattle.engine_quiet.specs.Spot.{Before, Standing, quiet, quiet_op, code_at}
use Rattle.engine_quiet.proofs.Spots.{quiet_of}
use Rattle.engine_quiet.proofs.Bodies.{first_passes, first_inside}
use Rattle.engine_quiet.proofs.Operands as shape
use Rattle.engine_events.specs.declared.Turn.{Turn}
use Rattle.engine_events.specs.Turn.{instr_at, count_place, args_at, Going, Loud}
use Rattle.engine_events.specs.Replies.{has_dest, has_callee, dest_op, callee_op}

-- ---- tables of the codes
abbrev nothing : {A : Type 0} → Option A → Bool
nothing none = true
nothing (some x) = false

nothing_is : {A : Type 0} (o : Option A) → nothing o ≡ true → o ≡ none
nothing_is none e = refl
nothing_is (some x) e = clash (cc)

-- the shape of a code with an event
abbrev shaped : ℕ → Bool
shaped c =
    quiet c || (not (shape_of c).literal && (beq (shape_of c).dest (has_dest c) &&
    (beq (shape_of c).callee (has_callee c) && leb (shape_of c).most 8)))

codes_shaped : all_below 72 (λ c. not (shape_of c).known || shaped c) ≡ true
unfolding shape_of quiet
codes_shaped = refl

-- the form of such a code
abbrev formed : ℕ → Bool
formed c =
    quiet c || (not (eqb c 0) && (nothing (one_of c) && (nothing (two_of c) && (beq (leb c 63) (has_dest c) &&
    (not (eqb c 64) && (not (eqb c 65) && not (eqb c 69)))))))

codes_formed : all_below 72 (λ c. not (shape_of c).known || formed c) ≡ true
unfolding shape_of quiet one_of two_of with_code code1 code2
codes_formed = refl

-- value codes ask for a value, ret leaves, the others tell
abbrev pub form_by : ℕ → List NameIx → Form
form_by c xs = cond (has_dest c) (new xs) (cond (eqb c 66) (return xs) (effect xs))

form_loud : (t : NameIx → ℕ) (i : Instr) → (shape_of i.code).known ≡ true → quiet i.code ≡ false → form t i ≡ form_by i.code i.args
unfolding form
form_loud t i k q =
    let c = i.code in
    let a = or_second (quiet c) _ (at_known formed codes_formed c k) q in
    let b = and_right (not (eqb c 0)) _ a in
    let d = and_right (nothing (one_of c)) _ b in
    let e = and_right (nothing (two_of c)) _ d in
    let f = and_right (beq (leb c 63) (has_dest c)) _ e in
    let g = and_right (not (eqb c 64)) _ f in
    let e0 : eqb c 0 ≡ false = not-true (eqb c 0) (and_left (not (eqb c 0)) _ a) in
    let e1 : one_of c ≡ none = nothing_is (one_of c) (and_left (nothing (one_of c)) _ b) in
    let e2 : two_of c ≡ none = nothing_is (two_of c) (and_left (nothing (two_of c)) _ d) in
    let e3 : leb c 63 ≡ has_dest c = (booleans_Decides (leb c 63) (has_dest c)).0 (and_left (beq (leb c 63) (has_dest c)) _ e) in
    let e4 : eqb c 64 ≡ false = not-true (eqb c 64) (and_left (not (eqb c 64)) _ f) in
    let e5 : eqb c 65 ≡ false = not-true (eqb c 65) (and_left (not (eqb c 65)) _ g) in
    let e6 : eqb c 69 ≡ false = not-true (eqb c 69) (and_right (not (eqb c 65)) _ g) in
    rw (e0, e1, e2, e3, e4, e5, e6)

-- ---- an operation and its code
-- whether it has a dest, and a callee
module _ (c : ℕ) where
  dest_test : dest_op (op_of c) ≡ (not (quiet c) && has_dest c)
  unfolding dest_op op_of quiet one_of two_of with_code code1 code2
  dest_test = op_test dest_op (λ k. not (quiet k) && has_dest k) refl (λ k h. dest_high k h) c
    where
      dest_high : (k : ℕ) → 70 ≤ k → false ≡ (not (quiet k) && has_dest k)
      dest_high k h = go (not (quiet k)) (le-ltb k 64 (omega (arith, h)))
        where
          go : (a : Bool) → ltb k 64 ≡ false → false ≡ (a && ltb k 64)
          go true e = sym e
          go false e = refl

  callee_test : callee_op (op_of c) ≡ has_callee c
  unfolding callee_op op_of one_of two_of with_code code1 code2
  callee_test = op_test callee_op has_callee refl (λ k h. callee_high k h) c
    where
      callee_high : (k : ℕ) → 70 ≤ k → eqb k 67 ≡ has_callee k
      callee_high k h = rw (ne_eqb k 20 (λ e. omega (arith, h, e))) refl

  module _ (o : Op) (e : o ≡ op_of c) where
    loud_by : quiet_op o ≡ false → quiet c ≡ false
    loud_by h = sym (quiet_of c) ∙ ap quiet_op (sym e) ∙ h

    pub dest_code : quiet c ≡ false → dest_op o ≡ has_dest c
    dest_code h = ap dest_op e ∙ dest_test ∙ ap (λ (b : Bool). not b && has_dest c) h

    pub callee_code : callee_op o ≡ has_callee c
    callee_code = ap callee_op e ∙ callee_test

    pub ret_code : o ≡ op.Ret → c ≡ 66
    unfolding code_of
    ret_code h = op_from c op.Ret (sym h ∙ e)

    pub ret_op : c ≡ 66 → o ≡ op.Ret
    unfolding op_of one_of two_of with_code code1 code2
    ret_op h = e ∙ ap op_of h

place_on : (b : Bool) (p q : ℕ) → p ≤ q → p ≤ cond b q p
place_on true p q h = h
place_on false p q h = omega arith

-- ---- an instruction with an event
module _ {s : List ℕ} {at : ℕ} (h : Loud s at) where
  abbrev w : ℕ
  w = id_width s

  abbrev code : ℕ
  code = code_at s at

  abbrev behind_code : ℕ
  behind_code = at + w + 1

  known : (shape_of code).known ≡ true
  known = shape.known_code w s at (names_count s) h.passes

  tests :
      (not (shape_of code).literal && (beq (shape_of code).dest (has_dest code) &&
      (beq (shape_of code).callee (has_callee code) && leb (shape_of code).most 8))) ≡ true
  tests = or_second (quiet code) _ (at_known shaped codes_shaped code known) h.loud

  no_literal : (shape_of code).literal ≡ false
  no_literal = not-true (shape_of code).literal (and_left (not (shape_of code).literal) _ tests)

  tests_2 : (beq (shape_of code).dest (has_dest code) && (beq (shape_of code).callee (has_callee code) && leb (shape_of code).most 8)) ≡ true
  tests_2 = and_right (not (shape_of code).literal) _ tests

  dest_by : (shape_of code).dest ≡ has_dest code
  dest_by = (booleans_Decides (shape_of code).dest (has_dest code)).0 (and_left (beq (shape_of code).dest (has_dest code)) _ tests_2)

  tests_3 : (beq (shape_of code).callee (has_callee code) && leb (shape_of code).most 8) ≡ true
  tests_3 = and_right (beq (shape_of code).dest (has_dest code)) _ tests_2

  callee_by : (shape_of code).callee ≡ has_callee code
  callee_by = (booleans_Decides (shape_of code).callee (has_callee code)).0 (and_left (beq (shape_of code).callee (has_callee code)) _ tests_3)

  few_most : (shape_of code).most ≤ 8
  few_most = leb-true (shape_of code).most 8 (and_right (beq (shape_of code).callee (has_callee code)) _ tests_3)

  place_is : shape.count_place (shape_of code) behind_code ≡ count_place s at
  place_is = ap (λ (b : Bool). cond b (behind_code + 2) behind_code) dest_by

  pub args_are : (instr_at s at).args ≡ args_at s at
  args_are = shape.args_are w s at no_literal ∙ ap (λ (p : ℕ). row_from s (p + 1) (num_at s p 1)) place_is

  pub callee_is :
      (instr_at s at).callee ≡
      cond (has_callee code) (num_at s (count_place s at + 1 + 2 * num_at s (count_place s at) 1) 2) 0
  callee_is = go (has_callee code) callee_by
    where
      go :
          (b : Bool) → (shape_of code).callee ≡ b →
          (instr_at s at).callee ≡ cond b (num_at s (count_place s at + 1 + 2 * num_at s (count_place s at) 1) 2) 0
      go true e = shape.callee_is w s at no_literal e ∙ ap (λ (p : ℕ). num_at s (p + 1 + 2 * num_at s p 1) 2) place_is
      go false e = shape.no_callee w s at no_literal e

  pub dest_is : has_dest code ≡ true → (instr_at s at).dest ≡ index_from s behind_code
  dest_is e = shape.dest_is w s at (dest_by ∙ e)

  -- dest is one of the names
  pub dest_named : has_dest code ≡ true → num_at s behind_code 2 < names_count s
  dest_named e = shape.dest_below w s at (names_count s) h.passes (dest_by ∙ e)

  pub place_after : behind_code ≤ count_place s at
  place_after = place_on (has_dest code) behind_code (behind_code + 2) (omega arith)

  pub row_inside : count_place s at + 1 + 2 * num_at s (count_place s at) 1 ≤ length s
  row_inside =
      let end = shape.row_end (shape_of code) s behind_code in
      let e : end ≡ count_place s at + 1 + 2 * num_at s (count_place s at) 1 = ap (λ (p : ℕ). p + 1 + 2 * num_at s p 1) place_is in
      let f : end ≤ shape.callee_end (shape_of code) s behind_code = place_on (shape_of code).callee end (end + 2) (omega arith) in
      omega (arith, e, f, shape.ends_at w s at no_literal, h.inside)

  -- at most eight arguments
  pub few : num_at s (count_place s at) 1 ≤ 8
  few =
      let e : shape.count_there (shape_of code) s behind_code ≡ num_at s (count_place s at) 1 = ap (λ (p : ℕ). num_at s p 1) place_is in
      omega (arith, e, few_most, shape.count_greatest w s at (names_count s) h.passes no_literal)

  pub form_is : (t : NameIx → ℕ) → form t (instr_at s at) ≡ form_by code (args_at s at)
  form_is t =
      form_loud t (instr_at s at) (ap (λ (c : ℕ). (shape_of c).known) (shape.code_is w s at) ∙ known)
      (ap quiet (shape.code_is w s at) ∙ h.loud) ∙
      (λ i. form_by (shape.code_is w s at i) (args_are i))

-- ---- the instruction at which a run stands
pub stands : {g : Ground} {p : Spot} {t : Turn} → Going g p t → Before g p
stands {g} h = subst (Standing g) h.here h.ready.standing

pub stands_loud :
    {g : Ground} {p : Spot} {t : Turn} {o : Op} →
    Going g p t → o ≡ op_of (code_at g.s.now p.at) → quiet_op o ≡ false → Loud g.s.now p.at
stands_loud {g} {p} {t} {o} h e q =
    let st = stands h in
    record {
      passes = first_passes g.s.now p.at p.left st.sound st.some;
      loud = loud_by (code_at g.s.now p.at) o e q;
      inside = first_inside g.s.now p.at p.left st.sound st.some;
    }
