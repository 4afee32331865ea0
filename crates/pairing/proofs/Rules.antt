-- The rule of each code says what the operation's types are: a well_typed instruction that is an operation is typed as one.
use Prim.Native.Nat.{ℕ, zero, suc, ◌<◌, ◌≤◌}
use mathlib.Core.Path.{◌≡◌, refl, sym, ap, ◌∙◌, subst}
use mathlib.Core.List.{List, [], ◌∷◌, map}
use mathlib.Core.Bool.{Bool, true, false, cond, not, ◌&&◌}
use native.Mathlib.Omega.{arith}
use lib.ListN.{get_or, get_or-map}
use lib.Dec.{eqb}
use borrow.Author.Tests.{eqb-true, eq-eqb, lt-ltb}
use Rattle.arith.specs.declared.One.{One}
use Rattle.arith.specs.declared.One.TheVariants.{Not, Id}
use Rattle.arith.specs.declared.Two.{Two}
use Rattle.arith.specs.declared.Two.TheVariants.{Add, Sub, Mul, Div, Eq, Lt, Gt, Le, Ge, And, Or, PtrAdd}
use Rattle.arith.specs.Word.{W}
use Rattle.arith.specs.Value.{tint, tbool, tfloat, tchar, is_pointer, Val, int, float, literal, char, bool, type_of, in_range, HasType}
use Rattle.arith.specs.Operation.{one, two}
use Rattle.arith.specs.Code.{code1, code2}
use Rattle.record.specs.declared.NameIx.{NameIx}
use Rattle.std.specs.Prelude.{Ok}
use Rattle.record.specs.Record.{nm, Instr, arg}
use Rattle.record.specs.Shape.{row_of}
use Rattle.record.specs.Text.{same_bytes}
use Rattle.record.specs.Tests.{literal_test}
use Rattle.record.specs.Form.{value_of}
use Rattle.record.specs.Typing.{free, takes, rules, literal_fits, obeys, well_typed}
use Rattle.record.proofs.Tests.{and_left, and_right, or_first, same_bytes_eq, literal_scalar}
use Rattle.pairing.specs.Joint.{Typed}

module _ (t : NameIx → ℕ) (i : Instr) where
  -- ---- operands of given types
  takes_arg : (xs : List ℕ) (r : ℕ) → obeys (takes xs r) t i ≡ true → (k : ℕ) → t (arg i k) ≡ get_or xs k (t (nm 0))
  unfolding obeys
  takes_arg xs r e k =
      let h : map t i.args ≡ xs = same_bytes_eq (map t i.args) xs (and_left (same_bytes (map t i.args) xs) _ e) in
      sym (get_or-map t i.args k (nm 0)) ∙ ap (λ ys. get_or ys k (t (nm 0))) h

  takes_dest : (xs : List ℕ) (r : ℕ) → obeys (takes xs r) t i ≡ true → t i.dest ≡ r
  unfolding obeys
  takes_dest xs r e = eqb-true (t i.dest) r (and_right (same_bytes (map t i.args) xs) _ e)

  takes_two :
      (a b r : ℕ) → obeys (takes (a ∷ b ∷ []) r) t i ≡ true → (t (arg i 0) ≡ a) × (t (arg i 1) ≡ b) × (t i.dest ≡ r)
  takes_two a b r e = (takes_arg (a ∷ b ∷ []) r e 0, takes_arg (a ∷ b ∷ []) r e 1, takes_dest (a ∷ b ∷ []) r e)

  -- ---- the operators
  -- the rule of an operator's code
  obeys_code : (c : ℕ) → c ≡ i.code → well_typed t i ≡ true → obeys (row_of free rules c) t i ≡ true
  unfolding well_typed
  obeys_code c e h = subst (λ (n : ℕ). obeys (row_of free rules n) t i ≡ true) (sym e) h

  one_rule : (o : One) → obeys (row_of free rules (code1 o)) t i ≡ true → Typed t (one o (arg i 0)) (t i.dest)
  unfolding code1 obeys
  one_rule Not h = (takes_arg (tbool ∷ []) tbool h 0, takes_dest (tbool ∷ []) tbool h)
  one_rule Id h = eqb-true (t i.dest) (t (arg i 0)) h

  two_rule : (o : Two) → obeys (row_of free rules (code2 o)) t i ≡ true → Typed t (two o (arg i 0) (arg i 1)) (t i.dest)
  unfolding code2 obeys
  two_rule Add h = takes_two tint tint tint h
  two_rule Sub h = takes_two tint tint tint h
  two_rule Mul h = takes_two tint tint tint h
  two_rule Div h = takes_two tint tint tint h
  two_rule Eq h = takes_two tint tint tbool h
  two_rule Lt h = takes_two tint tint tbool h
  two_rule Gt h = takes_two tint tint tbool h
  two_rule Le h = takes_two tint tint tbool h
  two_rule Ge h = takes_two tint tint tbool h
  two_rule And h = takes_two tbool tbool tbool h
  two_rule Or h = takes_two tbool tbool tbool h
  two_rule PtrAdd h =
      let p : is_pointer (t (arg i 0)) ≡ true = and_left (is_pointer (t (arg i 0))) _ h in
      let rest : (eqb (t (arg i 1)) tint && eqb (t i.dest) (t (arg i 0))) ≡ true = and_right (is_pointer (t (arg i 0))) _ h in (
        rw p tt,
        eqb-true (t (arg i 1)) tint (and_left (eqb (t (arg i 1)) tint) _ rest),
        eqb-true (t i.dest) (t (arg i 0)) (and_right (eqb (t (arg i 1)) tint) _ rest),
      )

  pub one_typed : (o : One) → code1 o ≡ i.code → well_typed t i ≡ true → Typed t (one o (arg i 0)) (t i.dest)
  one_typed o e h = one_rule o (obeys_code (code1 o) e h)

  pub two_typed : (o : Two) → code2 o ≡ i.code → well_typed t i ≡ true → Typed t (two o (arg i 0) (arg i 1)) (t i.dest)
  two_typed o e h = two_rule o (obeys_code (code2 o) e h)

  pub fits_rule : i.code ≡ 0 → well_typed t i ≡ true → literal_fits i.lit.kind (t i.dest) ≡ true
  unfolding obeys
  fits_rule e h = obeys_code 0 (sym e) h

  pub branch_rule : i.code ≡ 65 → well_typed t i ≡ true → t (arg i 0) ≡ tbool
  unfolding obeys
  branch_rule e h = eqb-true (t (arg i 0)) tbool (obeys_code 65 (sym e) h)

-- ---- constants
has_type : (t : ℕ) (v : Val) → type_of v ≡ t → in_range v ≡ true → HasType t v
has_type t v e r = rw (eq-eqb (type_of v) t e, r) tt

-- a literal that passes its test and fits the type is a value of the type
pub constant_typed :
    (t kind bits : ℕ) →
    kind ≤ 3 →
    literal_test kind bits ≡ Ok tt →
    bits < W →
    literal_fits kind t ≡ true →
    HasType t (value_of t kind bits)
unfolding value_of type_of in_range
constant_typed t zero bits k test b fit = go (eqb t tfloat) refl
  where
    go : (c : Bool) → eqb t tfloat ≡ c → HasType t (cond c (literal bits) (int bits))
    go true e = has_type t (literal bits) (sym (eqb-true t tfloat e)) (lt-ltb bits W b)
    go false e = has_type t (int bits) (sym (eqb-true t tint (or_first (eqb t tint) (eqb t tfloat) fit e))) (lt-ltb bits W b)
constant_typed t (suc zero) bits k test b fit =
    has_type t (bool (not (eqb bits 0))) (sym (eqb-true t tbool (or_first (eqb t tbool) false fit refl))) refl
constant_typed t (suc (suc zero)) bits k test b fit =
    has_type t (float bits) (sym (eqb-true t tfloat (or_first (eqb t tfloat) false fit refl))) (lt-ltb bits W b)
constant_typed t (suc (suc (suc zero))) bits k test b fit =
    has_type t (char bits) (sym (eqb-true t tchar (or_first (eqb t tchar) false fit refl))) (literal_scalar bits test)
constant_typed t (suc (suc (suc (suc kind)))) bits k test b fit = absurd (omega arith)
