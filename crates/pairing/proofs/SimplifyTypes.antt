-- Simplifying keeps types. The types of the value numbers are any relation between numbers and types, so that an invariant of the
-- numbering (which numbers there are, what their constants are) is kept by the same law.
use Prim.Native.Nat.{ℕ, ◌<◌}
use mathlib.Core.Path.{◌≡◌, refl, sym, ◌∙◌, subst}
use mathlib.Core.Bool.{Bool, true, false, cond}
use mathlib.Core.Option.{Option, none, some}
use native.Mathlib.Omega.{arith}
use lib.Dec.{T, ltb, eqb, lt→ltb}
use Rattle.arith.specs.declared.One.{One}
use Rattle.arith.specs.declared.One.TheVariants.{Not, Id}
use Rattle.arith.specs.declared.Two.{Two}
use Rattle.arith.specs.declared.Two.TheVariants.{Add, Sub, Mul, Div, Eq, Lt, Gt, Le, Ge, And, Or, PtrAdd}
use Rattle.arith.specs.Word.{W}
use Rattle.arith.specs.Value.{tint, tbool, Val, int, bool, type_of, in_range, HasType}
use Rattle.arith.specs.Operation.{Result, ok, stops, unset, apply1, apply2, Expr, constant, one, two}
use Rattle.numbering.specs.declared.ValNum.{ValNum}
use Rattle.numbering.specs.Number.{numbered}
use Rattle.numbering.specs.Simplify.{folded, fold1, fold2, is_int, is_bool, absorbs, identity, sorted, ordered, first, simplify1, simplify2, simplify}
use Rattle.pairing.specs.Joint.{Takes}
use Rattle.numbering.proofs.Simplified.{Found, get_or_ok, first_ok, gives_ok}
use Rattle.pairing.proofs.Typing.{Yields, Kept, not_keeps, apply2_keeps}

-- a constant of type d that a value expression may be
abbrev pub Constant : ℕ → Val → Type 0
Constant d v = HasType d v × T (numbered v)

-- an expression of type d; P: which types a number has
abbrev pub TypedBy : (ValNum → ℕ → Type 0) → Expr ValNum → ℕ → Type 0
TypedBy P (constant v) d = Constant d v
TypedBy P (one Not a) d = P a tbool × (d ≡ tbool)
TypedBy P (one Id a) d = P a d
TypedBy P (two o a b) d = (r : ℕ) × (s : ℕ) × P a r × P b s × Takes o r s d

-- what is known of a number fits each type that it has
abbrev pub KnownBy : (ValNum → ℕ → Type 0) → (ValNum → Option Val) → Type 0
KnownBy P known = (v : ValNum) (t : ℕ) (c : Val) → P v t → known v ≡ some c → Constant t c

-- ---- constants
pub int_constant : (d w : ℕ) → d ≡ tint → w < W → Constant d (int w)
unfolding type_of in_range numbered
int_constant d w e h = subst (λ z. Constant z (int w)) (sym e) (lt→ltb w W h, tt)

pub bool_constant : (d : ℕ) (b : Bool) → d ≡ tbool → Constant d (bool b)
unfolding type_of in_range numbered
bool_constant d b e = subst (λ z. Constant z (bool b)) (sym e) (tt, tt)

-- no pointer is known
constants_kept : Kept Constant
unfolding numbered
constants_kept =
    record {
      of_int = λ w h. int_constant tint w refl h;
      of_bool = λ b. bool_constant tbool b refl;
      of_pointer = λ s t b o k l h. absurd h.1;
    }

module _ (P : ValNum → ℕ → Type 0) where
  abbrev OfType : ℕ → Expr ValNum → Type 0
  OfType d e = TypedBy P e d

  -- an expression of type d, where there is one
  abbrev Fine : ℕ → Option (Expr ValNum) → Type 0
  Fine d = Found (OfType d)

  -- ---- folds
  folded_fine : (d : ℕ) (r : Result) → Yields (Constant d) r → Fine d (folded r)
  unfolding folded
  folded_fine d (ok v) h = h
  folded_fine d (stops c) h = tt
  folded_fine d unset h = tt

  apply1_fine :
      (o : One) (a : ValNum) (d : ℕ) (x : Val) →
      TypedBy P (one o a) d →
      ((t : ℕ) → P a t → Constant t x) →
      Yields (Constant d) (apply1 o x)
  unfolding apply1
  apply1_fine Not a d x h k = not_keeps Constant constants_kept d x h.1
  apply1_fine Id a d x h k = k d h

  fold1_fine :
      (o : One) (a : ValNum) (d : ℕ) (x : Option Val) → TypedBy P (one o a) d →
      ((t : ℕ) (c : Val) → P a t → x ≡ some c → Constant t c) →
      Fine d (fold1 o x)
  unfolding fold1
  fold1_fine o a d none h k = tt
  fold1_fine o a d (some x) h k = folded_fine d (apply1 o x) (apply1_fine o a d x h (λ t p. k t x p refl))

  fold2_fine :
      (o : Two) (r s d : ℕ) (x y : Option Val) → Takes o r s d → ((c : Val) → x ≡ some c → Constant r c) → Fine d (fold2 o x y)
  unfolding fold2
  fold2_fine o r s d none y h k = tt
  fold2_fine o r s d (some x) none h k = tt
  fold2_fine o r s d (some x) (some y) h k = folded_fine d (apply2 o x y) (apply2_keeps Constant constants_kept o x y r s d h (k x refl))

  -- ---- identities
  absorbs_fine :
      (z neutral : Bool) (x y : Option Val) (a b : ValNum) (d : ℕ) → P a d → P b d → d ≡ tbool →
      Fine d (absorbs z neutral x y a b)
  absorbs_fine z neutral x y a b d p q e =
      gives_ok (OfType d) (is_bool z x) _ _ (bool_constant d z e)
      (gives_ok (OfType d) (is_bool z y) _ _ (bool_constant d z e)
      (gives_ok (OfType d) (is_bool neutral x) (one Id b) _ q (gives_ok (OfType d) (is_bool neutral y) (one Id a) none p tt)))

  identity_fine :
      (o : Two) (x y : Option Val) (a b : ValNum) (r s d : ℕ) → P a r → P b s → Takes o r s d → Fine d (identity o x y a b)
  unfolding identity
  identity_fine Add x y a b r s d p q h =
      let p' : P a d = subst (P a) (h.0 ∙ sym h.2) p in
      let q' : P b d = subst (P b) (h.1 ∙ sym h.2) q in
      gives_ok (OfType d) (is_int 0 x) (one Id b) _ q' (gives_ok (OfType d) (is_int 0 y) (one Id a) none p' tt)
  identity_fine Sub x y a b r s d p q h = tt
  identity_fine Mul x y a b r s d p q h =
      let p' : P a d = subst (P a) (h.0 ∙ sym h.2) p in
      let q' : P b d = subst (P b) (h.1 ∙ sym h.2) q in
      let zero : Constant d (int 0) = int_constant d 0 h.2 (omega arith) in
      gives_ok (OfType d) (is_int 0 x) (constant (int 0)) _ zero
      (gives_ok (OfType d) (is_int 0 y) (constant (int 0)) _ zero
      (gives_ok (OfType d) (is_int 1 x) (one Id b) _ q'
      (gives_ok (OfType d) (is_int 1 y) (one Id a) _ p'
      (gives_ok (OfType d) (is_int 2 x) (two Add b b) _ (s, s, q, q, (h.1, h.1, h.2))
      (gives_ok (OfType d) (is_int 2 y) (two Add a a) none (r, r, p, p, (h.0, h.0, h.2)) tt)))))
  identity_fine Div x y a b r s d p q h = tt
  identity_fine Eq x y a b r s d p q h =
      gives_ok (OfType d) (eqb a.0 b.0) (constant (bool true)) none (bool_constant d true h.2) tt
  identity_fine Lt x y a b r s d p q h = tt
  identity_fine Gt x y a b r s d p q h = tt
  identity_fine Le x y a b r s d p q h = tt
  identity_fine Ge x y a b r s d p q h = tt
  identity_fine And x y a b r s d p q h =
      absorbs_fine false true x y a b d (subst (P a) (h.0 ∙ sym h.2) p) (subst (P b) (h.1 ∙ sym h.2) q) h.2
  identity_fine Or x y a b r s d p q h =
      absorbs_fine true false x y a b d (subst (P a) (h.0 ∙ sym h.2) p) (subst (P b) (h.1 ∙ sym h.2) q) h.2
  identity_fine PtrAdd x y a b r s d p q h = gives_ok (OfType d) (is_int 0 y) (one Id a) none (subst (P a) (sym h.2) p) tt

  -- ---- the order of operands
  sorted_typed : (o : Two) (a b : ValNum) (d : ℕ) → TypedBy P (two o a b) d → TypedBy P (two o b a) d → TypedBy P (sorted o a b) d
  sorted_typed o a b d h k = go (ltb b.0 a.0)
    where
      go : (c : Bool) → TypedBy P (cond c (two o b a) (two o a b)) d
      go true = k
      go false = h

  ordered_typed : (o : Two) (a b : ValNum) (r s d : ℕ) → P a r → P b s → Takes o r s d → TypedBy P (ordered o a b) d
  unfolding ordered
  ordered_typed Add a b r s d p q h = sorted_typed Add a b d (r, s, p, q, h) (s, r, q, p, (h.1, h.0, h.2))
  ordered_typed Sub a b r s d p q h = (r, s, p, q, h)
  ordered_typed Mul a b r s d p q h = sorted_typed Mul a b d (r, s, p, q, h) (s, r, q, p, (h.1, h.0, h.2))
  ordered_typed Div a b r s d p q h = (r, s, p, q, h)
  ordered_typed Eq a b r s d p q h = sorted_typed Eq a b d (r, s, p, q, h) (s, r, q, p, (h.1, h.0, h.2))
  ordered_typed Lt a b r s d p q h = (r, s, p, q, h)
  ordered_typed Gt a b r s d p q h = (s, r, q, p, (h.1, h.0, h.2))
  ordered_typed Le a b r s d p q h = (r, s, p, q, h)
  ordered_typed Ge a b r s d p q h = (s, r, q, p, (h.1, h.0, h.2))
  ordered_typed And a b r s d p q h = sorted_typed And a b d (r, s, p, q, h) (s, r, q, p, (h.1, h.0, h.2))
  ordered_typed Or a b r s d p q h = sorted_typed Or a b d (r, s, p, q, h) (s, r, q, p, (h.1, h.0, h.2))
  ordered_typed PtrAdd a b r s d p q h = (r, s, p, q, h)

  -- ---- simplify gives an expression of the same type, over numbers with their types
  pub simplify_typed :
      (known : ValNum → Option Val) → KnownBy P known → (e : Expr ValNum) (d : ℕ) → TypedBy P e d → TypedBy P (simplify known e) d
  unfolding simplify simplify1 simplify2
  simplify_typed known k (constant v) d h = h
  simplify_typed known k (one o a) d h =
      get_or_ok (OfType d) (fold1 o (known a)) (one o a) (fold1_fine o a d (known a) h (λ t c p e. k a t c p e)) h
  simplify_typed known k (two o a b) d (r, s, p, q, h) =
      get_or_ok (OfType d) (first (fold2 o (known a) (known b)) (identity o (known a) (known b) a b)) (ordered o a b)
      (first_ok (OfType d) (fold2 o (known a) (known b)) (identity o (known a) (known b) a b)
      (fold2_fine o r s d (known a) (known b) h (λ c e. k a r c p e))
      (identity_fine o (known a) (known b) a b r s d p q h))
      (ordered_typed o a b r s d p q h)
