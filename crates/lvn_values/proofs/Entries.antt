-- Only what is written for an expression is read as one, and it is read back.
use Prim.Native.Nat.{ℕ, zero, suc, ◌/◌, ◌%◌, ◌<◌, ◌≤◌}
use mathlib.Core.Path.{◌≡◌, refl, sym, ap, ◌∙◌}
use mathlib.Core.Bool.{Bool, true, false, cond, ◌&&◌}
use mathlib.Core.Option.{Option, none, some}
use native.Mathlib.Omega.{arith}
use Rattle.std.specs.Cmp.{first_so as and_left, second_so as and_right}
use lib.Dec.{eqb}
use borrow.Author.Tests.{eqb-true, eq-eqb}
use Rattle.arith.proofs.Clash.{clash}
use Rattle.arith.specs.declared.One.{One}
use Rattle.arith.specs.declared.One.TheVariants.{Not, Id}
use Rattle.arith.specs.declared.Two.{Two}
use Rattle.arith.specs.Map.{pick}
use Rattle.arith.specs.Code.{code1, code2, one_of, two_of, with_code}
use Rattle.arith.specs.Equal.{one_of_code, two_of_code, Expr-discrete}
use Rattle.arith.specs.Value.{Val, int, float, literal, char, bool, pointer}
use Rattle.arith.specs.Operation.{Expr, constant, one, two}
use Rattle.numbering.specs.declared.ValNum.{ValNum}
use Rattle.numbering.specs.declared.Constant.{Constant}
use Rattle.numbering.specs.declared.Constant.TheVariants.{Int, IntAsFloat, Bool as Truth}
use Rattle.numbering.specs.State.{vn, ValNum-discrete, known_value, known_expr}
use Rattle.numbering.specs.Number.{same_expr}
use Rattle.numbering.specs.View.{val_of}
use Rattle.lvn_values.specs.Table.{packed, int_tag, bool_tag, constant_tag, constant_bits, head_of, num_of, constant_for, unpacked, exactly, expr_at}

-- ---- both tests of an entry
pub stands : (h n : ℕ) (e : Expr ValNum) → expr_at h n ≡ some e → (h ≡ head_of e) × (n ≡ num_of e)
unfolding expr_at
stands h n e = go (unpacked (h / 0x1_0000_0000) (vn (h / 0x1_0000 % 0x1_0000)) (vn (h % 0x1_0000)) n)
  where
    test : (f : Expr ValNum) (b : Bool) → eqb h (head_of f) && eqb n (num_of f) ≡ b → cond b (some f) none ≡ some e →
        (h ≡ head_of e) × (n ≡ num_of e)
    test f true t q =
        let j : f ≡ e = cc in
        let h' : h ≡ head_of f = eqb-true h (head_of f) (and_left (eqb h (head_of f)) (eqb n (num_of f)) t) in
        let n' : n ≡ num_of f = eqb-true n (num_of f) (and_right (eqb h (head_of f)) (eqb n (num_of f)) t) in
        (h' ∙ ap head_of j, n' ∙ ap num_of j)
    test f false t q = clash (cc)

    go : (o : Option (Expr ValNum)) → exactly h n o ≡ some e → (h ≡ head_of e) × (n ≡ num_of e)
    go none q = clash (cc)
    go (some f) q = test f (eqb h (head_of f) && eqb n (num_of f)) refl q

module _ (t a b n : ℕ) (ha : a < 0x1_0000) (hb : b < 0x1_0000) (e : Expr ValNum) where
  -- what is written for e, a number below 2^16 for each operand, is read as e
  read_back : unpacked t (vn a) (vn b) n ≡ some e → packed t a b ≡ head_of e → n ≡ num_of e → expr_at (packed t a b) n ≡ some e
  unfolding expr_at
  read_back u h k =
      let p : packed t a b / 0x1_0000_0000 ≡ t = omega arith in
      let q : packed t a b / 0x1_0000 % 0x1_0000 ≡ a = omega arith in
      let r : packed t a b % 0x1_0000 ≡ b = omega arith in
      rw (p, q, r, u) (rw (eq-eqb (packed t a b) (head_of e) h, eq-eqb n (num_of e) k))

pub two_entry : (o : Two) (a b : ValNum) → a.0 < 0x1_0000 → b.0 < 0x1_0000 → expr_at (packed (code2 o) a.0 b.0) 0 ≡ some (two o a b)
unfolding head_of num_of unpacked
two_entry o a b ha hb =
    read_back (code2 o) a.0 b.0 0 ha hb (two o a b) (rw (two_of_code o)) refl refl

-- the codes of one operand are none of two
not_two : (o : One) → two_of (code1 o) ≡ none
unfolding two_of with_code code1 code2
not_two Not = refl
not_two Id = refl

pub one_entry : (o : One) (a : ValNum) → a.0 < 0x1_0000 → expr_at (packed (code1 o) a.0 0) 0 ≡ some (one o a)
unfolding head_of num_of unpacked
one_entry o a ha =
    read_back (code1 o) a.0 0 0 ha (omega arith) (one o a) (rw (not_two o, one_of_code o)) refl refl

-- a constant, where its tag and its bits are read as it
constant_at :
    (v : Val) →
    constant_for (constant_tag v) (constant_bits v) ≡ some v →
    two_of (constant_tag v) ≡ none →
    one_of (constant_tag v) ≡ none →
    expr_at (head_of (constant v)) (num_of (constant v)) ≡ some (constant v)
unfolding head_of num_of unpacked
constant_at v e p q =
    read_back (constant_tag v) 0 0 (constant_bits v) (omega arith) (omega arith) (constant v) (rw (p, q, e)) refl refl

pub constant_read : (c : Constant) → expr_at (head_of (constant (val_of c))) (num_of (constant (val_of c))) ≡ some (constant (val_of c))
unfolding constant_tag constant_bits one_of two_of with_code code1 code2
constant_read (Int w) = constant_at (int w) refl refl refl
constant_read (IntAsFloat w) = constant_at (literal w) refl refl refl
constant_read (Truth true) = constant_at (bool true) refl refl refl
constant_read (Truth false) = constant_at (bool false) refl refl refl

-- a head of 0 says that nothing is known
pub no_entry : (n : ℕ) → expr_at 0 n ≡ none
unfolding expr_at unpacked one_of two_of with_code code1 code2
no_entry n = refl

-- ---- equal entries are equal expressions
yes_same : (e : Expr ValNum) → same_expr (some e) (some e) ≡ true
yes_same e = by (Expr-discrete ValNum-discrete e e)
  where
    by : (d : Dec (e ≡ e)) → pick d true false ≡ true
    by (yes p) = refl
    by (no n) = absurd (n refl)

module _ (h n : ℕ) (e : Expr ValNum) (here : expr_at h n ≡ some e) where
  pub same_entry : (k m : ℕ) → k ≡ h → m ≡ n → same_expr (expr_at k m) (some e) ≡ true
  same_entry k m p q = rw (p, q, here) (yes_same e)

  pub other_entry : (k m : ℕ) → ((k ≡ h) × (m ≡ n) → ⊥) → same_expr (expr_at k m) (some e) ≡ false
  other_entry k m f = by (expr_at k m) refl
    where
      differs : (g : Expr ValNum) → expr_at k m ≡ some g → (d : Dec (g ≡ e)) → pick d true false ≡ false
      differs g p (yes q) =
          let at = stands h n e here in
          let there = stands k m g p in
          absurd (f (there.0 ∙ ap head_of q ∙ sym at.0, there.1 ∙ ap num_of q ∙ sym at.1))
      differs g p (no r) = refl

      by : (o : Option (Expr ValNum)) → expr_at k m ≡ o → same_expr o (some e) ≡ false
      by none p = refl
      by (some g) p = differs g p (Expr-discrete ValNum-discrete g e)

-- ---- what is known of an entry
pub known_int : (h n : ℕ) → h ≡ packed int_tag 0 0 → some (int n) ≡ known_expr (expr_at h n)
unfolding known_expr known_value head_of num_of constant_tag constant_bits
known_int h n e = sym (ap (λ (a : ℕ). known_expr (expr_at a n)) e ∙ ap known_expr (constant_read (Int n)))

known_bool : (b : Bool) → known_expr (expr_at (packed bool_tag 0 0) (cond b 1 0)) ≡ some (bool b)
unfolding known_expr known_value head_of num_of constant_tag constant_bits
known_bool b = ap known_expr (constant_read (Truth b))

pub known_none : (h n : ℕ) → (h ≡ packed int_tag 0 0 → ⊥) → (h ≡ packed bool_tag 0 0 → n < 2 → ⊥) → known_expr (expr_at h n) ≡ none
unfolding known_expr known_value head_of num_of constant_tag constant_bits
known_none h n f g = by (expr_at h n) refl
  where
    small : (b : Bool) → cond b 1 0 < 2
    small true = omega arith
    small false = omega arith

    of_value : (v : Val) → expr_at h n ≡ some (constant v) → known_value v ≡ none
    of_value (int w) p = absurd (f (stands h n (constant (int w)) p).0)
    of_value (float b) p = refl
    of_value (literal w) p = refl
    of_value (char c) p = refl
    of_value (bool b) p =
        let at = stands h n (constant (bool b)) p in
        let s = small b in
        absurd (g at.0 (rw at.1 s))
    of_value (pointer t b o) p = refl

    by : (o : Option (Expr ValNum)) → expr_at h n ≡ o → known_expr o ≡ none
    by none p = refl
    by (some (constant v)) p = of_value v p
    by (some (one o a)) p = refl
    by (some (two o a b)) p = refl

pub known_word : (h n : ℕ) → h ≡ packed bool_tag 0 0 → n ≤ 1 → some (bool (eqb n 1)) ≡ known_expr (expr_at h n)
known_word h zero e k = sym (ap (λ (a : ℕ). known_expr (expr_at a 0)) e ∙ known_bool false)
known_word h (suc zero) e k = sym (ap (λ (a : ℕ). known_expr (expr_at a 1)) e ∙ known_bool true)
known_word h (suc (suc n)) e k = absurd (omega arith)
