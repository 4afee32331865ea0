-- Literals by kind and bits.
use Prim.Native.Nat.{ℕ, ◌<◌, ◌≤◌}
use mathlib.Core.Path.{◌≡◌, refl, sym, ap, ◌∙◌}
use mathlib.Core.Bool.{Bool, true, false, cond, ◌||◌, ◌&&◌}
use native.Mathlib.Omega.{arith}
use mir.Syntax.{w32, w64}
use mir.Val.{Fits, bool_byte, to_z, of_z}
use mir.Facts.{of_z-to_z}
use borrow.Author.Rules.{rules}
use lib.Dec.{eqb, ltb, leb}
use lib.Ieee.{Float, nan, inf, fin, binary64, to_bits, is_nan}
use borrow.Author.Tests.{eqb-true, eqb-false, ltb-true, leb-true}
use Rattle.arith.proofs.Clash.{clash}
use Rattle.std.specs.Prelude.{Ok, ℤ}
use Rattle.record.specs.Record.{Lit}
use Rattle.record.specs.Answer.{literal_of}
use Rattle.record.specs.declared.Literal.TheVariants.{Int, Bool as BoolLiteral, Char}
use Rattle.record.specs.Tests.{literal_test}
use Rattle.record.specs.Good.{LitOk}
use Rattle.record.proofs.Tests.{at_most_le, literal_scalar, and_right}

pub lit_same : {k k' b b' : ℕ} → k ≡ k' → b ≡ b' → ◌≡◌ {A = Lit} (record { kind = k; bits = b }) (record { kind = k'; bits = b' })
lit_same e f i = record { kind = e i; bits = f i }

-- ---- a bool
bool_by : (x : ℕ) → x ≤ 1 → (b : Bool) → eqb x 1 ≡ b → cond b 1 0 ≡ x
bool_by x h true e = sym (eqb-true x 1 e)
bool_by x h false e = let n : x ≡ 1 → ⊥ = eqb-false x 1 e in omega arith

pub bool_bits : (k x : ℕ) → k ≡ 1 → LitOk (record { kind = k; bits = x }) → cond (eqb x 1) 1 0 ≡ x
unfolding literal_test
bool_bits k x e h = let t : literal_test 1 x ≡ Ok tt = rw e at h.bits in bool_by x (at_most_le 1 x t) (eqb x 1) refl

pub bool_byte_is : (b : Bool) → bool_byte b ≡ cond b 1 0
bool_byte_is true = refl
bool_byte_is false = refl

-- ---- a char
char_by : (x : ℕ) (b : Bool) → ltb x 0xD800 ≡ b → (b || (leb 0xE000 x && leb x 0x10FFFF)) ≡ true → x ≤ 0x10FFFF
char_by x true e s = let h : x < 0xD800 = ltb-true x 0xD800 e in omega arith
char_by x false e s = leb-true x 0x10FFFF (and_right (leb 0xE000 x) (leb x 0x10FFFF) s)

pub char_most : (k x : ℕ) → k ≡ 3 → LitOk (record { kind = k; bits = x }) → x ≤ 0x10FFFF
char_most k x e h = let t : literal_test 3 x ≡ Ok tt = rw e at h.bits in char_by x (ltb x 0xD800) refl (literal_scalar x t)

pub kind_most : {k x : ℕ} → LitOk (record { kind = k; bits = x }) → k ≤ 3
kind_most {k} h = at_most_le 3 k h.kind

-- ---- the literal of a kind and bits, by the kind
pub of_int :
    (k b : ℕ) (z : ℤ) → k ≡ 0 → b < 18446744073709551616 → z ≡ to_z w64 b →
    literal_of (Int (to_z w64 (of_z w64 z))) ≡ record { kind = k; bits = b }
unfolding literal_of
of_int k b z e h f =
    let s : of_z w64 (to_z w64 b) ≡ b = of_z-to_z {w = w64} (search rules) in
    lit_same (sym e) (ap (λ y. of_z w64 (to_z w64 (of_z w64 y))) f ∙ ap (λ y. of_z w64 (to_z w64 y)) s ∙ s)

pub of_bool : (k b : ℕ) → k ≡ 1 → LitOk (record { kind = k; bits = b }) → literal_of (BoolLiteral (eqb b 1)) ≡ record { kind = k; bits = b }
unfolding literal_of
of_bool k b e h = lit_same (sym e) (bool_bits k b e h)

pub of_char : (k b : ℕ) → 3 ≤ k → LitOk (record { kind = k; bits = b }) → literal_of (Char b) ≡ record { kind = k; bits = b }
unfolding literal_of
of_char k b e h = lit_same (omega (arith, e, kind_most h)) refl

pub char_fits : (k b : ℕ) → 3 ≤ k → LitOk (record { kind = k; bits = b }) → Fits w32 b
char_fits k b e h = record { fits = omega (arith, char_most k b (omega (arith, e, kind_most h)) h) }

-- ---- a float
pub nan_bits : (x : Float) → is_nan x ≡ true → 0x7FF8_0000_0000_0000 ≡ to_bits binary64 x
unfolding is_nan to_bits
nan_bits nan h = refl
nan_bits (inf s) h = clash (cc)
nan_bits (fin s m e) h = clash (cc)
