-- What a field or a text that is read without a fault tells: its value, its end, that it lies in the bytes, and that it passes its test;
-- and what two readers, one after the other, do.
use Prim.Native.Nat.{ℕ, ◌+◌, ◌-◌, ◌≤◌}
use mathlib.Core.Path.{◌≡◌, refl, ap, ◌∙◌}
use mathlib.Core.List.{List}
use mathlib.Core.Bool.{Bool, true, false}
use lib.ListN.{length, take, drop}
use lib.Dec.{ltb}
use borrow.Author.Tests.{ltb-false}
use Rattle.arith.proofs.Clash.{clash}
use Rattle.record.specs.declared.Refusal.TheVariants.{Length}
use Rattle.record.specs.Reader.{Test}
use Rattle.std.specs.Prelude.{Ok, Err}
use Rattle.record.specs.Reader.{Res, got, fault, Reader, then, ◌>>=◌, refuse, judge, num_at, field, text}

-- n bytes at a place hold v, and x was read up to p
pub record Told {A : Type 0} (test : A → Test) (s : List ℕ) (at n : ℕ) (v x : A) (p : ℕ) : Type 0 where
  pub value : x ≡ v
  pub ends : p ≡ at + n
  pub room : n ≤ length s - at
  pub passes : test x ≡ Ok tt

part_tells :
    {A : Type 0} (test : A → Test) (s : List ℕ) (at n : ℕ) (v x : A) (p : ℕ) →
    refuse (ltb (length s - at) n) Length at (judge (test v) at (got v (at + n))) ≡ got x p →
    Told test s at n v x p
part_tells test s at n v x p e = go (ltb (length s - at) n) refl (test v) refl e
  where
    go :
        (b : Bool) → ltb (length s - at) n ≡ b → (t : Test) → test v ≡ t →
        refuse b Length at (judge t at (got v (at + n))) ≡ got x p → Told test s at n v x p
    go true l t h e = clash (cc)
    go false l (Ok u) h e =
        let same : x ≡ v = cc in
        record { value = same; ends = cc; room = ltb-false (length s - at) n l; passes = ap test same ∙ h }
    go false l (Err k) h e = clash (cc)

pub field_tells :
    (w : ℕ) (test : ℕ → Test) (s : List ℕ) (at x p : ℕ) → field w test s at ≡ got x p → Told test s at w (num_at s at w) x p
unfolding field
field_tells w test s at x p e = part_tells test s at w (num_at s at w) x p e

pub text_tells :
    (n : ℕ) (test : List ℕ → Test) (s : List ℕ) (at : ℕ) (x : List ℕ) (p : ℕ) →
    text n test s at ≡ got x p →
    Told test s at n (take n (drop at s)) x p
unfolding text
text_tells n test s at x p e = part_tells test s at n (take n (drop at s)) x p e

-- ---- one reader after the other
-- f's reader gives y behind what r gives
pub record Bound {A B : Type 0} (r : Reader A) (f : A → Reader B) (s : List ℕ) (at : ℕ) (y : B) (p : ℕ) : Type 0 where
  pub value : A
  pub place : ℕ
  pub first : r s at ≡ got value place
  pub second : f value s place ≡ got y p

pub bind_got :
    {A B : Type 0} (r : Reader A) (f : A → Reader B) (s : List ℕ) (at : ℕ) (y : B) (p : ℕ) →
    (r >>= f) s at ≡ got y p →
    Bound r f s at y p
unfolding ◌>>=◌
bind_got {A} {B} r f s at y p e = go (r s at) refl e
  where
    go : (v : Res A) → r s at ≡ v → then v (λ x p. f x s p) ≡ got y p → Bound r f s at y p
    go (got x q) k e = record { value = x; place = q; first = k; second = e }
    go (fault a b) k e = clash (cc)
