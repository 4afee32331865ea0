-- What every value satisfies that a reader gives from given bytes: the property `Gives` of readers, combinator by combinator.
-- A field's number passes the field's test and, where the bytes are bytes, is below 256 to the power of the field's width.
use Prim.Native.Nat.{ℕ, zero, suc, ◌+◌, ◌-◌, ◌*◌, ◌^◌, ◌<◌, ◌≤◌}
use mathlib.Core.Path.{◌≡◌, refl, sym, ap, subst, ◌∙◌}
use mathlib.Core.List.{List, [], ◌∷◌, ◌++◌, map}
use mathlib.Core.Bool.{Bool, true, false}
use native.Mathlib.Omega.{arith}
use native.Mathlib.Nat.{mul-le-mul_right}
use lib.ListN.{length, get_or, take, drop, length-drop, length-map}
use lib.Seq.{length-take-le}
use Rattle.record.specs.Reader.{Test}
use Rattle.std.specs.Prelude.{Ok}
use Rattle.record.specs.Record.{Bytes}
use Rattle.record.specs.Reader.{got, Reader, give, ◌>>=◌, here, num_at, field, text, if_there, times}
use Rattle.record.specs.Good.{There, Each}
use Rattle.record.proofs.Fields.{Told, field_tells, text_tells, bind_got}

-- whatever r gives from s satisfies P
pub record Gives (s : List ℕ) {A : Type 0} (r : Reader A) (P : A → Type 0) : Type 0 where
  pub gives : (at : ℕ) (x : A) (p : ℕ) → r s at ≡ got x p → P x

-- ---- bytes
pub byte_at : (s : List ℕ) → Bytes s → (at : ℕ) → get_or s at 0 < 256
byte_at [] h at = omega arith
byte_at (b ∷ s) h zero = h.0
byte_at (b ∷ s) h (suc at) = byte_at s h.1 at

pub bytes_take : (n : ℕ) (s : List ℕ) → Bytes s → Bytes (take n s)
bytes_take zero s h = tt
bytes_take (suc n) [] h = tt
bytes_take (suc n) (b ∷ s) h = (h.0, bytes_take n s h.1)

pub bytes_drop : (n : ℕ) (s : List ℕ) → Bytes s → Bytes (drop n s)
bytes_drop zero s h = h
bytes_drop (suc n) [] h = tt
bytes_drop (suc n) (b ∷ s) h = bytes_drop n s h.1

-- a number of w bytes
pub num_at_below : (s : List ℕ) → Bytes s → (at w : ℕ) → num_at s at w < 256 ^ w
num_at_below s h at zero = omega arith
num_at_below s h at (suc zero) = byte_at s h at
num_at_below s h at (suc (suc w)) =
    let b : get_or s at 0 ≤ 255 = omega (arith, byte_at s h at) in
    let m : get_or s at 0 * 256 ^ suc w ≤ 255 * 256 ^ suc w = mul-le-mul_right (256 ^ suc w) b in
    omega (arith, num_at_below s h (at + 1) (suc w))

module _ {s : List ℕ} where
  -- v: what stands at a place in n bytes; what is known of it is known of what the reader gives
  told_gives :
      {A : Type 0} {r : Reader A} (test : A → Test) (n : ℕ) (v : ℕ → A) (P : A → Type 0) →
      ((at : ℕ) (x : A) (p : ℕ) → r s at ≡ got x p → Told test s at n (v at) x p) →
      ((at : ℕ) → n ≤ length s - at → test (v at) ≡ Ok tt → P (v at)) →
      Gives s r P
  told_gives test n v P tells told =
      record {
        gives =
            λ at x p e.
            let t = tells at x p e in
            subst P (sym t.value) (told at t.room (ap test (sym t.value) ∙ t.passes));
      }

  -- ---- fields
  field_told :
      (w : ℕ) (test : ℕ → Test) (P : ℕ → Type 0) →
      ((at : ℕ) → test (num_at s at w) ≡ Ok tt → P (num_at s at w)) →
      Gives s (field w test) P
  field_told w test P told = told_gives test w (λ at. num_at s at w) P (field_tells w test s) (λ at r h. told at h)

  pub field_gives : (w : ℕ) (test : ℕ → Test) → Gives s (field w test) (λ x. test x ≡ Ok tt)
  field_gives w test = field_told w test (λ x. test x ≡ Ok tt) (λ at h. h)

  pub field_ranged : Bytes s → (w : ℕ) (test : ℕ → Test) → Gives s (field w test) (λ x. x < 256 ^ w)
  field_ranged b w test = field_told w test (λ x. x < 256 ^ w) (λ at h. num_at_below s b at w)

  -- ---- texts
  text_told :
      (n : ℕ) (test : List ℕ → Test) (P : List ℕ → Type 0) →
      ((at : ℕ) → length (take n (drop at s)) ≡ n → test (take n (drop at s)) ≡ Ok tt → P (take n (drop at s))) →
      Gives s (text n test) P
  text_told n test P told =
      told_gives test n (λ at. take n (drop at s)) P (text_tells n test s)
      (λ at r h. told at (length-take-le n (drop at s) (omega (arith, r, length-drop at s))) h)

  pub text_gives : (n : ℕ) (test : List ℕ → Test) → Gives s (text n test) (λ t. (length t ≡ n) × (test t ≡ Ok tt))
  text_gives n test = text_told n test (λ t. (length t ≡ n) × (test t ≡ Ok tt)) (λ at l h. (l, h))

  pub text_ranged : Bytes s → (n : ℕ) (test : List ℕ → Test) → Gives s (text n test) Bytes
  text_ranged b n test = text_told n test Bytes (λ at l h. bytes_take n (drop at s) (bytes_drop at s b))

  -- ---- combinators
  pub any_gives : {A : Type 0} (r : Reader A) → Gives s r (λ x. Unit {0})
  any_gives r = record { gives = λ at x p e. tt }

  pub give_gives : {A : Type 0} {x : A} (P : A → Type 0) → P x → Gives s (give x) P
  unfolding give
  give_gives {A} {x} P h = record { gives = λ at y p e. let j : x ≡ y = cc in subst P j h }

  pub bind_gives :
      {A B : Type 0} {r : Reader A} (f : A → Reader B) (P : A → Type 0) {Q : B → Type 0} →
      Gives s r P →
      ((x : A) → P x → Gives s (f x) Q) →
      Gives s (r >>= f) Q
  bind_gives {A} {B} {r} f P {Q} d e =
      record {
        gives = λ at y p h.
            let k = bind_got r f s at y p h in
            (e k.value (d.gives at k.value k.place k.first)).gives k.place y p k.second;
      }

  pub here_gives : {B : Type 0} (f : ℕ → Reader B) {Q : B → Type 0} → ((at : ℕ) → Gives s (f at) Q) → Gives s (here >>= f) Q
  unfolding ◌>>=◌ here
  here_gives f h = record { gives = λ at y p e. (h at).gives at y p e }

  pub there_gives :
      {A : Type 0} (b : Bool) (d : A) {r : Reader A} (P : A → Type 0) →
      Gives s r P →
      Gives s (if_there b d r) (There b P d)
  unfolding if_there
  there_gives true d P h = h
  there_gives false d P h = give_gives _ refl

  -- where d satisfies P as well
  pub either_gives :
      {A : Type 0} (b : Bool) (d : A) {r : Reader A} (P : A → Type 0) →
      P d →
      Gives s r P →
      Gives s (if_there b d r) P
  unfolding if_there
  either_gives true d P k h = h
  either_gives false d P k h = give_gives P k

  pub times_gives :
      {A : Type 0} (r : ℕ → Reader A) (P : ℕ → A → Type 0) →
      ((left : ℕ) → Gives s (r left) (P left)) →
      (n : ℕ) →
      Gives s (times n r) (λ xs. (length xs ≡ n) × Each P xs)
  unfolding times
  times_gives r P h zero = give_gives _ (refl, tt)
  times_gives r P h (suc n) =
      bind_gives _ (P n) (h n) (λ x hx.
      bind_gives _ (λ xs. (length xs ≡ n) × Each P xs) (times_gives r P h n) (λ xs hs.
      give_gives _ (ap suc hs.0, (subst (λ (k : ℕ). P k x) (sym hs.0) hx, hs.1))))

-- ---- lists
pub each_map :
    {A C : Type 0} (f : A → C) (P : ℕ → C → Type 0) (xs : List A) →
    Each (λ left x. P left (f x)) xs →
    Each P (map f xs)
each_map f P [] h = tt
each_map f P (x ∷ xs) h = (subst (λ (k : ℕ). P k (f x)) (sym (length-map xs f)) h.0, each_map f P xs h.1)

-- two facts of each item
pub each_both : {A : Type 0} (P Q : ℕ → A → Type 0) (xs : List A) → Each P xs → Each Q xs → Each (λ left x. P left x × Q left x) xs
each_both P Q [] h k = tt
each_both P Q (x ∷ xs) h k = ((h.0, k.0), each_both P Q xs h.1 k.1)

-- one fact of the items of two lists
pub each_append :
    {A : Type 0} (P : A → Type 0) (xs ys : List A) → Each (λ left x. P x) xs → Each (λ left x. P x) ys → Each (λ left x. P x) (xs ++ ys)
each_append P [] ys h k = k
each_append P (x ∷ xs) ys h k = (h.0, each_append P xs ys h.1 k)

pub each_parts :
    {A : Type 0} (P : A → Type 0) (xs ys : List A) →
    Each (λ left x. P x) (xs ++ ys) →
    Each (λ left x. P x) xs × Each (λ left x. P x) ys
each_parts P [] ys h = (tt, h)
each_parts P (x ∷ xs) ys h = let k = each_parts P xs ys h.1 in ((h.0, k.0), k.1)
