-- What a reader gives where given bytes stand: the property `Reads` of readers, combinator by combinator.
-- Rests on the laws of lists and of division alone.
use Prim.Native.Nat.{ℕ, zero, suc, ◌+◌, ◌-◌, ◌*◌, ◌/◌, ◌%◌, ◌^◌, ◌≤◌}
use mathlib.Core.Path.{◌≡◌, refl, sym, ap, ◌∙◌, subst}
use mathlib.Core.List.{List, [], ◌∷◌, ◌++◌, map, append_assoc}
use mathlib.Core.Bool.{Bool, true, false}
use native.Mathlib.Omega.{arith}
use native.Mathlib.Nat.{add-zero, div-add-mod'}
use lib.ListN.{length, get_or, take, drop, length-append, length-drop}
use lib.Seq.{get_or-drop, drop-drop, take-append_seam}
use borrow.Author.Tests.{le-ltb}
use Rattle.record.specs.Reader.{Test}
use Rattle.std.specs.Prelude.{Ok}
use Rattle.record.specs.Reader.{Res, got, Reader, then, give, ◌>>=◌, here, num_at, field, text, if_there, times}
use Rattle.record.specs.Write.{be, join, when}
use Rattle.record.specs.Good.{There, Each}
-- what stands behind what stands at a place
pub use Rattle.std.proofs.CharBoundary.{drop_past_prefix as past}

-- wherever bs stands at the place, the reader gives x and ends behind bs
pub record Reads {A : Type 0} (r : Reader A) (at : ℕ) (x : A) (bs : List ℕ) : Type 0 where
  pub reads : (s rest : List ℕ) → drop at s ≡ bs ++ rest → r s at ≡ got x (at + length bs)

-- ---- bytes that stand at a place
first_at : (s t : List ℕ) (at b : ℕ) → drop at s ≡ b ∷ t → get_or s at 0 ≡ b
first_at s t at b e =
    ap (λ (n : ℕ). get_or s n 0) (sym (add-zero at)) ∙ sym (get_or-drop at s 0 0) ∙ ap (λ (l : List ℕ). get_or l 0 0) e

next_at : (s t : List ℕ) (at b : ℕ) → drop at s ≡ b ∷ t → drop (at + 1) s ≡ t
next_at s t at b e = sym (drop-drop 1 at s) ∙ ap (drop 1) e

room : (s a b : List ℕ) (at : ℕ) → drop at s ≡ a ++ b → length a ≤ length s - at
room s a b at e = omega (arith, length-drop at s, ap length e, length-append a b)

-- ---- a number written in w bytes
pub length_be : (w x : ℕ) → length (be w x) ≡ w
unfolding be
length_be zero x = refl
length_be (suc zero) x = refl
length_be (suc (suc w)) x = ap suc (length_be (suc w) (x % 256 ^ suc w))

-- is read as that number, whatever its size
pub num_be : (w x : ℕ) (s rest : List ℕ) (at : ℕ) → drop at s ≡ be (suc w) x ++ rest → num_at s at (suc w) ≡ x
unfolding be
num_be zero x s rest at e = first_at s rest at x e
num_be (suc w) x s rest at e =
    ap (λ (n : ℕ). n * 256 ^ suc w + num_at s (at + 1) (suc w)) (first_at s _ at (x / 256 ^ suc w) e)
    ∙ ap (λ (n : ℕ). x / 256 ^ suc w * 256 ^ suc w + n)
    (num_be w (x % 256 ^ suc w) s rest (at + 1) (next_at s _ at (x / 256 ^ suc w) e))
    ∙ div-add-mod' x (256 ^ suc w)

-- ---- readers
pub field_reads :
    (w at x : ℕ) (test : ℕ → Test) →
    test x ≡ Ok tt →
    Reads (field (suc w) test) at x (be (suc w) x)
unfolding field
field_reads w at x test ok =
    record {
      reads = λ s rest e.
          let n : num_at s at (suc w) ≡ x = num_be w x s rest at e in
          let l : length (be (suc w) x) ≡ suc w = length_be (suc w) x in
          let h : suc w ≤ length s - at = subst (λ (k : ℕ). k ≤ length s - at) l (room s (be (suc w) x) rest at e) in
          simp (le-ltb (length s - at) (suc w) h, n, ok, l);
    }

pub text_reads : (at : ℕ) (t : List ℕ) (test : List ℕ → Test) → test t ≡ Ok tt → Reads (text (length t) test) at t t
unfolding text
text_reads at t test ok =
    record {
      reads = λ s rest e.
          let n : take (length t) (drop at s) ≡ t = ap (take (length t)) e ∙ take-append_seam t rest in
          simp (le-ltb (length s - at) (length t) (room s t rest at e), n, ok);
    }

pub give_reads : {A : Type 0} {x : A} {at : ℕ} → Reads (give x) at x (join [])
unfolding give join
give_reads {A} {x} {at} = record { reads = λ s rest e. ap (got x) (sym (add-zero at)) }

pub bind_reads :
    {A B : Type 0} {r : Reader A} (f : A → Reader B) {at : ℕ} {x : A} {y : B} {b : List ℕ} (bs : List (List ℕ)) →
    Reads r at x b →
    Reads (f x) (at + length b) y (join bs) →
    Reads (r >>= f) at y (join (b ∷ bs))
unfolding ◌>>=◌ join
bind_reads {A} {B} {r} f {at} {x} {y} {b} bs p q =
    record {
      reads = λ s rest e.
          let d : drop at s ≡ b ++ (join bs ++ rest) = e ∙ append_assoc b (join bs) rest in
          ap (λ (z : Res A). then z (λ x p. f x s p)) (p.reads s (join bs ++ rest) d)
          ∙ q.reads s rest (past s b (join bs ++ rest) at d)
          ∙ ap (got y) (omega (arith, length-append b (join bs)));
    }

pub last_reads :
    {A B : Type 0} {r : Reader A} (g : A → B) {at : ℕ} {x : A} {b : List ℕ} →
    Reads r at x b →
    Reads (r >>= λ x. give (g x)) at (g x) b
unfolding ◌>>=◌ give
last_reads {A} {B} {r} g {at} {x} {b} p =
    record { reads = λ s rest e. ap (λ (z : Res A). then z (λ x p. got (g x) p)) (p.reads s rest e) }

pub here_reads : {B : Type 0} (f : ℕ → Reader B) {at : ℕ} {y : B} {b : List ℕ} → Reads (f at) at y b → Reads (here >>= f) at y b
unfolding ◌>>=◌ here
here_reads f p = record { reads = λ s rest e. p.reads s rest e }

pub there_reads :
    {A : Type 0} (b : Bool) (P : A → Type 0) (d : A) (r : Reader A) (at : ℕ) (x : A) (bs : List ℕ) →
    There b P d x →
    (P x → Reads r at x bs) →
    Reads (if_there b d r) at x (when b bs)
unfolding if_there when join
there_reads true P d r at x bs h k = k h
there_reads false P d r at x bs h k = rw h give_reads

-- ---- items in a row
-- each item with the place where it stands
abbrev pub spread : {A C : Type 0} → (ℕ → A → C) → (A → List ℕ) → ℕ → List A → List C
spread g f at [] = []
spread g f at (x ∷ xs) = g at x ∷ spread g f (at + length (f x)) xs

-- g: an item at its place, as r gives it; f: the bytes of an item
module _
    {A C : Type 0} (r : ℕ → Reader C) (g : ℕ → A → C) (f : A → List ℕ) (P : ℕ → A → Type 0)
    (one : (left at : ℕ) (x : A) → P left x → Reads (r left) at (g at x) (f x)) where
  pub times_reads :
      (at : ℕ) (xs : List A) → Each P xs → Reads (times (length xs) r) at (spread g f at xs) (join (map f xs))
  unfolding times
  times_reads at [] h = give_reads
  times_reads at (x ∷ xs) h =
      bind_reads _ _ (one (length xs) at x h.0) (last_reads _ (times_reads (at + length (f x)) xs h.1))

-- the places forgotten by k
pub unspread :
    {A C : Type 0} (k : C → A) (g : ℕ → A → C) (f : A → List ℕ) →
    ((at : ℕ) (x : A) → k (g at x) ≡ x) →
    (at : ℕ) (xs : List A) →
    map k (spread g f at xs) ≡ xs
unspread k g f e at [] = refl
unspread k g f e at (x ∷ xs) = λ i. e at x i ∷ unspread k g f e (at + length (f x)) xs i

-- items that say nothing of their places
spread_plain : {A : Type 0} (f : A → List ℕ) (at : ℕ) (xs : List A) → spread (λ at x. x) f at xs ≡ xs
spread_plain f at [] = refl
spread_plain f at (x ∷ xs) = ap (◌∷◌ x) (spread_plain f (at + length (f x)) xs)

pub all_read :
    {A : Type 0} (r : Reader A) (f : A → List ℕ) (P : A → Type 0) →
    ((at : ℕ) (x : A) → P x → Reads r at x (f x)) →
    (at : ℕ) (xs : List A) →
    Each (λ left x. P x) xs →
    Reads (times (length xs) (λ left. r)) at xs (join (map f xs))
all_read r f P one at xs h =
    rw spread_plain at (times_reads (λ left. r) (λ at x. x) f (λ left x. P x) (λ left at x. one at x) at xs h)
