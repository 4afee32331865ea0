-- Laws of `put`: writes one behind the other are one write, those at other places commute, and with room it is a part exchanged.
use Prim.Native.Nat.{ℕ, zero, suc, ◌+◌, ◌<◌, ◌≤◌}
use mathlib.Core.Path.{◌≡◌, refl, sym, ap, ◌∙◌}
use mathlib.Core.List.{List, [], ◌∷◌, ◌++◌, append_assoc}
use mathlib.Core.Bool.{Bool, true, false}
use native.Mathlib.Omega.{arith}
use native.Mathlib.Numerals.{add-one}
use lib.ListN.{length, get_or, set, take, drop, length-set}
use lib.Seq.{get_or-set_same, get_or-set_other, set_out, set_comm, sets, sets-eq, length-take-le, take-append_seam, drop-append_seam}
use lib.Dec.{eqb}
use borrow.Author.Tests.{eqb-true, eqb-false}
use Rattle.write_bytes.specs.Put.{put}

pub put_put : (l : List ℕ) (i : ℕ) (xs ys : List ℕ) → put (put l i xs) (i + length xs) ys ≡ put l i (xs ++ ys)
unfolding put
put_put l i [] ys = let e : i + 0 ≡ i = omega arith in ap (λ (k : ℕ). put l k ys) e
put_put l i (x ∷ xs) ys =
    let e : i + suc (length xs) ≡ i + 1 + length xs = omega arith in
    ap (λ (k : ℕ). put (put (set l i x) (i + 1) xs) k ys) e ∙ put_put (set l i x) (i + 1) xs ys

pub length_put : (l : List ℕ) (i : ℕ) (xs : List ℕ) → length (put l i xs) ≡ length l
unfolding put
length_put l i [] = refl
length_put l i (x ∷ xs) = length_put (set l i x) (i + 1) xs ∙ length-set l i x

-- past the end
pub put_out : (l : List ℕ) (i : ℕ) (xs : List ℕ) → length l ≤ i → put l i xs ≡ l
unfolding put
put_out l i [] h = refl
put_out l i (x ∷ xs) h = ap (λ (m : List ℕ). put m (i + 1) xs) (set_out l i x h) ∙ put_out l (i + 1) xs (omega arith)

-- ---- at other places
pub set_put : (l : List ℕ) (i j x : ℕ) (ys : List ℕ) → i < j → put (set l i x) j ys ≡ set (put l j ys) i x
unfolding put
set_put l i j x [] h = refl
set_put l i j x (y ∷ ys) h =
    ap (λ (m : List ℕ). put m (j + 1) ys) (set_comm l i j x y (λ e. omega arith)) ∙ set_put (set l j y) i (j + 1) x ys (omega arith)

put_swap : (l : List ℕ) (i j : ℕ) (xs ys : List ℕ) → i + length xs ≤ j → put (put l i xs) j ys ≡ put (put l j ys) i xs
unfolding put
put_swap l i j [] ys h = refl
put_swap l i j (x ∷ xs) ys h =
    put_swap (set l i x) (i + 1) j xs ys (omega arith) ∙ ap (λ (m : List ℕ). put m (i + 1) xs) (set_put l i j x ys (omega arith))

-- what stands first is written behind the rest
pub put_before : (l : List ℕ) (i : ℕ) (xs ys : List ℕ) → put (put l (i + length xs) ys) i xs ≡ put l i (xs ++ ys)
put_before l i xs ys = sym (put_swap l i (i + length xs) xs ys (omega arith)) ∙ put_put l i xs ys

-- ---- what stands where afterwards
pub before_put : (l : List ℕ) (i j : ℕ) (xs : List ℕ) → j < i → get_or (put l i xs) j 0 ≡ get_or l j 0
unfolding put
before_put l i j [] h = refl
before_put l i j (x ∷ xs) h = before_put (set l i x) (i + 1) j xs (omega arith) ∙ get_or-set_other l i j x 0 (λ e. omega arith)

pub behind_put : (l : List ℕ) (i j : ℕ) (xs : List ℕ) → i + length xs ≤ j → get_or (put l i xs) j 0 ≡ get_or l j 0
unfolding put
behind_put l i j [] h = refl
behind_put l i j (x ∷ xs) h = behind_put (set l i x) (i + 1) j xs (omega arith) ∙ get_or-set_other l i j x 0 (λ e. omega arith)

pub put_at : (l : List ℕ) (i : ℕ) (xs : List ℕ) (n : ℕ) → n < length xs → i + n < length l → get_or (put l i xs) (i + n) 0 ≡ get_or xs n 0
unfolding put
put_at l i [] n h r = absurd (omega arith)
put_at l i (x ∷ xs) zero h r =
    let e : i + 0 ≡ i = omega arith in
    ap (λ (z : ℕ). get_or (put (set l i x) (i + 1) xs) z 0) e ∙ before_put (set l i x) (i + 1) i xs (omega arith) ∙
    get_or-set_same l i x 0 (omega arith)
put_at l i (x ∷ xs) (suc n) h r =
    let e : i + suc n ≡ i + 1 + n = omega arith in
    let k : length (set l i x) ≡ length l = length-set l i x in
    ap (λ (z : ℕ). get_or (put (set l i x) (i + 1) xs) z 0) e ∙ put_at (set l i x) (i + 1) xs n (omega arith) (omega arith)

-- ---- what is written over
set_twice : (l : List ℕ) (i x y : ℕ) → set (set l i x) i y ≡ set l i y
set_twice [] i x y = refl
set_twice (a ∷ l) zero x y = refl
set_twice (a ∷ l) (suc i) x y = ap (λ (m : List ℕ). a ∷ m) (set_twice l i x y)

set_over : (l : List ℕ) (i j x : ℕ) (ys : List ℕ) → j ≤ i → i < j + length ys → put (set l i x) j ys ≡ put l j ys
unfolding put
set_over l i j x [] h k = absurd (omega arith)
set_over l i j x (y ∷ ys) h k = go (λ a b. set_over (set l j y) i (j + 1) x ys a b) (eqb i j) refl
  where
    go :
        (j + 1 ≤ i → i < j + 1 + length ys → put (set (set l j y) i x) (j + 1) ys ≡ put (set l j y) (j + 1) ys) →
        (b : Bool) → eqb i j ≡ b → put (set (set l i x) j y) (j + 1) ys ≡ put (set l j y) (j + 1) ys
    go rest true e =
        let d : i ≡ j = eqb-true i j e in
        ap (λ (n : ℕ). put (set (set l n x) j y) (j + 1) ys) d ∙ ap (λ (m : List ℕ). put m (j + 1) ys) (set_twice l j x y)
    go rest false e =
        let d : i ≡ j → ⊥ = eqb-false i j e in
        ap (λ (m : List ℕ). put m (j + 1) ys) (set_comm l i j x y d) ∙ rest (omega (arith, d)) (omega arith)

pub put_over :
    (l : List ℕ) (i j : ℕ) (xs ys : List ℕ) → j ≤ i → i + length xs ≤ j + length ys → put (put l i xs) j ys ≡ put l j ys
unfolding put
put_over l i j [] ys h k = refl
put_over l i j (x ∷ xs) ys h k =
    put_over (set l i x) (i + 1) j xs ys (omega arith) (omega arith) ∙ set_over l i j x ys h (omega arith)

-- ---- with room
put_sets : (l : List ℕ) (i : ℕ) (xs : List ℕ) → put l i xs ≡ sets l i xs
unfolding put
put_sets l i [] = refl
put_sets l i (x ∷ xs) = ap (λ (k : ℕ). put (set l i x) k xs) (add-one i) ∙ put_sets (set l i x) (suc i) xs

pub put_split : (l : List ℕ) (i : ℕ) (xs : List ℕ) → i + length xs ≤ length l → put l i xs ≡ take i l ++ (xs ++ drop (i + length xs) l)
put_split l i xs h = put_sets l i xs ∙ sets-eq xs l i h ∙ append_assoc (take i l) xs (drop (i + length xs) l)

-- what was written stands there
pub put_part : (l : List ℕ) (i : ℕ) (xs : List ℕ) → i + length xs ≤ length l → take (length xs) (drop i (put l i xs)) ≡ xs
put_part l i xs h =
    let rest = xs ++ drop (i + length xs) l in
    let e : length (take i l) ≡ i = length-take-le i l (omega arith) in
    ap (λ (m : List ℕ). take (length xs) (drop i m)) (put_split l i xs h) ∙
    ap (λ (k : ℕ). take (length xs) (drop k (take i l ++ rest))) (sym e) ∙
    ap (take (length xs)) (drop-append_seam (take i l) rest) ∙
    take-append_seam xs (drop (i + length xs) l)

-- from the first place on
pub put_first : (l xs : List ℕ) → length xs ≤ length l → put l 0 xs ≡ xs ++ drop (length xs) l
put_first l xs h = let e : 0 + length xs ≡ length xs = omega arith in put_split l 0 xs (rw e h) ∙ rw e

-- two writes from what each ensures; k: the length of the first
pub put_then :
    (l : List ℕ) {m r : List ℕ} (i k : ℕ) (xs ys zs : List ℕ) →
    zs ≡ xs ++ ys →
    length xs ≡ k →
    m ≡ put l i xs →
    r ≡ put m (i + k) ys →
    r ≡ put l i zs
put_then l i k xs ys zs e f a b =
    b ∙ ap (λ (n : List ℕ). put n (i + k) ys) a ∙ ap (λ (n : ℕ). put (put l i xs) (i + n) ys) (sym f) ∙ put_put l i xs ys ∙ ap (put l i) (sym e)
