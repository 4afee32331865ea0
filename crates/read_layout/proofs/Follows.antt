-- What follows a code, by the tables of the code: they say of each code what its shape does, and so where its operands end.
use Prim.Native.Nat.{ℕ, ◌+◌, ◌*◌, ◌<◌, ◌≤◌, min}
use mathlib.Core.Path.{◌≡◌, refl, sym, ap, ◌∙◌, subst}
use mathlib.Core.List.{List}
use mathlib.Core.Bool.{Bool, true, false, cond, not, ◌&&◌}
use native.Mathlib.Omega.{arith}
use native.Mathlib.Decide.{dec_lt}
use native.Mathlib.Nat.{mul-le-mul_right}
use lib.ListN.{get_or}
use lib.Dec.{eqb, leb}
use borrow.Author.Tests.{eqb-true, leb-true}
use Rattle.record.specs.declared.Shape.{Shape}
use Rattle.record.specs.Shape.{unknown, shapes, shape_of}
use Rattle.record.specs.Reader.{num_at}
use Rattle.record.specs.Decode.{operands_end}
use Rattle.record.proofs.Form.{row_beyond, all_below, all_below_at}
use Rattle.record.proofs.Tests.{and_left, and_right}
use Rattle.read_layout.specs.declared.TheConstants.{COUNT_AT, FIXED, PER_ARG}
use Rattle.read_layout.proofs.Ends.{operands_past}

-- ---- the same of a shape
abbrev count_at : Shape → ℕ
count_at sh = cond sh.dest 2 0

abbrev fixed : Shape → ℕ
fixed sh = cond sh.dest 2 0 + cond sh.literal 9 1 + cond sh.callee 2 0 + cond sh.each 0 (2 * sh.blocks)

abbrev each : Shape → ℕ
each sh = cond sh.literal 0 (cond sh.each 4 2)

cond_sum : (b : Bool) (x k : ℕ) → x + cond b k 0 ≡ cond b (x + k) x
cond_sum true x k = refl
cond_sum false x k = omega arith

counted : (b : Bool) (s : List ℕ) (l n : ℕ) → n ≡ num_at s l 1 → cond (not b) n 0 ≡ cond (not b) (num_at s (cond b (l + 9) l) 1) 0
counted true s l n e = refl
counted false s l n e = e

-- b: whether there is a literal; e: whether each argument has a block number, else there are k
sum_is :
    (b e : Bool) (at d c k n : ℕ) →
    at + (d + cond b 9 1 + c + cond e 0 (2 * k)) + cond b 0 (cond e 4 2) * n ≡
    cond (not b) (cond b (at + d + 9) (at + d) + (1 + 2 * cond (not b) n 0)) (cond b (at + d + 9) (at + d)) + c + 2 * cond e (cond (not b) n 0) k
sum_is true true at d c k n = omega arith
sum_is true false at d c k n = omega arith
sum_is false true at d c k n = omega arith
sum_is false false at d c k n = omega arith

ends_as : (sh : Shape) (s : List ℕ) (at n : ℕ) → n ≡ num_at s (at + count_at sh) 1 → at + fixed sh + each sh * n ≡ operands_end sh s at
ends_as sh s at n e =
    operands_past sh s at _ _ _ _ _ _ _ (cond_sum sh.dest at 2) refl (counted sh.literal s (at + count_at sh) n e) refl (cond_sum sh.callee _ 2) refl
    (sum_is sh.literal sh.each at (count_at sh) (cond sh.callee 2 0) sh.blocks n)

-- ---- the tables
-- what they have at i is what a shape says
record Says (sh : Shape) (i : ℕ) : Type 0 where
  count : get_or COUNT_AT i 0 ≡ count_at sh
  bytes : get_or FIXED i 0 ≡ fixed sh
  more : get_or PER_ARG i 0 ≡ each sh
  few : get_or FIXED i 0 ≤ 11
  four : get_or PER_ARG i 0 ≤ 4

row_says : ℕ → Bool
row_says c =
    eqb (get_or COUNT_AT c 0) (count_at (shape_of c)) &&
    (eqb (get_or FIXED c 0) (fixed (shape_of c)) &&
    (eqb (get_or PER_ARG c 0) (each (shape_of c)) && (leb (get_or FIXED c 0) 11 && leb (get_or PER_ARG c 0) 4)))

all_say : all_below 72 row_says ≡ true
unfolding shape_of row_says
all_say = refl

row : (c : ℕ) → row_says c ≡ true → Says (shape_of c) c
unfolding row_says
row c h =
    let h2 = and_right (eqb (get_or COUNT_AT c 0) (count_at (shape_of c))) _ h in
    let h3 = and_right (eqb (get_or FIXED c 0) (fixed (shape_of c))) _ h2 in
    let h4 = and_right (eqb (get_or PER_ARG c 0) (each (shape_of c))) _ h3 in
    record {
      count = eqb-true (get_or COUNT_AT c 0) (count_at (shape_of c)) (and_left _ _ h);
      bytes = eqb-true (get_or FIXED c 0) (fixed (shape_of c)) (and_left _ _ h2);
      more = eqb-true (get_or PER_ARG c 0) (each (shape_of c)) (and_left _ _ h3);
      few = leb-true (get_or FIXED c 0) 11 (and_left _ _ h4);
      four = leb-true (get_or PER_ARG c 0) 4 (and_right (leb (get_or FIXED c 0) 11) _ h4);
    }

-- behind 71 each code is unknown, and an unknown code is followed as 71 is
says : (c i : ℕ) → i ≡ min c 71 → Says (shape_of c) i
unfolding shape_of
says c i e = go (dec_lt c 72)
  where
    go : Dec (c < 72) → Says (shape_of c) i
    go (yes h) = let j : i ≡ c = omega (arith, e) in
        rw j (row c (all_below_at 72 row_says all_say c h))
    go (no h) =
        let j : i ≡ 71 = omega (arith, e) in
        let u : shape_of c ≡ unknown = row_beyond unknown shapes 71 c refl (omega arith) in
        subst (λ (sh : Shape). Says sh i) (sym u) (rw j (record { count = refl; bytes = refl; more = refl; few = omega arith; four = omega arith }))

-- ---- the end; i: the place in the tables, and what stands there
pub follows :
    (c i : ℕ) (s : List ℕ) (at p n f m : ℕ) →
    i ≡ min c 71 → p ≡ get_or COUNT_AT i 0 → n ≡ num_at s (at + p) 1 → f ≡ get_or FIXED i 0 → m ≡ get_or PER_ARG i 0 → n < 256 →
    (at + f + m * n ≡ operands_end (shape_of c) s at) × (at + f + m * n ≤ at + 1031)
follows c i s at p n f m ei ep en ef em h =
    let r = says c i ei in
    let p' = ep ∙ r.count in
    let f' = ef ∙ r.bytes in
    let m' = em ∙ r.more in
    let few : f ≤ 11 = omega (arith, ef, r.few) in
    let most : m * n ≤ 4 * n = mul-le-mul_right n (omega (arith, em, r.four)) in (
      (λ i. at + f' i + m' i * n) ∙ ends_as (shape_of c) s at n (en ∙ ap (λ (k : ℕ). num_at s (at + k) 1) p'),
      omega (arith, few, most, h),
    )
