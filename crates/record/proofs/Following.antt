-- How code follows a reader: each law is one turn of the code, a field, a test, a part that passed or was refused, an item of a row,
-- a row of a table. The code's answer is the reader's with its value forgotten, `verdict`. Rests on Tests.
use Prim.Native.Nat.{ℕ, zero, suc, ◌+◌, ◌-◌, ◌<◌, ◌≤◌}
use mathlib.Core.Path.{◌≡◌, refl, sym, ap, ◌∙◌}
use mathlib.Core.List.{List, [], ◌∷◌}
use mathlib.Core.Bool.{Bool, true, false, cond, ◌&&◌, ◌||◌}
use native.Mathlib.Omega.{arith}
use lib.ListN.{length, drop}
use lib.Dec.{ltb}
use borrow.Author.Tests.{lt-ltb, le-ltb, lt-leb, le-leb, ltb-true}
use Rattle.arith.proofs.Clash.{clash}
use Rattle.record.specs.declared.Refusal.{Refusal}
use Rattle.record.specs.declared.Refusal.TheVariants.{Length}
use Rattle.record.specs.Reader.{Test}
use Rattle.record.specs.declared.Fault.{Fault}
use Rattle.std.specs.Prelude.{Result, Ok, Err}
use Rattle.record.specs.declared.Shape.{Shape}
use Rattle.record.specs.Reader.{Res, got, fault, Reader, then, refuse, judge, give, here, ◌>>=◌, num_at, field, if_there, times}
use Rattle.record.specs.Record.{Instr, Placed, nm}
use Rattle.record.specs.Shape.{row_of, shape_of}
use Rattle.record.specs.Tests.{any, below}
use Rattle.record.specs.Read.{name_index, operands}
use Rattle.record.specs.Answer.{fault_at, verdict}
use Rattle.record.proofs.Tests.{and_left, and_right}
-- what `?` hands on: the error itself
pub use Rattle.std.proofs.result.Match.{err_is as handed_on}

-- ---- a verdict, back to what was read
pub verdict_got : {A : Type 0} (z : Res A) (q : ℕ) → verdict z ≡ Ok q → (x : A) × (z ≡ got x q)
verdict_got (got x p) q e = let j : p ≡ q = cc in (x, ap (got x) j)
verdict_got (fault k o) q e = clash (cc)

pub verdict_fault : {A : Type 0} (z : Res A) (f : Fault) → verdict z ≡ Err f → z ≡ fault f.refusal f.offset
verdict_fault (got x p) f e = clash (cc)
verdict_fault (fault k o) f e = let g : fault_at k o ≡ f = cc in ap (λ (h : Fault). fault h.refusal h.offset) g

-- ---- a condition
-- how the code takes `a || b` and `a && b` apart: its result r is a where that settles it, and b where not
module _ (a b r : Bool) where
  pub or_settled : a ≡ true → r ≡ a → r ≡ (a || b)
  or_settled e f = rw e (f ∙ e)

  pub or_other : a ≡ false → r ≡ b → r ≡ (a || b)
  or_other e f = rw e f

  pub and_settled : a ≡ false → r ≡ a → r ≡ (a && b)
  and_settled e f = rw e (f ∙ e)

  pub and_other : a ≡ true → r ≡ b → r ≡ (a && b)
  and_other e f = rw e f

-- ---- a field
pub field_past : (w : ℕ) (test : ℕ → Test) (s : List ℕ) (at : ℕ) → length s - at < w → field w test s at ≡ fault Length at
unfolding field
field_past w test s at h = rw (lt-ltb (length s - at) w h)

pub field_there : (w : ℕ) (s : List ℕ) (at : ℕ) → w ≤ length s - at → field w any s at ≡ got (num_at s at w) (at + w)
unfolding field any
field_there w s at h = rw (le-ltb (length s - at) w h)

-- a field is its number, then the test
module _ (w : ℕ) (test : ℕ → Test) (s : List ℕ) (at : ℕ) where
  abbrev judged : ℕ → ℕ → Res ℕ
  judged x p = judge (test x) at (got x p)

  tested : field w test s at ≡ then (field w any s at) judged
  unfolding field any
  tested = go (ltb (length s - at) w)
    where
      go : (b : Bool) →
          refuse b Length at (judged (num_at s at w) (at + w)) ≡ then (refuse b Length at (got (num_at s at w) (at + w))) judged
      go true = refl
      go false = refl

  pub tested_is : (x p : ℕ) → field w any s at ≡ got x p → field w test s at ≡ judge (test x) at (got x p)
  tested_is x p e = tested ∙ ap (λ (z : Res ℕ). then z judged) e

  pub tested_no : (k : Refusal) (o : ℕ) → field w any s at ≡ fault k o → fault k o ≡ field w test s at
  tested_no k o e = sym (tested ∙ ap (λ (z : Res ℕ). then z judged) e)

  -- the number looked at by a test of the code's
  pub field_judged : (x p : ℕ) (t : Test) (z : Res ℕ) →
      field w any s at ≡ got x p → t ≡ test x → z ≡ judge t at (got x p) → z ≡ field w test s at
  field_judged x p t z e h j = j ∙ ap (λ (u : Test). judge u at (got x p)) h ∙ sym (tested_is x p e)

-- ---- one reader after another
module _ {A B : Type 0} (r : Reader A) (f : A → Reader B) (s : List ℕ) (at : ℕ) where
  -- by what was read
  pub read_no : (a : Fault) → r s at ≡ fault a.refusal a.offset → Err a ≡ verdict ((r >>= f) s at)
  unfolding ◌>>=◌
  read_no a e = sym (ap (λ (z : Res A). verdict (then z (λ x p. f x s p))) e)

  pub read_is : (x : A) (p : ℕ) (v : Result ℕ Fault) → r s at ≡ got x p → v ≡ verdict (f x s p) → v ≡ verdict ((r >>= f) s at)
  unfolding ◌>>=◌
  read_is x p v e h = h ∙ sym (ap (λ (z : Res A). verdict (then z (λ x p. f x s p))) e)

  -- by the verdict alone
  pub stopped : (a : Fault) → verdict (r s at) ≡ Err a → Err a ≡ verdict ((r >>= f) s at)
  unfolding ◌>>=◌
  stopped a e = sym (ap (λ (z : Res A). verdict (then z (λ x p. f x s p))) (verdict_fault (r s at) a e))

  pub passed_by : (p : ℕ) (v : Result ℕ Fault) → verdict (r s at) ≡ Ok p → ((x : A) → r s at ≡ got x p → v ≡ verdict (f x s p)) → v ≡ verdict ((r >>= f) s at)
  passed_by p v e h = let (x, g) = verdict_got (r s at) p e in read_is x p v g (h x g)

  pub passed : (p : ℕ) (v : Result ℕ Fault) → verdict (r s at) ≡ Ok p → ((x : A) → v ≡ verdict (f x s p)) → v ≡ verdict ((r >>= f) s at)
  passed p v e h = passed_by p v e (λ x g. h x)

-- the place itself
pub here_is : {B : Type 0} (f : ℕ → Reader B) (s : List ℕ) (at : ℕ) (v : Result ℕ Fault) →
    v ≡ verdict (f at s at) → v ≡ verdict ((here >>= f) s at)
unfolding ◌>>=◌ here
here_is f s at v e = e

-- a value made of what was read changes no verdict
pub made : {A B : Type 0} (r : Reader A) (g : A → B) (s : List ℕ) (at : ℕ) →
    verdict ((r >>= λ x. give (g x)) s at) ≡ verdict (r s at)
unfolding ◌>>=◌ give
made {A} r g s at = go (r s at)
  where
    go : (z : Res A) → verdict (then z (λ x p. got (g x) p)) ≡ verdict z
    go (got x p) = refl
    go (fault k o) = refl

-- ---- items in a row
module _ {A : Type 0} (r : ℕ → Reader A) (s : List ℕ) (p : ℕ) where
  item_stopped : (n : ℕ) (a : Fault) → verdict (r n s p) ≡ Err a → Err a ≡ verdict (times (suc n) r s p)
  unfolding times
  item_stopped n a e = stopped (r n) _ s p a e

  item_went : (n q : ℕ) → verdict (r n s p) ≡ Ok q → verdict (times n r s q) ≡ verdict (times (suc n) r s p)
  unfolding times
  item_went n q e = passed (r n) _ s p q (verdict (times n r s q)) e (λ x. sym (made (times n r) (λ xs. x ∷ xs) s q))

-- of `left` items the code reads the first
module _ {A : Type 0} (r : ℕ → Reader A) (s : List ℕ) (p left : ℕ) (h : 0 < left) where
  one_less : suc (left - 1) ≡ left
  one_less = omega arith

  pub times_stopped : (a : Fault) → verdict (r (left - 1) s p) ≡ Err a → Err a ≡ verdict (times left r s p)
  times_stopped a e = item_stopped r s p (left - 1) a e ∙ ap (λ (n : ℕ). verdict (times n r s p)) one_less

  pub times_went : (q : ℕ) → verdict (r (left - 1) s p) ≡ Ok q → verdict (times (left - 1) r s q) ≡ verdict (times left r s p)
  times_went q e = item_went r s p (left - 1) q e ∙ ap (λ (n : ℕ). verdict (times n r s p)) one_less

-- where the code counts up: behind i of n, whose items are read alike
module _ {A : Type 0} (r : Reader A) (s : List ℕ) (p n i : ℕ) (h : i < n) where
  pub row_stopped : (a : Fault) → verdict (r s p) ≡ Err a → Err a ≡ verdict (times (n - i) (λ left. r) s p)
  row_stopped = times_stopped (λ left. r) s p (n - i) (omega arith)

  pub row_went : (q : ℕ) → verdict (r s p) ≡ Ok q → verdict (times (n - (i + 1)) (λ left. r) s q) ≡ verdict (times (n - i) (λ left. r) s p)
  row_went q e =
      let one : n - (i + 1) ≡ n - i - 1 = omega arith in
      ap (λ k. verdict (times k (λ left. r) s q)) one ∙ times_went (λ left. r) s p (n - i) (omega arith) q e

pub times_done : {A : Type 0} (r : ℕ → Reader A) (s : List ℕ) (p left : ℕ) → left ≡ 0 → Ok p ≡ verdict (times left r s p)
unfolding times give
times_done r s p left z = sym (ap (λ (n : ℕ). verdict (times n r s p)) z)

-- rows whose items have the same verdicts have the same verdict
module _ {A B : Type 0} (r : ℕ → Reader A) (q : ℕ → Reader B)
    (same : (left : ℕ) (s : List ℕ) (at : ℕ) → verdict (r left s at) ≡ verdict (q left s at)) where
  pub times_verdict : (n : ℕ) (s : List ℕ) (at : ℕ) → verdict (times n r s at) ≡ verdict (times n q s at)
  unfolding times give
  times_verdict zero s at = refl
  times_verdict (suc n) s at = go (verdict (r n s at)) refl (λ p. times_verdict n s p)
    where
      go : (v : Result ℕ Fault) → verdict (r n s at) ≡ v → ((p : ℕ) → verdict (times n r s p) ≡ verdict (times n q s p)) →
          verdict (times (suc n) r s at) ≡ verdict (times (suc n) q s at)
      go (Ok p) e rest = sym (item_went r s at n p e) ∙ rest p ∙ item_went q s at n p (sym (same n s at) ∙ e)
      go (Err a) e rest = sym (item_stopped r s at n a e) ∙ item_stopped q s at n a (sym (same n s at) ∙ e)

-- ---- a part that is there or not
module _ {A : Type 0} (b : Bool) (d : A) (r : Reader A) (s : List ℕ) (at : ℕ) where
  pub there_yes : b ≡ true → verdict (r s at) ≡ verdict (if_there b d r s at)
  unfolding if_there
  there_yes e = rw e

  pub there_no : b ≡ false → Ok at ≡ verdict (if_there b d r s at)
  unfolding if_there give
  there_no e = rw e

-- ---- an instruction's parts
-- the index of a name is a field
pub index_verdict : (N : ℕ) (s : List ℕ) (at : ℕ) → verdict (name_index N s at) ≡ verdict (field 2 (below N) s at)
unfolding name_index
index_verdict N s at = made (field 2 (below N)) nm s at

pub indexes_verdict : (N n : ℕ) (s : List ℕ) (at : ℕ) →
    verdict (times n (λ left. name_index N) s at) ≡ verdict (times n (λ left. field 2 (below N)) s at)
indexes_verdict N n s at = times_verdict (λ left. name_index N) (λ left. field 2 (below N)) (λ left. index_verdict N) n s at

-- operands of a shape that the code found
pub shaped : (N B id code : ℕ) (sh : Shape) (g : Instr → Placed) (s : List ℕ) (at : ℕ) (v : Result ℕ Fault) →
    ((id code : ℕ) → v ≡ verdict (operands N B sh id code s at)) → sh ≡ shape_of code →
    v ≡ verdict ((operands N B (shape_of code) id code >>= λ i. give (g i)) s at)
shaped N B id code sh g s at v h e =
    h id code
    ∙ ap (λ (sh : Shape). verdict (operands N B sh id code s at)) e
    ∙ sym (made (operands N B (shape_of code) id code) g s at)

-- ---- rows of a table by upper ends
-- whether the first n rows end below m
abbrev pub ends_below : {A : Type 0} → ℕ → ℕ → List (ℕ × A) → Bool
ends_below zero m rs = true
ends_below (suc n) m [] = true
ends_below (suc n) m (row ∷ rs) = ltb row.0 m && ends_below n m rs

module _ {A : Type 0} (d : A) where
  -- a row that ends below c is passed over
  row_over : (m c : ℕ) (row : ℕ × A) (rs : List (ℕ × A)) → ltb row.0 m ≡ true → m ≤ c → row_of d rs c ≡ row_of d (row ∷ rs) c
  row_over m c row rs b g =
      let l : row.0 < m = ltb-true row.0 m b in
      sym (ap (λ (t : Bool). cond t row.1 (row_of d rs c)) (lt-leb c row.0 (omega arith)))

  -- the code c stands in row n
  pub row_found : (n m e c : ℕ) (x : A) (rs rest : List (ℕ × A)) →
      ends_below n m rs ≡ true → drop n rs ≡ (e, x) ∷ rest → m ≤ c → c ≤ e → x ≡ row_of d rs c
  row_found zero m e c x rs rest b f g h =
      sym (ap (λ (t : List (ℕ × A)). row_of d t c) f ∙ ap (λ (t : Bool). cond t x (row_of d rest c)) (le-leb c e h))
  row_found (suc n) m e c x [] rest b f g h = clash (cc)
  row_found (suc n) m e c x (row ∷ rs) rest b f g h =
      row_found n m e c x rs rest (and_right (ltb row.0 m) (ends_below n m rs) b) f g h
      ∙ row_over m c row rs (and_left (ltb row.0 m) (ends_below n m rs) b) g
