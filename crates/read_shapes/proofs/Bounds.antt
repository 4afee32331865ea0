-- Bounds that hold in each row of the table of shapes: at most eight arguments, and two block numbers where there is not one for each of them.
use Prim.Native.Nat.{ℕ, ◌≤◌}
use mathlib.Core.Path.{◌≡◌, refl}
use mathlib.Core.List.{List, [], ◌∷◌}
use mathlib.Core.Bool.{Bool, true, false, cond, ◌&&◌}
use native.Mathlib.Omega.{arith}
use lib.Dec.{leb}
use borrow.Author.Tests.{leb-true}
use Rattle.record.specs.Shape.{unknown, row_of, shapes, targets, shape_of}
use Rattle.record.proofs.Longest.{targets_most}
use Rattle.record.proofs.Tests.{and_left, and_right}

module _ {A : Type 0} (p : A → Bool) (d : A) (e : p d ≡ true) (c : ℕ) where
  abbrev in_all : List (ℕ × A) → Bool
  in_all [] = true
  in_all (r ∷ rs) = p r.1 && in_all rs

  row_either : (b : Bool) (x y : A) → p x ≡ true → p y ≡ true → p (cond b x y) ≡ true
  row_either true x y h k = h
  row_either false x y h k = k

  row_all : (rs : List (ℕ × A)) → in_all rs ≡ true → p (row_of d rs c) ≡ true
  row_all [] h = e
  row_all (r ∷ rs) h =
      row_either (leb c r.0) r.1 (row_of d rs c)
      (and_left (p r.1) (in_all rs) h) (row_all rs (and_right (p r.1) (in_all rs) h))

shape_blocks : (c : ℕ) → (shape_of c).blocks ≤ 2
unfolding shape_of
shape_blocks c = leb-true _ 2 (row_all (λ sh. leb sh.blocks 2) unknown refl c shapes refl)

pub shape_most : (c : ℕ) → (shape_of c).most ≤ 8
unfolding shape_of
shape_most c = leb-true _ 8 (row_all (λ sh. leb sh.most 8) unknown refl c shapes refl)

-- so at most eight block numbers behind eight arguments or fewer
pub shape_targets : (c n : ℕ) → n ≤ 8 → targets (shape_of c) n ≤ 8
shape_targets c n h = targets_most 8 n (shape_of c) (omega (arith, shape_blocks c)) h
