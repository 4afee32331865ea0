-- Numbers of two bytes in a row, read again.
use Prim.Native.Nat.{ℕ, zero, suc, ◌+◌, ◌*◌, ◌<◌}
use mathlib.Core.Path.{◌≡◌, refl, sym, ap, ◌∙◌}
use mathlib.Core.List.{List, [], ◌∷◌, ◌++◌, map}
use native.Mathlib.Omega.{arith}
use native.Mathlib.Numerals.{add-one}
use lib.ListN.{length, take, set}
use lib.Seq.{take-suc-set}
use Rattle.record.specs.declared.NameIx.{NameIx}
use Rattle.record.specs.Record.{nm}
use Rattle.record.specs.Reader.{num_at}
use Rattle.record.specs.Decode.{items, two_on, index_from, number_from}

items_more : (f : ℕ → ℕ) (p i : ℕ) → items f two_on p (suc i) ≡ items f two_on p i ++ (f (p + 2 * i) ∷ [])
unfolding items
items_more f p zero = let e : p + 2 * 0 ≡ p = omega arith in rw e
items_more f p (suc i) =
    let e : p + 2 * suc i ≡ p + 2 + 2 * i = omega arith in
    rw e (ap (λ (l : List ℕ). f p ∷ l) (items_more f (p + 2) i))

-- one more is read into an array
pub items_set :
    (f : ℕ → ℕ) (l : List ℕ) (at p i y : ℕ) →
    i < length l →
    p ≡ at + 2 * i →
    y ≡ f p →
    take i l ≡ items f two_on at i →
    take (i + 1) (set l i y) ≡ items f two_on at (i + 1)
items_set f l at p i y h e g k =
    let d : y ≡ f (at + 2 * i) = g ∙ ap f e in
    rw (add-one i, take-suc-set l i y h, k, d) (sym (items_more f at i))

-- as indexes of names
pub items_indexes : (s : List ℕ) (p n : ℕ) → map nm (items (number_from s) two_on p n) ≡ items (index_from s) two_on p n
unfolding items index_from number_from
items_indexes s p zero = refl
items_indexes s p (suc n) = ap (λ (l : List NameIx). nm (num_at s p 2) ∷ l) (items_indexes s (p + 2) n)
