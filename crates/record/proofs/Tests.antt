-- What a field's number is that passes its test, and the other way round.
use Prim.Native.Nat.{ℕ, ◌<◌, ◌≤◌}
use mathlib.Core.Path.{◌≡◌, refl, ap}
use mathlib.Core.Logic.{◌⊎◌, inl, inr}
use mathlib.Core.List.{List, [], ◌∷◌}
use mathlib.Core.Bool.{Bool, true, false, not, ◌&&◌, ◌||◌}
use lib.Dec.{ltb, leb, eqb}
use borrow.Author.Tests.{ltb-true, leb-true, eqb-true, lt-ltb, le-leb}
use Rattle.arith.proofs.Clash.{clash}
use Rattle.arith.specs.Value.{scalar}
use Rattle.record.specs.declared.Shape.{Shape}
use Rattle.record.specs.declared.Refusal.{Refusal}
use Rattle.record.specs.declared.Refusal.TheVariants.{Version, Limit, Name, Code, Place}
use Rattle.record.specs.Reader.{Test}
use Rattle.std.specs.Prelude.{Ok, Err}
use Rattle.record.specs.Shape.{shape_of}
use Rattle.record.specs.Text.{same_bytes}
use Rattle.record.specs.Tests.{need, and_then, at_most, below, version_test, names_test, code_test, count_test, literal_test}
-- the parts of an `and` that holds, and it from them
pub use Rattle.std.specs.Cmp.{first_so as and_left, second_so as and_right}
pub use Rattle.std.proofs.lemmas.Bool.{and_from as and_both}

-- ---- conditions
-- the first fails, so it is the second
pub or_second : (a b : Bool) → (a || b) ≡ true → a ≡ false → b ≡ true
or_second true b e f = clash (cc)
or_second false b e f = e

pub or_first : (a b : Bool) → (a || b) ≡ true → b ≡ false → a ≡ true
or_first true b e f = refl
or_first false b e f = clash (cc)

-- lists that the test takes for equal are equal
pub same_bytes_eq : (t u : List ℕ) → same_bytes t u ≡ true → t ≡ u
unfolding same_bytes
same_bytes_eq [] [] e = refl
same_bytes_eq [] (y ∷ u) e = clash (cc)
same_bytes_eq (x ∷ t) [] e = clash (cc)
same_bytes_eq (x ∷ t) (y ∷ u) e =
    let h : x ≡ y = eqb-true x y (and_left (eqb x y) (same_bytes t u) e) in
    let k : t ≡ u = same_bytes_eq t u (and_right (eqb x y) (same_bytes t u) e) in
    cc

-- ---- tests
pub need_passes : (b : Bool) (k : Refusal) → need b k ≡ Ok tt → b ≡ true
need_passes true k e = refl
need_passes false k e = clash (cc)

pub passes_need : (b : Bool) (k : Refusal) → b ≡ true → need b k ≡ Ok tt
passes_need b k e = rw e

pub and_then_first : (s t : Test) → and_then s t ≡ Ok tt → s ≡ Ok tt
and_then_first (Ok p) t e = refl
and_then_first (Err k) t e = e

pub and_then_second : (s t : Test) → and_then s t ≡ Ok tt → t ≡ Ok tt
and_then_second (Ok p) t e = e
and_then_second (Err k) t e = clash (cc)

-- ---- fields
pub at_most_le : (most x : ℕ) → at_most most x ≡ Ok tt → x ≤ most
unfolding at_most
at_most_le most x e = leb-true x most (need_passes (leb x most) Limit e)

pub le_at_most : (most x : ℕ) → x ≤ most → at_most most x ≡ Ok tt
unfolding at_most
le_at_most most x h = passes_need (leb x most) Limit (le-leb x most h)

pub below_lt : (n x : ℕ) → below n x ≡ Ok tt → x < n
unfolding below
below_lt n x e = ltb-true x n (need_passes (ltb x n) Name e)

pub lt_below : (n x : ℕ) → x < n → below n x ≡ Ok tt
unfolding below
lt_below n x h = passes_need (ltb x n) Name (lt-ltb x n h)

pub version_is : (v : ℕ) → version_test v ≡ Ok tt → (v ≡ 1) ⊎ (v ≡ 2)
unfolding version_test
version_is v e = go (eqb v 1) refl
  where
    one_of : (eqb v 1 || eqb v 2) ≡ true
    one_of = need_passes (eqb v 1 || eqb v 2) Version e

    go : (b : Bool) → eqb v 1 ≡ b → (v ≡ 1) ⊎ (v ≡ 2)
    go true f = inl (eqb-true v 1 f)
    go false f = inr (eqb-true v 2 (or_second (eqb v 1) (eqb v 2) one_of f))

-- the number of names is within its limit, and the arguments are among them
pub names_limit : (most args n : ℕ) → names_test most args n ≡ Ok tt → n ≤ most
unfolding names_test
names_limit most args n e = leb-true n most (and_left (leb n most) (leb args n) (need_passes (leb n most && leb args n) Limit e))

pub names_args : (most args n : ℕ) → names_test most args n ≡ Ok tt → args ≤ n
unfolding names_test
names_args most args n e = leb-true args n (and_right (leb n most) (leb args n) (need_passes (leb n most && leb args n) Limit e))

pub names_passes : (most args n : ℕ) → n ≤ most → args ≤ n → names_test most args n ≡ Ok tt
unfolding names_test
names_passes most args n h k = passes_need _ Limit (and_both _ _ (le-leb n most h) (le-leb args n k))

module _ (sh : Shape) (n : ℕ) where
  pub count_few : count_test sh n ≡ Ok tt → sh.few ≤ n
  unfolding count_test
  count_few e = leb-true sh.few n (and_left (leb sh.few n) (leb n sh.most) (need_passes _ Limit e))

  pub count_most : count_test sh n ≡ Ok tt → n ≤ sh.most
  unfolding count_test
  count_most e = leb-true n sh.most (and_right (leb sh.few n) (leb n sh.most) (need_passes _ Limit e))

-- a code that is known, and stands last where it has to
module _ (last : Bool) (c : ℕ) (e : code_test last c ≡ Ok tt) where
  pub code_known : (shape_of c).known ≡ true
  unfolding code_test
  code_known = need_passes (shape_of c).known Code (and_then_first (need (shape_of c).known Code) _ e)

  pub code_last : (shape_of c).last ≡ true → last ≡ true
  unfolding code_test
  code_last l =
      let h : (last || not (shape_of c).last) ≡ true =
      need_passes (last || not (shape_of c).last) Place (and_then_second (need (shape_of c).known Code) _ e) in
      or_first last (not (shape_of c).last) h (ap not l)

-- a char's bits
pub literal_scalar : (bits : ℕ) → literal_test 3 bits ≡ Ok tt → scalar bits ≡ true
unfolding literal_test
literal_scalar bits e = need_passes (scalar bits) Limit e
