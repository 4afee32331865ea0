-- "Fields are tested in the order read, one past the end before its value."
-- A reader takes the bytes and a place, and gives a value and the place behind it, or the reason and offset of the first fault.
use Rattle.std.specs.Prelude.{⊤, Result, Ok, Err, ℕ, zero, suc, ◌+◌, ◌-◌, ◌*◌, ◌^◌, List, [], ◌∷◌, Bool, true, false, length, get_or, take, drop, ltb}
use Rattle.record.specs.declared.Refusal.{Refusal}
use Rattle.record.specs.declared.Refusal.TheVariants.{Length}

-- what a field's test says of its number: it passes, or the reason for which it is refused
abbrev pub Test : Type 0
Test = Result ⊤ Refusal

infixl 20 ◌>>=◌
pub data Res (A : Type 0) : Type 0 where
  got : A → ℕ → Res A
  fault : Refusal → ℕ → Res A

abbrev pub Reader : Type 0 → Type 0
Reader A = List ℕ → ℕ → Res A

abbrev pub then : {A B : Type 0} → Res A → (A → ℕ → Res B) → Res B
then (got x p) f = f x p
then (fault k o) f = fault k o

abbrev pub refuse : {A : Type 0} → Bool → Refusal → ℕ → Res A → Res A
refuse true k o r = fault k o
refuse false k o r = r

-- refused at o where the test fails
abbrev pub judge : {A : Type 0} → Test → ℕ → Res A → Res A
judge (Ok p) o r = r
judge (Err k) o r = fault k o

-- ---- readers
unfoldable pub give : {A : Type 0} → A → Reader A
give x s at = got x at

unfoldable pub ◌>>=◌ : {A B : Type 0} → Reader A → (A → Reader B) → Reader B
(r >>= f) s at = then (r s at) (λ x p. f x s p)

unfoldable pub here : Reader ℕ
here s at = got at at

-- "Big-endian": the number of w bytes, the first the greatest
abbrev pub num_at : List ℕ → ℕ → ℕ → ℕ
num_at s at zero = 0
num_at s at (suc zero) = get_or s at 0
num_at s at (suc (suc w)) = get_or s at 0 * 256 ^ suc w + num_at s (at + 1) (suc w)

-- a field of w bytes whose number has to pass a test
unfoldable pub field : ℕ → (ℕ → Test) → Reader ℕ
field w test s at =
    refuse (ltb (length s - at) w) Length at
    (judge (test (num_at s at w)) at
    (got (num_at s at w) (at + w)))

-- a field of n bytes that is a text
unfoldable pub text : ℕ → (List ℕ → Test) → Reader (List ℕ)
text n test s at =
    refuse (ltb (length s - at) n) Length at
    (judge (test (take n (drop at s))) at
    (got (take n (drop at s)) (at + n)))

-- a part that is there or not, and what stands for it where it is not
unfoldable pub if_there : {A : Type 0} → Bool → A → Reader A → Reader A
if_there true d r = r
if_there false d r = give d

-- n items; each is told how many stand behind it
unfoldable pub times : {A : Type 0} → ℕ → (ℕ → Reader A) → Reader (List A)
times zero r = give []
times (suc n) r = r n >>= λ x. times n r >>= λ xs. give (x ∷ xs)
