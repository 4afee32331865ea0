-- Laws of the update of a function.
use mathlib.Core.Path.{◌≡◌, refl, ap}
use mathlib.Core.Logic.{◌≢◌}
use mathlib.Core.HLevel.{Discrete}
use Rattle.arith.specs.Map.{pick, upd}

pub pick_yes : {P A : Type 0} (d : Dec P) (a b : A) → P → pick d a b ≡ a
pick_yes (yes p) a b q = refl
pick_yes (no h) a b q = absurd (h q)

pub pick_no : {P A : Type 0} (d : Dec P) (a b : A) → ¬ P → pick d a b ≡ b
pick_no (yes p) a b q = absurd (q p)
pick_no (no h) a b q = refl

pub upd_same : {A B : Type 0} (dec : Discrete A) (f : A → B) (a : A) (b : B) (x : A) → x ≡ a → upd dec f a b x ≡ b
unfolding upd
upd_same dec f a b x e = pick_yes (dec x a) b (f x) e

pub upd_other : {A B : Type 0} (dec : Discrete A) (f : A → B) (a : A) (b : B) (x : A) → x ≢ a → upd dec f a b x ≡ f x
unfolding upd
upd_other dec f a b x h = pick_no (dec x a) b (f x) h

-- two functions that are the same at x are so after one update of both
pub upd_alike :
    {A B : Type 0} (dec : Discrete A) (f g : A → B) (a : A) (b : B) (x : A) → g x ≡ f x → upd dec g a b x ≡ upd dec f a b x
unfolding upd
upd_alike dec f g a b x e = ap (pick (dec x a) b) e

-- a property of each value of the updated function: of the new value where x is a, and of the old ones elsewhere
pub upd_ind :
    {A B : Type 0} (dec : Discrete A) (f : A → B) (a : A) (b : B) (x : A) (P : B → Type 0) →
    (x ≡ a → P b) →
    (x ≢ a → P (f x)) →
    P (upd dec f a b x)
unfolding upd
upd_ind dec f a b x P = go (dec x a)
  where
    go : (d : Dec (x ≡ a)) → (x ≡ a → P b) → (x ≢ a → P (f x)) → P (pick d b (f x))
    go (yes p) new old = new p
    go (no h) new old = old h
