-- The operator that is found for a code has that code.
use Prim.Native.Nat.{ℕ}
use mathlib.Core.Path.{◌≡◌, refl}
use mathlib.Core.Bool.{Bool, true, false, cond}
use mathlib.Core.Option.{some}
use mathlib.Core.List.{List, [], ◌∷◌}
use lib.Dec.{eqb}
use borrow.Author.Tests.{eqb-true}
use Rattle.arith.proofs.Clash.{clash}
use Rattle.arith.specs.declared.One.{One}
use Rattle.arith.specs.declared.Two.{Two}
use Rattle.arith.specs.Code.{code1, code2, ones, twos, with_code, one_of, two_of}

found_code : {A : Type 0} (code : A → ℕ) (c : ℕ) (os : List A) (o : A) → with_code code c os ≡ some o → code o ≡ c
unfolding with_code
found_code code c [] o e = clash (cc)
found_code {A} code c (p ∷ os) o e = go (eqb (code p) c) refl (found_code code c os o) e
  where
    go :
        (b : Bool) → eqb (code p) c ≡ b →
        (with_code code c os ≡ some o → code o ≡ c) →
        cond b (some p) (with_code code c os) ≡ some o →
        code o ≡ c
    go true t later e = let j : p ≡ o = cc in rw (← j) (eqb-true (code p) c t)
    go false t later e = later e

pub one_found : (c : ℕ) (o : One) → one_of c ≡ some o → code1 o ≡ c
unfolding one_of
one_found c o e = found_code code1 c ones o e

pub two_found : (c : ℕ) (o : Two) → two_of c ≡ some o → code2 o ≡ c
unfolding two_of
two_found c o e = found_code code2 c twos o e
