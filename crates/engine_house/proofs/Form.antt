-- The form around the items: its length and version, then the items, then the end.
use Prim.Native.Nat.{ℕ, ◌-◌, ◌<◌, ◌≤◌}
use mathlib.Core.Path.{◌≡◌, refl, ap, ◌∙◌}
use mathlib.Core.List.{List, [], ◌∷◌}
use mathlib.Core.Bool.{Bool, true, false, ◌&&◌}
use native.Mathlib.Omega.{arith}
use lib.ListN.{length}
use lib.Dec.{leb, eqb}
use borrow.Author.Tests.{lt-ltb, le-ltb, leb-true, leb-false}
use Rattle.arith.proofs.Clash.{clash}
use Rattle.record.specs.declared.Refusal.TheVariants.{Length, Version}
use Rattle.record.specs.Reader.{Res, got, fault, Reader, then, judge, give, ◌>>=◌, num_at, field}
use Rattle.record.specs.Tests.{need, length_test}
use Rattle.record.specs.Read.{length_field, end}
use Rattle.record.proofs.Tests.{and_left, and_right}
use Rattle.record.proofs.Fields.{field_tells}
use Rattle.record.proofs.Following.{field_past, field_there, tested_is}
use Rattle.running.specs.House.{form_test, in_form}
use Rattle.read_fields.specs.Opens.{opens}
use Rattle.engine_house.proofs.Values.{Faulty}

-- ---- what is read of it
-- items up to the end
unfoldable pub up_to_end : {A : Type 0} → Reader A → Reader A
up_to_end r = r >>= λ x. end >>= λ e. give x

module _ {A : Type 0} (r : Reader A) (s : List ℕ) where
  abbrev behind_length : Reader A
  behind_length = field 1 form_test >>= λ v. up_to_end r

  by_length : (z : Res ℕ) → length_field s 0 ≡ z → in_form r s 0 ≡ then z (λ l p. behind_length s p)
  unfolding in_form up_to_end ◌>>=◌
  by_length z e = ap (λ (u : Res ℕ). then u (λ l p. behind_length s p)) e

  by_version : (p : ℕ) (z : Res ℕ) → field 1 form_test s p ≡ z → behind_length s p ≡ then z (λ v q. up_to_end r s q)
  unfolding ◌>>=◌
  by_version p z e = ap (λ (u : Res ℕ). then u (λ v q. up_to_end r s q)) e

  module _ (h : 5 ≤ length s) where
    length_by : (b : Bool) → eqb (num_at s 0 4) (length s - 4) ≡ b → length_field s 0 ≡ judge (need b Length) 0 (got (num_at s 0 4) 4)
    unfolding length_field length_test
    length_by b e =
        tested_is 4 (length_test (length s - 4)) s 0 (num_at s 0 4) 4 (field_there 4 s 0 (omega (arith, h)))
        ∙ ap (λ (b : Bool). judge (need b Length) 0 (got (num_at s 0 4) 4)) e

    version_by : (b : Bool) → eqb (num_at s 4 1) 1 ≡ b → field 1 form_test s 4 ≡ judge (need b Version) 4 (got (num_at s 4 1) 5)
    unfolding form_test
    version_by b e =
        tested_is 1 form_test s 4 (num_at s 4 1) 5 (field_there 1 s 4 (omega (arith, h)))
        ∙ ap (λ (b : Bool). judge (need b Version) 4 (got (num_at s 4 1) 5)) e

    form_by :
        (a b : Bool) → eqb (num_at s 0 4) (length s - 4) ≡ a → eqb (num_at s 4 1) 1 ≡ b → (a && b) ≡ true →
        in_form r s 0 ≡ up_to_end r s 5
    form_by true true e f t =
        by_length (got (num_at s 0 4) 4) (length_by true e) ∙ by_version 4 (got (num_at s 4 1) 5) (version_by true f)
    form_by true false e f t = clash (cc t)
    form_by false b e f t = clash (cc t)

    unfit_by :
        (a b : Bool) → eqb (num_at s 0 4) (length s - 4) ≡ a → eqb (num_at s 4 1) 1 ≡ b → (a && b) ≡ false →
        Faulty (in_form r s 0)
    unfit_by true true e f t = clash (cc t)
    unfit_by true false e f t =
        record {
          reason = Version;
          place = 4;
          is = by_length (got (num_at s 0 4) 4) (length_by true e) ∙ by_version 4 (fault Version 4) (version_by false f);
        }
    unfit_by false b e f t =
        record { reason = Length; place = 0; is = by_length (fault Length 0) (length_by false e) }

  short_form : length s < 5 → Faulty (in_form r s 0)
  unfolding length_field
  short_form h = go (length_field s 0) refl
    where
      go : (z : Res ℕ) → length_field s 0 ≡ z → Faulty (in_form r s 0)
      go (got l p) e =
          let four : p ≡ 4 = (field_tells 4 (length_test (length s - 4)) s 0 l p e).ends in
          let past : field 1 form_test s p ≡ fault Length p = field_past 1 form_test s p (omega (arith, h, four)) in
          record { reason = Length; place = p; is = by_length (got l p) e ∙ by_version p (fault Length p) past }
      go (fault k o) e = record { reason = k; place = o; is = by_length (fault k o) e }

  pub form_opens : opens 5 1 s ≡ true → in_form r s 0 ≡ up_to_end r s 5
  form_opens e =
      form_by (leb-true 5 (length s) (and_left (leb 5 (length s)) _ e)) _ _ refl refl (and_right (leb 5 (length s)) _ e)

  pub form_closed : opens 5 1 s ≡ false → Faulty (in_form r s 0)
  form_closed e = go (leb 5 (length s)) refl e
    where
      go :
          (b : Bool) → leb 5 (length s) ≡ b → (b && (eqb (num_at s 0 4) (length s - 4) && eqb (num_at s 4 1) 1)) ≡ false →
          Faulty (in_form r s 0)
      go true h e = unfit_by (leb-true 5 (length s) h) _ _ refl refl e
      go false h e = short_form (leb-false 5 (length s) h)

-- ---- items up to the end
module _ {A : Type 0} (s : List ℕ) (p : ℕ) where
  -- an item, and those behind it
  pub one_then :
      (r : Reader A) (rest : Reader (List A)) →
      up_to_end (r >>= λ x. rest >>= λ xs. give (x ∷ xs)) s p ≡ then (r s p) (λ x q. then (up_to_end rest s q) (λ xs e. got (x ∷ xs) e))
  unfolding up_to_end ◌>>=◌ give
  one_then r rest = go (r s p)
    where
      last : (x : A) (xs : List A) (q : ℕ) (z : Res (Unit {0})) →
          then z (λ e o. got (x ∷ xs) o) ≡ then (then z (λ e o. got xs o)) (λ xs e. got (x ∷ xs) e)
      last x xs q (got u o) = refl
      last x xs q (fault k o) = refl

      rows : (x : A) (z : Res (List A)) →
          then (then z (λ xs o. got (x ∷ xs) o)) (λ xs o. then (end s o) (λ e q. got xs q)) ≡
          then (then z (λ xs o. then (end s o) (λ e q. got xs q))) (λ xs e. got (x ∷ xs) e)
      rows x (got xs o) = last x xs o (end s o)
      rows x (fault k o) = refl

      go : (z : Res A) →
          then (then z (λ x q. then (rest s q) (λ xs o. got (x ∷ xs) o))) (λ xs o. then (end s o) (λ e q. got xs q)) ≡
          then z (λ x q. then (then (rest s q) (λ xs o. then (end s o) (λ e q. got xs q))) (λ xs e. got (x ∷ xs) e))
      go (got x q) = rows x (rest s q)
      go (fault k o) = refl

  -- no more items
  pub none_left : length s ≤ p → ◌≡◌ {A = Res (List A)} (up_to_end (give []) s p) (got [] p)
  unfolding up_to_end ◌>>=◌ give end
  none_left h = rw (le-ltb p (length s) h)

  pub some_left : p < length s → ◌≡◌ {A = Res (List A)} (up_to_end (give []) s p) (fault Length p)
  unfolding up_to_end ◌>>=◌ give end
  some_left h = rw (lt-ltb p (length s) h)
