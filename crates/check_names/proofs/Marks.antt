-- Marks: why a text whose mark is not set is none of the texts before it.
use Prim.Native.Nat.{ℕ, ◌+◌, ◌-◌, ◌*◌, ◌%◌, ◌<◌, ◌≤◌}
use mathlib.Core.Path.{◌≡◌, refl, sym, ap, ◌∙◌, subst}
use mathlib.Core.List.{List, [], ◌∷◌, ◌++◌}
use mathlib.Core.Bool.{Bool, true, false, true≢false, cond, ◌||◌}
use native.Mathlib.Omega.{arith}
use native.Mathlib.Numerals.{add-one}
use lib.ListN.{length, get_or, set, take, drop, drop_of_length-le}
use lib.Seq.{drop-cons, get_or-set_same, get_or-set_other}
use lib.Dec.{ltb, eqb}
use borrow.Author.Tests.{ltb-false, eqb-true, eqb-false}
use Rattle.record.specs.declared.Limits.{Limits}
use Rattle.record.specs.declared.Refusal.TheVariants.{Length}
use Rattle.std.specs.Prelude.{Result}
use Rattle.record.specs.declared.Fault.{Fault}
use Rattle.record.specs.Reader.{Res, got, fault, refuse, judge, field, text}
use Rattle.record.specs.Text.{same_bytes, among}
use Rattle.record.specs.Tests.{type_test, text_length_test, text_test}
use Rattle.record.specs.Read.{name}
use Rattle.record.specs.Answer.{fault_at, verdict}
use Rattle.record.proofs.Tests.{same_bytes_eq}
use Rattle.record.specs.Decode.{items, behind, name_from, name_end}
use Rattle.read_layout.specs.Layout.{texts_from}
use Rattle.record.proofs.Rows.{name_grows, behind_on}
use Rattle.check_names.specs.declared.TheConstants.{MARKS}
use Rattle.check_names.specs.Marks.{mark}
use Rattle.check_names.proofs.Laws.{type_refused, length_refused, text_last, type_ends, length_tells}

-- ---- a turn of the loop over the bytes of a text
pub mark_went :
    (t : List ℕ) (i h : ℕ) → i < length t → mark ((h * 37 + get_or t i 0) % MARKS) (drop (i + 1) t) ≡ mark h (drop i t)
unfolding mark
mark_went t i h z = rw (drop-cons t i 0 z, ← add-one i)

pub mark_done : (t : List ℕ) (i h : ℕ) → length t ≤ i → h ≡ mark h (drop i t)
unfolding mark
mark_done t i h z = rw (drop_of_length-le t z)

-- ---- texts whose marks are set
unfoldable pub Marked : List Bool → List (List ℕ) → Type 0
Marked m [] = Unit {0}
Marked m (u ∷ us) = (get_or m (mark 0 u) false ≡ true) × Marked m us

-- a text without its mark is none of them
unmarked : (m : List Bool) (us : List (List ℕ)) (t : List ℕ) → Marked m us → get_or m (mark 0 t) false ≡ false → among t us ≡ false
unfolding Marked among
unmarked m [] t h z = refl
unmarked m (u ∷ us) t h z = go (same_bytes t u) refl (unmarked m us t h.1 z)
  where
    go : (b : Bool) → same_bytes t u ≡ b → among t us ≡ false → (b || among t us) ≡ false
    go true e f =
        absurd (true≢false (sym (ap (λ (v : List ℕ). get_or m (mark 0 v) false) (same_bytes_eq t u e) ∙ h.0) ∙ z))
    go false e f = f

-- at first
pub none_marked : (m : List Bool) (s : List ℕ) (at : ℕ) → Marked m (texts_from s at 0)
unfolding Marked texts_from items
none_marked m s at = tt

-- one more text and its mark
module _ (m : List Bool) (h : ℕ) (f : h < length m) where
  kept : (j : ℕ) → get_or m j false ≡ true → get_or (set m h true) j false ≡ true
  kept j e = go (eqb j h) refl
    where
      go : (b : Bool) → eqb j h ≡ b → get_or (set m h true) j false ≡ true
      go true b = ap (λ (i : ℕ). get_or (set m h true) i false) (eqb-true j h b) ∙ get_or-set_same m h true false f
      go false b = get_or-set_other m h j true false (eqb-false j h b) ∙ e

  one_more : (us : List (List ℕ)) (u : List ℕ) → h ≡ mark 0 u → Marked m us → Marked (set m h true) (us ++ (u ∷ []))
  unfolding Marked
  one_more [] u e g = (ap (λ (i : ℕ). get_or (set m h true) i false) (sym e) ∙ get_or-set_same m h true false f, tt)
  one_more (v ∷ us) u e g = (kept (mark 0 v) g.0, one_more us u e g.1)

  pub marked_more :
      (us ts : List (List ℕ)) (u : List ℕ) → ts ≡ us ++ (u ∷ []) → h ≡ mark 0 u → Marked m us → Marked (set m h true) ts
  marked_more us ts u e eh g = subst (Marked (set m h true)) (sym e) (one_more us u eh g)

-- ---- a name whose text is none of those seen is read as if none were seen
module _ (made : Bool) (seen : List (List ℕ)) (s : List ℕ) (t n : ℕ) where
  test_unseen : (u : List ℕ) → among u seen ≡ false → text_test made [] u ≡ text_test made seen u
  unfolding text_test among
  test_unseen u e = rw e

  abbrev judged : List (List ℕ) → Bool → Res (List ℕ)
  judged us b = refuse b Length t (judge (text_test made us (take n (drop t s))) t (got (take n (drop t s)) (t + n)))

  text_unseen :
      (n ≤ length s - t → among (take n (drop t s)) seen ≡ false) →
      text n (text_test made []) s t ≡ text n (text_test made seen) s t
  unfolding text
  text_unseen new = go (ltb (length s - t) n) refl
    where
      go : (b : Bool) → ltb (length s - t) n ≡ b → judged [] b ≡ judged seen b
      go true h = refl
      go false h = rw (test_unseen (take n (drop t s)) (new (ltb-false (length s - t) n h)))

module _ (lim : Limits) (seen : List (List ℕ)) (s : List ℕ) (p : ℕ)
    (new : name_end s p ≤ length s → among (name_from s p).text seen ≡ false) where
  abbrev Same : Type 0
  Same = verdict (name lim [] s p) ≡ verdict (name lim seen s p)

  by_length : (x q : ℕ) → field 1 type_test s p ≡ got x q → (r : Res ℕ) → field 1 (text_length_test lim.text) s q ≡ r → Same
  unfolding name_end
  by_length x q e (fault k o) f = sym (length_refused lim [] s p x q e (fault_at k o) f) ∙ length_refused lim seen s p x q e (fault_at k o) f
  by_length x q e (got n t) f =
      let a = type_ends s p x q e in
      let b = length_tells lim.text s q n t f in
      let there : t ≡ p + 1 + 1 = b.1 ∙ ap (λ (k : ℕ). k + 1) a in
      let long : n ≡ get_or s (p + 1) 0 = b.2 ∙ ap (λ (k : ℕ). get_or s k 0) a in
      let same : take n (drop t s) ≡ (name_from s p).text = (λ i. take (long i) (drop (there i) s)) in
      let none : n ≤ length s - t → among (take n (drop t s)) seen ≡ false =
      (λ h. ap (λ (u : List ℕ). among u seen) same ∙ new (omega (arith, h, there, long, b.0))) in
      sym (text_last lim [] s p x q e n t _ f refl)
      ∙ text_last lim seen s p x q e n t _ f (ap verdict (text_unseen lim.made seen s t n none))

  by_type : (r : Res ℕ) → field 1 type_test s p ≡ r → Same
  by_type (fault k o) e = sym (type_refused lim [] s p (fault_at k o) e) ∙ type_refused lim seen s p (fault_at k o) e
  by_type (got x q) e = by_length x q e (field 1 (text_length_test lim.text) s q) refl

  name_unseen : Same
  name_unseen = by_type (field 1 type_test s p) refl

-- so only a text whose mark h is set is searched for, among the k names before it: j is how many are searched
module _ (s : List ℕ) (at k p : ℕ) (m : List Bool) (h j : ℕ) (ej : j ≡ cond (get_or m h false) k 0) where
  pub searched_behind : p ≡ behind (name_end s) at k → behind (name_end s) at j ≤ p
  unfolding behind
  searched_behind e = go (get_or m h false) ej
    where
      go : (b : Bool) → j ≡ cond b k 0 → behind (name_end s) at j ≤ p
      go true z = omega (arith, ap (behind (name_end s) at) z, e)
      go false z = omega (arith, ap (behind (name_end s) at) z, behind_on (name_end s) (name_grows s) at k, e)

  pub name_searched :
      (lim : Limits) (v : Result ℕ Fault) → Marked m (texts_from s at k) → (name_end s p ≤ length s → h ≡ mark 0 (name_from s p).text) →
      v ≡ verdict (name lim (texts_from s at j) s p) → verdict (name lim (texts_from s at k) s p) ≡ v
  unfolding texts_from items
  name_searched lim v g e f = sym (f ∙ ap (λ (i : ℕ). verdict (name lim (texts_from s at i) s p)) ej ∙ go (get_or m h false) refl)
    where
      go : (b : Bool) → get_or m h false ≡ b →
          verdict (name lim (texts_from s at (cond b k 0)) s p) ≡ verdict (name lim (texts_from s at k) s p)
      go true z = refl
      go false z =
          name_unseen lim (texts_from s at k) s p
          (λ w. unmarked m (texts_from s at k) (name_from s p).text g (ap (λ (i : ℕ). get_or m i false) (sym (e w)) ∙ z))
