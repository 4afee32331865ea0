-- What is read of a store or a list of answers is what stands there, item by item.
use Prim.Native.Nat.{ℕ, zero, suc, ◌+◌}
use mathlib.Core.Path.{◌≡◌, refl, sym, ap, ◌∙◌, subst}
use mathlib.Core.List.{List, [], ◌∷◌}
use mathlib.Core.Bool.{Bool, true, false, cond}
use native.Mathlib.Omega.{arith}
use Rattle.arith.proofs.Clash.{clash}
use lib.ListN.{length}
use lib.Dec.{ltb, eqb}
use Rattle.arith.specs.Value.{Val, int, float, literal, char, pointer, is_pointer}
use Rattle.record.specs.Reader.{got, Reader, give, ◌>>=◌, num_at, field, times}
use Rattle.record.specs.Tests.{any, literal_test}
use Rattle.record.specs.Read.{length_field, end}
use Rattle.record.specs.Decode.{items, behind}
use Rattle.record.proofs.Takes.{bind_got}
use Rattle.record.proofs.Decode.{Decodes, field_decodes, give_decodes, bind_decodes, times_decode, length_decodes, end_decodes}
use Rattle.machine.specs.Machine.{Answer}
use Rattle.running.specs.House.{nothing_byte, go_on_byte, halt_byte, word, two_words, plain_behind, value_behind, stored_test, set_behind, stored_behind, stored_value, answer_test, value_answer, answer_behind, house_answer, form_test, in_form, stored, to_end, answers}
use Rattle.running.specs.Items.{plain_from, behind_type, behind_end, stored_from, stored_end, answer_from, answer_end}

-- ---- values
word_decodes : (kind : ℕ) (f : ℕ → Val) (s : List ℕ) (at : ℕ) → Decodes (word kind f) s at (f (num_at s at 8)) (at + 8)
unfolding word
word_decodes kind f s at = bind_decodes _ (field_decodes 8 (literal_test kind) s at) give_decodes

plain_decodes : (t : ℕ) (s : List ℕ) (at : ℕ) → Decodes (plain_behind t) s at (plain_from t (num_at s at 8)) (at + 8)
unfolding plain_behind plain_from
plain_decodes zero s at = word_decodes _ int s at
plain_decodes (suc zero) s at = word_decodes _ _ s at
plain_decodes (suc (suc zero)) s at = word_decodes _ float s at
plain_decodes (suc (suc (suc zero))) s at = word_decodes _ char s at
plain_decodes (suc (suc (suc (suc t)))) s at = word_decodes _ literal s at

two_words_decode :
    (f : ℕ → ℕ → Val) (s : List ℕ) (at : ℕ) → Decodes (two_words f) s at (f (num_at s at 8) (num_at s (at + 8) 8)) (at + 8 + 8)
unfolding two_words
two_words_decode f s at =
    bind_decodes _ (field_decodes 8 any s at) (bind_decodes _ (field_decodes 8 any s (at + 8)) give_decodes)

cond_decodes :
    {A : Type 0} (b : Bool) (r q : Reader A) (s : List ℕ) (at : ℕ) (x y : A) (p o : ℕ) →
    Decodes r s at x p →
    Decodes q s at y o →
    Decodes (cond b r q) s at (cond b x y) (cond b p o)
cond_decodes true r q s at x y p o h k = h
cond_decodes false r q s at x y p o h k = k

behind_decodes : (t : ℕ) (s : List ℕ) (at : ℕ) → Decodes (value_behind t) s at (behind_type t s at) (behind_end t s at)
unfolding value_behind
behind_decodes t s at =
    cond_decodes (is_pointer t) _ _ s at _ _ _ _ (two_words_decode (pointer t) s at) (plain_decodes t s at)

-- ---- items
stored_decodes : (s : List ℕ) (at : ℕ) → Decodes stored_value s at (stored_from s at) (stored_end s at)
unfolding stored_value stored_behind set_behind stored_from stored_end
stored_decodes s at =
    bind_decodes _ (field_decodes 1 stored_test s at)
    (bind_decodes _
    (cond_decodes (eqb (num_at s at 1) nothing_byte) _ _ s (at + 1) _ _ _ _ give_decodes
    (bind_decodes _ (behind_decodes (num_at s at 1) s (at + 1)) give_decodes))
    give_decodes)

pub answer_decodes : (s : List ℕ) (at : ℕ) → Decodes house_answer s at (answer_from s at) (answer_end s at)
unfolding house_answer answer_behind value_answer answer_from answer_end
answer_decodes s at =
    bind_decodes _ (field_decodes 1 answer_test s at)
    (bind_decodes _
    (cond_decodes (eqb (num_at s at 1) go_on_byte) _ _ s (at + 1) _ _ _ _ give_decodes
    (cond_decodes (eqb (num_at s at 1) halt_byte) _ _ s (at + 1) _ _ _ _ give_decodes
    (bind_decodes _ (behind_decodes (num_at s at 1) s (at + 1)) give_decodes)))
    give_decodes)

-- ---- the form around them
in_form_decodes : {A : Type 0} (r : Reader A) (s : List ℕ) (x : A) (p : ℕ) → Decodes r s 5 x p → Decodes (in_form r) s 0 x p
unfolding in_form
in_form_decodes r s x p h =
    bind_decodes _ (length_decodes s)
    (bind_decodes _ (field_decodes 1 form_test s 4)
    (bind_decodes _ h
    (bind_decodes _ (end_decodes s p) give_decodes)))

-- a store that reads is the N items that stand behind its header
pub stored_items : (N : ℕ) (s : List ℕ) → Decodes (stored N) s 0 (items (stored_from s) (stored_end s) 5 N) (behind (stored_end s) 5 N)
unfolding stored
stored_items N s =
    in_form_decodes (times N (λ left. stored_value)) s _ _
    (times_decode (λ left. stored_value) s (stored_from s) (stored_end s) (λ left at. stored_decodes s at) N 5)

-- ---- items up to the end
module _ {A : Type 0} (r : Reader A) (s : List ℕ) (one : ℕ → A) (next : ℕ → ℕ) (h : (at : ℕ) → Decodes r s at (one at) (next at)) where
  Row : ℕ → List A → ℕ → Type 0
  Row at xs q = (xs ≡ items one next at (length xs)) × (q ≡ behind next at (length xs))

  no_items : (at : ℕ) (xs : List A) (q : ℕ) → give [] s at ≡ got xs q → Row at xs q
  unfolding Row give items behind
  no_items at xs q e =
      let z : [] ≡ xs = cc e in
      let o : at ≡ q = cc e in
      go xs z o
    where
      go : (xs : List A) → [] ≡ xs → at ≡ q → Row at xs q
      go [] z o = (refl, sym o)
      go (x ∷ xs) z o = clash (cc z)

  one_more :
      (n at : ℕ) (xs : List A) (q : ℕ) →
      ((at : ℕ) (xs : List A) (q : ℕ) → to_end n r s at ≡ got xs q → Row at xs q) →
      (r >>= λ x. to_end n r >>= λ ys. give (x ∷ ys)) s at ≡ got xs q →
      Row at xs q
  unfolding Row give items behind
  one_more n at xs q rest e =
      let k = bind_got r (λ x. to_end n r >>= λ ys. give (x ∷ ys)) s at xs q e in
      let t : (k.value ≡ one at) × (k.place ≡ next at) = (h at).told k.value k.place k.first in
      let l = bind_got (to_end n r) (λ ys. give (k.value ∷ ys)) s k.place xs q k.second in
      let w : Row k.place l.value l.place = rest k.place l.value l.place l.first in
      let v : k.value ∷ l.value ≡ xs = cc l.second in
      let o : l.place ≡ q = cc l.second in
      let m = length l.value in
      let all : Row at (k.value ∷ l.value) l.place =
      ((λ i. t.0 i ∷ (w.0 ∙ ap (λ (p : ℕ). items one next p m) t.1) i), w.1 ∙ ap (λ (p : ℕ). behind next p m) t.1) in
      subst (λ (z : List A). Row at z q) v (subst (λ (z : ℕ). Row at (k.value ∷ l.value) z) o all)

  row_items : (n at : ℕ) (xs : List A) (q : ℕ) → to_end n r s at ≡ got xs q → Row at xs q
  unfolding to_end
  row_items zero at xs q e = no_items at xs q e
  row_items (suc n) at xs q e = go (ltb at (length s)) (λ at xs q. row_items n at xs q) e
    where
      go :
          (b : Bool) → ((at : ℕ) (xs : List A) (q : ℕ) → to_end n r s at ≡ got xs q → Row at xs q) →
          cond b (r >>= λ x. to_end n r >>= λ ys. give (x ∷ ys)) (give []) s at ≡ got xs q → Row at xs q
      go true rest e = one_more n at xs q rest e
      go false rest e = no_items at xs q e

-- a list of answers that reads is as many items as it has, one behind the other
pub answers_items :
    (s : List ℕ) (xs : List Answer) (q : ℕ) →
    answers s 0 ≡ got xs q →
    (xs ≡ items (answer_from s) (answer_end s) 5 (length xs)) × (q ≡ behind (answer_end s) 5 (length xs))
unfolding answers in_form Row
answers_items s xs q e =
    let r = to_end (length s) house_answer in
    let a = bind_got length_field _ s 0 xs q e in
    let b = bind_got (field 1 form_test) _ s a.place xs q a.second in
    let c = bind_got r _ s b.place xs q b.second in
    let d = bind_got end _ s c.place xs q c.second in
    let pa : a.place ≡ 4 = ((length_decodes s).told a.value a.place a.first).1 in
    let pb : b.place ≡ a.place + 1 = ((field_decodes 1 form_test s a.place).told b.value b.place b.first).1 in
    let pd : d.place ≡ c.place = ((end_decodes s c.place).told d.value d.place d.first).1 in
    let g = (give_decodes {x = c.value} {s = s} {at = d.place}).told xs q d.second in
    let five : b.place ≡ 5 = omega (arith, pa, pb) in
    let w : Row house_answer s (answer_from s) (answer_end s) (answer_decodes s) b.place c.value c.place =
    row_items house_answer s (answer_from s) (answer_end s) (answer_decodes s) (length s) b.place c.value c.place c.first in
    let v : c.value ≡ xs = sym g.0 in
    let o : c.place ≡ q = sym (g.1 ∙ pd) in (
      sym v ∙ w.0 ∙ (λ i. items (answer_from s) (answer_end s) (five i) (length (v i))),
      sym o ∙ w.1 ∙ (λ i. behind (answer_end s) (five i) (length (v i))),
    )
