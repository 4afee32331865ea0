-- How code follows the reading of names: the tests of a text, what a name that passes tells of its bytes, and the turns of the loop
-- over names, where the texts seen are those of the names that stand before. Rests on the laws of readers in record's Following.
use Prim.Native.Nat.{ℕ, suc, ◌+◌, ◌-◌, ◌<◌, ◌≤◌}
use mathlib.Core.Path.{◌≡◌, refl, sym, ap, ◌∙◌}
use mathlib.Core.List.{List, [], ◌∷◌, ◌++◌}
use mathlib.Core.Bool.{Bool, true, false, ◌&&◌}
use native.Mathlib.Omega.{arith}
use native.Mathlib.Numerals.{add-one}
use lib.ListN.{length, get_or, take, drop}
use lib.Dec.{leb}
use borrow.Author.Tests.{lt-ltb, le-ltb, leb-true}
use Rattle.arith.proofs.Clash.{clash}
use Rattle.record.specs.declared.Limits.{Limits}
use Rattle.record.specs.declared.Refusal.{Refusal}
use Rattle.record.specs.declared.Refusal.TheVariants.{Length, Limit}
use Rattle.std.specs.Prelude.{Result, Ok, Err}
use Rattle.record.specs.declared.Fault.{Fault}
use Rattle.record.specs.Reader.{Test}
use Rattle.record.specs.Record.{Name}
use Rattle.record.specs.Reader.{got, fault, give, field, text}
use Rattle.record.specs.Tests.{need, type_test, text_length_test, text_test}
use Rattle.record.specs.Read.{name, names}
use Rattle.record.specs.Answer.{fault_at, verdict}
use Rattle.record.proofs.Takes.{bind_got}
use Rattle.record.proofs.Fields.{field_tells, text_tells}
use Rattle.record.proofs.Following.{verdict_got, read_no, read_is, stopped, made}
use Rattle.record.specs.Decode.{items, behind, name_from, name_end}
use Rattle.read_layout.specs.Layout.{texts_from}
use Rattle.record.proofs.Rows.{behind_more, items_more}

-- ---- a text's length
length_passes : (most n : ℕ) → text_length_test most n ≡ Ok tt → 0 < n
unfolding text_length_test
length_passes most n e = go (leb 1 n) refl e
  where
    go : (b : Bool) → leb 1 n ≡ b → need (b && leb n most) Limit ≡ Ok tt → 0 < n
    go true h e = leb-true 1 n h
    go false h e = clash (cc)

-- ---- the field of a text
module _ (n : ℕ) (test : List ℕ → Test) (s : List ℕ) (t : ℕ) where
  pub text_past : length s - t < n → Err (fault_at Length t) ≡ verdict (text n test s t)
  unfolding text
  text_past h = rw (lt-ltb (length s - t) n h)

  module _ (h : n ≤ length s - t) where
    pub text_passes : test (take n (drop t s)) ≡ Ok tt → Ok (t + n) ≡ verdict (text n test s t)
    unfolding text
    text_passes e = rw (le-ltb (length s - t) n h, e)

    pub text_fails : (k : Refusal) → test (take n (drop t s)) ≡ Err k → Err (fault_at k t) ≡ verdict (text n test s t)
    unfolding text
    text_fails k e = rw (le-ltb (length s - t) n h, e)

-- ---- what a name that passes tells of its bytes
pub type_ends : (s : List ℕ) (p x q : ℕ) → field 1 type_test s p ≡ got x q → q ≡ p + 1
type_ends s p x q e = (field_tells 1 type_test s p x q e).ends

pub length_tells :
    (most : ℕ) (s : List ℕ) (q n t : ℕ) → field 1 (text_length_test most) s q ≡ got n t →
    (0 < n) × (t ≡ q + 1) × (n ≡ get_or s q 0)
length_tells most s q n t e =
    let f = field_tells 1 (text_length_test most) s q n t e in
    (length_passes most n f.passes, f.ends, f.value)

module _ (lim : Limits) (seen : List (List ℕ)) (s : List ℕ) (p : ℕ) where
  name_tells : (x : Name) (q : ℕ) → name lim seen s p ≡ got x q → (x.text ≡ (name_from s p).text) × (q ≡ name_end s p) × (q ≤ length s)
  unfolding name give name_end
  name_tells x q e =
      let a = bind_got (field 1 type_test) _ s p x q e in
      let fa = field_tells 1 type_test s p a.value a.place a.first in
      let b = bind_got (field 1 (text_length_test lim.text)) _ s a.place x q a.second in
      let fb = length_tells lim.text s a.place b.value b.place b.first in
      let c = bind_got (text b.value (text_test lim.made seen)) _ s b.place x q b.second in
      let fc = text_tells b.value (text_test lim.made seen) s b.place c.value c.place c.first in
      let n : b.value ≡ get_or s (p + 1) 0 = fb.2 ∙ ap (λ (k : ℕ). get_or s k 0) fa.ends in
      let t : b.place ≡ p + 1 + 1 = fb.1 ∙ ap (λ (k : ℕ). k + 1) fa.ends in
      let same : x.text ≡ c.value = cc c.second in
      let ends : q ≡ c.place = cc c.second in
      (same ∙ fc.value ∙ (λ i. take (n i) (drop (t i) s)), ends ∙ fc.ends ∙ (λ i. t i + n i), omega (arith, ends, fc.ends, fc.room, fb.0))

  -- the name's tests one after the other
  pub type_refused : (f : Fault) → field 1 type_test s p ≡ fault f.refusal f.offset → Err f ≡ verdict (name lim seen s p)
  unfolding name
  type_refused f e = read_no _ _ s p f e

  module _ (x q : ℕ) (e : field 1 type_test s p ≡ got x q) where
    pub length_refused :
        (f : Fault) → field 1 (text_length_test lim.text) s q ≡ fault f.refusal f.offset →
        Err f ≡ verdict (name lim seen s p)
    unfolding name
    length_refused f g = read_is _ _ s p x q _ e (read_no _ _ s q f g)

    pub text_last :
        (n t : ℕ) (v : Result ℕ Fault) → field 1 (text_length_test lim.text) s q ≡ got n t →
        v ≡ verdict (text n (text_test lim.made seen) s t) → v ≡ verdict (name lim seen s p)
    unfolding name
    text_last n t v f h = read_is _ _ s p x q v e (read_is _ _ s q n t v f (h ∙ sym (made (text n (text_test lim.made seen)) _ s t)))

-- ---- names one after the other

module _ (lim : Limits) (seen : List (List ℕ)) (s : List ℕ) (p : ℕ) where
  one_stopped :
      (n : ℕ) (f : Fault) → verdict (name lim seen s p) ≡ Err f →
      Err f ≡ verdict (names lim seen (suc n) s p)
  unfolding names
  one_stopped n f e = stopped (name lim seen) _ s p f e

  one_went :
      (n q : ℕ) → verdict (name lim seen s p) ≡ Ok q →
      (q ≡ name_end s p)
      × (verdict (names lim (seen ++ ((name_from s p).text ∷ [])) n s q) ≡ verdict (names lim seen (suc n) s p))
      × (q ≤ length s)
  unfolding names
  one_went n q e =
      let g = verdict_got (name lim seen s p) q e in
      let x = g.0 in
      let f = name_tells lim seen s p x q g.1 in (
        f.1,
        ap (λ (t : List ℕ). verdict (names lim (seen ++ (t ∷ [])) n s q)) (sym f.0)
            ∙ read_is (name lim seen) _ s p x q _ g.1 (sym (made (names lim (seen ++ (x.text ∷ [])) n) (λ xs. x ∷ xs) s q)),
        f.2,
      )

-- of `count` names from `at` on i were read, and p is the place of the next
module _ (lim : Limits) (s : List ℕ) (at count : ℕ) where
  -- what the rest answers at p
  abbrev pub rest : ℕ → ℕ → Result ℕ Fault
  rest i p = verdict (names lim (texts_from s at i) (count - i) s p)

  module _ (i p : ℕ) (z : i < count) (ep : p ≡ behind (name_end s) at i) where
    abbrev seen : List (List ℕ)
    seen = texts_from s at i

    less : suc (count - (i + 1)) ≡ count - i
    less = omega arith

    pub more_seen : texts_from s at (i + 1) ≡ seen ++ ((name_from s p).text ∷ [])
    unfolding texts_from
    more_seen =
        ap (texts_from s at) (add-one i)
        ∙ items_more (λ q. (name_from s q).text) (name_end s) at i
        ∙ ap (λ (o : ℕ). seen ++ ((name_from s o).text ∷ [])) (sym ep)

    pub names_stopped : (f : Fault) → verdict (name lim seen s p) ≡ Err f → Err f ≡ rest i p
    names_stopped f e = one_stopped lim seen s p (count - (i + 1)) f e ∙ ap (λ (n : ℕ). verdict (names lim seen n s p)) less

    pub names_went :
        (q : ℕ) → verdict (name lim seen s p) ≡ Ok q →
        (q ≡ behind (name_end s) at (i + 1)) × (rest (i + 1) q ≡ rest i p) × (name_end s p ≤ length s)
    names_went q e =
        let w = one_went lim seen s p (count - (i + 1)) q e in (
          w.0 ∙ ap (name_end s) ep ∙ sym (behind_more (name_end s) at i) ∙ ap (behind (name_end s) at) (sym (add-one i)),
          ap (λ (us : List (List ℕ)). verdict (names lim us (count - (i + 1)) s q)) more_seen
              ∙ w.1
              ∙ ap (λ (n : ℕ). verdict (names lim seen n s p)) less,
          omega (arith, w.0, w.2),
        )

pub names_done : (lim : Limits) (seen : List (List ℕ)) (s : List ℕ) (p left : ℕ) → left ≡ 0 → Ok p ≡ verdict (names lim seen left s p)
unfolding names give
names_done lim seen s p left z = sym (ap (λ (n : ℕ). verdict (names lim seen n s p)) z)

-- at first nothing has been seen
pub names_all : (lim : Limits) (s : List ℕ) (at count : ℕ) → rest lim s at count 0 at ≡ verdict (names lim [] count s at)
unfolding texts_from items
names_all lim s at count = ap (λ (n : ℕ). verdict (names lim [] n s at)) (omega arith)
