-- How code follows the reading of names' parts, what parts that were read tell of the bytes, and the choice of a name's part.
-- Rests on the laws of readers in record's Following and on what is read in record's Decode.
use Prim.Native.Nat.{ℕ, zero, suc, ◌+◌, ◌-◌, ◌<◌, ◌≤◌}
use mathlib.Core.Path.{◌≡◌, refl, sym, ap, ◌∙◌, subst}
use mathlib.Core.List.{List, [], ◌∷◌}
use mathlib.Core.Bool.{Bool, true, false, cond}
use native.Mathlib.Omega.{arith}
use lib.ListN.{length, take, drop}
use lib.Dec.{ltb}
use borrow.Author.Tests.{lt-ltb, le-ltb, lt-leb, le-leb}
use Rattle.std.specs.Prelude.{Result, Ok, Err}
use Rattle.std.specs.Result.{result_and}
use Rattle.arith.proofs.Clash.{clash}
use Rattle.record.specs.declared.Refusal.TheVariants.{Length, Name}
use Rattle.record.specs.declared.Fault.{Fault}
use Rattle.record.specs.Reader.{Res, got, fault, refuse, give, here, num_at, field, text, times}
use Rattle.record.specs.Tests.{any}
use Rattle.record.specs.Answer.{fault_at, verdict, checked}
use Rattle.record.specs.Decode.{behind, name_end, record_from}
use Rattle.record.proofs.Takes.{bind_got}
use Rattle.record.proofs.Judged.{accepted_as, refused_as}
use Rattle.record.proofs.Fields.{field_tells, text_tells}
use Rattle.record.proofs.Following.{verdict_got, read_no, read_is, here_is, made}
use Rattle.numbering.specs.declared.NameError.{NameError}
use Rattle.numbering.specs.declared.NameError.TheVariants.{Refused, Mismatch}
use Rattle.numbering.specs.NameText.{Part, NameText, name_part, parts_of, nth_part, choose, from_parts, refused, headed, with_input, name_text}
use Rattle.name_text.specs.declared.Place.{Place}
use Rattle.name_text.specs.Found.{found, IsWithin, starts_at, part_at, part_from}

-- ---- one name
-- a text that is not looked at is a field that is not looked at
text_skipped : (n : ℕ) (s : List ℕ) (t : ℕ) → verdict (field n any s t) ≡ verdict (text n (λ t. (Ok tt)) s t)
unfolding field text any
text_skipped n s t = go (ltb (length s - t) n)
  where
    go : (b : Bool) →
        verdict (refuse b Length t (got (num_at s t n) (t + n))) ≡ verdict (refuse b Length t (got (take n (drop t s)) (t + n)))
    go true = refl
    go false = refl

module _ (b : Bool) (s : List ℕ) (p : ℕ) where
  pub type_past : (f : Fault) → field 1 any s p ≡ fault f.refusal f.offset → Err f ≡ verdict (name_part b s p)
  unfolding name_part
  type_past f e = read_no _ _ s p f e

  module _ (x q : ℕ) (e : field 1 any s p ≡ got x q) where
    pub length_past : (f : Fault) → field 1 any s q ≡ fault f.refusal f.offset → Err f ≡ verdict (name_part b s p)
    unfolding name_part
    length_past f h = read_is _ _ s p x q _ e (read_no _ _ s q f h)

    pub text_last : (n t : ℕ) (v : Result ℕ Fault) → field 1 any s q ≡ got n t → v ≡ verdict (field n any s t) → v ≡ verdict (name_part b s p)
    unfolding name_part
    text_last n t v f h =
        read_is _ _ s p x q v e
        (read_is _ _ s q n t v f
        (here_is _ s t v
        (h ∙ text_skipped n s t ∙ sym (made (text n (λ t. (Ok tt))) (λ t'. record { rewriting = b; from = t; count = n }) s t))))

-- ---- what is told by parts that were read
-- the part of the name at p lies within the record
abbrev IsInside : List ℕ → ℕ → Type 0
IsInside s p = (p + 1 + 1 + num_at s (p + 1) 1 ≤ length s)

module _ (b : Bool) (s : List ℕ) where
  name_tells : (p : ℕ) (x : Part) (q : ℕ) → name_part b s p ≡ got x q → (x ≡ part_at b s p) × (q ≡ name_end s p) × IsInside s p
  unfolding name_part give name_end here
  name_tells p x q e =
      let a = bind_got (field 1 any) _ s p x q e in
      let fa = field_tells 1 any s p a.value a.place a.first in
      let c = bind_got (field 1 any) _ s a.place x q a.second in
      let fc = field_tells 1 any s a.place c.value c.place c.first in
      let h = bind_got here _ s c.place x q c.second in
      let eh : (h.value ≡ c.place) × (h.place ≡ c.place) = (cc h.first, cc h.first) in
      let d = bind_got (text c.value (λ t. (Ok tt))) _ s h.place x q h.second in
      let fd = text_tells c.value (λ t. (Ok tt)) s h.place d.value d.place d.first in
      let n : c.value ≡ num_at s (p + 1) 1 = fc.value ∙ ap (λ (k : ℕ). num_at s k 1) fa.ends in
      let t : c.place ≡ p + 1 + 1 = fc.ends ∙ ap (λ (k : ℕ). k + 1) fa.ends in
      let same : x ≡ record { rewriting = b; from = h.value; count = c.value } = cc d.second in
      let ends : q ≡ d.place = cc d.second in (
        same ∙ (λ i. record { rewriting = b; from = (eh.0 ∙ t) i; count = n i }),
        ends ∙ fd.ends ∙ (λ i. (eh.1 ∙ t) i + n i),
        omega (arith, fd.room, n, eh.1, t, fc.room, fa.ends),
      )

  -- n parts from p on
  record Told (n p : ℕ) (ps : List Part) : Type 0 where
    pub many : length ps ≡ n
    pub each : (i : ℕ) → i < n → (nth_part ps i ≡ part_at b s (behind (name_end s) p i)) × IsInside s (behind (name_end s) p i)

  each_part : (n p : ℕ) (ps : List Part) (x : Part) (xs : List Part) (q : ℕ) → ps ≡ x ∷ xs →
      (x ≡ part_at b s p) × (q ≡ name_end s p) × IsInside s p → Told n q xs →
      (i : ℕ) → i < suc n → (nth_part ps i ≡ part_at b s (behind (name_end s) p i)) × IsInside s (behind (name_end s) p i)
  unfolding behind
  each_part n p ps x xs q same fa t zero h = (ap (λ (l : List Part). nth_part l 0) same ∙ fa.0, fa.2)
  each_part n p ps x xs q same fa t (suc i) h =
      let r = t.each i (omega arith) in
      let w : behind (name_end s) q i ≡ behind (name_end s) (name_end s p) i = ap (λ (k : ℕ). behind (name_end s) k i) fa.1 in
      (ap (λ (l : List Part). nth_part l (suc i)) same ∙ r.0 ∙ ap (part_at b s) w, subst (λ (k : ℕ). IsInside s k) w r.1)

  parts_tell : (n p : ℕ) (ps : List Part) (q : ℕ) → times n (λ left. name_part b) s p ≡ got ps q → Told n p ps
  unfolding times give
  parts_tell zero p ps q e =
      let none : ps ≡ [] = cc e in
      record { many = ap (λ (l : List Part). length l) none; each = λ i h. absurd (omega arith) }
  parts_tell (suc n) p ps q e =
      let a = bind_got (name_part b) _ s p ps q e in
      let fa = name_tells p a.value a.place a.first in
      let c = bind_got (times n (λ left. name_part b)) _ s a.place ps q a.second in
      let t = parts_tell n a.place c.value c.place c.first in
      let same : ps ≡ a.value ∷ c.value = cc c.second in
      record {
        many = ap (λ (l : List Part). length l) same ∙ ap suc t.many;
        each = each_part n p ps a.value c.value a.place same fa t;
      }

-- ---- a part within its record
abbrev pub Lies : List ℕ → List ℕ → NameText → Type 0
Lies input rewriting t = (t.part.from + t.part.count ≤ length (cond t.part.rewriting rewriting input))

pub refused_lies : (a r : List ℕ) (t : NameText) (k : NameError) → t ≡ refused k → Lies a r t
refused_lies a r t k e = subst (λ (t : NameText). Lies a r t) (sym e) (omega arith)

-- ---- the choice
module _ (i p q : ℕ) (ps qs : List Part) where
  abbrev both_got : NameText
  both_got = from_parts i (got ps p) (got qs q)

  too_few : length qs < length ps → refused Mismatch ≡ both_got
  unfolding from_parts
  too_few h = rw (lt-leb (length ps) (length qs) h)

  module _ (g : length ps ≤ length qs) where
    past_all : length qs ≤ i → refused (Refused (fault_at Name 0)) ≡ both_got
    unfolding from_parts choose
    past_all h = rw (le-leb (length ps) (length qs) g, le-ltb i (length qs) h)

    of_first : i < length qs → i < length ps → record { answer = Ok tt; part = nth_part ps i } ≡ both_got
    unfolding from_parts choose
    of_first h k = rw (le-leb (length ps) (length qs) g, lt-ltb i (length qs) h, lt-ltb i (length ps) k)

    of_second : i < length qs → length ps ≤ i → record { answer = Ok tt; part = nth_part qs i } ≡ both_got
    unfolding from_parts choose
    of_second h k = rw (le-leb (length ps) (length qs) g, lt-ltb i (length qs) h, le-ltb i (length ps) k)

module _ (a r : List ℕ) (i n m p q : ℕ) (t : NameText) (en : n ≡ num_at a 6 2) (em : m ≡ num_at r 6 2)
    (ea : verdict (parts_of false a) ≡ Ok p) (er : verdict (parts_of true r) ≡ Ok q) where
  abbrev whole : NameText
  whole = from_parts i (parts_of false a) (parts_of true r)

  ga : (ps : List Part) × (parts_of false a ≡ got ps p)
  ga = verdict_got (parts_of false a) p ea

  gr : (qs : List Part) × (parts_of true r ≡ got qs q)
  gr = verdict_got (parts_of true r) q er

  ta : Told false a (num_at a 6 2) 8 ga.0
  ta = parts_tell false a (num_at a 6 2) 8 ga.0 p ga.1

  tr : Told true r (num_at r 6 2) 8 gr.0
  tr = parts_tell true r (num_at r 6 2) 8 gr.0 q gr.1

  as_got : from_parts i (got ga.0 p) (got gr.0 q) ≡ whole
  as_got = λ j. from_parts i (sym ga.1 j) (sym gr.1 j)

  first_many : length ga.0 ≡ n
  first_many = ta.many ∙ sym en

  second_many : length gr.0 ≡ m
  second_many = tr.many ∙ sym em

  pub chosen_few : m < n → t ≡ refused Mismatch → (t ≡ whole) × Lies a r t
  chosen_few h e =
      (e ∙ too_few i p q ga.0 gr.0 (omega (arith, first_many, second_many, h)) ∙ as_got, refused_lies a r t Mismatch e)

  module _ (g : n ≤ m) where
    fewer : length ga.0 ≤ length gr.0
    fewer = omega (arith, first_many, second_many, g)

    pub chosen_past : m ≤ i → t ≡ refused (Refused (fault_at Name 0)) → (t ≡ whole) × Lies a r t
    chosen_past h e =
        (e ∙ past_all i p q ga.0 gr.0 fewer (omega (arith, second_many, h)) ∙ as_got, refused_lies a r t (Refused (fault_at Name 0)) e)

    pub chosen_first : i < m → i < n → t ≡ part_from false a i → (t ≡ whole) × Lies a r t
    chosen_first h k e =
        let w = ta.each i (subst (λ (x : ℕ). i < x) en k) in (
          e
              ∙ ap (λ (x : Part). record { answer = Ok tt; part = x }) (sym w.0)
              ∙ of_first i p q ga.0 gr.0 fewer (omega (arith, second_many, h)) (omega (arith, first_many, k))
              ∙ as_got,
          subst (λ (t : NameText). Lies a r t) (sym e) w.1,
        )

    pub chosen_second : i < m → n ≤ i → t ≡ part_from true r i → (t ≡ whole) × Lies a r t
    chosen_second h k e =
        let w = tr.each i (subst (λ (x : ℕ). i < x) em h) in (
          e
              ∙ ap (λ (x : Part). record { answer = Ok tt; part = x }) (sym w.0)
              ∙ of_second i p q ga.0 gr.0 fewer (omega (arith, second_many, h)) (omega (arith, first_many, k))
              ∙ as_got,
          subst (λ (t : NameText). Lies a r t) (sym e) w.1,
        )

-- the names of one record run past its end
not_both_as : (i : ℕ) (x y : Res (List Part)) (f : Fault) → Err f ≡ result_and (verdict x) (verdict y) → refused Mismatch ≡ from_parts i x y
unfolding from_parts
not_both_as i (fault k o) y f e = refl
not_both_as i (got ps p) (fault k o) f e = refl
not_both_as i (got ps p) (got qs q) f e = clash (cc)

pub not_both :
    (i : ℕ) (x y : Res (List Part)) (a r : List ℕ) (z : Result Place NameError) (f : Fault) → z ≡ Err Mismatch →
    Err f ≡ result_and (verdict x) (verdict y) → (found z ≡ from_parts i x y) × IsWithin z a r
not_both i x y a r z f h e = (ap found h ∙ not_both_as i x y f e, subst (λ (z : Result Place NameError). IsWithin z a r) (sym h) (omega arith))

-- ---- the input's check
module _ (a r : List ℕ) (i : ℕ) where
  input_refused : (f : Fault) → checked a ≡ Err f → refused (Refused f) ≡ name_text a r i
  unfolding name_text with_input
  input_refused f e = sym (ap (with_input a r i) (refused_as a f e))

  pub not_checked : (z : Result Place NameError) (f : Fault) → z ≡ Err (Refused f) → checked a ≡ Err f → (found z ≡ name_text a r i) × IsWithin z a r
  not_checked z f e h = (ap found e ∙ input_refused f h, subst (λ (z : Result Place NameError). IsWithin z a r) (sym e) (omega arith))

  input_accepted : (v : ℕ) → checked a ≡ Ok tt → v ≡ num_at a 4 1 →
      cond (headed v r) (from_parts i (parts_of false a) (parts_of true r)) (refused Mismatch) ≡ name_text a r i
  unfolding name_text with_input record_from
  input_accepted v e ev =
      ap (λ (v : ℕ). cond (headed v r) (from_parts i (parts_of false a) (parts_of true r)) (refused Mismatch)) ev ∙
      sym (ap (with_input a r i) (accepted_as a e).got)

  module _ (v : ℕ) (e : checked a ≡ Ok tt) (ev : v ≡ num_at a 4 1) where
    pub when_headed : headed v r ≡ true → from_parts i (parts_of false a) (parts_of true r) ≡ name_text a r i
    when_headed h =
        sym (ap (λ (b : Bool). cond b (from_parts i (parts_of false a) (parts_of true r)) (refused Mismatch)) h) ∙ input_accepted v e ev

    pub when_not : headed v r ≡ false → refused Mismatch ≡ name_text a r i
    when_not h =
        sym (ap (λ (b : Bool). cond b (from_parts i (parts_of false a) (parts_of true r)) (refused Mismatch)) h) ∙ input_accepted v e ev

-- ---- where the part that is handed back stands
module _ (t u : NameText) (same : t ≡ u) where
  pub text_starts : (i r at : ℕ × ℕ) → at ≡ cond t.part.rewriting r i → (at.0, t.part.from + at.1) ≡ starts_at i r u.part
  text_starts i r at e =
      ap (λ (at : ℕ × ℕ). (at.0, t.part.from + at.1)) e ∙ ap (λ (t : NameText). starts_at i r t.part) same
