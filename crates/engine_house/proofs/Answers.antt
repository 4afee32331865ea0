-- The loop that reads a list of answers: the answers still to come, with the number of those that were read, give the whole list.
use Prim.Native.Nat.{ℕ, zero, suc, ◌+◌, ◌-◌, ◌<◌, ◌≤◌}
use mathlib.Core.Path.{◌≡◌, refl, sym, ap, ◌∙◌, subst}
use mathlib.Core.List.{List, [], ◌∷◌}
use mathlib.Core.Bool.{Bool, true, false, cond, ◌||◌}
use native.Mathlib.Omega.{arith}
use lib.ListN.{length}
use lib.Dec.{ltb, eqb}
use borrow.Author.Tests.{lt-ltb, le-ltb}
use Rattle.arith.specs.Value.{is_pointer}
use Rattle.record.specs.declared.Refusal.TheVariants.{Limit}
use Rattle.record.specs.Reader.{Res, got, fault, then, give, ◌>>=◌, num_at, field}
use Rattle.record.specs.Decode.{items}
use Rattle.record.proofs.Tests.{need_passes}
use Rattle.record.proofs.Fields.{field_tells}
use Rattle.record.proofs.Takes.{bind_got}
use Rattle.machine.specs.Machine.{Answer}
use Rattle.running.specs.House.{go_on_byte, halt_byte, value_type, answer_test, answer_behind, house_answer, to_end, answers}
use Rattle.running.specs.Items.{answer_from, answer_end}
use Rattle.running.proofs.Items.{answer_decodes}
use Rattle.std.proofs.Common.{Option as CodeOption, None, Some}
use Rattle.read_fields.specs.Opens.{opens, longest_form}
use Rattle.engine_house.specs.Reads.{EndAs, Sure, ListAs}
use Rattle.engine_house.proofs.Values.{Faulty}
use Rattle.engine_house.proofs.Form.{up_to_end, form_opens, form_closed, one_then, none_left}

-- ---- an answer that was read, or not
-- one that ends there
record Ends (z : Res Answer) (q : ℕ) : Type 0 where
  x : Answer
  is : z ≡ got x q

was_answer : (z : Res Answer) (r : CodeOption ℕ) (q : ℕ) → EndAs z r → r ≡ Some q → Ends z q
unfolding EndAs
was_answer (got x p) r q h e = let same : Some p ≡ Some q = sym h ∙ e in record { x = x; is = ap (got x) (cc same) }
was_answer (fault k o) r q h e = absurd (cc (h, e))

not_answer : (z : Res Answer) (r : CodeOption ℕ) → EndAs z r → r ≡ None → Faulty z
unfolding EndAs
not_answer (got x p) r h e = let same : Some p ≡ None = sym h ∙ e in absurd (cc same)
not_answer (fault k o) r h e = record { reason = k; place = o; is = refl }

module _ (s : List ℕ) (p : ℕ) where
  -- it has a byte that stands alone or a type byte
  sure_byte :
      (x : Answer) (q : ℕ) → house_answer s p ≡ got x q →
      (eqb (num_at s p 1) go_on_byte || (eqb (num_at s p 1) halt_byte || value_type (num_at s p 1))) ≡ true
  unfolding house_answer answer_test
  sure_byte x q e =
      let b = bind_got (field 1 answer_test) (λ t. answer_behind t >>= λ x. give x) s p x q e in
      let t = field_tells 1 answer_test s p b.value b.place b.first in
      ap (λ (n : ℕ). eqb n go_on_byte || (eqb n halt_byte || value_type n)) (sym t.value) ∙ need_passes _ Limit t.passes

  -- and takes a byte or more
  end_behind : p < answer_end s p
  unfolding answer_end
  end_behind = go (eqb (num_at s p 1) go_on_byte) (eqb (num_at s p 1) halt_byte) (is_pointer (num_at s p 1))
    where
      go : (a b c : Bool) → p < cond a (p + 1) (cond b (p + 1) (cond c (p + 1 + 8 + 8) (p + 1 + 8)))
      go true b c = omega arith
      go false true c = omega arith
      go false false true = omega arith
      go false false false = omega arith

-- ---- the answers still to come
abbrev pub answers_rest : ℕ → List ℕ → ℕ → Res (List Answer)
answers_rest n s p = up_to_end (to_end n house_answer) s p

rest_more :
    (n : ℕ) (s : List ℕ) (p : ℕ) → p < length s → (z : Res Answer) → house_answer s p ≡ z →
    answers_rest (suc n) s p ≡ then z (λ x q. then (answers_rest n s q) (λ xs e. got (x ∷ xs) e))
unfolding to_end up_to_end ◌>>=◌ give
rest_more n s p h z e =
    let b : ltb p (length s) ≡ true = lt-ltb p (length s) h in
    let more = house_answer >>= λ x. to_end n house_answer >>= λ xs. give (x ∷ xs) in
    ap (λ (b : Bool). up_to_end (λ s p. cond b more (give []) s p) s p) b
    ∙ one_then s p house_answer (to_end n house_answer)
    ∙ ap (λ (u : Res Answer). then u (λ x q. then (answers_rest n s q) (λ xs e. got (x ∷ xs) e))) e

rest_none : (n : ℕ) (s : List ℕ) (p : ℕ) → length s ≤ p → answers_rest n s p ≡ got [] p
unfolding to_end up_to_end ◌>>=◌ give
rest_none zero s p h = none_left s p h
rest_none (suc n) s p h =
    let b : ltb p (length s) ≡ false = le-ltb p (length s) h in
    let more = house_answer >>= λ x. to_end n house_answer >>= λ xs. give (x ∷ xs) in
    ap (λ (b : Bool). up_to_end (λ s p. cond b more (give []) s p) s p) b ∙ none_left s p h

-- xs from p on, behind n others
pub record ToCome (s : List ℕ) (p n : ℕ) (xs : List Answer) (r : CodeOption ℕ) : Type 0 where
  pub more : ℕ
  pub are : r ≡ Some (n + more)
  pub those : xs ≡ items (answer_from s) (answer_end s) p more
  pub sure : Sure s p more
  pub few : n + more ≤ length s

unfoldable pub ComesAs : List ℕ → ℕ → ℕ → Res (List Answer) → CodeOption ℕ → Type 0
ComesAs s p n (got xs q) r = ToCome s p n xs r
ComesAs s p n (fault k o) r = r ≡ None

-- an answer in front of them
one_before :
    (s : List ℕ) (p n : ℕ) (x : Answer) (q : ℕ) → house_answer s p ≡ got x q → (z : Res (List Answer)) (r : CodeOption ℕ) →
    ComesAs s q (n + 1) z r → ComesAs s p n (then z (λ xs e. got (x ∷ xs) e)) r
unfolding ComesAs items Sure
one_before s p n x q e (got xs o) r h =
    let d = (answer_decodes s p).told x q e in
    let sum : n + 1 + h.more ≡ n + suc h.more = omega arith in
    record {
      more = suc h.more;
      are = h.are ∙ ap Some sum;
      those = λ i. d.0 i ∷ (h.those ∙ ap (λ (p : ℕ). items (answer_from s) (answer_end s) p h.more) d.1) i;
      sure = (sure_byte s p x q e, subst (λ (p : ℕ). Sure s p h.more) d.1 h.sure);
      few = omega (arith, h.few);
    }
one_before s p n x q e (fault k o) r h = h

-- ---- the loop
module _ (s : List ℕ) where
  -- n answers were read, up to p: so the rest gives the whole
  abbrev pub ListLoop : ℕ → ℕ → Type 0
  ListLoop p n = (r : CodeOption ℕ) → ComesAs s p n (answers_rest (length s - n) s p) r → ListAs s (answers s 0) r

  pub list_closed : opens 5 1 s ≡ false → ListAs s (answers s 0) None
  unfolding answers ListAs
  list_closed o = rw (form_closed (to_end (length s) house_answer) s o).is refl

  pub list_start : opens 5 1 s ≡ true → length s < longest_form → ListLoop 5 0
  unfolding answers ListAs ComesAs
  list_start o short r h =
      let n : length s ≡ length s - 0 = omega arith in
      let e : answers s 0 ≡ answers_rest (length s - 0) s 5 =
      form_opens (to_end (length s) house_answer) s o ∙ ap (λ (m : ℕ). answers_rest m s 5) n in
      subst (λ (z : Res (List Answer)). ListAs s z r) (sym e) (go (answers_rest (length s - 0) s 5) h)
    where
      go : (z : Res (List Answer)) → ComesAs s 5 0 z r → ListAs s z r
      go (got xs q) h =
          let sum : 0 + h.more ≡ h.more = omega arith in
          record {
            count = h.more;
            are = h.are ∙ ap Some sum;
            those = h.those;
            sure = h.sure;
            few = omega (arith, h.few);
            short = short;
          }
      go (fault k o) h = h

  module _ (p n : ℕ) (so_far : ListLoop p n) where
    module _ (h : p < length s) (l : n + 5 ≤ p) (r : CodeOption ℕ) (d : EndAs (house_answer s p) r) where
      by_next :
          (z : Res Answer) → house_answer s p ≡ z → (r : CodeOption ℕ) →
          ComesAs s p n (then z (λ x q. then (answers_rest (length s - (n + 1)) s q) (λ xs e. got (x ∷ xs) e))) r →
          ListAs s (answers s 0) r
      by_next z e r k =
          let one_less : length s - n ≡ suc (length s - (n + 1)) = omega (arith, h, l) in
          so_far r
          (subst (λ (m : ℕ). ComesAs s p n (answers_rest m s p) r) (sym one_less)
          (subst (λ (y : Res (List Answer)). ComesAs s p n y r) (sym (rest_more (length s - (n + 1)) s p h z e)) k))

      module _ (q : ℕ) (e : r ≡ Some q) where
        pub list_went : ListLoop q (n + 1)
        list_went r' k =
            let w = was_answer (house_answer s p) r q d e in
            by_next (got w.x q) w.is r' (one_before s p n w.x q w.is (answers_rest (length s - (n + 1)) s q) r' k)

        pub list_moved : p < q
        list_moved =
            let w = was_answer (house_answer s p) r q d e in
            omega (arith, ((answer_decodes s p).told w.x q w.is).1, end_behind s p)

      pub list_stopped : r ≡ None → ListAs s (answers s 0) None
      unfolding ComesAs
      list_stopped e =
          let f = not_answer (house_answer s p) r d e in
          by_next (fault f.reason f.place) f.is None refl

    pub list_done : length s ≤ p → n ≤ length s → ListAs s (answers s 0) (Some n)
    unfolding ComesAs items Sure
    list_done h l =
        let sum : n ≡ n + 0 = omega arith in
        so_far (Some n)
        (subst (λ (y : Res (List Answer)). ComesAs s p n y (Some n)) (sym (rest_none (length s - n) s p h))
        (record { more = 0; are = ap Some sum; those = refl; sure = tt; few = omega (arith, l) }))
