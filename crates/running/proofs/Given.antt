-- What reads as a list of answers, from bytes, holds values of types that names may have: so what is left of it can be written and read again.
use Prim.Native.Nat.{ℕ, zero, suc, ◌%◌, ◌^◌, ◌≤◌, ◌<◌}
use mathlib.Core.Path.{◌≡◌, refl}
use mathlib.Core.List.{List, [], ◌∷◌}
use mathlib.Core.Bool.{Bool, true, false, cond, not, ◌||◌}
use native.Mathlib.Omega.{arith}
use lib.ListN.{length}
use lib.Dec.{ltb, leb, eqb}
use borrow.Author.Tests.{lt-ltb, leb-true, eq-eqb, ne_eqb}
use Rattle.arith.specs.Word.{W}
use Rattle.arith.specs.Value.{Val, int, float, literal, char, bool, pointer, tint, tbool, tfloat, tchar, is_pointer, scalar, type_of, in_range}
use Rattle.std.specs.Prelude.{Ok}
use Rattle.record.specs.declared.Refusal.TheVariants.{Limit}
use Rattle.record.specs.Record.{Bytes, Instr, Block}
use Rattle.record.specs.Reader.{got, Reader, give, ◌>>=◌, field}
use Rattle.record.specs.Read.{length_field, end}
use Rattle.record.specs.Tests.{any, type_test, literal_test}
use Rattle.record.specs.Good.{Each}
use Rattle.record.proofs.Tests.{and_both, need_passes, passes_need, or_second}
use Rattle.record.proofs.Gives.{Gives, field_gives, field_ranged, any_gives, give_gives, bind_gives}
use Rattle.machine.specs.Machine.{Store, Context, Answer, value, go_on, halt, tick, assign, happens}
use Rattle.running.specs.Steps.{steps, start}
use Rattle.running.specs.House.{held, go_on_byte, halt_byte, value_type, word, two_words, plain_behind, value_behind, answer_test, value_answer, answer_behind, house_answer, in_form, to_end, answers}
use Rattle.running.proofs.Kept.{Rest, all_left, one_taken, Keeps, steps_keep}
use Rattle.running.proofs.Answers.{Answerable}

-- a value of some type that a name may have
abbrev Valued : Val → Type 0
Valued v = Answerable (value v)

valued : (t : ℕ) (v : Val) → leb (t % 16) 3 ≡ true → type_of v ≡ t → in_range v ≡ true → Valued v
unfolding type_test
valued t v h e r = (t, passes_need (leb (t % 16) 3) Limit h, and_both (eqb (type_of v) t) (in_range v) (eq-eqb (type_of v) t e) r)

module _ {s : List ℕ} (bytes : Bytes s) where
  -- ---- values
  word_gives :
      (kind : ℕ) (f : ℕ → Val) → ((x : ℕ) → literal_test kind x ≡ Ok tt → x < 256 ^ 8 → Valued (f x)) → Gives s (word kind f) Valued
  unfolding word
  word_gives kind f h =
      let passes : Gives s (field 8 (literal_test kind)) (λ x. literal_test kind x ≡ Ok tt) = field_gives 8 (literal_test kind) in
      let small : Gives s (field 8 (literal_test kind)) (λ x. x < 256 ^ 8) = field_ranged bytes 8 (literal_test kind) in
      bind_gives _ (λ x. Valued (f x)) (record { gives = λ at x p e. h x (passes.gives at x p e) (small.gives at x p e) })
      (λ x v. give_gives Valued v)

  two_words_give : (t : ℕ) → is_pointer t ≡ true → leb (t % 16) 3 ≡ true → Gives s (two_words (pointer t)) Valued
  unfolding two_words type_of in_range
  two_words_give t p h =
      bind_gives _ _ (field_ranged bytes 8 any) (λ x a.
      bind_gives _ _ (field_ranged bytes 8 any) (λ y b.
      give_gives Valued
      (valued t (pointer t x y) h refl
      (and_both (is_pointer t) _ p (and_both (ltb x W) (ltb y W) (lt-ltb x W a) (lt-ltb y W b))))))

  plain_gives : (t : ℕ) → Gives s (plain_behind t) Valued
  unfolding plain_behind literal_test type_of in_range
  plain_gives zero = word_gives tint int (λ x e l. valued tint (int x) refl refl (lt-ltb x W l))
  plain_gives (suc zero) = word_gives tbool (λ x. bool (not (eqb x 0))) (λ x e l. valued tbool (bool (not (eqb x 0))) refl refl refl)
  plain_gives (suc (suc zero)) = word_gives tfloat float (λ x e l. valued tfloat (float x) refl refl (lt-ltb x W l))
  plain_gives (suc (suc (suc zero))) = word_gives tchar char (λ x e l. valued tchar (char x) refl refl (need_passes (scalar x) Limit e))
  plain_gives (suc (suc (suc (suc t)))) = word_gives tint literal (λ x e l. valued tfloat (literal x) refl refl (lt-ltb x W l))

  value_gives : (t : ℕ) → value_type t ≡ true → Gives s (value_behind t) Valued
  unfolding value_behind
  value_gives t h = go (is_pointer t) refl
    where
      go : (b : Bool) → is_pointer t ≡ b → Gives s (cond b (two_words (pointer t)) (plain_behind t)) Valued
      go true e =
          let l : 0x10 ≤ t = leb-true 0x10 t e in
          let n : eqb t held ≡ false = ne_eqb t held (λ p. absurd (omega (arith, l, p))) in
          two_words_give t e (or_second (eqb t held) (leb (t % 16) 3) h n)
      go false e = plain_gives t

  -- ---- answers
  value_answer_gives : (t : ℕ) → value_type t ≡ true → Gives s (value_answer t) Answerable
  unfolding value_answer
  value_answer_gives t h = bind_gives _ Valued (value_gives t h) (λ v k. give_gives Answerable k)

  answer_behind_gives : (t : ℕ) → answer_test t ≡ Ok tt → Gives s (answer_behind t) Answerable
  unfolding answer_behind answer_test
  answer_behind_gives t h = go (eqb t go_on_byte) (eqb t halt_byte) (need_passes _ Limit h)
    where
      go :
          (a b : Bool) → (a || (b || value_type t)) ≡ true →
          Gives s (cond a (give go_on) (cond b (give halt) (value_answer t))) Answerable
      go true b h = give_gives Answerable tt
      go false true h = give_gives Answerable tt
      go false false h = value_answer_gives t h

  answer_gives : Gives s house_answer Answerable
  unfolding house_answer
  answer_gives =
      bind_gives _ _ (field_gives 1 answer_test) (λ t h. bind_gives _ Answerable (answer_behind_gives t h) (λ x k. give_gives Answerable k))

  -- ---- items up to the end, in the form
  module _ {A : Type 0} (r : Reader A) (P : A → Type 0) (one : Gives s r P) where
    abbrev Items : List A → Type 0
    Items xs = Each (λ left x. P x) xs

    item_gives : (n : ℕ) → Gives s (to_end n r) Items → Gives s (r >>= λ x. to_end n r >>= λ xs. give (x ∷ xs)) Items
    item_gives n rest = bind_gives _ P one (λ x h. bind_gives _ Items rest (λ xs k. give_gives Items (h, k)))

    to_end_gives : (n : ℕ) → Gives s (to_end n r) Items
    unfolding to_end
    to_end_gives zero = give_gives Items tt
    to_end_gives (suc n) =
        let more = item_gives n (to_end_gives n) in
        record { gives = λ at xs p e. go more (ltb at (length s)) at xs p e }
      where
        go :
            Gives s (r >>= λ x. to_end n r >>= λ xs. give (x ∷ xs)) Items → (b : Bool) (at : ℕ) (xs : List A) (p : ℕ) →
            cond b (r >>= λ x. to_end n r >>= λ xs. give (x ∷ xs)) (give []) s at ≡ got xs p → Items xs
        go more true at xs p e = more.gives at xs p e
        go more false at xs p e = (give_gives Items tt).gives at xs p e

pub form_gives : {s : List ℕ} {A : Type 0} (r : Reader A) (P : A → Type 0) → Gives s r P → Gives s (in_form r) P
unfolding in_form
form_gives r P h =
    bind_gives _ _ (any_gives length_field) (λ l a.
    bind_gives _ _ (any_gives _) (λ v b.
    bind_gives _ P h (λ x c.
    bind_gives _ _ (any_gives end) (λ e d.
    give_gives P c))))

-- what reads as answers reads back when it is written
pub read_answerable : (list : List ℕ) → Bytes list → (xs : List Answer) (p : ℕ) → answers list 0 ≡ got xs p → Each (λ left x. Answerable x) xs
unfolding answers
read_answerable list bytes xs p e =
    (form_gives (to_end (length list) house_answer) (λ xs. Each (λ left x. Answerable x) xs)
    (to_end_gives bytes house_answer Answerable (answer_gives bytes) (length list))).gives 0 xs p e

-- ---- the answers that a run leaves
module _ (P : Answer → Type 0) where
  abbrev AllTold : List Answer → Type 0
  AllTold xs = Each (λ left x. P x) xs

  rest_told : (xs ys : List Answer) → Rest xs ys → AllTold xs → AllTold ys
  rest_told xs ys (all_left zs) h = h
  rest_told xs ys (one_taken x zs) h = h.1

  rest_kept : (ctx : Context) (i : Instr) → Keeps ctx i (λ m. AllTold m.answers)
  unfolding tick assign happens
  rest_kept ctx i =
      record { ticked = λ m h. h; assigned = λ m v g h. h; added = λ m vs xs s r h. rest_told m.answers xs r h }

  any_body : (is : List Instr) → Each (λ left i. Unit {0}) is
  any_body [] = tt
  any_body (i ∷ is) = (tt, any_body is)

  any_blocks : (bs : List (Block Instr)) → Each (λ left b. Each (λ left i. Unit {0}) b.body) bs
  any_blocks [] = tt
  any_blocks (b ∷ bs) = (any_body b.body, any_blocks bs)

  -- what holds of all answers holds of all that are left
  pub left_told :
      (ctx : Context) (bs : List (Block Instr)) (k : ℕ) (σ : Store) (xs : List Answer) →
      AllTold xs → AllTold (steps ctx bs k (start bs σ xs)).mach.answers
  left_told ctx bs k σ xs h =
      steps_keep ctx (λ m. AllTold m.answers) (λ i. Unit {0}) (λ i u. rest_kept ctx i) bs (any_blocks bs) k σ xs h
