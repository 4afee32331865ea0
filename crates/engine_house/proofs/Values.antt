-- What the code reads of a value: by its type byte the words behind it, as a cell, and the types that the cell's value has.
use Prim.Native.Nat.{ℕ, zero, suc, ◌%◌, ◌<◌, ◌≤◌}
use mathlib.Core.Path.{◌≡◌, refl, sym, ap, ◌∙◌}
use mathlib.Core.List.{List}
use mathlib.Core.Logic.{◌≢◌}
use mathlib.Core.Bool.{Bool, true, false, cond, ◌&&◌, ◌||◌}
use native.Mathlib.Omega.{arith}
use Rattle.std.proofs.Math.Bool.{and-true, and-false}
use lib.Dec.{T, ltb, leb, eqb}
use borrow.Author.Tests.{eq-eqb, ne_eqb, lt-ltb, le-leb, lt-leb, leb-true, eqb-true}
use Rattle.arith.specs.Word.{W}
use Rattle.arith.specs.Value.{Val, pointer, scalar, type_of, in_range, has_type}
use Rattle.arith.proofs.Operation.{eqb_comm}
use Rattle.record.specs.declared.Refusal.{Refusal}
use Rattle.record.specs.Reader.{Test}
use Rattle.std.specs.Prelude.{Ok, Err}
use Rattle.record.specs.Reader.{Res, got, fault, then, judge, give, ◌>>=◌, field}
use Rattle.record.specs.Tests.{any, literal_test}
use Rattle.record.proofs.Following.{tested_is, tested_no}
use Rattle.running.specs.House.{held, value_type, word, two_words, plain_behind, value_behind}
use Rattle.running.specs.Items.{plain_from}
use Rattle.engine_cells.specs.declared.Cell.{Cell}
use Rattle.engine_cells.specs.Cells.{value_by, cell_value}
use Rattle.engine_cells.proofs.Store.{by_plain, by_pointer}
use Rattle.std.proofs.Common.{Option as CodeOption, None, Some, Result}
use Rattle.std.specs.Result.{result_ok}
use Rattle.engine_house.specs.declared.Item.{Item}
use Rattle.engine_house.specs.Reads.{item, ReadAs, KindAs}

-- ---- a value, read or not
-- the fault is some fault
pub record Faulty {A : Type 0} (z : Res A) : Type 0 where
  pub reason : Refusal
  pub place : ℕ
  pub is : z ≡ fault reason place

module _ (z : Res Val) where
  pub read_is : (c : Cell) (p : ℕ) → z ≡ got (cell_value c) p → ReadAs z (Some (item c p))
  unfolding ReadAs
  read_is c p e = rw e (record { cell = c; is = refl; value = refl })

  pub read_no : (k : Refusal) (o : ℕ) → z ≡ fault k o → ReadAs z None
  unfolding ReadAs
  read_no k o e = rw e refl

-- and back to what was read
pub was_read : (z : Res Val) (r : CodeOption Item) (c : Cell) (p : ℕ) → ReadAs z r → r ≡ Some (item c p) → z ≡ got (cell_value c) p
unfolding ReadAs
was_read (got v q) r c p h e =
    let both : Some (item h.cell q) ≡ Some (item c p) = sym h.is ∙ e in
    let same : item h.cell q ≡ item c p = cc both in
    let a : h.cell ≡ c = ap (λ (x : Item). x.cell) same in
    let b : q ≡ p = ap (λ (x : Item). x.end) same in
    λ i. got ((sym h.value ∙ ap cell_value a) i) (b i)
was_read (fault k o) r c p h e = absurd (cc (h, e))

pub not_read : (z : Res Val) (r : CodeOption Item) → ReadAs z r → r ≡ None → Faulty z
unfolding ReadAs
not_read (got v q) r h e = let same : Some (item h.cell q) ≡ None = sym h.is ∙ e in absurd (cc same)
not_read (fault k o) r h e = record { reason = k; place = o; is = refl }

pub kind_is : (kind : ℕ) (r : CodeOption Item) (c : Cell) (p : ℕ) → KindAs kind r → r ≡ Some (item c p) → c.kind ≡ kind
unfolding KindAs
kind_is kind (Some x) c p k e = let same : x ≡ item c p = cc e in ap (λ (x : Item). x.cell.kind) (sym same) ∙ k
kind_is kind None c p k e = absurd (cc e)

-- ---- a result as an option
-- by `ok`
pub was_ok : {A E : Type 0} (r : Result A E) (a : A) → Some a ≡ result_ok r → r ≡ Ok a
was_ok (Ok b) a e = let same : b ≡ a = cc e in ap Ok same
was_ok (Err f) a e = absurd (cc e)

pub was_err : {A E : Type 0} (r : Result A E) → None ≡ result_ok r → (f : E) × (r ≡ Err f)
was_err (Ok b) e = absurd (cc e)
was_err (Err f) e = (f, refl)

-- ---- behind the type byte
module _ (t : ℕ) (s : List ℕ) (at : ℕ) where
  module _ (h : 16 ≤ t) where
    pointer_behind : value_behind t s at ≡ two_words (pointer t) s at
    unfolding value_behind
    pointer_behind = ap (λ (b : Bool). cond b (two_words (pointer t)) (plain_behind t) s at) (le-leb 16 t h)

    pub two_read :
        (x p y q : ℕ) → field 8 any s at ≡ got x p → field 8 any s p ≡ got y q → value_behind t s at ≡ got (value_by t x y) q
    unfolding two_words ◌>>=◌ give
    two_read x p y q e f =
        let two : two_words (pointer t) s at ≡ got (pointer t x y) q = simp (e, f) in
        pointer_behind ∙ two ∙ ap (λ (v : Val). got v q) (sym (by_pointer t x y (omega (arith, h))))

    pub second_missing :
        (x p : ℕ) (k : Refusal) (o : ℕ) → field 8 any s at ≡ got x p → field 8 any s p ≡ fault k o → value_behind t s at ≡ fault k o
    unfolding two_words ◌>>=◌ give
    second_missing x p k o e f = pointer_behind ∙ simp (e, f)

    pub first_missing : (k : Refusal) (o : ℕ) → field 8 any s at ≡ fault k o → value_behind t s at ≡ fault k o
    unfolding two_words ◌>>=◌ give
    first_missing k o e = pointer_behind ∙ simp e

-- a word of its kind
plain_word :
    (t : ℕ) (s : List ℕ) (at : ℕ) → t ≤ 4 →
    plain_behind t s at ≡ then (field 8 (literal_test (t % 4)) s at) (λ x p. got (plain_from t x) p)
unfolding plain_behind plain_from word ◌>>=◌ give
plain_word zero s at h = refl
plain_word (suc zero) s at h = refl
plain_word (suc (suc zero)) s at h = refl
plain_word (suc (suc (suc zero))) s at h = refl
plain_word (suc (suc (suc (suc zero)))) s at h = refl
plain_word (suc (suc (suc (suc (suc t))))) s at h = absurd (omega (arith, h))

module _ (t : ℕ) (s : List ℕ) (at : ℕ) (h : t ≤ 4) where
  word_behind : value_behind t s at ≡ then (field 8 (literal_test (t % 4)) s at) (λ x p. got (plain_from t x) p)
  unfolding value_behind
  word_behind =
      ap (λ (b : Bool). cond b (two_words (pointer t)) (plain_behind t) s at) (lt-leb 16 t (omega (arith, h))) ∙ plain_word t s at h

  by_field : (z : Res ℕ) → field 8 (literal_test (t % 4)) s at ≡ z → value_behind t s at ≡ then z (λ x p. got (plain_from t x) p)
  by_field z e = word_behind ∙ ap (λ (u : Res ℕ). then u (λ x p. got (plain_from t x) p)) e

  pub word_read :
      (x p : ℕ) → field 8 any s at ≡ got x p → literal_test (t % 4) x ≡ Ok tt → value_behind t s at ≡ got (value_by t x 0) p
  word_read x p e f =
      by_field (got x p) (tested_is 8 (literal_test (t % 4)) s at x p e ∙ ap (λ (u : Test). judge u at (got x p)) f)
      ∙ ap (λ (v : Val). got v p) (sym (by_plain t x 0 h))

  pub word_unfit :
      (x p : ℕ) (k : Refusal) → field 8 any s at ≡ got x p → literal_test (t % 4) x ≡ Err k → value_behind t s at ≡ fault k at
  word_unfit x p k e f =
      by_field (fault k at) (tested_is 8 (literal_test (t % 4)) s at x p e ∙ ap (λ (u : Test). judge u at (got x p)) f)

  pub word_missing : (k : Refusal) (o : ℕ) → field 8 any s at ≡ fault k o → value_behind t s at ≡ fault k o
  word_missing k o e = by_field (fault k o) (sym (tested_no 8 (literal_test (t % 4)) s at k o e))

-- a type byte below a pointer's is at most 04
pub no_pointer : (t : ℕ) → T (value_type t) → t < 16 → t ≤ 4
no_pointer t h l = go (eqb t held) refl (leb (t % 16) 3) refl h
  where
    go : (a : Bool) → eqb t held ≡ a → (b : Bool) → leb (t % 16) 3 ≡ b → T (a || b) → t ≤ 4
    go true e b f h = omega (arith, eqb-true t held e)
    go false e true f h = omega (arith, l, leb-true (t % 16) 3 f)
    go false e false f h = absurd h

-- ---- the types that a cell's value has
module _ (t word : ℕ) where
  -- int, bool, float
  type_low : (kind : ℕ) → kind ≤ 2 → word < W → has_type t (plain_from kind word) ≡ eqb kind t
  unfolding plain_from type_of in_range
  type_low zero h w = rw (lt-ltb word W w) (and-true (eqb 0 t))
  type_low (suc zero) h w = and-true (eqb 1 t)
  type_low (suc (suc zero)) h w = rw (lt-ltb word W w) (and-true (eqb 2 t))
  type_low (suc (suc (suc k))) h w = absurd (omega (arith, h))

  module _ (kind offset : ℕ) where
    pub of_low : kind ≤ 2 → word < W → eqb t kind ≡ has_type t (value_by kind word offset)
    of_low h w =
        eqb_comm t kind ∙ sym (type_low kind h w) ∙ ap (has_type t) (sym (by_plain kind word offset (omega (arith, h))))

    pub of_char : kind ≡ 3 → (eqb t 3 && scalar word) ≡ has_type t (value_by kind word offset)
    unfolding value_by plain_from type_of in_range
    of_char e = ap (λ (b : Bool). b && scalar word) (eqb_comm t 3) ∙ ap (λ (k : ℕ). has_type t (value_by k word offset)) (sym e)

    -- by whether the type is char
    pub char_typed : kind ≡ 3 → t ≡ 3 → scalar word ≡ has_type t (value_by kind word offset)
    char_typed e f = sym (ap (λ (b : Bool). b && scalar word) (eq-eqb t 3 f)) ∙ of_char e

    pub char_other : kind ≡ 3 → t ≢ 3 → false ≡ has_type t (value_by kind word offset)
    char_other e n = sym (ap (λ (b : Bool). b && scalar word) (ne_eqb t 3 n)) ∙ of_char e

    -- "type byte 04 is an int literal held by a float"
    pub of_held : kind ≡ held → word < W → eqb t 2 ≡ has_type t (value_by kind word offset)
    unfolding value_by plain_from type_of in_range
    of_held e w =
        let all : (eqb 2 t && ltb word W) ≡ eqb 2 t = ap (λ (b : Bool). eqb 2 t && b) (lt-ltb word W w) ∙ and-true (eqb 2 t) in
        eqb_comm t 2 ∙ sym all ∙ ap (λ (k : ℕ). has_type t (value_by k word offset)) (sym e)

    module _ (h : held < kind) where
      of_above : (b : Bool) → in_range (pointer kind word offset) ≡ b → has_type t (value_by kind word offset) ≡ (eqb kind t && b)
      unfolding type_of
      of_above b e = ap (has_type t) (by_pointer kind word offset h) ∙ ap (λ (r : Bool). eqb kind t && r) e

      pub of_none : kind < 16 → false ≡ has_type t (value_by kind word offset)
      unfolding in_range
      of_none l =
          let out : in_range (pointer kind word offset) ≡ false = rw (lt-leb 16 kind l) in
          sym (of_above false out ∙ and-false (eqb kind t))

      pub of_pointer : 16 ≤ kind → word < W → offset < W → eqb t kind ≡ has_type t (value_by kind word offset)
      unfolding in_range
      of_pointer l w o =
          let ranges : in_range (pointer kind word offset) ≡ true = rw (le-leb 16 kind l, lt-ltb word W w, lt-ltb offset W o) in
          eqb_comm t kind ∙ sym (of_above true ranges ∙ and-true (eqb kind t))

-- ---- for the check: the types of a cell's value, and what stands behind a type byte
pub ruleset typed = (of_low, char_typed, char_other, of_held, of_none, of_pointer)

pub ruleset pointer_read = (was_ok, was_err, read_is, read_no, two_read, second_missing, first_missing)

pub ruleset plain_read = (was_ok, was_err, read_is, read_no, word_read, word_unfit, word_missing)
