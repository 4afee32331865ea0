-- What is written in the house form reads back. Each part by the laws of readers in the crate record.
use Prim.Native.Nat.{ℕ, zero, suc, ◌+◌, ◌-◌, ◌%◌, ◌≤◌, ◌<◌}
use mathlib.Core.Path.{◌≡◌, refl, sym, ap, ◌∙◌}
use mathlib.Core.List.{List, [], ◌∷◌, ◌++◌, map, append-nil}
use mathlib.Core.Bool.{true, false}
use mathlib.Core.Option.{Option, none, some}
use native.Mathlib.Nat.{zero-add}
use native.Mathlib.Omega.{arith}
use Rattle.arith.proofs.Clash.{clash}
use lib.ListN.{length, get_or, drop, length-append}
use lib.Dec.{ltb, leb, eqb}
use borrow.Author.Tests.{le-ltb, leb-true, eqb-true, eq-eqb, ne_eqb}
use Rattle.std.proofs.lemmas.Bool.{or_right}
use Rattle.arith.specs.Value.{Val, int, float, literal, char, bool, pointer, is_pointer, scalar, type_of, in_range, has_type}
use Rattle.record.specs.declared.NameIx.{NameIx}
use Rattle.std.specs.Prelude.{Ok}
use Rattle.record.specs.declared.Refusal.TheVariants.{Limit}
use Rattle.record.specs.Record.{nm, type_in}
use Rattle.record.specs.Reader.{got, Reader, give, ◌>>=◌, field, times}
use Rattle.record.specs.Read.{length_field, end}
use Rattle.record.specs.Write.{be, join}
use Rattle.record.specs.Tests.{any, at_most, length_test, type_test, literal_test}
use Rattle.record.specs.Good.{Each}
use Rattle.record.proofs.Tests.{and_left, and_right, and_both, need_passes, passes_need}
use Rattle.record.proofs.Stands.{Reads, past, length_be, field_reads, give_reads, bind_reads, last_reads, all_read}
use Rattle.machine.specs.Machine.{Store}
use Rattle.running.specs.House.{held, nothing_byte, value_type, word, two_words, plain_behind, value_behind, stored_test, set_behind, stored_behind, stored_value, form_test, in_form, stored, of_type, of_types, holding, values_from, type_byte, words, value_bytes, stored_bytes, form_bytes, store_bytes}

-- ---- values
word_reads : (kind : ℕ) (f : ℕ → Val) (at x : ℕ) → literal_test kind x ≡ Ok tt → Reads (word kind f) at (f x) (be 8 x)
unfolding word
word_reads kind f at x h = last_reads f (field_reads 7 at x (literal_test kind) h)

two_words_read : (f : ℕ → ℕ → Val) (at x y : ℕ) → Reads (two_words f) at (f x y) (join (be 8 x ∷ be 8 y ∷ []))
unfolding two_words any
two_words_read f at x y =
    bind_reads _ _ (field_reads 7 _ x any refl) (bind_reads _ _ (field_reads 7 _ y any refl) give_reads)

-- behind its type byte
pub behind_reads : (at : ℕ) (v : Val) → in_range v ≡ true → Reads (value_behind (type_byte v)) at v (words v)
unfolding value_behind plain_behind type_byte words in_range literal_test at_most
behind_reads at (int w) h = word_reads 0 int at w refl
behind_reads at (float b) h = word_reads 2 float at b refl
behind_reads at (literal w) h = word_reads 0 literal at w refl
behind_reads at (char c) h = word_reads 3 char at c (passes_need (scalar c) Limit h)
behind_reads at (bool true) h = word_reads 1 _ at 1 refl
behind_reads at (bool false) h = word_reads 1 _ at 0 refl
behind_reads at (pointer t b o) h = rw (and_left (is_pointer t) _ h) (two_words_read (pointer t) at b o)

-- the type byte of a value whose type is a name's
pub byte_is_type : (v : Val) → leb (type_of v % 16) 3 ≡ true → value_type (type_byte v) ≡ true
unfolding type_byte type_of
byte_is_type (int w) h = refl
byte_is_type (float b) h = refl
byte_is_type (literal w) h = refl
byte_is_type (char c) h = refl
byte_is_type (bool b) h = refl
byte_is_type (pointer t b o) h = or_right (eqb t held) (leb (t % 16) 3) h

not_a_type : (k t : ℕ) → 3 < k % 16 → leb (t % 16) 3 ≡ true → eqb t k ≡ false
not_a_type k t h e = ne_eqb t k (λ p. absurd (omega (arith, leb-true (t % 16) 3 e, h, ap (λ (n : ℕ). n % 16) p)))

pub byte_no_mark : (k : ℕ) (v : Val) → 4 < k % 16 → leb (type_of v % 16) 3 ≡ true → eqb (type_byte v) k ≡ false
unfolding type_byte type_of
byte_no_mark k (int w) l h = ne_eqb 0 k (λ p. absurd (omega (arith, l, ap (λ (n : ℕ). n % 16) p)))
byte_no_mark k (float b) l h = ne_eqb 2 k (λ p. absurd (omega (arith, l, ap (λ (n : ℕ). n % 16) p)))
byte_no_mark k (literal w) l h = ne_eqb 4 k (λ p. absurd (omega (arith, l, ap (λ (n : ℕ). n % 16) p)))
byte_no_mark k (char c) l h = ne_eqb 3 k (λ p. absurd (omega (arith, l, ap (λ (n : ℕ). n % 16) p)))
byte_no_mark k (bool b) l h = ne_eqb 1 k (λ p. absurd (omega (arith, l, ap (λ (n : ℕ). n % 16) p)))
byte_no_mark k (pointer t b o) l h = not_a_type k t (omega (arith, l)) h

-- ---- items of a store
-- a value of some type that a name may have, or nothing
abbrev pub Storable : Option Val → Type 0
Storable o = (t : ℕ) × (type_test t ≡ Ok tt) × (of_type t o ≡ true)

pub type_half : (t : ℕ) (v : Val) → type_test t ≡ Ok tt → has_type t v ≡ true → leb (type_of v % 16) 3 ≡ true
unfolding type_test
type_half t v h e =
    let p : type_of v ≡ t = eqb-true (type_of v) t (and_left (eqb (type_of v) t) (in_range v) e) in
    ap (λ (n : ℕ). leb (n % 16) 3) p ∙ need_passes (leb (t % 16) 3) Limit h

-- the type byte tells a value from nothing
set_reads :
    (at : ℕ) (v : Val) →
    in_range v ≡ true →
    eqb (type_byte v) nothing_byte ≡ false →
    stored_test (type_byte v) ≡ Ok tt →
    Reads stored_value at (some v) (value_bytes v)
unfolding stored_value value_bytes stored_behind set_behind
set_reads at v r m k =
    bind_reads _ _ (field_reads 0 _ (type_byte v) stored_test k)
    (bind_reads _ _ (rw m (last_reads some (behind_reads _ v r))) give_reads)

stored_reads : (at : ℕ) (o : Option Val) → Storable o → Reads stored_value at o (stored_bytes o)
unfolding stored_value stored_bytes stored_behind stored_test be join
stored_reads at none h = bind_reads _ [] (field_reads 0 at nothing_byte stored_test refl) (last_reads (λ v. v) give_reads)
stored_reads at (some v) h =
    let l : leb (type_of v % 16) 3 ≡ true = type_half h.0 v h.1 h.2 in
    let r : in_range v ≡ true = and_right (eqb (type_of v) h.0) (in_range v) h.2 in
    let k : stored_test (type_byte v) ≡ Ok tt =
    passes_need _ Limit (or_right (eqb (type_byte v) nothing_byte) (value_type (type_byte v)) (byte_is_type v l)) in
    set_reads at v r (byte_no_mark nothing_byte v (omega arith) l) k

-- ---- the form around the items
pub form_longer : (items : List ℕ) → length items ≤ length (form_bytes items)
unfolding form_bytes
form_longer items =
    omega (arith, length-append (be 4 (length (be 1 1 ++ items))) (be 1 1 ++ items), length-append (be 1 1) items)

-- a reader that gives x from the items up to the end
pub in_form_reads :
    {A : Type 0} (r : Reader A) (x : A) (items : List ℕ) →
    ((s : List ℕ) (at : ℕ) → drop at s ≡ items → at + length items ≡ length s → r s at ≡ got x (at + length items)) →
    in_form r (form_bytes items) 0 ≡ got x (length (form_bytes items))
unfolding in_form form_bytes length_field length_test form_test end ◌>>=◌ give
in_form_reads r x items h =
    let c = be 1 1 ++ items in
    let l = be 4 (length c) in
    let s = l ++ c in
    let n : length l ≡ 4 = length_be 4 (length c) in
    let o : length (be 1 1) ≡ 1 = length_be 1 1 in
    let fits : eqb (length c) (length s - 4) ≡ true = eq-eqb (length c) (length s - 4) (omega (arith, length-append l c)) in
    let at_c : drop (0 + length l) s ≡ c = past s l c 0 refl in
    let at_i : drop (0 + length l + length (be 1 1)) s ≡ items = past s (be 1 1) items (0 + length l) at_c in
    let all : 0 + length l + length (be 1 1) + length items ≡ length s = omega (arith, length-append l c, length-append (be 1 1) items) in
    let one : length_field s 0 ≡ got (length c) (0 + length l) =
    (field_reads 3 0 (length c) (length_test (length s - 4)) (rw fits)).reads s c refl in
    let two : field 1 form_test s (0 + length l) ≡ got 1 (0 + length l + length (be 1 1)) =
    (field_reads 0 (0 + length l) 1 form_test refl).reads s items at_c in
    let three : r s (0 + length l + length (be 1 1)) ≡ got x (0 + length l + length (be 1 1) + length items) =
    h s (0 + length l + length (be 1 1)) at_i all in
    let four : ltb (length s) (length s) ≡ false = le-ltb (length s) (length s) (omega arith) in
    simp (one, two, three, all, four)

-- ---- the store
-- types that names may have
abbrev pub TypesPass : List ℕ → Type 0
TypesPass ts = Each (λ left t. type_test t ≡ Ok tt) ts

each_storable : (ts : List ℕ) (vs : List (Option Val)) → TypesPass ts → of_types ts vs ≡ true → Each (λ left o. Storable o) vs
unfolding of_types
each_storable [] [] h e = tt
each_storable [] (v ∷ vs) h e = clash (cc)
each_storable (t ∷ ts) [] h e = tt
each_storable (t ∷ ts) (v ∷ vs) h e =
    ((t, h.0, and_left (of_type t v) (of_types ts vs) e), each_storable ts vs h.1 (and_right (of_type t v) (of_types ts vs) e))

-- "The store has one value for each name"
pub of_types_length : (ts : List ℕ) (vs : List (Option Val)) → of_types ts vs ≡ true → length ts ≡ length vs
unfolding of_types
of_types_length [] [] e = refl
of_types_length [] (v ∷ vs) e = clash (cc)
of_types_length (t ∷ ts) [] e = clash (cc)
of_types_length (t ∷ ts) (v ∷ vs) e = ap suc (of_types_length ts vs (and_right (of_type t v) (of_types ts vs) e))

-- what is written of values of these types reads as those values
pub store_back :
    (ts : List ℕ) (vs : List (Option Val)) →
    TypesPass ts →
    of_types ts vs ≡ true →
    stored (length ts) (store_bytes vs) 0 ≡ got vs (length (store_bytes vs))
unfolding stored store_bytes
store_back ts vs h e =
    rw (of_types_length ts vs e)
    (in_form_reads (times (length vs) (λ left. stored_value)) vs (join (map stored_bytes vs))
    (λ s at d l. (all_read stored_value stored_bytes Storable stored_reads at vs (each_storable ts vs h e)
    ).reads s [] (d ∙ sym (append-nil (join (map stored_bytes vs))))))

-- ---- stores
-- what a list of values holds of a store's names
pub holding_values : (σ : Store) (i n k : ℕ) → k < n → get_or (values_from σ i n) k none ≡ σ (nm (i + k))
unfolding values_from
holding_values σ i zero k h = absurd (omega (arith, h))
holding_values σ i (suc n) zero h = let e : i ≡ i + 0 = omega arith in ap (λ (j : ℕ). σ (nm j)) e
holding_values σ i (suc n) (suc k) h =
    let e : suc i + k ≡ i + suc k = omega arith in
    holding_values σ (suc i) n k (omega (arith, h)) ∙ ap (λ (j : ℕ). σ (nm j)) e

-- "a typed store": what a name holds is of its type
abbrev pub TypedStore : List ℕ → Store → Type 0
TypedStore ts σ = (x : NameIx) → x.0 < length ts → (v : Val) → σ x ≡ some v → has_type (type_in ts x) v ≡ true

of_type_at : (t : ℕ) (o : Option Val) → ((v : Val) → o ≡ some v → has_type t v ≡ true) → of_type t o ≡ true
of_type_at t none h = refl
of_type_at t (some v) h = h v refl

values_typed :
    (ts : List ℕ) (σ : Store) (i : ℕ) →
    ((k : ℕ) → k < length ts → (v : Val) → σ (nm (i + k)) ≡ some v → has_type (get_or ts k 0) v ≡ true) →
    of_types ts (values_from σ i (length ts)) ≡ true
unfolding of_types values_from
values_typed [] σ i h = refl
values_typed (t ∷ ts) σ i h =
    let e : i ≡ i + 0 = omega arith in
    let one : of_type t (σ (nm i)) ≡ true =
    of_type_at t (σ (nm i)) (λ v p. h 0 (omega arith) v (ap (λ (j : ℕ). σ (nm j)) (sym e) ∙ p)) in
    let rest : of_types ts (values_from σ (suc i) (length ts)) ≡ true =
    values_typed ts σ (suc i) (λ k l v p. next k l v p) in
    and_both (of_type t (σ (nm i))) (of_types ts (values_from σ (suc i) (length ts))) one rest
  where
    next : (k : ℕ) → k < length ts → (v : Val) → σ (nm (suc i + k)) ≡ some v → has_type (get_or ts k 0) v ≡ true
    next k l v p =
        let e : i + suc k ≡ suc i + k = omega arith in
        h (suc k) (omega (arith, l)) v (ap (λ (j : ℕ). σ (nm j)) e ∙ p)

-- "the final store": what is written of a typed store reads back, and holds what the store held
pub store_reads_back :
    (ts : List ℕ) (σ : Store) →
    TypesPass ts →
    TypedStore ts σ →
    let vs = values_from σ 0 (length ts) in
    (stored (length ts) (store_bytes vs) 0 ≡ got vs (length (store_bytes vs))) ×
    (of_types ts vs ≡ true) ×
    ((x : NameIx) → x.0 < length ts → holding vs x ≡ σ x)
unfolding type_in
store_reads_back ts σ h typed =
    let vs = values_from σ 0 (length ts) in
    let e : of_types ts vs ≡ true = values_typed ts σ 0 (λ k l v p. at_name k l v p) in
    (store_back ts vs h e, e, λ x l. holding_values σ 0 (length ts) x.0 l ∙ ap (λ (j : ℕ). σ (nm j)) (zero-add x.0))
  where
    at_name : (k : ℕ) → k < length ts → (v : Val) → σ (nm (0 + k)) ≡ some v → has_type (get_or ts k 0) v ≡ true
    at_name k l v p = typed (nm k) l v (ap (λ (j : ℕ). σ (nm j)) (sym (zero-add k)) ∙ p)
