-- What the code reads of an item of a store and of an answer: by its first byte, and by what was read behind that.
use Prim.Native.Nat.{ℕ, ◌+◌, ◌<◌, ◌≤◌}
use mathlib.Core.Path.{◌≡◌, refl, sym, ap, ◌∙◌, subst}
use mathlib.Core.Logic.{◌≢◌}
use mathlib.Core.List.{List}
use mathlib.Core.Bool.{Bool, true, false, cond, ◌||◌}
use mathlib.Core.Option.{Option, none, some}
use native.Mathlib.Omega.{arith}
use Rattle.std.proofs.lemmas.Bool.{or_parts}
use lib.ListN.{length}
use lib.Dec.{eqb}
use borrow.Author.Tests.{eq-eqb, ne_eqb}
use Rattle.arith.specs.Value.{Val, has_type}
use Rattle.arith.proofs.Clash.{clash}
use Rattle.record.specs.declared.Refusal.{Refusal}
use Rattle.record.specs.declared.Refusal.TheVariants.{Length, Limit}
use Rattle.record.specs.Reader.{Test}
use Rattle.std.specs.Prelude.{Ok, Err}
use Rattle.std.specs.Bool.{then_some}
use Rattle.record.specs.Reader.{Res, got, fault, Reader, then, judge, give, ◌>>=◌, num_at, field}
use Rattle.record.specs.Tests.{need}
use Rattle.record.proofs.Following.{field_past, field_there, tested_is}
use Rattle.machine.specs.Machine.{value, go_on, halt}
use Rattle.running.specs.House.{nothing_byte, go_on_byte, halt_byte, value_type, value_behind, stored_test, set_behind, stored_behind, stored_value, answer_test, value_answer, answer_behind, house_answer}
use Rattle.engine_cells.specs.declared.Cell.{Cell}
use Rattle.engine_cells.specs.Cells.{cell_value}
use Rattle.engine_cells.proofs.Store.{held_none, held_some}
use Rattle.std.proofs.Common.{Option as CodeOption, None, Some}
use Rattle.engine_house.specs.declared.Item.{Item}
use Rattle.engine_house.specs.Reads.{item, ReadAs, KindAs, BehindAs, TypedAs, StoredAs, EndAs}
use Rattle.engine_house.proofs.Values.{Faulty, no_pointer, was_read, not_read, kind_is}

-- ---- the first byte
-- an item: a byte, its test, and what stands behind it by that byte
module _ {A : Type 0} (test : ℕ → Test) (f : ℕ → Reader A) (s : List ℕ) (at : ℕ) where
  abbrev byte : ℕ
  byte = num_at s at 1

  abbrev read_item : Res A
  read_item = (field 1 test >>= λ t. f t >>= λ x. give x) s at

  by_byte : (z : Res ℕ) → field 1 test s at ≡ z → read_item ≡ then z (λ t p. f t s p)
  unfolding ◌>>=◌ give
  by_byte z e = ap (λ (u : Res ℕ). then u (λ t p. then (f t s p) (λ x q. got x q))) e ∙ go z
    where
      same : (y : Res A) → then y (λ x q. got x q) ≡ y
      same (got x q) = refl
      same (fault k o) = refl

      go : (z : Res ℕ) → then z (λ t p. then (f t s p) (λ x q. got x q)) ≡ then z (λ t p. f t s p)
      go (got t p) = same (f t s p)
      go (fault k o) = refl

  byte_past : length s ≤ at → read_item ≡ fault Length at
  byte_past h = by_byte (fault Length at) (field_past 1 test s at (omega (arith, h)))

  module _ (h : at < length s) where
    judged : (t : Test) → test byte ≡ t → read_item ≡ then (judge t at (got byte (at + 1))) (λ t p. f t s p)
    judged t e =
        by_byte (judge t at (got byte (at + 1)))
        (tested_is 1 test s at byte (at + 1) (field_there 1 s at (omega (arith, h)))
        ∙ ap (λ (u : Test). judge u at (got byte (at + 1))) e)

    byte_passes : test byte ≡ Ok tt → read_item ≡ f byte s (at + 1)
    byte_passes e = judged (Ok tt) e

    byte_fails : (k : Refusal) → test byte ≡ Err k → read_item ≡ fault k at
    byte_fails k e = judged (Err k) e

-- ---- an item of a store
module _ (s : List ℕ) (at : ℕ) where
  abbrev first : ℕ
  first = num_at s at 1

  pub stored_past : length s ≤ at → Faulty (stored_value s at)
  unfolding stored_value
  stored_past h = record { reason = Length; place = at; is = byte_past stored_test stored_behind s at h }

  module _ (h : at < length s) where
    pub stored_nothing : first ≡ nothing_byte → stored_value s at ≡ got none (at + 1)
    unfolding stored_value stored_behind stored_test give
    stored_nothing e =
        let b : eqb first nothing_byte ≡ true = eq-eqb first nothing_byte e in
        byte_passes stored_test stored_behind s at h (ap (λ (b : Bool). need (b || value_type first) Limit) b)
        ∙ ap (λ (b : Bool). cond b (give none) (set_behind first) s (at + 1)) b

    module _ (n : first ≢ nothing_byte) where
      no_nothing : eqb first nothing_byte ≡ false
      no_nothing = ne_eqb first nothing_byte n

      pub stored_untyped : value_type first ≡ false → Faulty (stored_value s at)
      unfolding stored_value stored_test
      stored_untyped e =
          let fails : stored_test first ≡ Err Limit = λ i. need (no_nothing i || e i) Limit in
          record { reason = Limit; place = at; is = byte_fails stored_test stored_behind s at h Limit fails }

      stored_typed :
          value_type first ≡ true → (z : Res Val) → value_behind first s (at + 1) ≡ z →
          stored_value s at ≡ then z (λ v p. got (some v) p)
      unfolding stored_value stored_behind set_behind stored_test ◌>>=◌ give
      stored_typed e z k =
          let passes : stored_test first ≡ Ok tt = λ i. need (no_nothing i || e i) Limit in
          byte_passes stored_test stored_behind s at h passes
          ∙ ap (λ (b : Bool). cond b (give none) (set_behind first) s (at + 1)) no_nothing
          ∙ ap (λ (u : Res Val). then u (λ v p. got (some v) p)) k

-- ---- what the code answers of it
module _ (t : ℕ) (z : Res (Option Val)) where
  pub no_stored : Faulty z → StoredAs t z None
  unfolding StoredAs
  no_stored f = rw f.is refl

  pub is_nothing : (c : Cell) (p : ℕ) → c.kind ≡ nothing_byte → z ≡ got none p → StoredAs t z (Some (item c p))
  unfolding StoredAs TypedAs
  is_nothing c p k e = rw e (record { cell = c; is = refl; holds = held_none c.kind c.word c.offset k })

  module _ (c : Cell) (p : ℕ) (e : z ≡ got (some (cell_value c)) p) where
    is_typed : c.kind ≢ nothing_byte → has_type t (cell_value c) ≡ true → StoredAs t z (Some (item c p))
    unfolding StoredAs TypedAs
    is_typed n h = rw (e, h) (record { cell = c; is = refl; holds = held_some c.kind c.word c.offset n })

    is_mistyped : has_type t (cell_value c) ≡ false → StoredAs t z None
    unfolding StoredAs TypedAs
    is_mistyped h = rw (e, h) refl

-- a value behind its type byte, read by the code
module _
    (s : List ℕ) (at : ℕ) (h : at < length s) (n : num_at s at 1 ≢ nothing_byte) (v : value_type (num_at s at 1) ≡ true)
    (t : ℕ) (r : CodeOption Item) (d : ReadAs (value_behind (num_at s at 1) s (at + 1)) r) where
  abbrev behind_byte : Res Val
  behind_byte = value_behind (num_at s at 1) s (at + 1)

  module _ (c : Cell) (p : ℕ) (e : r ≡ Some (item c p)) where
    set_read : stored_value s at ≡ got (some (cell_value c)) p
    set_read = stored_typed s at h n v (got (cell_value c) p) (was_read behind_byte r c p d e)

    pub stored_fit : KindAs (num_at s at 1) r → has_type t (cell_value c) ≡ true → StoredAs t (stored_value s at) (Some (item c p))
    stored_fit k f =
        is_typed t (stored_value s at) c p set_read (λ q. n (sym (kind_is (num_at s at 1) r c p k e) ∙ q)) f

    pub stored_unfit : has_type t (cell_value c) ≡ false → StoredAs t (stored_value s at) None
    stored_unfit f = is_mistyped t (stored_value s at) c p set_read f

  pub stored_missing : r ≡ None → StoredAs t (stored_value s at) None
  stored_missing e =
      let f = not_read behind_byte r d e in
      no_stored t (stored_value s at)
      (record { reason = f.reason; place = f.place; is = stored_typed s at h n v (fault f.reason f.place) f.is })

-- the same by whether the byte is a value's type byte
module _
    (s : List ℕ) (at : ℕ) (h : at < length s) (kind : ℕ) (ek : kind ≡ num_at s at 1) (n : kind ≢ nothing_byte) (t : ℕ)
    (r : CodeOption Item) (d : BehindAs (value_type kind) kind (value_behind kind s (at + 1)) r) where
  set : num_at s at 1 ≢ nothing_byte
  set e = n (ek ∙ e)

  behind : BehindAs (value_type (num_at s at 1)) (num_at s at 1) (value_behind (num_at s at 1) s (at + 1)) r
  behind = subst (λ (k : ℕ). BehindAs (value_type k) k (value_behind k s (at + 1)) r) ek d

  pub stored_none : r ≡ None → StoredAs t (stored_value s at) None
  unfolding BehindAs
  stored_none e = go (value_type (num_at s at 1)) refl behind
    where
      go :
          (b : Bool) → value_type (num_at s at 1) ≡ b →
          BehindAs b (num_at s at 1) (value_behind (num_at s at 1) s (at + 1)) r → StoredAs t (stored_value s at) None
      go true v k = stored_missing s at h set v t r k.0 e
      go false v k = no_stored t (stored_value s at) (stored_untyped s at h set v)

  pub stored_some :
      (c : Cell) (p : ℕ) → r ≡ Some (item c p) →
      StoredAs t (stored_value s at) (then_some (has_type t (cell_value c)) (item c p))
  unfolding BehindAs
  stored_some c p e = go (value_type (num_at s at 1)) refl behind
    where
      go :
          (b : Bool) → value_type (num_at s at 1) ≡ b →
          BehindAs b (num_at s at 1) (value_behind (num_at s at 1) s (at + 1)) r →
          StoredAs t (stored_value s at) (then_some (has_type t (cell_value c)) (item c p))
      go true v k = by (has_type t (cell_value c)) refl
        where
          by : (b : Bool) → has_type t (cell_value c) ≡ b → StoredAs t (stored_value s at) (then_some b (item c p))
          by true f = stored_fit s at h set v t r k.0 c p e k.1 f
          by false f = stored_unfit s at h set v t r k.0 c p e f
      go false v k = let q : None ≡ Some (item c p) = sym k ∙ e in absurd (cc q)

-- ---- what stands behind a byte, by whether it is a value's type byte
module _ (kind : ℕ) (z : Res Val) where
  pub behind_none : value_type kind ≡ false → BehindAs (value_type kind) kind z None
  unfolding BehindAs
  behind_none v = rw v refl

  pub behind_value : (r : CodeOption Item) → value_type kind ≡ true → ReadAs z r × KindAs kind r → BehindAs (value_type kind) kind z r
  unfolding BehindAs
  behind_value r v h = rw v h

-- ---- an answer
module _ (s : List ℕ) (at : ℕ) where
  pub answer_past : length s ≤ at → EndAs (house_answer s at) None
  unfolding house_answer EndAs
  answer_past h = rw (byte_past answer_test answer_behind s at h) refl

  module _ (h : at < length s) where
    by_marks :
        (a b v : Bool) → eqb (num_at s at 1) go_on_byte ≡ a → eqb (num_at s at 1) halt_byte ≡ b → value_type (num_at s at 1) ≡ v →
        (a || (b || v)) ≡ true →
        house_answer s at ≡ cond a (give go_on) (cond b (give halt) (value_answer (num_at s at 1))) s (at + 1)
    unfolding house_answer answer_behind answer_test
    by_marks a b v e f g k =
        byte_passes answer_test answer_behind s at h
        ((λ i. need (e i || (f i || g i)) Limit) ∙ ap (λ (b : Bool). need b Limit) k)
        ∙ λ i. cond (e i) (give go_on) (cond (f i) (give halt) (value_answer (num_at s at 1))) s (at + 1)

    -- a byte that stands alone
    marked_first : (eqb (num_at s at 1) go_on_byte || eqb (num_at s at 1) halt_byte) ≡ true → EndAs (house_answer s at) (Some (at + 1))
    unfolding EndAs give
    marked_first e = go (eqb (num_at s at 1) go_on_byte) refl (eqb (num_at s at 1) halt_byte) refl e
      where
        go :
            (a : Bool) → eqb (num_at s at 1) go_on_byte ≡ a → (b : Bool) → eqb (num_at s at 1) halt_byte ≡ b → (a || b) ≡ true →
            EndAs (house_answer s at) (Some (at + 1))
        go true e b f k = rw (by_marks true b _ e f refl refl) refl
        go false e true f k = rw (by_marks false true _ e f refl refl) refl
        go false e false f k = clash (cc k)

    module _ (e : (eqb (num_at s at 1) go_on_byte || eqb (num_at s at 1) halt_byte) ≡ false) where
      unmarked : (eqb (num_at s at 1) go_on_byte ≡ false) × (eqb (num_at s at 1) halt_byte ≡ false)
      unmarked = or_parts (eqb (num_at s at 1) go_on_byte) (eqb (num_at s at 1) halt_byte) e

      untyped_first : value_type (num_at s at 1) ≡ false → EndAs (house_answer s at) None
      unfolding house_answer answer_test EndAs
      untyped_first v =
          let fails : answer_test (num_at s at 1) ≡ Err Limit = λ i. need (unmarked.0 i || (unmarked.1 i || v i)) Limit in
          rw (byte_fails answer_test answer_behind s at h Limit fails) refl

      -- a value behind its type byte, read by the code
      module _ (v : value_type (num_at s at 1) ≡ true) where
        read :
            (y : Res Val) → value_behind (num_at s at 1) s (at + 1) ≡ y → house_answer s at ≡ then y (λ v p. got (value v) p)
        unfolding value_answer ◌>>=◌ give
        read y q =
            by_marks false false true unmarked.0 unmarked.1 v refl ∙ ap (λ (u : Res Val). then u (λ v p. got (value v) p)) q

        valued_first : (x : Item) → ReadAs (value_behind (num_at s at 1) s (at + 1)) (Some x) → EndAs (house_answer s at) (Some x.end)
        unfolding EndAs
        valued_first x d = rw (read (got (cell_value x.cell) x.end) (was_read _ (Some x) x.cell x.end d refl)) refl

        missing_first : ReadAs (value_behind (num_at s at 1) s (at + 1)) None → EndAs (house_answer s at) None
        unfolding EndAs
        missing_first d =
            let f = not_read _ None d refl in
            rw (read (fault f.reason f.place) f.is) refl

-- ---- an answer by its first byte as it was read
module _ (s : List ℕ) (at : ℕ) (h : at < length s) (kind : ℕ) (ek : kind ≡ num_at s at 1) where
  abbrev Stands : Bool → Type 0
  Stands b = (eqb kind go_on_byte || eqb kind halt_byte) ≡ b

  abbrev stands_same : (b : Bool) → Stands b → (eqb (num_at s at 1) go_on_byte || eqb (num_at s at 1) halt_byte) ≡ b
  stands_same b e = subst (λ (k : ℕ). (eqb k go_on_byte || eqb k halt_byte) ≡ b) ek e

  pub answer_marked : Stands true → EndAs (house_answer s at) (Some (at + 1))
  answer_marked e = marked_first s at h (stands_same true e)

  module _ (e : Stands false) (r : CodeOption Item) (d : BehindAs (value_type kind) kind (value_behind kind s (at + 1)) r) where
    behind_first : BehindAs (value_type (num_at s at 1)) (num_at s at 1) (value_behind (num_at s at 1) s (at + 1)) r
    behind_first = subst (λ (k : ℕ). BehindAs (value_type k) k (value_behind k s (at + 1)) r) ek d

    pub answer_read : (x : Item) → r ≡ Some x → EndAs (house_answer s at) (Some x.end)
    unfolding BehindAs
    answer_read x f = go (value_type (num_at s at 1)) refl behind_first
      where
        go :
            (b : Bool) → value_type (num_at s at 1) ≡ b →
            BehindAs b (num_at s at 1) (value_behind (num_at s at 1) s (at + 1)) r → EndAs (house_answer s at) (Some x.end)
        go true v k =
            valued_first s at h (stands_same false e) v x
            (subst (ReadAs (value_behind (num_at s at 1) s (at + 1))) f k.0)
        go false v k = let q : None ≡ Some x = sym k ∙ f in absurd (cc q)

    pub answer_none : r ≡ None → EndAs (house_answer s at) None
    unfolding BehindAs
    answer_none f = go (value_type (num_at s at 1)) refl behind_first
      where
        go :
            (b : Bool) → value_type (num_at s at 1) ≡ b →
            BehindAs b (num_at s at 1) (value_behind (num_at s at 1) s (at + 1)) r → EndAs (house_answer s at) None
        go true v k =
            missing_first s at h (stands_same false e) v
            (subst (ReadAs (value_behind (num_at s at 1) s (at + 1))) f k.0)
        go false v k = untyped_first s at h (stands_same false e) v

-- ---- for the check: what stands behind the type byte of a value, of one of the store, of an answer
pub ruleset value_reads = (no_pointer, behind_none, behind_value)

pub ruleset stored_reads = (stored_past, stored_nothing, no_stored, is_nothing, stored_none, stored_some)

pub ruleset answer_reads = (answer_past, answer_marked, answer_read, answer_none)
