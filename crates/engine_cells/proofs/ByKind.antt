-- What a cell's value is by the cell's kind: which kinds are an int, a bool, a pointer; and what is held as an int or as a bool.
use Prim.Native.Nat.{ℕ, zero, suc, ◌≤◌}
use mathlib.Core.Path.{◌≡◌, refl, sym, ap, ◌∙◌}
use mathlib.Core.Logic.{◌≢◌}
use mathlib.Core.Bool.{Bool, true, false, cond, not}
use mathlib.Core.Option.{Option, none, some}
use lib.Dec.{leb, eqb}
use borrow.Author.Tests.{eqb-true, eqb-false}
use Rattle.std.specs.Bool.{then_some}
use Rattle.std.proofs.Common.{None, Some}
use Rattle.arith.specs.Value.{Val, int, bool, pointer}
use Rattle.arith.specs.Operation.{unset, as_int, as_bool, shift}
use Rattle.arith.proofs.Operation.{taken}
use Rattle.running.specs.House.{held, nothing_byte}
use Rattle.running.specs.Items.{plain_from}
use Rattle.engine_cells.specs.declared.Cell.{Cell}
use Rattle.engine_cells.specs.Cells.{value_by, held_by, cell_value, cell_holds, held_as, found}
use Rattle.engine_cells.proofs.Store.{by_plain}

-- ---- by kind
module _ (word offset : ℕ) where
  no_int_plain : (kind : ℕ) → kind ≢ 0 → as_int (plain_from kind word) ≡ none
  unfolding as_int plain_from
  no_int_plain zero n = absurd (n refl)
  no_int_plain (suc zero) n = refl
  no_int_plain (suc (suc zero)) n = refl
  no_int_plain (suc (suc (suc zero))) n = refl
  no_int_plain (suc (suc (suc (suc t)))) n = refl

  no_bool_plain : (kind : ℕ) → kind ≢ 1 → as_bool (plain_from kind word) ≡ none
  unfolding as_bool plain_from
  no_bool_plain zero n = refl
  no_bool_plain (suc zero) n = absurd (n refl)
  no_bool_plain (suc (suc zero)) n = refl
  no_bool_plain (suc (suc (suc zero))) n = refl
  no_bool_plain (suc (suc (suc (suc t)))) n = refl

  no_shift_plain : (kind k : ℕ) → shift (plain_from kind word) k ≡ unset
  unfolding shift plain_from
  no_shift_plain zero k = refl
  no_shift_plain (suc zero) k = refl
  no_shift_plain (suc (suc zero)) k = refl
  no_shift_plain (suc (suc (suc zero))) k = refl
  no_shift_plain (suc (suc (suc (suc t)))) k = refl

  pub no_shift : (kind k : ℕ) → kind ≤ held → shift (value_by kind word offset) k ≡ unset
  no_shift kind k h = ap (λ (v : Val). shift v k) (by_plain kind word offset h) ∙ no_shift_plain kind k

-- ---- read as what `to` takes
module _ {A : Type 0} (to : Val → Option A) where
  no_value :
      (kind word offset : ℕ) → to (plain_from kind word) ≡ none → to (pointer kind word offset) ≡ none →
      to (value_by kind word offset) ≡ none
  unfolding value_by
  no_value kind word offset p q = go (leb kind held)
    where
      go : (b : Bool) → to (cond b (plain_from kind word) (pointer kind word offset)) ≡ none
      go true = p
      go false = q

  no_cell : (c : Cell) → to (cell_value c) ≡ none → None ≡ held_as to (cell_holds c)
  unfolding held_as held_by
  no_cell c e = go (eqb c.kind nothing_byte)
    where
      go : (b : Bool) → None ≡ held_as to (cond b none (some (cell_value c)))
      go true = refl
      go false = sym (ap found e)

  -- by a test of a cell's kind; k: the kind of those that have one
  by_test :
      (k : ℕ) (a : A) (c : Cell) → (c.kind ≡ k → Some a ≡ held_as to (cell_holds c)) → (c.kind ≢ k → to (cell_value c) ≡ none) →
      then_some (eqb c.kind k) a ≡ held_as to (cell_holds c)
  by_test k a c one other = go (eqb c.kind k) refl
    where
      go : (b : Bool) → eqb c.kind k ≡ b → then_some b a ≡ held_as to (cell_holds c)
      go true e = one (eqb-true c.kind k e)
      go false e = no_cell c (other (eqb-false c.kind k e))

  -- what is held, by what it is read as
  pub was_none : (o : Option Val) (v : Val) → None ≡ held_as to o → o ≡ some v → to v ≡ none
  unfolding held_as
  was_none o v e p = none_found (to v) (e ∙ ap (held_as to) p)
    where
      none_found : (n : Option A) → None ≡ found n → n ≡ none
      none_found none q = refl
      none_found (some w) q = absurd (cc q)

  was_some : (o : Option Val) (a : A) → Some a ≡ held_as to o → (v : Val) × ((o ≡ some v) × (to v ≡ some a))
  unfolding held_as
  was_some none a e = absurd (cc e)
  was_some (some v) a e = (v, (refl, some_found (to v) e))
    where
      some_found : (n : Option A) → Some a ≡ found n → n ≡ some a
      some_found none q = absurd (cc q)
      some_found (some w) q = cc q

-- ---- as an int, as a bool
module _ (c : Cell) where
  pub int_by : then_some (eqb c.kind 0) c.word ≡ held_as as_int (cell_holds c)
  unfolding held_as held_by value_by plain_from as_int
  int_by =
      by_test as_int 0 c.word c (λ e. sym (ap (λ (k : ℕ). held_as as_int (held_by k c.word c.offset)) e))
      (λ n. no_value as_int c.kind c.word c.offset (no_int_plain c.word c.offset c.kind n) refl)

  pub bool_by : then_some (eqb c.kind 1) (not (eqb c.word 0)) ≡ held_as as_bool (cell_holds c)
  unfolding held_as held_by value_by plain_from as_bool
  bool_by =
      by_test as_bool 1 (not (eqb c.word 0)) c (λ e. sym (ap (λ (k : ℕ). held_as as_bool (held_by k c.word c.offset)) e))
      (λ n. no_value as_bool c.kind c.word c.offset (no_bool_plain c.word c.offset c.kind n) refl)

pub is_int : (o : Option Val) (w : ℕ) → Some w ≡ held_as as_int o → o ≡ some (int w)
is_int o w e = let (v, p) = was_some as_int o w e in p.0 ∙ ap some (sym ((taken v).was_int w p.1))

pub is_bool : (o : Option Val) (b : Bool) → Some b ≡ held_as as_bool o → o ≡ some (bool b)
is_bool o b e = let (v, p) = was_some as_bool o b e in p.0 ∙ ap some (sym ((taken v).was_bool b p.1))
