-- The cells of the names as a store: what a cell holds by its kind, what it holds as an int or as a bool, and that a cell that is set is an
-- update of the store.
use Prim.Native.Nat.{ℕ, ◌<◌, ◌≤◌}
use mathlib.Core.Path.{◌≡◌, refl, sym, ap, ◌∙◌, fun_ext}
use mathlib.Core.Logic.{◌≢◌}
use mathlib.Core.Bool.{Bool, true, false}
use mathlib.Core.Option.{Option, none, some}
use native.Mathlib.Omega.{arith}
use mathlib.Core.List.{List}
use lib.ListN.{length, get_or, set, replicate}
use lib.Seq.{get_or-set_same, get_or-set_other}
use lib.Dec.{ltb}
use borrow.Author.Tests.{le-leb, lt-leb, eq-eqb, ne_eqb, ltb-true, ltb-false}
use Rattle.std.proofs.lemmas.List.{get_or-replicate, get_or_past, length-replicate}
use Rattle.arith.specs.Map.{upd}
use Rattle.arith.specs.Value.{Val, pointer}
use Rattle.arith.proofs.Map.{upd_same, upd_other}
use Rattle.record.specs.declared.NameIx.{NameIx}
use Rattle.record.specs.Record.{nm, NameIx-discrete}
use Rattle.record.specs.Reader.{num_at}
use Rattle.record.specs.Decode.{index_from}
use Rattle.running.specs.House.{held, nothing_byte}
use Rattle.running.specs.Items.{plain_from}
use Rattle.engine_cells.specs.declared.Cell.{Cell}
use Rattle.engine_cells.specs.declared.Cells.{Cells}
use Rattle.engine_cells.specs.Cells.{value_by, held_by, cell_value, cell_holds, cell_in, store_in}

-- ---- a cell by its kind
module _ (kind word offset : ℕ) where
  pub by_plain : kind ≤ held → value_by kind word offset ≡ plain_from kind word
  unfolding value_by
  by_plain h = rw (le-leb kind held h)

  pub by_pointer : held < kind → value_by kind word offset ≡ pointer kind word offset
  unfolding value_by
  by_pointer h = rw (lt-leb kind held h)

  pub held_none : kind ≡ nothing_byte → held_by kind word offset ≡ none
  unfolding held_by
  held_none e = rw (eq-eqb kind nothing_byte e)

  pub held_some : kind ≢ nothing_byte → held_by kind word offset ≡ some (value_by kind word offset)
  unfolding held_by
  held_some n = rw (ne_eqb kind nothing_byte n)

  pub held_plain : kind ≤ held → held_by kind word offset ≡ some (plain_from kind word)
  held_plain h = held_some (λ e. absurd (omega (arith, h, e))) ∙ ap some (by_plain h)

-- ---- what a name holds
module _ {N : ℕ} (cells : Cells N) (x : ℕ) where
  pub read_in : store_in cells (nm x) ≡ cell_holds (cell_in cells x)
  unfolding store_in
  read_in = refl

  module _ (c : Cell) (e : c ≡ cell_in cells x) where
    pub held_in : store_in cells (nm x) ≡ cell_holds c
    held_in = read_in ∙ ap (λ (d : Cell). cell_holds d) (sym e)

    pub nothing_in : c.kind ≡ nothing_byte → store_in cells (nm x) ≡ none
    nothing_in k = held_in ∙ held_none c.kind c.word c.offset k

    pub some_in : c.kind ≢ nothing_byte → store_in cells (nm x) ≡ some (cell_value c)
    some_in n = held_in ∙ held_some c.kind c.word c.offset n

-- the name whose index stands at a place of the record
pub name_at :
    {N : ℕ} (cells : Cells N) (s : List ℕ) (at : ℕ) {x : ℕ} (c : Cell) →
    x ≡ num_at s at 2 →
    c ≡ cell_in cells x →
    store_in cells (index_from s at) ≡ cell_holds c
unfolding index_from
name_at cells s at {x} c ex e = ap (λ (n : ℕ). store_in cells (nm n)) (sym ex) ∙ held_in cells x c e

-- ---- a cell that is set
module _ {N : ℕ} (cells after : Cells N) (x : ℕ) (c : Cell) where
  -- what a name holds by parts of which that of x is set
  set_at : ℕ → ℕ → ℕ → ℕ → Option Val
  set_at j kind word offset = held_by (get_or (set cells.kinds x kind) j nothing_byte) (get_or (set cells.words x word) j 0) (get_or (set cells.offsets x offset) j 0)

  pub set_store :
      (x < length cells.kinds) × ((x < length cells.words) × (x < length cells.offsets)) →
      after.kinds ≡ set cells.kinds x c.kind →
      after.words ≡ set cells.words x c.word →
      after.offsets ≡ set cells.offsets x c.offset →
      store_in after ≡ upd NameIx-discrete (store_in cells) (nm x) (cell_holds c)
  unfolding store_in set_at
  set_store h ek ew eo = fun_ext (λ y. by y (NameIx-discrete y (nm x)))
    where
      at : (j : ℕ) → store_in after (nm j) ≡ set_at j c.kind c.word c.offset
      at j = λ i. held_by (get_or (ek i) j nothing_byte) (get_or (ew i) j 0) (get_or (eo i) j 0)

      by : (y : NameIx) → Dec (y ≡ nm x) → store_in after y ≡ upd NameIx-discrete (store_in cells) (nm x) (cell_holds c) y
      by y (yes p) =
          ap (store_in after) p ∙ at x ∙
          (λ i. held_by (get_or-set_same cells.kinds x c.kind nothing_byte h.0 i) (get_or-set_same cells.words x c.word 0 h.1.0 i)
          (get_or-set_same cells.offsets x c.offset 0 h.1.1 i)) ∙
          sym (upd_same NameIx-discrete (store_in cells) (nm x) (cell_holds c) y p)
      by y (no q) =
          let other : y.0 ≢ x = λ r. q (λ i. nm (r i)) in
          at y.0 ∙
          (λ i. held_by (get_or-set_other cells.kinds x y.0 c.kind nothing_byte other i) (get_or-set_other cells.words x y.0 c.word 0 other i)
          (get_or-set_other cells.offsets x y.0 c.offset 0 other i)) ∙
          sym (upd_other NameIx-discrete (store_in cells) (nm x) (cell_holds c) y q)

-- ---- no name is set
pub replicated : (n i d : ℕ) → get_or (replicate n d) i d ≡ d
replicated n i d = go (ltb i n) refl
  where
    go : (b : Bool) → ltb i n ≡ b → get_or (replicate n d) i d ≡ d
    go true t = get_or-replicate n i d d (ltb-true i n t)
    go false t = get_or_past (replicate n d) i d (omega (arith, ltb-false i n t, length-replicate n d))
