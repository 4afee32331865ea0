-- The loop that reads a store: what is still to be read, with what the table holds so far, gives the whole store.
use Prim.Native.Nat.{ℕ, zero, suc, ◌+◌, ◌-◌, ◌<◌, ◌≤◌}
use mathlib.Core.Path.{◌≡◌, refl, sym, ap, ◌∙◌, subst, fun_ext}
use mathlib.Core.List.{List, [], ◌∷◌}
use mathlib.Core.Bool.{Bool, true, false, cond, ◌&&◌}
use mathlib.Core.Option.{Option, none}
use native.Mathlib.Omega.{arith}
use native.Mathlib.Nat.{zero-add}
use lib.ListN.{length, get_or, drop, drop_of_length-le}
use lib.Seq.{drop-cons}
use lib.Dec.{leb}
use borrow.Author.Tests.{leb-true, leb-false}
use Rattle.std.specs.Bool.{then_some}
use Rattle.arith.specs.Map.{upd}
use Rattle.arith.specs.Value.{Val}
use Rattle.arith.proofs.Clash.{clash}
use Rattle.arith.proofs.Map.{upd_same, upd_other}
use Rattle.record.specs.declared.NameIx.{NameIx}
use Rattle.record.specs.Record.{nm, NameIx-discrete}
use Rattle.record.specs.Reader.{Res, got, fault, then, times}
use Rattle.machine.specs.Machine.{Store}
use Rattle.running.specs.House.{stored_value, stored, of_type, of_types, holding}
use Rattle.engine_cells.specs.declared.Cell.{Cell}
use Rattle.engine_cells.specs.declared.Cells.{Cells}
use Rattle.engine_cells.specs.Cells.{cell_holds, store_in}
use Rattle.std.proofs.Common.{Option as CodeOption, None, Some}
use Rattle.engine_house.specs.declared.Item.{Item}
use Rattle.read_fields.specs.Opens.{opens}
use Rattle.engine_house.specs.Reads.{item, TypedAs, StoredAs, Blank, FitAs, StoreAs}
use Rattle.engine_house.proofs.Form.{up_to_end, form_opens, form_closed, one_then, none_left, some_left}

-- ---- an item that was read, or not
-- what it holds, of its name's type
record Typed (t : ℕ) (z : Res (Option Val)) (c : Cell) (q : ℕ) : Type 0 where
  is : z ≡ got (cell_holds c) q
  typed : of_type t (cell_holds c) ≡ true

was_stored : (t : ℕ) (z : Res (Option Val)) (r : CodeOption Item) (c : Cell) (q : ℕ) → StoredAs t z r → r ≡ Some (item c q) → Typed t z c q
unfolding StoredAs TypedAs
was_stored t (got o p) r c q h e = go (of_type t o) refl h
  where
    go : (b : Bool) → of_type t o ≡ b → TypedAs b o p r → Typed t (got o p) c q
    go true f h =
        let both : Some (item h.cell p) ≡ Some (item c q) = sym h.is ∙ e in
        let same : item h.cell p ≡ item c q = cc both in
        let a : h.cell ≡ c = ap (λ (x : Item). x.cell) same in
        let b : p ≡ q = ap (λ (x : Item). x.end) same in
        let d : o ≡ cell_holds c = sym h.holds ∙ ap cell_holds a in
        record { is = λ i. got (d i) (b i); typed = ap (of_type t) (sym d) ∙ f }
    go false f h = absurd (cc (h, e))
was_stored t (fault k o) r c q h e = absurd (cc (h, e))

-- ---- what is set from the i-th name on
unfoldable pub all_set : Store → ℕ → List (Option Val) → Store
all_set σ i [] = σ
all_set σ i (v ∷ vs) = all_set (upd NameIx-discrete σ (nm i) v) (i + 1) vs

below_kept : (σ : Store) (i : ℕ) (vs : List (Option Val)) (x : NameIx) → x.0 < i → all_set σ i vs x ≡ σ x
unfolding all_set
below_kept σ i [] x h = refl
below_kept σ i (v ∷ vs) x h =
    below_kept (upd NameIx-discrete σ (nm i) v) (i + 1) vs x (omega (arith, h))
    ∙ upd_other NameIx-discrete σ (nm i) v x (λ e. absurd (omega (arith, h, ap (λ (y : NameIx). y.0) e)))

set_there :
    (σ : Store) (i : ℕ) (vs : List (Option Val)) → ((x : NameIx) → i ≤ x.0 → σ x ≡ none) → (k : ℕ) →
    all_set σ i vs (nm (i + k)) ≡ get_or vs k none
unfolding all_set
set_there σ i [] h k = h (nm (i + k)) (omega arith)
set_there σ i (v ∷ vs) h zero =
    let e : i + 0 ≡ i = omega arith in
    below_kept (upd NameIx-discrete σ (nm i) v) (i + 1) vs (nm (i + 0)) (omega arith)
    ∙ upd_same NameIx-discrete σ (nm i) v (nm (i + 0)) (ap nm e)
set_there σ i (v ∷ vs) h (suc k) =
    let e : i + suc k ≡ i + 1 + k = omega arith in
    let later : (x : NameIx) → i + 1 ≤ x.0 → upd NameIx-discrete σ (nm i) v x ≡ none =
    λ x l. upd_other NameIx-discrete σ (nm i) v x (λ q. absurd (omega (arith, l, ap (λ (y : NameIx). y.0) q))) ∙ h x (omega (arith, l)) in
    ap (λ (j : ℕ). all_set (upd NameIx-discrete σ (nm i) v) (i + 1) vs (nm j)) e
    ∙ set_there (upd NameIx-discrete σ (nm i) v) (i + 1) vs later k

-- from there on
all_held : {N : ℕ} (cells : Cells N) (vs : List (Option Val)) → Blank cells → all_set (store_in cells) 0 vs ≡ holding vs
all_held cells vs b =
    fun_ext (λ x.
    ap (λ (k : ℕ). all_set (store_in cells) 0 vs (nm k)) (sym (zero-add x.0)) ∙
    set_there (store_in cells) 0 vs (λ y l. b y) x.0)

-- ---- what is still to be read
abbrev pub stored_rest : ℕ → List ℕ → ℕ → Res (List (Option Val))
stored_rest n s p = up_to_end (times n (λ left. stored_value)) s p

-- ts: the types of the names from i on; σ: what is held so far
unfoldable pub RestAs : {N : ℕ} → List ℕ → ℕ → Store → Res (List (Option Val)) → Cells N → Bool → Type 0
RestAs ts i σ (got vs p) after b = (b ≡ of_types ts vs) × (b ≡ true → store_in after ≡ all_set σ i vs)
RestAs ts i σ (fault k o) after b = b ≡ false

module _ {N : ℕ} (after : Cells N) where
  -- the first item, and those behind it
  first_set :
      (t : ℕ) (ts : List ℕ) (i : ℕ) (σ : Store) (o : Option Val) → of_type t o ≡ true → (z : Res (List (Option Val))) (b : Bool) →
      RestAs ts (i + 1) (upd NameIx-discrete σ (nm i) o) z after b →
      RestAs (t ∷ ts) i σ (then z (λ vs e. got (o ∷ vs) e)) after b
  unfolding RestAs all_set of_types
  first_set t ts i σ o f (got vs p) b h = (h.0 ∙ ap (λ (c : Bool). c && of_types ts vs) (sym f), h.1)
  first_set t ts i σ o f (fault k p) b h = h

  first_unfit :
      (t : ℕ) (ts : List ℕ) (i : ℕ) (σ : Store) (o : Option Val) → of_type t o ≡ false → (z : Res (List (Option Val))) →
      RestAs (t ∷ ts) i σ (then z (λ vs e. got (o ∷ vs) e)) after false
  unfolding RestAs of_types
  first_unfit t ts i σ o f (got vs p) = (ap (λ (c : Bool). c && of_types ts vs) (sym f), λ e. clash (cc e))
  first_unfit t ts i σ o f (fault k p) = refl

  module _ (t : ℕ) (ts : List ℕ) (n i : ℕ) (σ : Store) (s : List ℕ) (p : ℕ) (r : CodeOption Item) (h : StoredAs t (stored_value s p) r) where
    rest_by : (z : Res (Option Val)) → stored_value s p ≡ z →
        stored_rest (suc n) s p ≡ then z (λ o q. then (stored_rest n s q) (λ vs e. got (o ∷ vs) e))
    unfolding times
    rest_by z e =
        one_then s p stored_value (times n (λ left. stored_value))
        ∙ ap (λ (u : Res (Option Val)). then u (λ o q. then (stored_rest n s q) (λ vs e. got (o ∷ vs) e))) e

    one_stored :
        (c : Cell) (q : ℕ) → r ≡ Some (item c q) → (b : Bool) →
        RestAs ts (i + 1) (upd NameIx-discrete σ (nm i) (cell_holds c)) (stored_rest n s q) after b →
        RestAs (t ∷ ts) i σ (stored_rest (suc n) s p) after b
    one_stored c q e b k =
        let w = was_stored t (stored_value s p) r c q h e in
        subst (λ (z : Res (List (Option Val))). RestAs (t ∷ ts) i σ z after b) (sym (rest_by (got (cell_holds c) q) w.is))
        (first_set t ts i σ (cell_holds c) w.typed (stored_rest n s q) b k)

    none_stored : r ≡ None → RestAs (t ∷ ts) i σ (stored_rest (suc n) s p) after false
    unfolding RestAs StoredAs TypedAs
    none_stored e = go (stored_value s p) refl h
      where
        go : (z : Res (Option Val)) → stored_value s p ≡ z → StoredAs t z r → RestAs (t ∷ ts) i σ (stored_rest (suc n) s p) after false
        go (got o q) f h =
            subst (λ (z : Res (List (Option Val))). RestAs (t ∷ ts) i σ z after false) (sym (rest_by (got o q) f))
            (first_unfit t ts i σ o (unfit (of_type t o) h) (stored_rest n s q))
          where
            unfit : (b : Bool) → TypedAs b o q r → b ≡ false
            unfit true h = let same : Some (item h.cell q) ≡ None = sym h.is ∙ e in absurd (cc same)
            unfit false h = refl
        go (fault k q) f h =
            subst (λ (z : Res (List (Option Val))). RestAs (t ∷ ts) i σ z after false) (sym (rest_by (fault k q) f)) refl

-- what the code answers
abbrev pub answered : Bool → CodeOption Unit
answered b = cond b (Some tt) None

answers_as :
    {N : ℕ} (ts : List ℕ) (after : Cells N) (b : Bool) (vs : List (Option Val)) →
    b ≡ of_types ts vs → (b ≡ true → store_in after ≡ holding vs) → FitAs (of_types ts vs) vs after (answered b)
unfolding FitAs
answers_as ts after true vs e h = subst (λ (c : Bool). FitAs c vs after (Some tt)) e (refl, h refl)
answers_as ts after false vs e h = subst (λ (c : Bool). FitAs c vs after None) e refl

-- ---- the loop; ts: the types of all names
module _ {N : ℕ} (s ts : List ℕ) where
  -- i items were read, up to p
  abbrev Left : Cells N → ℕ → ℕ → Cells N → Bool → Type 0
  Left cells p i after b = RestAs (drop i ts) i (store_in cells) (stored_rest (length ts - i) s p) after b

  -- so the rest gives the whole
  abbrev pub StoreLoop : Cells N → ℕ → ℕ → Type 0
  StoreLoop cells p i = (after : Cells N) (b : Bool) → Left cells p i after b → StoreAs ts (stored (length ts) s 0) after (answered b)

  pub store_closed : (after : Cells N) → opens 5 1 s ≡ false → StoreAs ts (stored (length ts) s 0) after None
  unfolding stored StoreAs
  store_closed after o = rw (form_closed (times (length ts) (λ left. stored_value)) s o).is refl

  pub store_start : (cells : Cells N) → opens 5 1 s ≡ true → Blank cells → StoreLoop cells 5 0
  unfolding stored RestAs StoreAs
  store_start cells o k after b h =
      let n : length ts ≡ length ts - 0 = omega arith in
      let e : stored (length ts) s 0 ≡ stored_rest (length ts - 0) s 5 =
      form_opens (times (length ts) (λ left. stored_value)) s o ∙ ap (λ (m : ℕ). stored_rest m s 5) n in
      subst (λ (z : Res (List (Option Val))). StoreAs ts z after (answered b)) (sym e) (go (stored_rest (length ts - 0) s 5) h)
    where
      go : (z : Res (List (Option Val))) → RestAs ts 0 (store_in cells) z after b → StoreAs ts z after (answered b)
      go (got vs p) h = answers_as ts after b vs h.0 (λ e. h.1 e ∙ all_held cells vs k)
      go (fault k o) h = ap answered h

  module _ (cells : Cells N) (p i : ℕ) (so_far : StoreLoop cells p i) where
    module _ (h : i < length ts) (r : CodeOption Item) (d : StoredAs (get_or ts i 0) (stored_value s p) r) where
      next_types : drop i ts ≡ get_or ts i 0 ∷ drop (i + 1) ts
      next_types =
          let e : suc i ≡ i + 1 = omega arith in
          drop-cons ts i 0 h ∙ ap (λ (j : ℕ). get_or ts i 0 ∷ drop j ts) e

      -- by the next item and those behind it
      by_next :
          (after : Cells N) (b : Bool) →
          RestAs (get_or ts i 0 ∷ drop (i + 1) ts) i (store_in cells) (stored_rest (suc (length ts - (i + 1))) s p) after b →
          StoreAs ts (stored (length ts) s 0) after (answered b)
      by_next after b k =
          let one_less : length ts - i ≡ suc (length ts - (i + 1)) = omega (arith, h) in
          so_far after b
          (subst (λ (n : ℕ). RestAs (drop i ts) i (store_in cells) (stored_rest n s p) after b) (sym one_less)
          (subst (λ (us : List ℕ). RestAs us i (store_in cells) (stored_rest (suc (length ts - (i + 1))) s p) after b) (sym next_types) k))

      -- it was put into the table
      pub store_went :
          (c : Cell) (q : ℕ) → r ≡ Some (item c q) → (m : Cells N) →
          store_in m ≡ upd NameIx-discrete (store_in cells) (nm i) (cell_holds c) →
          StoreLoop m q (i + 1)
      store_went c q e m f after b k =
          by_next after b
          (one_stored after (get_or ts i 0) (drop (i + 1) ts) (length ts - (i + 1)) i (store_in cells) s p r d c q e b
          (subst (λ (σ : Store). RestAs (drop (i + 1) ts) (i + 1) σ (stored_rest (length ts - (i + 1)) s q) after b) f k))

      pub store_stopped : r ≡ None → StoreAs ts (stored (length ts) s 0) cells None
      store_stopped e =
          by_next cells false
          (none_stored cells (get_or ts i 0) (drop (i + 1) ts) (length ts - (i + 1)) i (store_in cells) s p r d e)

    -- behind the last item: is anything left over
    store_done : length ts ≤ i → StoreAs ts (stored (length ts) s 0) cells (answered (leb (length s) p))
    unfolding times RestAs all_set of_types
    store_done h =
        let n : length ts - i ≡ 0 = omega (arith, h) in
        so_far cells (leb (length s) p)
        (subst (λ (m : ℕ). RestAs (drop i ts) i (store_in cells) (stored_rest m s p) cells (leb (length s) p)) (sym n)
        (subst (λ (us : List ℕ). RestAs us i (store_in cells) (stored_rest 0 s p) cells (leb (length s) p))
        (sym (drop_of_length-le ts {i = i} h)) (go (leb (length s) p) refl)))
      where
        go : (b : Bool) → leb (length s) p ≡ b → RestAs [] i (store_in cells) (stored_rest 0 s p) cells b
        go true e = rw (none_left {A = Option Val} s p (leb-true (length s) p e)) (refl, λ k. refl)
        go false e = rw (some_left {A = Option Val} s p (leb-false (length s) p e)) refl

    pub store_full :
        length ts ≤ i → StoreAs ts (stored (length ts) s 0) cells (then_some (leb (length s) p) tt)
    store_full h = go (leb (length s) p) refl
      where
        go : (b : Bool) → leb (length s) p ≡ b → StoreAs ts (stored (length ts) s 0) cells (then_some b tt)
        go true e = rw e at (store_done h)
        go false e = rw e at (store_done h)

-- ---- for the check: the loop over the names
pub ruleset store_reads = (store_closed, store_start, store_went, store_stopped, store_full)
