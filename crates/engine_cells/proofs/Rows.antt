-- The values of a row of names, one by one: what is left of the row gives the whole of it.
use Prim.Native.Nat.{ℕ, ◌+◌, ◌*◌, ◌-◌, ◌<◌, ◌≤◌}
use mathlib.Core.Path.{◌≡◌, refl, sym, ap, ◌∙◌, subst}
use mathlib.Core.Logic.{◌≢◌}
use mathlib.Core.List.{List, []}
use mathlib.Core.Bool.{Bool, true, false, cond}
use mathlib.Core.Option.{Option, none, some}
use native.Mathlib.Omega.{arith}
use lib.ListN.{length, length-append}
use lib.Dec.{leb, eqb}
use borrow.Author.Tests.{eqb-true, eqb-false}
use Rattle.std.proofs.Common.{Option as CodeOption, None, Some}
use Rattle.arith.specs.Value.{Val}
use Rattle.record.specs.Record.{nm}
use Rattle.record.specs.Reader.{num_at}
use Rattle.record.specs.Write.{join}
use Rattle.record.specs.Decode.{items, index_from}
use Rattle.record.proofs.Rows.{one_more}
use Rattle.machine.specs.Machine.{Store, read_cons, read_all}
use Rattle.write_bytes.specs.Put.{put, Wrote}
use Rattle.write_bytes.proofs.Wrote.{wrote_append}
use Rattle.running.specs.House.{held, nothing_byte, value_bytes}
use Rattle.engine_cells.specs.declared.Cell.{Cell}
use Rattle.engine_cells.specs.declared.Cells.{Cells}
use Rattle.engine_cells.specs.Cells.{cell_value, cell_in, value_in, store_in, row_from, values_bytes, size_of, RowWritten}
use Rattle.engine_cells.proofs.Store.{nothing_in, some_in}
use Rattle.engine_cells.proofs.Values.{value_by_length}

-- ---- a row read
-- what those of its names hold that stand behind the first i
abbrev pub read_on : Store → List ℕ → ℕ → ℕ → ℕ → Option (List Val)
read_on σ s at n i = read_all σ (row_from s (at + 2 * i) (n - i))

module _ (σ : Store) (s : List ℕ) (at n : ℕ) where
  pub read_first : read_all σ (row_from s at n) ≡ read_on σ s at n 0
  read_first = let p : at ≡ at + 2 * 0 = omega arith in
      let m : n ≡ n - 0 = omega arith in
      (λ j. read_all σ (row_from s (p j) (m j)))

  pub read_next : (i : ℕ) → i < n → read_on σ s at n i ≡ read_cons (σ (nm (num_at s (at + 2 * i) 2))) (read_on σ s at n (i + 1))
  unfolding read_all items index_from
  read_next i h =
      let p : at + 2 * i + 2 ≡ at + 2 * (i + 1) = omega arith in
      let m : n - i - 1 ≡ n - (i + 1) = omega arith in
      ap (λ (k : ℕ). read_all σ (row_from s (at + 2 * i) k)) (one_more (n - i) (omega arith)) ∙
      (λ j. read_cons (σ (nm (num_at s (at + 2 * i) 2))) (read_all σ (row_from s (p j) (m j))))

  pub read_end : (i : ℕ) → n ≤ i → read_on σ s at n i ≡ some []
  unfolding read_all items
  read_end i h = let e : n - i ≡ 0 = omega arith in ap (λ (k : ℕ). read_all σ (row_from s (at + 2 * i) k)) e

-- ---- measured
-- `size` bytes, and those of the values that were read
unfoldable pub size_on : ℕ → Option (List Val) → CodeOption ℕ
size_on size none = None
size_on size (some vs) = Some (size + length (values_bytes vs))

size_first : (o : Option (List Val)) → size_on 0 o ≡ size_of o
unfolding size_on size_of
size_first none = refl
size_first (some vs) = ap Some (omega arith)

pub size_begun :
    (σ : Store) (s : List ℕ) (at n : ℕ) → size_on 0 (read_on σ s at n 0) ≡ size_of (read_all σ (row_from s at n))
size_begun σ s at n = size_first (read_on σ s at n 0) ∙ ap size_of (sym (read_first σ s at n))

size_cons : (size : ℕ) (v : Val) (o : Option (List Val)) → size_on (size + length (value_bytes v)) o ≡ size_on size (read_cons (some v) o)
unfolding size_on join
size_cons size v none = refl
size_cons size v (some vs) = ap Some (omega (arith, length-append (value_bytes v) (values_bytes vs)))

-- x: the first name behind the first i, c: its cell
module _
    {N : ℕ} (cells : Cells N) (s : List ℕ) (at n i x : ℕ) (c : Cell) (size : ℕ)
    (e : x ≡ num_at s (at + 2 * i) 2) (ec : c ≡ cell_in cells x) (h : i < n) where
  abbrev rest : Option (List Val)
  rest = read_on (store_in cells) s at n (i + 1)

  first_name : read_on (store_in cells) s at n i ≡ read_cons (store_in cells (nm x)) rest
  first_name = read_next (store_in cells) s at n i h ∙ ap (λ (k : ℕ). read_cons (store_in cells (nm k)) rest) (sym e)

  pub size_unset : c.kind ≡ nothing_byte → None ≡ size_on size (read_on (store_in cells) s at n i)
  unfolding size_on
  size_unset k =
      sym (ap (size_on size) (first_name ∙ ap (λ (o : Option Val). read_cons o rest) (nothing_in cells x c ec k)))

  pub size_went :
      (z : ℕ) → c.kind ≢ nothing_byte →
      z ≡ cond (leb c.kind held) 9 17 →
      size_on (size + z) rest ≡ size_on size (read_on (store_in cells) s at n i)
  size_went z k f =
      let g : z ≡ length (value_bytes (cell_value c)) = f ∙ sym (value_by_length c.kind c.word c.offset) in
      ap (λ (y : ℕ). size_on (size + y) rest) g ∙ size_cons size (cell_value c) rest ∙
      sym (ap (size_on size) (first_name ∙ ap (λ (o : Option Val). read_cons o rest) (some_in cells x c ec k)))

pub size_done :
    (σ : Store) (s : List ℕ) (at n i size : ℕ) → n ≤ i → Some size ≡ size_on size (read_on σ s at n i)
unfolding size_on join
size_done σ s at n i size e = sym (ap (size_on size) (read_end σ s at n i e) ∙ ap Some (omega arith))

-- ---- written
-- a row of which the first value is written
written_cons :
    {l m : List ℕ} {i q : ℕ} (r : List ℕ) (v : Val) (o : Option (List Val)) →
    Wrote l m i q (value_bytes v) →
    RowWritten m r q o →
    RowWritten l r i (read_cons (some v) o)
unfolding RowWritten join
written_cons r v none w f = tt
written_cons {l} {m} {i} {q} r v (some vs) w f =
    (wrote_append (value_bytes v) (values_bytes vs) w (record { out = f; end = refl })).out

pub row_went :
    {N : ℕ} {l m : List ℕ} {p q : ℕ} (r : List ℕ) (cells : Cells N) (s : List ℕ) (at n i x : ℕ) →
    x ≡ num_at s (at + 2 * i) 2 →
    i < n →
    Wrote l m p q (value_bytes (value_in cells x)) →
    RowWritten m r q (read_on (store_in cells) s at n (i + 1)) →
    RowWritten l r p (read_on (store_in cells) s at n i)
unfolding RowWritten
row_went {N} {l} {m} {p} {q} r cells s at n i x e h w f =
    subst (RowWritten l r p) (sym (first_name cells s at n i x (cell_in cells x) 0 e refl h)) (go (eqb (cell_in cells x).kind nothing_byte) refl)
  where
    rest' : Option (List Val)
    rest' = read_on (store_in cells) s at n (i + 1)

    go : (b : Bool) → eqb (cell_in cells x).kind nothing_byte ≡ b → RowWritten l r p (read_cons (store_in cells (nm x)) rest')
    go true t =
        subst (λ (o : Option Val). RowWritten l r p (read_cons o rest'))
        (sym (nothing_in cells x (cell_in cells x) refl (eqb-true (cell_in cells x).kind nothing_byte t))) tt
    go false t =
        subst (λ (o : Option Val). RowWritten l r p (read_cons o rest'))
        (sym (some_in cells x (cell_in cells x) refl (eqb-false (cell_in cells x).kind nothing_byte t)))
        (written_cons r (value_in cells x) rest' w f)

pub row_done :
    (l : List ℕ) (p : ℕ) (σ : Store) (s : List ℕ) (at n i : ℕ) → n ≤ i → RowWritten l l p (read_on σ s at n i)
unfolding RowWritten join put
row_done l p σ s at n i e = subst (RowWritten l l p) (sym (read_end σ s at n i e)) nothing_written
  where
    nothing_written : RowWritten l l p (some [])
    nothing_written = refl

-- ---- a row that has a size is set
pub row_set : (o : Option (List Val)) (n : ℕ) → Some n ≡ size_of o → o ≢ none
unfolding size_of
row_set none n e = absurd (cc e)
row_set (some vs) n e = λ h. cc h
