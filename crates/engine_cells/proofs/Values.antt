-- The bytes of a cell's value: how many they are, and that they are written part by part.
use Prim.Native.Nat.{ℕ, zero, suc, ◌+◌, ◌<◌, ◌≤◌}
use mathlib.Core.Path.{◌≡◌, refl, sym, ap, ◌∙◌, subst}
use mathlib.Core.List.{List, [], ◌∷◌, ◌++◌}
use mathlib.Core.Bool.{Bool, true, false, not, cond}
use mathlib.Core.Logic.{◌≢◌}
use native.Mathlib.Omega.{arith}
use lib.ListN.{length, length-append}
use lib.Dec.{leb, eqb}
use borrow.Author.Tests.{leb-true, leb-false, le-leb, lt-leb}
use Rattle.std.specs.Int.{from_bool}
use Rattle.arith.specs.Value.{Val, pointer}
use Rattle.record.specs.Write.{be, join}
use Rattle.record.proofs.Stands.{length_be}
use Rattle.write_bytes.specs.Put.{put, Wrote}
use Rattle.write_bytes.proofs.Wrote.{wrote_join, wrote_last, wrote_number}
use Rattle.running.specs.House.{held, type_byte, words, value_bytes}
use Rattle.running.specs.Items.{plain_from}
use Rattle.engine_cells.specs.declared.Cell.{Cell}
use Rattle.engine_cells.specs.declared.Cells.{Cells}
use Rattle.engine_cells.specs.Cells.{value_by, cell_value, cell_in, value_in}
use Rattle.engine_cells.proofs.Store.{by_plain, by_pointer}

-- ---- the type byte
plain_kind : (kind word : ℕ) → kind ≤ held → type_byte (plain_from kind word) ≡ kind
unfolding type_byte plain_from
plain_kind zero word h = refl
plain_kind (suc zero) word h = refl
plain_kind (suc (suc zero)) word h = refl
plain_kind (suc (suc (suc zero))) word h = refl
plain_kind (suc (suc (suc (suc zero)))) word h = refl
plain_kind (suc (suc (suc (suc (suc t))))) word h = absurd (omega arith)

pub kind_of_value : (kind word offset : ℕ) → type_byte (value_by kind word offset) ≡ kind
unfolding type_byte
kind_of_value kind word offset = go (leb kind held) refl
  where
    go : (b : Bool) → leb kind held ≡ b → type_byte (value_by kind word offset) ≡ kind
    go true t =
        let h : kind ≤ held = leb-true kind held t in
        ap type_byte (by_plain kind word offset h) ∙ plain_kind kind word h
    go false t = ap type_byte (by_pointer kind word offset (leb-false kind held t))

-- ---- the word as it is written
bit_is : (b : Bool) → from_bool b ≡ cond b 1 0
bit_is true = refl
bit_is false = refl

pub word_of_bool :
    (kind word : ℕ) → kind ≡ 1 → (r : ℕ) → r ≡ from_bool (not (eqb word 0)) → be 8 r ≡ words (plain_from kind word)
unfolding words plain_from
word_of_bool kind word e r h =
    ap (be 8) (h ∙ bit_is (not (eqb word 0))) ∙ sym (ap (λ (k : ℕ). words (plain_from k word)) e)

pub word_of_plain : (kind word : ℕ) → kind ≢ 1 → be 8 word ≡ words (plain_from kind word)
unfolding words plain_from
word_of_plain zero word n = refl
word_of_plain (suc zero) word n = absurd (n refl)
word_of_plain (suc (suc zero)) word n = refl
word_of_plain (suc (suc (suc zero))) word n = refl
word_of_plain (suc (suc (suc (suc t)))) word n = refl

-- ---- how many bytes
plain_length : (kind word : ℕ) → length (words (plain_from kind word)) ≡ 8
unfolding words plain_from
plain_length zero word = length_be 8 word
plain_length (suc zero) word = length_be 8 (cond (not (eqb word 0)) 1 0)
plain_length (suc (suc zero)) word = length_be 8 word
plain_length (suc (suc (suc zero))) word = length_be 8 word
plain_length (suc (suc (suc (suc t)))) word = length_be 8 word

pointer_length : (t b o : ℕ) → length (words (pointer t b o)) ≡ 16
unfolding words join
pointer_length t b o =
    omega
    (arith, length-append (be 8 b) (be 8 o ++ []), length-append (be 8 o) [], length_be 8 b, length_be 8 o)

value_length : (v : Val) → length (value_bytes v) ≡ 1 + length (words v)
unfolding value_bytes join be
value_length v = omega (arith, length-append (words v) [])

pub value_by_length : (kind word offset : ℕ) → length (value_bytes (value_by kind word offset)) ≡ cond (leb kind held) 9 17
unfolding value_by
value_by_length kind word offset = go (leb kind held)
  where
    go : (b : Bool) → length (value_bytes (cond b (plain_from kind word) (pointer kind word offset))) ≡ cond b 9 17
    go true = omega (arith, value_length (plain_from kind word), plain_length kind word)
    go false = omega (arith, value_length (pointer kind word offset), pointer_length kind word offset)

-- ---- the bytes
module _ (kind word offset : ℕ) where
  pub plain_bytes : kind ≤ held → value_bytes (value_by kind word offset) ≡ join (be 1 kind ∷ words (plain_from kind word) ∷ [])
  unfolding value_bytes
  plain_bytes h =
      ap value_bytes (by_plain kind word offset h) ∙
      ap (λ (k : ℕ). join (be 1 k ∷ words (plain_from kind word) ∷ [])) (plain_kind kind word h)

  pub pointer_bytes :
      held < kind → value_bytes (value_by kind word offset) ≡ join (be 1 kind ∷ join (be 8 word ∷ be 8 offset ∷ []) ∷ [])
  unfolding value_bytes type_byte words
  pointer_bytes h = ap value_bytes (by_pointer kind word offset h)

-- ---- written part by part
-- a number of eight bytes, and the place behind it
wrote_eight : {l m : List ℕ} {i p : ℕ} (x : ℕ) → p ≡ i + 8 → m ≡ put l i (be 8 x) → Wrote l m i p (be 8 x)
wrote_eight {l} {m} {i} x e a = subst (λ (p : ℕ). Wrote l m i p (be 8 x)) (sym e) (wrote_number 8 x a)

module _ {l m n : List ℕ} {i : ℕ} (kind word offset : ℕ) where
  -- x: the word as it is written
  pub plain_wrote :
      (x : ℕ) → kind ≤ held →
      be 8 x ≡ words (plain_from kind word) →
      m ≡ put l i (be 1 kind) →
      n ≡ put m (i + 1) (be 8 x) →
      Wrote l n i (i + cond (leb kind held) 9 17) (value_bytes (value_by kind word offset))
  plain_wrote x h e a b =
      rw (le-leb kind held h)
      (subst (Wrote l n i (i + 9))
      (ap (λ (w : List ℕ). join (be 1 kind ∷ w ∷ [])) e ∙ sym (plain_bytes kind word offset h))
      (wrote_join (be 1 kind) (be 8 x ∷ []) (wrote_number 1 kind a) (wrote_last (be 8 x) (wrote_eight x (omega arith) b))))

  pub pointer_wrote :
      {o : List ℕ} → held < kind →
      m ≡ put l i (be 1 kind) →
      n ≡ put m (i + 1) (be 8 word) →
      o ≡ put n (i + 9) (be 8 offset) →
      Wrote l o i (i + cond (leb kind held) 9 17) (value_bytes (value_by kind word offset))
  pointer_wrote {o} h a b c =
      let two = join (be 8 word ∷ be 8 offset ∷ []) in
      let second : Wrote n o (i + 9) (i + 17) (be 8 offset) = wrote_eight offset (omega arith) c in
      let first : Wrote m n (i + 1) (i + 9) (be 8 word) = wrote_eight word (omega arith) b in
      rw (lt-leb kind held h)
      (subst (Wrote l o i (i + 17)) (sym (pointer_bytes kind word offset h))
      (wrote_join (be 1 kind) (two ∷ []) (wrote_number 1 kind a)
      (wrote_last two (wrote_join (be 8 word) (be 8 offset ∷ []) first (wrote_last (be 8 offset) second)))))

-- z bytes are at most 17
pub size_most : (kind z : ℕ) → z ≡ cond (leb kind held) 9 17 → z ≤ 17
size_most kind z e = go (leb kind held) e
  where
    go : (b : Bool) → z ≡ cond b 9 17 → z ≤ 17
    go true f = omega (arith, f)
    go false f = omega (arith, f)

-- the value of a name, whose cell was read
pub value_in_wrote :
    {N : ℕ} {l m : List ℕ} {i p : ℕ} (cells : Cells N) (x : ℕ) (c : Cell) →
    c ≡ cell_in cells x →
    Wrote l m i p (value_bytes (cell_value c)) →
    Wrote l m i p (value_bytes (value_in cells x))
value_in_wrote {N} {l} {m} {i} {p} cells x c e w = subst (λ (d : Cell). Wrote l m i p (value_bytes (cell_value d))) e w
