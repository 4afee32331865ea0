-- The tables of the names, filled from their start: what they hold where they have room.
use Prim.Native.Nat.{ℕ, ◌+◌, ◌≤◌}
use mathlib.Core.Path.{◌≡◌, sym, ap, ◌∙◌}
use mathlib.Core.List.{List}
use native.Mathlib.Omega.{arith}
use lib.ListN.{length, get_or, take, drop, get_or-append}
use lib.Seq.{sets, sets-eq, take-append_seam}
use Rattle.record.specs.Record.{Name}
use Rattle.record.specs.Decode.{name_from, name_end, names_count, record_from}
use Rattle.record.specs.Again.{types_in}
use Rattle.record.proofs.Decode.{item_at, length_items}
use Rattle.record.proofs.Rows.{map_items}
use Rattle.read_layout.specs.Layout.{types_from, places_from, NamesAt}

pub types_are : (s : List ℕ) → types_from s 8 (names_count s) ≡ types_in s
unfolding types_from record_from
types_are s = sym (map_items (λ (x : Name). x.type) (name_from s) (name_end s) (names_count s) 8)

pub length_types : (s : List ℕ) (at n : ℕ) → length (types_from s at n) ≡ n
unfolding types_from
length_types s at n = length_items (λ p. (name_from s p).type) (name_end s) n at

-- l: the table before it is filled
module _ (s l table : List ℕ) (h : names_count s ≤ length l) where
  pub types_hold : table ≡ sets l 0 (types_from s 8 (names_count s)) → take (names_count s) table ≡ types_in s
  types_hold e =
      let ts = types_from s 8 (names_count s) in
      let many = length_types s 8 (names_count s) in
      let room : 0 + length ts ≤ length l = omega (arith, many, h) in
      (λ i. take (sym many i) ((e ∙ sets-eq ts l 0 room) i)) ∙ take-append_seam ts (drop (0 + length ts) l) ∙ types_are s

  pub places_hold : table ≡ sets l 0 (places_from s 8 (names_count s)) → NamesAt s table (names_count s)
  unfolding places_from
  places_hold e x j =
      let ps = places_from s 8 (names_count s) in
      let many : length ps ≡ names_count s = length_items (λ p. p) (name_end s) (names_count s) 8 in
      let room : 0 + length ps ≤ length l = omega (arith, many, h) in
      ap (λ (t : List ℕ). get_or t x 0) (e ∙ sets-eq ps l 0 room) ∙
      get_or-append ps (drop (0 + length ps) l) 0 x (omega (arith, many, j)) ∙
      item_at (λ p. p) (name_end s) 0 x (names_count s) 8 j
