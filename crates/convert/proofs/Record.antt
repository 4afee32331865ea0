-- The whole record: between the version and the blocks it is the same in both versions.
use Prim.Native.Nat.{ℕ, ◌+◌, ◌-◌, ◌<◌, ◌≤◌}
use mathlib.Core.Path.{◌≡◌, sym, ap, ◌∙◌, subst}
use mathlib.Core.List.{List, [], ◌++◌, map, append_assoc, append-nil}
use native.Mathlib.Omega.{arith}
use lib.ListN.{length, take, drop, length-append}
use lib.Seq.{take-append_seam}
use Rattle.record.specs.Record.{Instr, Record, id_bytes}
use Rattle.record.specs.Ranged.{RangedBlock}
use Rattle.record.specs.Reader.{num_at}
use Rattle.record.specs.Write.{row_bytes, be, join, name_bytes, block_bytes, content_bytes, bytes}
use Rattle.record.specs.Decode.{names_end, blocks_end, id_width, block_end}
use Rattle.record.specs.Again.{block_in, blocks_in, blocks_behind, record_in}
use Rattle.record.specs.Good.{Each}
use Rattle.record.specs.Sizes.{places_end}
use Rattle.record.specs.Versions.{in_version}
use Rattle.record.proofs.Stands.{past, length_be}
use Rattle.record.proofs.Sizes.{record_size}
use Rattle.record.proofs.Again.{version_in, blocks_again}
use Rattle.record.proofs.Ends.{row_past, block_past, record_past}
use Rattle.read_layout.specs.declared.Spot.{Spot}
use Rattle.write_bytes.specs.Put.{put, Wrote}
use Rattle.write_bytes.proofs.Wrote.{wrote_number, wrote_append}
use Rattle.convert.specs.Parts.{Stands, Done, Measured}

-- A, N, the names and B
abbrev pub middle : Record Instr → List ℕ
middle r = be 1 r.args ++ (be 2 (length r.names) ++ (join (map name_bytes r.names) ++ be 2 (length r.blocks)))

abbrev pub rows : Record Instr → List ℕ
rows r = row_bytes block_bytes (id_bytes r.version) r.blocks

record_parts : (r : Record Instr) → bytes r ≡ be 4 (length (content_bytes r)) ++ (be 1 r.version ++ (middle r ++ rows r))
unfolding bytes content_bytes join
record_parts r =
    let a = be 1 r.args in
    let n = be 2 (length r.names) in
    let xs = join (map name_bytes r.names) in
    let b = be 2 (length r.blocks) in
    let nil = append-nil (rows r) in
    let e : a ++ (n ++ (xs ++ (b ++ (rows r ++ [])))) ≡ middle r ++ rows r =
    ap (λ (t : List ℕ). a ++ (n ++ (xs ++ (b ++ t)))) nil
    ∙ sym (append_assoc a (n ++ (xs ++ b)) (rows r)
    ∙ ap (λ (t : List ℕ). a ++ t) (append_assoc n (xs ++ b) (rows r) ∙ ap (λ (t : List ℕ). n ++ t) (append_assoc xs b (rows r)))) in
    ap (λ (t : List ℕ). be 4 (length (content_bytes r)) ++ (be 1 r.version ++ t)) e

pub record_long : (r : Record Instr) → length (bytes r) ≡ 5 + length (middle r) + length (rows r)
record_long r =
    let l = be 4 (length (content_bytes r)) in
    let v = be 1 r.version in
    omega (
      arith,
      ap length (record_parts r),
      length-append l (v ++ (middle r ++ rows r)),
      length-append v (middle r ++ rows r),
      length-append (middle r) (rows r),
      length_be 4 (length (content_bytes r)),
      length_be 1 r.version,
    )

module _ (version : ℕ) (s : List ℕ) (size : ℕ) (h : Measured version s size) where
  abbrev r : Record Instr
  r = record_in s

  abbrev new : Record Instr
  new = in_version version r

  abbrev first : ℕ
  first = names_end s + 2

  abbrev blocks : ℕ
  blocks = num_at s (names_end s) 2

  width_is : id_bytes r.version ≡ id_width s
  width_is = ap id_bytes (version_in s)

  -- where the blocks begin
  middle_long : 5 + length (middle r) ≡ first
  unfolding blocks_end blocks_in
  middle_long =
      let w = id_width s in
      let b : blocks_end s ≡ first + length (row_bytes block_bytes w (blocks_in w s first blocks)) =
      row_past (block_bytes w) (block_in w s) (block_end w s) (block_past w s) blocks first in
      let same : length (rows r) ≡ length (row_bytes block_bytes w (blocks_in w s first blocks)) =
      λ i. length (row_bytes block_bytes (width_is i) (blocks_again s i)) in
      omega (arith, b, same, record_past s (omega (arith, h.names)), record_long r)

  pub first_near : (5 ≤ first) × (first < places_end)
  first_near = (omega (arith, middle_long), omega (arith, record_past s (omega (arith, h.names)), record_long r, middle_long, h.near))

  behind_version : drop 5 s ≡ middle r ++ rows r
  behind_version =
      let l = be 4 (length (content_bytes r)) in
      let v = be 1 r.version in
      let rest = middle r ++ rows r in
      let five : 5 ≡ 0 + length (l ++ v) = omega (arith, length-append l v, length_be 4 (length (content_bytes r)), length_be 1 r.version) in
      let all : s ≡ (l ++ v) ++ rest = sym h.all ∙ record_parts r ∙ sym (append_assoc l v rest) in
      ap (λ (n : ℕ). drop n s) five ∙ past s (l ++ v) rest 0 all

  middle_there : take (first - 5) (drop 5 s) ≡ middle r
  middle_there =
      let n : first - 5 ≡ length (middle r) = omega (arith, middle_long) in
      rw (n, behind_version) (take-append_seam (middle r) (rows r))

  rows_there : drop first s ≡ rows r ++ []
  rows_there =
      ap (λ (n : ℕ). drop n s) (sym middle_long) ∙ past s (middle r) (rows r) 5 behind_version ∙ sym (append-nil (rows r))

  -- the blocks, and the record, in these widths, from this place on
  module _ (from to p n : ℕ) (ef : from ≡ id_width s) (et : to ≡ id_bytes version) (ep : p ≡ first) (en : n ≡ blocks) where
    blocks_are : blocks_in from s p n ≡ r.blocks
    blocks_are = (λ i. blocks_in (ef i) s (ep i) (en i)) ∙ sym (blocks_again s)

    pub blocks_stand :
        {out mid : List ℕ} {q : ℕ} → Wrote out mid 5 q (take (p - 5) (drop 5 s)) →
        Stands (row_bytes block_bytes) (Each (λ left b. RangedBlock to b)) from to s (record { p = p; q = q }) (blocks_in from s p n)
        (blocks_behind from s p n)
    unfolding blocks_end blocks_behind
    blocks_stand {q = q} a =
        let end : q ≡ 5 + length (take (p - 5) (drop 5 s)) = a.end in
        let there : length (take (p - 5) (drop 5 s)) ≡ length (middle r) = ap (λ (k : ℕ). length (take (k - 5) (drop 5 s))) ep ∙ ap length middle_there in
        let room : q + length (rows new) < places_end = omega (arith, end, there, record_long new, h.size_is, h.small) in
        rw (blocks_are, ef, et, ep, en)
        (record {
          rest = [];
          stands = rows_there ∙ ap (λ (w : ℕ). row_bytes block_bytes w r.blocks ++ []) width_is;
          fits = h.fits.blocks;
          reads = h.near;
          writes = room;
        })

    pub record_put :
        (out : List ℕ) {one two three out' : List ℕ} {q : ℕ} {end : Spot} →
        one ≡ put out 0 (be 4 (size - 4)) → two ≡ put one 4 (be 1 version) → Wrote two three 5 q (take (p - 5) (drop 5 s)) →
        Done (row_bytes block_bytes) to three out' (record { p = p; q = q }) end (blocks_in from s p n) (blocks_behind from s p n) →
        out' ≡ put out 0 (bytes new)
    record_put out {one} {two} {three} {out'} {q} {end} a b c d =
        let l : size - 4 ≡ length (content_bytes new) = omega (arith, h.size_is, record_size new) in
        let wl : Wrote out one 0 4 (be 4 (length (content_bytes new))) = wrote_number 4 _ (a ∙ ap (λ (x : ℕ). put out 0 (be 4 x)) l) in
        let wv : Wrote one two 4 5 (be 1 version) = wrote_number 1 version b in
        let wm : Wrote two three 5 q (middle r) =
        subst (λ (t : List ℕ). Wrote two three 5 q t) (ap (λ (k : ℕ). take (k - 5) (drop 5 s)) ep ∙ middle_there) c in
        let wr : Wrote three out' q end.q (rows new) =
        subst (λ (t : List ℕ). Wrote three out' q end.q t) (λ i. row_bytes block_bytes (et i) (blocks_are i)) d.wrote in
        (wrote_append _ _ wl (wrote_append _ _ wv (wrote_append (middle r) (rows new) wm wr))).out
        ∙ ap (put out 0) (sym (record_parts new))
