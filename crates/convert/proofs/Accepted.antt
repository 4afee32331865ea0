-- An accepted record: what is found of its ids, how many bytes it needs, and that the answer is the definition's.
use Prim.Native.Nat.{ℕ, ◌+◌, ◌-◌, ◌*◌, ◌^◌, ◌<◌, ◌≤◌}
use mathlib.Core.Path.{◌≡◌, sym, ap, ◌∙◌, subst}
use mathlib.Core.List.{List}
use native.Mathlib.Omega.{arith}
use mathlib.Core.Logic.{inl, inr}
use lib.ListN.{length, length-map, get_or}
use Rattle.std.specs.Prelude.{Ok, Err, Option, None}
use Rattle.record.specs.declared.ConvertError.{ConvertError}
use Rattle.record.specs.declared.ConvertError.TheVariants.{Refused, Wide, Room}
use Rattle.record.specs.declared.Fault.{Fault}
use Rattle.record.specs.Record.{Instr, Placed, Record, limits, id_bytes}
use Rattle.record.specs.Reader.{got, num_at}
use Rattle.record.specs.Read.{read}
use Rattle.record.specs.Tests.{version_test}
use Rattle.record.specs.Answer.{checked}
use Rattle.record.specs.Typing.{accept}
use Rattle.record.specs.Write.{bytes}
use Rattle.record.specs.Decode.{behind, block_end, names_end, blocks_end, id_width, record_from}
use Rattle.record.specs.Again.{record_in}
use Rattle.record.specs.Sizes.{longest_record, places_end}
use Rattle.record.specs.Versions.{in_version, converted_bytes, instructions, first_wide, Converted, convert, convert_leaves}
use Rattle.record.proofs.Again.{version_in, read_good}
use Rattle.record.proofs.Ends.{block_grows, blocks_near as record_near}
use Rattle.record.proofs.Gives.{num_at_below}
use Rattle.record.proofs.Rows.{behind_on}
use Rattle.record.proofs.Ids.{Fit, none_fit, ids, ids_of, ranged_in, good_in}
use Rattle.record.proofs.Inside.{names_inside}
use Rattle.record.proofs.Judged.{accepted_as}
use Rattle.record.proofs.Longest.{record_most}
use Rattle.record.proofs.Octets.{octets}
use Rattle.record.proofs.Ranged.{read_ranged}
use Rattle.record.proofs.ReadFrom.{accept_from}
use Rattle.record.proofs.Resized.{version_size}
use Rattle.record.proofs.Typed.{accept_typed}
use Rattle.record.proofs.Versions.{refused_exactly, wide_refused, untouched, converts}
use Rattle.write_bytes.specs.Put.{put, IdWidth}
use Rattle.write_bytes.proofs.Put.{put_first}
use Rattle.read_layout.specs.declared.Layout.{Layout}
use Rattle.read_layout.specs.Layout.{layout_of}
use Rattle.convert.specs.Parts.{blocks_placed, scanned, Checked, Measured}
use Rattle.convert.proofs.Scan.{found_ok, found_err}

-- what check refuses
pub refused_answer :
    (version : ℕ) (s out : List ℕ) (f : Fault) → checked s ≡ Err f →
    (Err (Refused f) ≡ convert version s out) × (out ≡ convert_leaves version s out)
refused_answer version s out f h =
    let d : convert version s out ≡ Err (Refused f) = (refused_exactly version s out f).1 h in
    (sym d, sym (untouched version s out (Refused f) d))

-- ---- what the entry knows
pub input_checked :
    (version : ℕ) (s : List ℕ) → ((i : ℕ) → get_or s i 0 < 256) → version_test version ≡ Ok tt → checked s ≡ Ok tt → Checked version s
input_checked version s h k a = record { bytes = octets s h; accepted = a; known = k }

-- an id has four bytes where it has not eight
pub other_width : (w : ℕ) → IdWidth w → (w ≡ 8 → ⊥) → 4 ≡ w
other_width w (inl e) h = sym e
other_width w (inr e) h = absurd (h e)

-- ---- what is found
module _ (version : ℕ) (s : List ℕ) (a : Checked version s) where
  abbrev placed : Record Placed
  placed = record_from s

  abbrev new : Record Instr
  new = in_version version (record_in s)

  abbrev end : ℕ
  end = (accepted_as s a.accepted).behind

  accepts : accept limits s ≡ got placed end
  accepts = (accepted_as s a.accepted).got

  reads : read limits s 0 ≡ got placed end
  reads = (accept_typed limits s placed end accepts).reads

  same_bytes : bytes (record_in s) ≡ s
  same_bytes = accept_from limits s a.bytes placed end accepts

  new_near : length (bytes new) ≤ longest_record
  new_near = record_most new (good_in version (record_in s) a.known (read_good s placed end reads))

  -- ---- what is found of its ids, in the blocks that the head speaks of
  module _ (l : Layout) (e : l ≡ layout_of s) where
    -- the blocks end within the record
    pub blocks_near :
        (w : ℕ) → w ≡ id_width s →
        (l.end + 2 < places_end) × (behind (block_end w s) (l.end + 2) l.blocks < places_end) × (l.blocks < 65536)
    unfolding blocks_end layout_of
    blocks_near w ew =
        let near : blocks_end s ≤ longest_record = record_near s end reads in
        let on : names_end s + 2 ≤ blocks_end s = behind_on (block_end (id_width s) s) (block_grows (id_width s) s) (names_end s + 2) (num_at s (names_end s) 2) in
        let few : num_at s (names_end s) 2 < 256 ^ 2 = num_at_below s a.bytes (names_end s) 2 in
        rw (ew, e) (omega (arith, near, on), omega (arith, near), few)

    placed_are : (w : ℕ) → w ≡ id_width s → blocks_placed w s (l.end + 2) l.blocks ≡ instructions placed
    unfolding record_from layout_of
    placed_are w ew = λ i. blocks_placed (ew i) s ((e i).end + 2) (e i).blocks

    -- w: the bytes of an id here, to: there
    module _ (w to : ℕ) (ew : w ≡ id_width s) (et : to ≡ id_bytes version) where
      wide_are : first_wide to (blocks_placed w s (l.end + 2) l.blocks) ≡ first_wide (id_bytes version) (instructions placed)
      wide_are = λ i. first_wide (et i) (placed_are w ew i)

      count_is : length (blocks_placed w s (l.end + 2) l.blocks) ≡ length (ids (record_in s))
      count_is =
          ap length (placed_are w ew) ∙ sym (length-map (instructions placed) (λ (i : Placed). i.it.id)) ∙ ap length (ids_of placed)

      abbrev Found : Converted → Type 0
      Found r = r ≡ scanned (first_wide to (blocks_placed w s (l.end + 2) l.blocks)) (length (blocks_placed w s (l.end + 2) l.blocks))

      abbrev Answer : Converted → Type 0
      Answer r = r ≡ scanned (first_wide (id_bytes version) (instructions placed)) (length (converted_bytes version placed))

      pub wide_found : (k : ConvertError) → Found (Err k) → Answer (Err k)
      unfolding scanned
      wide_found k f =
          let w = found_err _ _ k f in
          ap (λ (x : ConvertError). Err x) w.1 ∙ sym (ap (λ (x : Option ℕ). scanned x (length (converted_bytes version placed))) (sym wide_are ∙ w.2))

      -- the size, as the code works it out
      pub sizes : (n : ℕ) → Found (Ok n) → (n * w ≤ length s) × (n * to ≤ longest_record) × (length s - n * w + n * to ≤ longest_record)
      sizes n f =
          let k : n ≡ length (ids (record_in s)) = (found_ok _ _ n f).1 ∙ count_is in
          let z = version_size version n (record_in s) k in
          let same : length (bytes (record_in s)) ≡ length s = ap length same_bytes in
          let ev : w ≡ id_bytes (record_in s).version = ew ∙ sym (ap id_bytes (version_in s)) in
          rw (ev, et) (omega (arith, z.0, same), omega (arith, z.1, new_near), omega (arith, z.2, same, new_near))

      pub size_found : (n : ℕ) → Found (Ok n) → Answer (Ok (length s - n * w + n * to))
      unfolding scanned converted_bytes
      size_found n f =
          let both = found_ok _ _ n f in
          let z = version_size version n (record_in s) (both.1 ∙ count_is) in
          let ev : w ≡ id_bytes (record_in s).version = ew ∙ sym (ap id_bytes (version_in s)) in
          let sum : length s - n * w + n * to ≡ length (bytes new) =
          (λ i. length (sym same_bytes i) - n * ev i + n * et i) ∙ z.2 in
          ap (λ (k : ℕ). Ok k) sum ∙ sym (ap (λ (x : Option ℕ). scanned x (length (bytes new))) (sym wide_are ∙ both.0))

  -- ---- the record in that version, which needs so many bytes
  module _ (size : ℕ) (f : Ok size ≡ scanned (first_wide (id_bytes version) (instructions placed)) (length (converted_bytes version placed))) where
    none : first_wide (id_bytes version) (instructions placed) ≡ None
    none = (found_ok _ _ size f).0

    size_is : size ≡ length (converted_bytes version placed)
    size_is = (found_ok _ _ size f).1

    pub measured : Measured version s size
    unfolding converted_bytes
    measured =
        record {
          all = same_bytes;
          fits =
              ranged_in version (record_in s) (read_ranged limits s a.bytes placed end reads)
              (subst (Fit (id_bytes version)) (ids_of placed) (none_fit (id_bytes version) (instructions placed) none));
          names = names_inside limits s placed end reads;
          near = omega (arith, record_near s end reads);
          size_is = size_is;
          small = omega (arith, size_is, new_near);
        }

    pub short_answer : (out : List ℕ) → length out < size → (Err (Room size) ≡ convert version s out) × (out ≡ convert_leaves version s out)
    short_answer out l =
        let d = (converts s a.bytes placed end accepts version none).short out (omega (arith, size_is, l)) in
        (ap (λ (n : ℕ). Err (Room n)) size_is ∙ sym d, sym (untouched version s out (Room (length (converted_bytes version placed))) d))

    pub done_answer :
        (out written : List ℕ) → size ≤ length out → written ≡ put out 0 (bytes new) →
        (Ok size ≡ convert version s out) × (written ≡ convert_leaves version s out)
    unfolding converted_bytes
    done_answer out written l h =
        let d = converts s a.bytes placed end accepts version none in
        let le : length (converted_bytes version placed) ≤ length out = omega (arith, size_is, l) in (
          ap (λ (n : ℕ). Ok n) size_is ∙ sym (d.says out le),
          h ∙ put_first out (converted_bytes version placed) le ∙ sym (d.leaves out le),
        )

  -- one has no room
  pub wide_answer :
      (k : ConvertError) (out : List ℕ) →
      Err k ≡ scanned (first_wide (id_bytes version) (instructions placed)) (length (converted_bytes version placed)) →
      (Err k ≡ convert version s out) × (out ≡ convert_leaves version s out)
  wide_answer k out f =
      let w = found_err _ _ k f in
      let d = wide_refused s a.bytes placed end accepts version w.0 out w.2 in
      (ap (λ (x : ConvertError). Err x) w.1 ∙ sym d, sym (untouched version s out (Wide w.0) d))
