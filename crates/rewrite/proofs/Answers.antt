-- From what was measured and written to the answer of rewrite and to its whole output.
use Prim.Native.Nat.{ℕ, ◌*◌, ◌/◌, ◌<◌, ◌≤◌}
use mathlib.Core.Path.{◌≡◌, refl, sym, ap, ◌∙◌}
use mathlib.Core.List.{List}
use mathlib.Core.Bool.{true, false}
use native.Mathlib.Omega.{arith}
use lib.ListN.{length, take, replicate, length-replicate}
use lib.Seq.{sets}
use lib.Dec.{ltb}
use borrow.Author.Tests.{lt-ltb, le-ltb}
use Rattle.std.specs.Prelude.{Ok, Err}
use Rattle.record.specs.declared.Fault.{Fault}
use Rattle.record.specs.Record.{Placed, Record, plain, limits}
use Rattle.record.specs.Reader.{got}
use Rattle.record.specs.Read.{read}
use Rattle.record.specs.Write.{bytes}
use Rattle.record.specs.Answer.{checked}
use Rattle.record.specs.Decode.{names_count, record_from}
use Rattle.record.specs.Again.{record_in, Reads, types_in}
use Rattle.record.proofs.Typed.{accept_typed}
use Rattle.record.proofs.Again.{record_again, few_names, record_ok}
use Rattle.record.proofs.Judged.{accepted_as, refused_as}
use Rattle.record.proofs.ReadSize.{read_size}
use Rattle.numbering.specs.declared.RewriteError.TheVariants.{Refused, Room}
use Rattle.numbering.specs.Made.{made}
use Rattle.numbering.specs.Rewrite.{totals, rewritten_bytes, rewrite_result, rewrite_output, rewrite, rewrite_leaves}
use Rattle.numbering.proofs.Size.{rewriting_size}
use Rattle.write_bytes.specs.Put.{put}
use Rattle.write_bytes.proofs.Put.{put_first}
use Rattle.read_layout.specs.declared.Layout.{Layout}
use Rattle.read_layout.specs.Layout.{types_from, places_from, NamesAt, layout_of, Bounded}
use Rattle.read_layout.proofs.Tables.{types_hold, places_hold}
use Rattle.rewrite.specs.Parts.{rewriting_in}

module _ (s : List ℕ) (h : checked s ≡ Ok tt) where
  reads : read limits s 0 ≡ got (record_from s) (accepted_as s h).behind
  reads = (accept_typed limits s _ _ (accepted_as s h).got).reads

  pub accepted_few : names_count s ≤ 256
  accepted_few = few_names s _ _ reads

  -- l: what its head says; table: of 256 entries, filled for the names
  module _ (l : Layout) (e : l ≡ layout_of s) where
    names_are : l.names ≡ names_count s
    unfolding layout_of
    names_are = ap (λ (x : Layout). x.names) e

    pub few_in : l.names ≤ 256
    few_in = omega (arith, names_are, accepted_few)

    pub accepted_reads : Bounded l → Reads s l.end
    unfolding layout_of
    accepted_reads near =
        record {
          it = record_from s;
          behind = (accepted_as s h).behind;
          reads = reads;
          names = ap (λ (x : Layout). x.end) e;
          near = omega (arith, near.3, few_in);
        }

    module _ (table : List ℕ) where
      room : names_count s ≤ length (replicate {A = ℕ} 256 0)
      room = omega (arith, length-replicate {A = ℕ} 256 0, accepted_few)

      pub types_first : table ≡ sets (replicate 256 0) 0 (types_from s 8 (names_count s)) → take l.names table ≡ types_in s
      types_first f = ap (λ (n : ℕ). take n table) names_are ∙ types_hold s (replicate 256 0) table room f

      pub placed_first : table ≡ sets (replicate 256 0) 0 (places_from s 8 (names_count s)) → NamesAt s table (names_count s)
      placed_first f = places_hold s (replicate 256 0) table room f

  -- what rewrite's definition says of it
  pub accepted_result : (out : List ℕ) → rewrite_result (length out) (got (record_from s) 0) ≡ rewrite s out
  unfolding rewrite rewrite_result
  accepted_result out = sym (ap (rewrite_result (length out)) (accepted_as s h).got)

  pub accepted_output : (out : List ℕ) → rewrite_output out (got (record_from s) 0) ≡ rewrite_leaves s out
  unfolding rewrite_leaves rewrite_output
  accepted_output out = sym (ap (rewrite_output out) (accepted_as s h).got)

-- ---- a refusal of check
module _ (s : List ℕ) (f : Fault) (h : checked s ≡ Err f) (out : List ℕ) where
  pub refused_result : Err (Refused f) ≡ rewrite s out
  unfolding rewrite rewrite_result
  refused_result = sym (ap (rewrite_result (length out)) (refused_as s f h))

  pub refused_output : out ≡ rewrite_leaves s out
  unfolding rewrite_leaves rewrite_output
  refused_output = sym (ap (rewrite_output out) (refused_as s f h))

-- ---- written, or too little room; n: the bytes needed
module _ (s : List ℕ) (n : ℕ) (size : n ≡ length (bytes (rewriting_in s))) (out : List ℕ) where
  short : length out < n → ltb (length out) (length (bytes (rewriting_in s))) ≡ true
  short l = lt-ltb (length out) (length (bytes (rewriting_in s))) (omega (arith, size, l))

  long : n ≤ length out → ltb (length out) (length (bytes (rewriting_in s))) ≡ false
  long l = le-ltb (length out) (length (bytes (rewriting_in s))) (omega (arith, size, l))

  pub room_result : length out < n → Err (Room n) ≡ rewrite_result (length out) (got (record_from s) 0)
  unfolding rewrite_result rewritten_bytes
  room_result l = rw (short l) (ap (λ m. Err (Room m)) size)

  pub room_output : length out < n → out ≡ rewrite_output out (got (record_from s) 0)
  unfolding rewrite_output rewritten_bytes
  room_output l = rw (short l) refl

  pub written_result :
      {k : ℕ} → n ≤ length out → k ≡ length (made (record_in s)) →
      Ok (totals n k) ≡ rewrite_result (length out) (got (record_from s) 0)
  unfolding rewrite_result rewritten_bytes
  written_result l e = rw (long l) (λ i. Ok (totals (size i) (e i)))

  pub written_output :
      {out' : List ℕ} → n ≤ length out → out' ≡ put out 0 (bytes (rewriting_in s)) → out' ≡ rewrite_output out (got (record_from s) 0)
  unfolding rewrite_output rewritten_bytes
  written_output l e = rw (long l) (e ∙ put_first out (bytes (rewriting_in s)) (omega (arith, size, l)))

-- ---- an output of eight bytes for each of the input has room
pub eight_times :
    {s : List ℕ} {end : ℕ} (out : List ℕ) → Reads s end → length s ≤ length out / 8 → length (bytes (rewriting_in s)) ≤ length out
eight_times {s} out h l =
    let r = record_again s h.it h.behind h.reads in
    let n : length (bytes (plain h.it)) ≤ length s = read_size s h.it h.behind h.reads in
    let m : length (bytes (rewriting_in s)) ≤ 8 * length (bytes (record_in s)) = rewriting_size (record_in s) (record_ok h) in
    let e : length (bytes (plain h.it)) ≡ length (bytes (record_in s)) = ap (λ (x : Record Placed). length (bytes (plain x))) r in
    let d : length out / 8 * 8 ≤ length out = omega arith in
    omega (arith, l, n, m, e, d)
