-- What is written of an accepted input: it reads back as the rewriting, it is bytes, and the program's buffer holds it.
use Prim.Native.Nat.{ℕ, ◌+◌, ◌*◌, ◌<◌, ◌≤◌}
use mathlib.Core.Path.{◌≡◌, refl}
use mathlib.Core.Bool.{Bool, true, false, cond}
use mathlib.Core.List.{List}
use native.Mathlib.Omega.{arith}
use lib.ListN.{length}
use lib.Dec.{ltb}
use borrow.Author.Tests.{ltb-true}
use Rattle.arith.proofs.Clash.{clash}
use Rattle.record.specs.Record.{Bytes, Instr, Placed, Record, plain, limits, wide}
use Rattle.record.specs.Reader.{Res, got, fault}
use Rattle.record.specs.Read.{read}
use Rattle.record.specs.Typing.{accept}
use Rattle.record.specs.Write.{content_bytes, bytes}
use Rattle.record.specs.Good.{RecordOk}
use Rattle.record.specs.Ranged.{Ranged}
use Rattle.record.specs.Sizes.{longest_record}
use Rattle.record.proofs.ReadBack.{ReadsBack, reads_back}
use Rattle.record.proofs.Accepted.{read_ok}
use Rattle.record.proofs.Ranged.{read_ranged}
use Rattle.record.proofs.Typed.{accept_typed}
use Rattle.record.proofs.Written.{Holds, bytes_written}
use Rattle.record.proofs.Sizes.{record_size}
use Rattle.record.proofs.ReadFrom.{read_length}
use Rattle.record.proofs.Longest.{record_most}
use Rattle.std.specs.Prelude.{Ok, Err}
use Rattle.numbering.specs.declared.RewriteError.TheVariants.{Room}
use Rattle.numbering.specs.Rewrite.{totals}
use Rattle.numbering.specs.Made.{made, rewriting}
use Rattle.numbering.specs.Rewrite.{rewritten_bytes, rewrite_result, rewrite}
use Rattle.numbering.specs.Program.{most_input, buffer_size}
use Rattle.numbering.proofs.Wide.{rewriting_passes}
use Rattle.numbering.proofs.Size.{rewriting_size}
use Rattle.numbering.proofs.Range.{rewriting_ranged}

-- ---- of a record that passes the tests
pub rewriting_reads_back : (r : Record Instr) → RecordOk limits r → ReadsBack wide (rewriting r)
rewriting_reads_back r h = reads_back wide (rewriting r) (rewriting_passes r h)

wide_holds : Holds wide
wide_holds = record { names = omega arith; text = omega arith; body = omega arith }

pub rewriting_bytes : (r : Record Instr) → RecordOk limits r → Ranged r → Bytes (bytes (rewriting r))
rewriting_bytes r h g =
    let a : length (bytes r) ≤ longest_record = record_most r h in
    let b : length (bytes (rewriting r)) ≤ 8 * length (bytes r) = rewriting_size r h in
    let c : length (bytes (rewriting r)) ≡ 4 + length (content_bytes (rewriting r)) = record_size (rewriting r) in
    bytes_written wide wide_holds (rewriting r) (rewriting_passes r h) (rewriting_ranged r h g) (omega arith)

-- ---- of an accepted input
module _ (s : List ℕ) (b : Bytes s) (r : Record Placed) (p : ℕ) (e : accept limits s ≡ got r p) where
  reads : read limits s 0 ≡ got r p
  reads = (accept_typed limits s r p e).reads

  pub accepted_ok : RecordOk limits (plain r)
  accepted_ok = read_ok limits s r p reads

  pub accepted_reads_back : ReadsBack wide (rewriting (plain r))
  accepted_reads_back = rewriting_reads_back (plain r) accepted_ok

  pub accepted_bytes : Bytes (rewritten_bytes r)
  unfolding rewritten_bytes
  accepted_bytes = rewriting_bytes (plain r) accepted_ok (read_ranged limits s b r p reads)

  -- at most eight bytes are written for each byte read, in either version
  pub accepted_size : length (rewritten_bytes r) ≤ 8 * length s
  unfolding rewritten_bytes
  accepted_size =
      let n : length (bytes (plain r)) ≡ length s = read_length limits s b r p reads in
      let m : length (bytes (rewriting (plain r))) ≤ 8 * length (bytes (plain r)) = rewriting_size (plain r) accepted_ok in
      omega arith

-- "Its output buffer is 65,536 bytes, which suffices.": no input that the program reads is refused for want of room
room_left : (room n k m : ℕ) (b : Bool) → ltb room n ≡ b → n ≤ room → cond b (Err (Room n)) (Ok (totals n k)) ≡ Err (Room m) → ⊥
room_left room n k m true q l e = let h : room < n = ltb-true room n q in omega arith
room_left room n k m false q l e = clash (cc)

pub buffer_suffices :
    (s out : List ℕ) → Bytes s → length s ≤ most_input → buffer_size ≤ length out → (m : ℕ) → rewrite s out ≡ Err (Room m) → ⊥
unfolding rewrite rewrite_result
buffer_suffices s out b l o m e = go (accept limits s) refl e
  where
    go : (v : Res (Record Placed)) → accept limits s ≡ v → rewrite_result (length out) v ≡ Err (Room m) → ⊥
    go (fault k x) q f = clash (cc)
    go (got r p) q f =
        let h : length (rewritten_bytes r) ≤ 8 * length s = accepted_size s b r p q in
        let n = length (rewritten_bytes r) in
        room_left (length out) n (length (made (plain r))) m (ltb (length out) n) refl (omega arith) f
