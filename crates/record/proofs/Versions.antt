-- "A widening and a narrowing are added" (document 02, Point 7): what is proved of a conversion to either version, each theorem with its sentence.
-- Each is one theorem over the version that is wanted, and so both directions; what is proved of a record's ids is in Ids.
use Prim.Native.Nat.{ℕ, ◌*◌, ◌^◌, ◌<◌, ◌≤◌}
use mathlib.Core.Path.{◌≡◌, refl, sym, ap, ◌∙◌, subst}
use mathlib.Core.Logic.{◌↔◌}
use mathlib.Core.List.{List, ◌++◌, map}
use mathlib.Core.Bool.{Bool, true, false, cond}
use native.Mathlib.Omega.{arith}
use lib.ListN.{length, take, drop}
use lib.Seq.{take-append_seam}
use lib.Dec.{ltb}
use borrow.Author.Tests.{ltb-false, lt-ltb, le-ltb}
use Rattle.arith.proofs.Clash.{clash}
use Rattle.std.specs.Prelude.{Option, Some, None, Ok, Err}
use Rattle.record.specs.declared.ConvertError.{ConvertError}
use Rattle.record.specs.declared.ConvertError.TheVariants.{Refused, Wide, Room}
use Rattle.record.specs.declared.Refusal.{Refusal}
use Rattle.record.specs.declared.Fault.{Fault}
use Rattle.record.specs.Record.{Bytes, Instr, Placed, Record, plain, function, texts, limits, id_bytes}
use Rattle.record.specs.Reader.{Res, got, fault}
use Rattle.record.specs.Tests.{version_test}
use Rattle.record.specs.Typing.{accept}
use Rattle.record.specs.Write.{content_bytes, bytes}
use Rattle.record.specs.Good.{RecordOk}
use Rattle.record.specs.Ranged.{Ranged}
use Rattle.record.specs.Answer.{fault_at, checked_as, checked}
use Rattle.record.specs.Versions.{in_version, converted_bytes, instructions, first_wide, converted_as, convert_result, written_as, convert_output, convert, convert_leaves, widen, widen_leaves, narrow, narrow_leaves}
use Rattle.record.proofs.Accepted.{read_ok}
use Rattle.record.proofs.Judged.{refused_as}
use Rattle.record.proofs.Ranged.{read_ranged}
use Rattle.record.proofs.ReadFrom.{accept_from}
use Rattle.record.proofs.Written.{bytes_written}
use Rattle.record.proofs.Longest.{record_most}
use Rattle.record.proofs.Sizes.{record_size, id_bytes_are}
use Rattle.record.proofs.Typed.{accept_typed, accepts_back}
use Rattle.record.proofs.Ids.{Fit, FirstWide, first_is, is_first, none_wide, all_fit, ids, ids_of, ranged_fit, ranged_in, good_in, fit_more}
use Rattle.record.proofs.Resized.{at_most_twice, no_longer}

-- ---- the three answers
-- "after check's refusals": what check refuses is refused so, whatever the output, and nothing else is
refused_first : (v : ℕ) (s out : List ℕ) (k : Refusal) (o : ℕ) → accept limits s ≡ fault k o → convert v s out ≡ Err (Refused (fault_at k o))
unfolding convert convert_result
refused_first v s out k o e = rw e

pub refused_exactly : (v : ℕ) (s out : List ℕ) (f : Fault) → (convert v s out ≡ Err (Refused f)) ↔ (checked s ≡ Err f)
unfolding convert convert_result converted_as checked
refused_exactly v s out f = (λ e. from (accept limits s) e, λ e. refused_first v s out f.refusal f.offset (refused_as s f e))
  where
    room : (b : Bool) (m : ℕ) {A : Type 0} → cond b (Err (Room m)) (Ok m) ≡ Err (Refused f) → A
    room true m e = clash (cc)
    room false m e = clash (cc)

    fits : (w : Option ℕ) (m : ℕ) {A : Type 0} → converted_as w (length out) m ≡ Err (Refused f) → A
    fits (Some o) m e = clash (cc)
    fits None m e = room (ltb (length out) m) m e

    from : (a : Res (Record Placed)) → convert_result v (length out) a ≡ Err (Refused f) → checked_as a ≡ Err f
    from (got r p) e = fits (first_wide (id_bytes v) (instructions r)) (length (converted_bytes v r)) e
    from (fault k o) e = let q : fault_at k o ≡ f = cc e in ap Err q

-- "nothing is written" where it is refused for any reason
pub untouched : (v : ℕ) (s out : List ℕ) (e : ConvertError) → convert v s out ≡ Err e → convert_leaves v s out ≡ out
unfolding convert convert_leaves convert_output written_as
untouched v s out e h = go (accept limits s) h
  where
    go : (a : Res (Record Placed)) → convert_result v (length out) a ≡ Err e → convert_output v out a ≡ out
    go (fault k o) h = refl
    go (got r p) h = rw h

-- what a conversion of s to version v does with every output: new is written where there is room, and else it is 9 with its length
pub record Converts (v : ℕ) (s new : List ℕ) : Type 0 where
  pub says : (out : List ℕ) → length new ≤ length out → convert v s out ≡ Ok (length new)
  pub leaves : (out : List ℕ) → length new ≤ length out → convert_leaves v s out ≡ new ++ drop (length new) out
  pub short : (out : List ℕ) → length out < length new → convert v s out ≡ Err (Room (length new))

-- what is written in version v of an accepted record is accepted again, as the same record in that version. "no id is cut": it is bytes, and
-- its ids are those of the input; the function is the same, so each run of it is, and so are the texts
pub record Back (v : ℕ) (r : Record Placed) : Type 0 where
  pub back : Record Placed
  pub accepts : accept limits (converted_bytes v r) ≡ got back (length (converted_bytes v r))
  pub are_bytes : Bytes (converted_bytes v r)
  pub same : plain back ≡ in_version v (plain r)
  pub same_ids : map (λ i. i.it.id) (instructions back) ≡ map (λ i. i.it.id) (instructions r)
  pub same_function : function (plain back) ≡ function (plain r)
  pub same_texts : texts (plain back) ≡ texts (plain r)

-- ---- an accepted record
module _ (s : List ℕ) (h : Bytes s) (r : Record Placed) (p : ℕ) (a : accept limits s ≡ got r p) where
  same_bytes_of : bytes (plain r) ≡ s
  same_bytes_of = accept_from limits s h r p a

  good : RecordOk limits (plain r)
  good = read_ok limits s r p (accept_typed limits s r p a).reads

  ranged : Ranged (plain r)
  ranged = read_ranged limits s h r p (accept_typed limits s r p a).reads

  -- "9 follows it": with an id that does not fit, whatever the room, it is 15 with that instruction's offset
  pub wide_refused :
      (v o : ℕ) (out : List ℕ) → first_wide (id_bytes v) (instructions r) ≡ Some o → convert v s out ≡ Err (Wide o)
  unfolding convert convert_result converted_as
  wide_refused v o out e = rw (a, e)

  -- and it is 15 for no other reason
  wide_found : (v o : ℕ) (out : List ℕ) → convert v s out ≡ Err (Wide o) → first_wide (id_bytes v) (instructions r) ≡ Some o
  unfolding convert convert_result converted_as
  wide_found v o out e = go (first_wide (id_bytes v) (instructions r)) (length (converted_bytes v r)) (rw a at e)
    where
      room : (b : Bool) (m : ℕ) {A : Type 0} → cond b (Err (Room m)) (Ok m) ≡ Err (Wide o) → A
      room true m e = clash (cc)
      room false m e = clash (cc)

      go : (w : Option ℕ) (m : ℕ) → converted_as w (length out) m ≡ Err (Wide o) → w ≡ Some o
      go (Some q) m e = cc
      go None m e = room (ltb (length out) m) m e

  pub wide_exactly : (v o : ℕ) (out : List ℕ) → (convert v s out ≡ Err (Wide o)) ↔ FirstWide (id_bytes v) (instructions r) o
  wide_exactly v o out =
      let is = instructions r in
      (λ e. first_is (id_bytes v) is o (wide_found v o out e), λ f. wide_refused v o out (is_first (id_bytes v) is o f))

  -- without one it is converted
  pub converts : (v : ℕ) → first_wide (id_bytes v) (instructions r) ≡ None → Converts v s (converted_bytes v r)
  unfolding convert convert_leaves convert_result convert_output converted_as written_as
  converts v e =
      let n = length (converted_bytes v r) in
      record {
        says = λ out l. let t : ltb (length out) n ≡ false = le-ltb (length out) n l in rw (a, e, t);
        leaves = λ out l. let t : ltb (length out) n ≡ false = le-ltb (length out) n l in rw (a, e, t);
        short = λ out l. let t : ltb (length out) n ≡ true = lt-ltb (length out) n l in rw (a, e, t);
      }

  -- an id of the record fits the record's own version,
  fits_own : Fit (id_bytes r.version) (ids (plain r))
  fits_own = ranged_fit (plain r) ranged

  -- so a widening never meets 15
  pub widening_fits : (v : ℕ) → id_bytes r.version ≤ id_bytes v → first_wide (id_bytes v) (instructions r) ≡ None
  widening_fits v l = none_wide (id_bytes v) r (fit_more (id_bytes r.version) (id_bytes v) (ids (plain r)) l fits_own)

  -- "a record already in the wanted version comes out unchanged"
  pub unchanged_bytes : (v : ℕ) → r.version ≡ v → converted_bytes v r ≡ s
  unfolding converted_bytes
  unchanged_bytes v e = ap (λ (u : ℕ). bytes (in_version u (plain r))) (sym e) ∙ same_bytes_of

  pub unchanged : (v : ℕ) → r.version ≡ v → Converts v s s
  unchanged v e =
      let l : id_bytes r.version ≤ id_bytes v = rw e (omega arith) in
      subst (Converts v s) (unchanged_bytes v e) (converts v (widening_fits v l))

  -- "they give back what check accepts"
  module _ (v : ℕ) (ok : version_test v ≡ Ok tt) (e : first_wide (id_bytes v) (instructions r) ≡ None) where
    good_again : RecordOk limits (in_version v (plain r))
    good_again = good_in v (plain r) ok good

    fits_again : Ranged (in_version v (plain r))
    fits_again = ranged_in v (plain r) ranged (all_fit (id_bytes v) r e)

    pub accepted_again : Back v r
    unfolding converted_bytes
    accepted_again =
        let new = in_version v (plain r) in
        let b = accepts_back limits new good_again (accept_typed limits s r p a).typed in
        let few : length (content_bytes new) < 256 ^ 4 = omega (arith, record_size new, record_most new good_again) in
        record {
          back = b.back;
          accepts = b.accepts;
          are_bytes = bytes_written limits (record { names = omega arith; text = omega arith; body = omega arith }) new good_again fits_again few;
          same = b.same;
          same_ids = ids_of b.back ∙ ap ids b.same ∙ sym (ids_of r);
          same_function = ap function b.same;
          same_texts = ap texts b.same;
        }

-- ---- there and back
-- what was converted fits the version that was wanted and is as long as was said
was_converted :
    (v : ℕ) (s out : List ℕ) (r : Record Placed) (p n : ℕ) →
    accept limits s ≡ got r p → convert v s out ≡ Ok n →
    (first_wide (id_bytes v) (instructions r) ≡ None) × (length (converted_bytes v r) ≡ n) × (n ≤ length out)
unfolding convert convert_result converted_as
was_converted v s out r p n a e = from (first_wide (id_bytes v) (instructions r)) (rw a at e)
  where
    room : (m : ℕ) (b : Bool) → ltb (length out) m ≡ b → cond b (Err (Room m)) (Ok m) ≡ Ok n → (m ≡ n) × (n ≤ length out)
    room m true l e = clash (cc)
    room m false l e =
        let q : m ≡ n = cc in
        (q, omega (arith, ltb-false (length out) m l))

    from :
        (w : Option ℕ) → converted_as w (length out) (length (converted_bytes v r)) ≡ Ok n →
        (w ≡ None) × (length (converted_bytes v r) ≡ n) × (n ≤ length out)
    from (Some o) e = clash (cc)
    from None e =
        let k = room (length (converted_bytes v r)) (ltb (length out) (length (converted_bytes v r))) refl e in
        (refl, k.0, k.1)

-- where there is room, new is written over the front of the output
abbrev pub Writes : ℕ → List ℕ → List ℕ → List ℕ → Type 0
Writes v s new out = (convert v s out ≡ Ok (length new)) × (convert_leaves v s out ≡ new ++ drop (length new) out)

module _ (s : List ℕ) (h : Bytes s) (r : Record Placed) (p : ℕ) (a : accept limits s ≡ got r p) (v : ℕ) (ok : version_test v ≡ Ok tt) where
  -- what s is in version v is s in the version of s
  pub back_again : first_wide (id_bytes v) (instructions r) ≡ None → Converts r.version (converted_bytes v r) s
  unfolding converted_bytes
  back_again e =
      let b = accepted_again s h r p a v ok e in
      let fit : first_wide (id_bytes r.version) (instructions b.back) ≡ None =
      none_wide (id_bytes r.version) b.back (subst (Fit (id_bytes r.version)) (sym (ap ids b.same)) (fits_own s h r p a)) in
      let same : converted_bytes r.version b.back ≡ s =
      ap (λ (q : Record Instr). bytes (in_version r.version q)) b.same ∙ same_bytes_of s h r p a in
      subst (Converts r.version (converted_bytes v r)) same
      (converts (converted_bytes v r) b.are_bytes b.back (length (converted_bytes v r)) b.accepts r.version fit)

  -- what a conversion wrote is s in version v
  pub what_was_written :
      (one : List ℕ) (n : ℕ) → convert v s one ≡ Ok n →
      (first_wide (id_bytes v) (instructions r) ≡ None) × (take n (convert_leaves v s one) ≡ converted_bytes v r)
  what_was_written one n e =
      let w = was_converted v s one r p n a e in
      let new = converted_bytes v r in
      let wrote : convert_leaves v s one ≡ new ++ drop (length new) one = (converts s h r p a v w.0).leaves one (omega (arith, w.1, w.2)) in
      (w.0, (λ i. take (sym w.1 i) (wrote i)) ∙ take-append_seam new (drop (length new) one))

  -- so that, converted to the version of s, is s
  pub there_and_back :
      (one two : List ℕ) (n : ℕ) → convert v s one ≡ Ok n → length s ≤ length two →
      Writes r.version (take n (convert_leaves v s one)) s two
  there_and_back one two n e l =
      let w = what_was_written one n e in
      let b = back_again w.0 in
      rw w.1 (b.says two l, b.leaves two l)

-- ---- widening and narrowing by name
module _ (s : List ℕ) (h : Bytes s) (r : Record Placed) (p : ℕ) (a : accept limits s ≡ got r p) where
  -- an accepted record of either version is widened, where there is room
  pub widens : Converts 2 s (converted_bytes 2 r)
  unfolding id_bytes
  widens = converts s h r p a 2 (widening_fits s h r p a 2 (id_bytes_are r.version).1)

  -- and is never 15
  widened_fits : (out : List ℕ) (o : ℕ) → widen s out ≡ Err (Wide o) → ⊥
  unfolding id_bytes
  widened_fits out o e =
      let fits = widening_fits s h r p a 2 (id_bytes_are r.version).1 in
      let wide = wide_found s h r p a 2 o out e in
      clash (cc)

  -- it has at most twice as many bytes as s in version 2, and no more than s in version 1
  pub widened_size : length (converted_bytes 2 r) ≤ 2 * length s
  unfolding converted_bytes
  widened_size = omega (arith, at_most_twice 2 (plain r), ap length (same_bytes_of s h r p a))

  pub narrowed_size : length (converted_bytes 1 r) ≤ length s
  unfolding converted_bytes id_bytes
  narrowed_size = omega (arith, no_longer 1 (plain r) (id_bytes_are r.version).0, ap length (same_bytes_of s h r p a))

  -- "Narrowing a widened version 1 record yields its original bytes"
  pub narrow_widened :
      r.version ≡ 1 → (one two : List ℕ) (n : ℕ) → widen s one ≡ Ok n → length s ≤ length two →
      let wider = take n (widen_leaves s one) in
      (narrow wider two ≡ Ok (length s)) × (narrow_leaves wider two ≡ s ++ drop (length s) two)
  unfolding version_test
  narrow_widened v one two n e l =
      subst (λ (u : ℕ). Writes u (take n (widen_leaves s one)) s two) v (there_and_back s h r p a 2 refl one two n e l)

  -- and a version 2 record that narrows, widened again, is what it was
  pub widen_narrowed :
      r.version ≡ 2 → (one two : List ℕ) (n : ℕ) → narrow s one ≡ Ok n → length s ≤ length two →
      let narrower = take n (narrow_leaves s one) in
      (widen narrower two ≡ Ok (length s)) × (widen_leaves narrower two ≡ s ++ drop (length s) two)
  unfolding version_test
  widen_narrowed v one two n e l =
      subst (λ (u : ℕ). Writes u (take n (narrow_leaves s one)) s two) v (there_and_back s h r p a 1 refl one two n e l)

-- 15 is of narrowing alone
pub widen_never_wide : (s out : List ℕ) → Bytes s → (o : ℕ) → widen s out ≡ Err (Wide o) → ⊥
widen_never_wide s out h o e = go (accept limits s) refl
  where
    go : (a : Res (Record Placed)) → accept limits s ≡ a → ⊥
    go (fault k q) a = let f = refused_first 2 s out k q a in clash (cc)
    go (got r p) a = widened_fits s h r p a out o e
