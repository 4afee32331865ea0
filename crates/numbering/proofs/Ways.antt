-- Rewrite ends in exactly one of the three ways, for every input and output: read off its definition.
use Prim.Native.Nat.{ℕ}
use mathlib.Core.Path.{◌≡◌, refl, sym, ap, ◌∙◌}
use mathlib.Core.Bool.{Bool, true, false, cond}
use mathlib.Core.List.{List, ◌++◌}
use native.Mathlib.Omega.{arith}
use lib.ListN.{length, drop, length-append, length-drop}
use lib.Dec.{ltb}
use borrow.Author.Tests.{ltb-true, ltb-false, lt-ltb, le-ltb}
use Rattle.arith.proofs.Clash.{clash}
use Rattle.record.specs.declared.Refusal.{Refusal}
use Rattle.record.specs.Answer.{fault_at}
use Rattle.std.specs.Prelude.{Result, Ok, Err}
use Rattle.numbering.specs.declared.Totals.{Totals}
use Rattle.record.specs.Record.{Placed, Record, plain, function, limits}
use Rattle.record.specs.Reader.{Res, got, fault}
use Rattle.record.specs.Typing.{accept}
use Rattle.record.specs.Answer.{checked_as, checked}
use Rattle.record.proofs.Judged.{refused_as}
use Rattle.numbering.specs.declared.RewriteError.TheVariants.{Refused, Room}
use Rattle.numbering.specs.Rewrite.{Rewritten, totals}
use Rattle.numbering.specs.Number.{lvn}
use Rattle.numbering.specs.Made.{made, rewriting}
use Rattle.numbering.specs.Rewrite.{rewritten_bytes, rewrite_result, rewrite_output, rewrite, rewrite_leaves}
use Rattle.numbering.specs.Ways.{all_saves, Faulty, TooShort, HasRoom, ExactlyOne, first, second, third, Ends}
use Rattle.numbering.proofs.Made.{made_length}

-- the saves that rewrite returns are those that stand in the blocks of the rewriting
pub made_saves : (r : Record Placed) → length (made (plain r)) ≡ all_saves (rewriting (plain r)).blocks
unfolding rewriting lvn
made_saves r = made_length (function (plain r)) (plain r).blocks 0

-- ---- no two ways at once
-- what "exactly one" leaves out
pub only_one : {A B C : Type 0} → ExactlyOne A B C → ¬ (A × B) × (¬ (A × C) × ¬ (B × C))
only_one (first a b c) = (λ p. b p.1, (λ p. c p.1, λ p. b p.0))
only_one (second a b c) = (λ p. a p.0, (λ p. a p.0, λ p. c p.1))
only_one (third a b c) = (λ p. a p.0, (λ p. a p.0, λ p. b p.0))

-- check's answer, back to what was read
faulty_read : (s : List ℕ) (w : Faulty s) → accept limits s ≡ fault w.fault.refusal w.fault.offset
faulty_read s w = refused_as s w.fault w.refused

not_both : (v : Res (Record Placed)) (k : Refusal) (o : ℕ) (r : Record Placed) (p : ℕ) → v ≡ fault k o → v ≡ got r p → ⊥
not_both v k o r p e f = clash (cc)

-- an answer has one number of bytes and one of saves
module _ {E : Type 0} (a : Result Totals E) {n k m j : ℕ} (e : a ≡ Ok (totals n k)) (f : a ≡ Ok (totals m j)) where
  same_totals : totals n k ≡ totals m j
  same_totals = cc

  pub same_bytes : n ≡ m
  same_bytes = ap (λ (t : Totals). t.bytes) same_totals

  pub same_saves : k ≡ j
  same_saves = ap (λ (t : Totals). t.saves) same_totals

-- a reader gives one value
pub same_value : {A : Type 0} (v : Res A) (x y : A) (p q : ℕ) → v ≡ got x p → v ≡ got y q → x ≡ y
same_value v x y p q e f = cc

pub faulty_not_short : (s : List ℕ) (room : ℕ) → Faulty s → ¬ TooShort s room
faulty_not_short s room w t = not_both (accept limits s) w.fault.refusal w.fault.offset t.it t.end (faulty_read s w) t.accepted

pub faulty_no_room : (s : List ℕ) (room : ℕ) → Faulty s → ¬ HasRoom s room
faulty_no_room s room w h = not_both (accept limits s) w.fault.refusal w.fault.offset h.it h.end (faulty_read s w) h.accepted

pub short_no_room : (s : List ℕ) (room : ℕ) → TooShort s room → ¬ HasRoom s room
short_no_room s room t h =
    let e = same_value (accept limits s) t.it h.it t.end h.end t.accepted h.accepted in
    let n : length (rewritten_bytes t.it) ≡ length (rewritten_bytes h.it) = ap (λ r. length (rewritten_bytes r)) e in
    omega (arith, t.short, h.holds)

-- ---- always one
pub one_way : (s : List ℕ) (room : ℕ) → ExactlyOne (Faulty s) (TooShort s room) (HasRoom s room)
unfolding checked
one_way s room = go (accept limits s) refl
  where
    accepted :
        (r : Record Placed) (p : ℕ) → accept limits s ≡ got r p → (b : Bool) → ltb room (length (rewritten_bytes r)) ≡ b →
        ExactlyOne (Faulty s) (TooShort s room) (HasRoom s room)
    accepted r p e true l =
        let t : TooShort s room = record { it = r; end = p; accepted = e; short = ltb-true room (length (rewritten_bytes r)) l } in
        second (λ w. faulty_not_short s room w t) t (short_no_room s room t)
    accepted r p e false l =
        let h : HasRoom s room = record { it = r; end = p; accepted = e; holds = ltb-false room (length (rewritten_bytes r)) l } in
        third (λ w. faulty_no_room s room w h) (λ t. short_no_room s room t h) h

    go : (v : Res (Record Placed)) → accept limits s ≡ v → ExactlyOne (Faulty s) (TooShort s room) (HasRoom s room)
    go (got r p) e = accepted r p e (ltb room (length (rewritten_bytes r))) refl
    go (fault k o) e =
        let w : Faulty s = record { fault = fault_at k o; refused = ap checked_as e } in
        first w (faulty_not_short s room w) (faulty_no_room s room w)

-- ---- what each answers and leaves
module _ (s out : List ℕ) where
  faulty_ends :
      (w : Faulty s) → (rewrite s out ≡ Err (Refused w.fault)) × (rewrite_leaves s out ≡ out)
  unfolding rewrite rewrite_leaves rewrite_result rewrite_output
  faulty_ends w = (ap (rewrite_result (length out)) (faulty_read s w), ap (rewrite_output out) (faulty_read s w))

  short_ends :
      (w : TooShort s (length out)) →
      (rewrite s out ≡ Err (Room (length (rewritten_bytes w.it)))) × (rewrite_leaves s out ≡ out)
  unfolding rewrite rewrite_leaves rewrite_result rewrite_output
  short_ends w =
      let new = rewritten_bytes w.it in
      let t = lt-ltb (length out) (length new) w.short in (
        ap (rewrite_result (length out)) w.accepted ∙
            ap (λ b. cond b (Err (Room (length new))) (Ok (totals (length new) (length (made (plain w.it)))))) t,
        ap (rewrite_output out) w.accepted ∙ ap (λ b. cond b out (new ++ drop (length new) out)) t,
      )

  room_ends :
      (w : HasRoom s (length out)) →
      (rewrite s out ≡ Ok (totals (length (rewritten_bytes w.it)) (all_saves (rewriting (plain w.it)).blocks))) ×
      (rewrite_leaves s out ≡ rewritten_bytes w.it ++ drop (length (rewritten_bytes w.it)) out)
  unfolding rewrite rewrite_leaves rewrite_result rewrite_output
  room_ends w =
      let new = rewritten_bytes w.it in
      let t = le-ltb (length out) (length new) w.holds in (
        ap (rewrite_result (length out)) w.accepted ∙
            ap (λ b. cond b (Err (Room (length new))) (Ok (totals (length new) (length (made (plain w.it)))))) t ∙
            ap (λ k. Ok (totals (length new) k)) (made_saves w.it),
        ap (rewrite_output out) w.accepted ∙ ap (λ b. cond b out (new ++ drop (length new) out)) t,
      )

  -- the output is as long as it was
  leaves_length : ExactlyOne (Faulty s) (TooShort s (length out)) (HasRoom s (length out)) → length (rewrite_leaves s out) ≡ length out
  leaves_length (first w b c) = ap length (faulty_ends w).1
  leaves_length (second a w c) = ap length (short_ends w).1
  leaves_length (third a b w) =
      let new = rewritten_bytes w.it in
      let e = length-append new (drop (length new) out) in
      let d = length-drop (length new) out in
      ap length (room_ends w).1 ∙ omega (arith, e, d, w.holds)

-- Demand 1: rewrite ends in exactly one of the three ways, with the answer and the output of that way.
pub three_ways : (s out : List ℕ) → Ends s out (rewrite s out) (rewrite_leaves s out)
three_ways s out =
    let way = one_way s (length out) in
    record {
      one_way = way;
      faulty = faulty_ends s out;
      too_short = short_ends s out;
      has_room = room_ends s out;
      same_length = leaves_length s out way;
    }

-- and no other answer or output ends so
pub ends_alone :
    (s out : List ℕ) (answer : Rewritten) (left : List ℕ) →
    Ends s out answer left → (answer ≡ rewrite s out) × (left ≡ rewrite_leaves s out)
ends_alone s out answer left d = go d.one_way
  where
    same :
        {a : Rewritten} {l : List ℕ} → (answer ≡ a) × (left ≡ l) → (rewrite s out ≡ a) × (rewrite_leaves s out ≡ l) →
        (answer ≡ rewrite s out) × (left ≡ rewrite_leaves s out)
    same e f = (e.0 ∙ sym f.0, e.1 ∙ sym f.1)

    go :
        ExactlyOne (Faulty s) (TooShort s (length out)) (HasRoom s (length out)) →
        (answer ≡ rewrite s out) × (left ≡ rewrite_leaves s out)
    go (first w b c) = same (d.faulty w) (faulty_ends s out w)
    go (second a w c) = same (d.too_short w) (short_ends s out w)
    go (third a b w) = same (d.has_room w) (room_ends s out w)
