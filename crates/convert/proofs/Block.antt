-- One block: its head is the same in both widths, and its instructions stand behind it.
use Prim.Native.Nat.{ℕ, ◌+◌, ◌<◌}
use mathlib.Core.Path.{◌≡◌, refl, sym, ap, ◌∙◌, subst}
use mathlib.Core.List.{List, ◌++◌, append_assoc, append-nil}
use native.Mathlib.Omega.{arith}
use lib.ListN.{length, drop, length-append}
use Rattle.record.specs.Record.{Instr, Block}
use Rattle.record.specs.Ranged.{RangedInstr, RangedBlock}
use Rattle.record.specs.Reader.{num_at}
use Rattle.record.specs.Write.{row_bytes, be, join, instr_bytes, block_bytes}
use Rattle.record.specs.Decode.{block_end}
use Rattle.record.specs.Again.{instrs_from, instrs_end, block_in}
use Rattle.record.specs.Good.{Each}
use Rattle.record.specs.Sizes.{places_end}
use Rattle.record.proofs.Decode.{length_items}
use Rattle.record.proofs.Stands.{past, length_be}
use Rattle.record.proofs.Ends.{block_body, block_past}
use Rattle.read_layout.specs.declared.Spot.{Spot}
use Rattle.write_bytes.specs.Put.{put, Wrote}
use Rattle.write_bytes.proofs.Wrote.{wrote_number, wrote_append}
use Rattle.convert.specs.Parts.{Stands, Done}

abbrev head : Block Instr → List ℕ
head b = be 2 (length b.body) ++ be 2 b.saves

head_long : (b : Block Instr) → length (head b) ≡ 4
head_long b = omega (arith, length-append (be 2 (length b.body)) (be 2 b.saves), length_be 2 (length b.body), length_be 2 b.saves)

block_parts : (w : ℕ) (b : Block Instr) → block_bytes w b ≡ head b ++ row_bytes instr_bytes w b.body
unfolding block_bytes join
block_parts w b =
    let rows = row_bytes instr_bytes w b.body in
    ap (λ (l : List ℕ). be 2 (length b.body) ++ (be 2 b.saves ++ l)) (append-nil rows)
    ∙ sym (append_assoc (be 2 (length b.body)) (be 2 b.saves) rows)

pub block_long : (w : ℕ) (b : Block Instr) → length (block_bytes w b) ≡ 4 + length (row_bytes instr_bytes w b.body)
block_long w b =
    let rows = row_bytes instr_bytes w b.body in
    ap length (block_parts w b) ∙ length-append (head b) rows ∙ ap (λ (k : ℕ). k + length rows) (head_long b)

module _
    (from to : ℕ) (s : List ℕ) (at : Spot)
    (h : Stands block_bytes (RangedBlock to) from to s at (block_in from s at.p) (block_end from s at.p))
  where
    abbrev here : Block Instr
    here = block_in from s at.p

    pub head_ends : (at.p + 4 < places_end) × (at.q + 4 < places_end)
    head_ends =
        let a : block_end from s at.p < places_end = h.reads in
        let b : at.q + length (block_bytes to here) < places_end = h.writes in
        (omega (arith, a, block_past from s at.p, block_long from here), omega (arith, b, block_long to here))

    count_is : length here.body ≡ num_at s at.p 2
    unfolding instrs_from
    count_is = ap length (block_body from s at.p) ∙ length_items _ _ (num_at s at.p 2) (at.p + 2 + 2)

    saves_is : here.saves ≡ num_at s (at.p + 2) 2
    saves_is = refl

    all_there : drop at.p s ≡ head here ++ (row_bytes instr_bytes from here.body ++ h.rest)
    all_there =
        h.stands ∙ ap (λ (l : List ℕ). l ++ h.rest) (block_parts from here)
        ∙ append_assoc (head here) (row_bytes instr_bytes from here.body) h.rest

    -- so many instructions
    module _ (n : ℕ) (en : n ≡ num_at s at.p 2) where
      abbrev first : Spot
      first = record { p = at.p + 4; q = at.q + 4 }

      first_is : at.p + 2 + 2 ≡ at.p + 4
      first_is = omega arith

      body_is : here.body ≡ instrs_from from s first.p n
      body_is = block_body from s at.p ∙ (λ i. instrs_from from s (first_is i) (sym en i))

      body_end : instrs_end from s first.p n ≡ block_end from s at.p
      unfolding instrs_end block_end
      body_end = λ i. instrs_end from s (sym first_is i) (en i)

      pub body_stands :
          Stands (row_bytes instr_bytes) (Each (λ left i. RangedInstr to i)) from to s first (instrs_from from s first.p n) (instrs_end from s first.p n)
      body_stands =
          let w : at.q + length (block_bytes to here) < places_end = h.writes in
          subst (λ (is : List Instr). Stands (row_bytes instr_bytes) (Each (λ left i. RangedInstr to i)) from to s first is (instrs_end from s first.p n))
          body_is
          (record {
            rest = h.rest;
            stands = ap (λ (k : ℕ). drop (at.p + k) s) (sym (head_long here)) ∙ past s (head here) (row_bytes instr_bytes from here.body ++ h.rest) at.p all_there;
            fits = h.fits.body;
            reads = rw body_end h.reads;
            writes = omega (arith, w, block_long to here);
          })

      pub block_put :
          {out mid mid' out' : List ℕ} {r : Spot} (k c : ℕ) → k ≡ num_at s at.p 2 → c ≡ num_at s (at.p + 2) 2 →
          mid ≡ put out at.q (be 2 k) → mid' ≡ put mid (at.q + 2) (be 2 c) →
          Done (row_bytes instr_bytes) to mid' out' first r (instrs_from from s first.p n) (instrs_end from s first.p n) →
          Done block_bytes to out out' at r here (block_end from s at.p)
      block_put {out} {mid} {mid'} {out'} {r} k c ek ec a b d =
          let count = wrote_number 2 (length here.body) (a ∙ ap (λ (x : ℕ). put out at.q (be 2 x)) (ek ∙ sym count_is)) in
          let saves = wrote_number 2 here.saves (b ∙ ap (λ (x : ℕ). put mid (at.q + 2) (be 2 x)) (ec ∙ sym saves_is)) in
          let both : Wrote out mid' at.q (at.q + 4) (head here) =
          subst (λ (q : ℕ). Wrote out mid' at.q q (head here)) (omega arith) (wrote_append (be 2 (length here.body)) (be 2 here.saves) count saves) in
          let rows = subst (λ (is : List Instr). Wrote mid' out' (at.q + 4) r.q (row_bytes instr_bytes to is)) (sym body_is) d.wrote in
          record {
            wrote =
                subst (λ (l : List ℕ). Wrote out out' at.q r.q l) (sym (block_parts to here))
                (wrote_append (head here) (row_bytes instr_bytes to here.body) both rows);
            next = d.next ∙ body_end;
          }
