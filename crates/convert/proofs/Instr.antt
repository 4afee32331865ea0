-- One instruction: its id is read in one width and written in the other, and what stands behind the id is the same in both.
use Prim.Native.Nat.{ℕ, ◌+◌, ◌-◌, ◌^◌, ◌<◌, ◌≤◌}
use mathlib.Core.Path.{◌≡◌, refl, sym, ap, ◌∙◌, subst}
use mathlib.Core.List.{List, [], ◌∷◌, ◌++◌, append_assoc}
use native.Mathlib.Omega.{arith}
use lib.ListN.{length, take, drop, length-append}
use lib.Seq.{take-append_seam}
use Rattle.record.specs.Record.{Instr}
use Rattle.record.specs.Shape.{shape_of}
use Rattle.record.specs.Reader.{num_at}
use Rattle.record.specs.Write.{be, join, operand_bytes, instr_bytes}
use Rattle.record.specs.Decode.{operands_from, instr_from, instr_end}
use Rattle.record.specs.Sizes.{places_end}
use Rattle.record.specs.Ranged.{RangedInstr}
use Rattle.record.proofs.Stands.{past, length_be}
use Rattle.record.proofs.Ends.{instr_past, instr_on}
use Rattle.read_layout.specs.declared.Spot.{Spot}
use Rattle.write_bytes.specs.Put.{put, Wrote}
use Rattle.write_bytes.proofs.Wrote.{wrote_number, wrote_append}
use Rattle.convert.specs.Parts.{Stands, Done}

-- ---- what stands behind the id
abbrev pub tail : Instr → List ℕ
tail i = join (be 1 i.code ∷ operand_bytes (shape_of i.code) i ∷ [])

instr_parts : (w : ℕ) (i : Instr) → instr_bytes w i ≡ be w i.id ++ tail i
unfolding instr_bytes join
instr_parts w i = refl

pub instr_long : (w : ℕ) (i : Instr) → length (instr_bytes w i) ≡ w + length (tail i)
instr_long w i = ap length (instr_parts w i) ∙ length-append (be w i.id) (tail i) ∙ ap (λ (k : ℕ). k + length (tail i)) (length_be w i.id)

module _
    (from to : ℕ) (s : List ℕ) (at : Spot)
    (h : Stands instr_bytes (RangedInstr to) from to s at (instr_from from s at.p) (instr_end from s at.p))
  where
    abbrev here : Instr
    here = instr_from from s at.p

    abbrev end : ℕ
    end = instr_end from s at.p

    pub id_is : here.id ≡ num_at s at.p from
    unfolding instr_from operands_from
    id_is = refl

    pub id_fits : (id : ℕ) → id ≡ num_at s at.p from → id < 256 ^ to
    id_fits id e = rw (e ∙ sym id_is) h.fits.id

    -- the ends of the id, here and there
    pub id_ends : (at.p + from ≤ end) × (at.p + from < places_end) × (at.q + to < places_end)
    id_ends =
        let a : at.p + from + 1 ≤ end = instr_on from s at.p in
        let b : end < places_end = h.reads in
        let c : at.q + length (instr_bytes to here) < places_end = h.writes in
        (omega arith, omega arith, omega (arith, c, instr_long to here))

    behind_id : drop (at.p + from) s ≡ tail here ++ h.rest
    behind_id =
        let bs = be from here.id in
        ap (λ (n : ℕ). drop (at.p + n) s) (sym (length_be from here.id)) ∙
        past s bs (tail here ++ h.rest) at.p
        (h.stands ∙ ap (λ (l : List ℕ). l ++ h.rest) (instr_parts from here) ∙ append_assoc bs (tail here) h.rest)

    tail_there : take (end - (at.p + from)) (drop (at.p + from) s) ≡ tail here
    tail_there =
        let n : end - (at.p + from) ≡ length (tail here) = omega (arith, instr_past from s at.p, instr_long from here) in
        rw (n, behind_id) (take-append_seam (tail here) h.rest)

    pub instr_put :
        {out mid out' : List ℕ} {q : ℕ} (id e : ℕ) → id ≡ num_at s at.p from → e ≡ end → mid ≡ put out at.q (be to id) →
        Wrote mid out' (at.q + to) q (take (e - (at.p + from)) (drop (at.p + from) s)) →
        Done instr_bytes to out out' at (record { p = e; q = q }) here end
    instr_put {out} {mid} {out'} {q} id e i f w c =
        let a : Wrote out mid at.q (at.q + to) (be to here.id) =
        wrote_number to here.id (w ∙ ap (λ (x : ℕ). put out at.q (be to x)) (i ∙ sym id_is)) in
        let b : Wrote mid out' (at.q + to) q (tail here) =
        subst (λ (l : List ℕ). Wrote mid out' (at.q + to) q l)
        (ap (λ (n : ℕ). take (n - (at.p + from)) (drop (at.p + from) s)) f ∙ tail_there) c in
        record {
          wrote = subst (λ (l : List ℕ). Wrote out out' at.q q l) (sym (instr_parts to here)) (wrote_append (be to here.id) (tail here) a b);
          next = f;
        }
