-- An event's bytes: its parts written one behind the other, how many they are, and what is left out past the end of the output.
use Prim.Native.Nat.{ℕ, ◌+◌, ◌*◌, ◌^◌, ◌<◌, ◌≤◌}
use mathlib.Core.Path.{◌≡◌, refl, sym, ap, ◌∙◌, subst}
use mathlib.Core.List.{List, [], ◌++◌, append-nil}
use mathlib.Core.Bool.{Bool, true, cond}
use mathlib.Core.Option.{Option, none, some}
use native.Mathlib.Omega.{arith}
use Rattle.running.proofs.Bounds.{read_all_length}
use lib.ListN.{length, length-append}
use Rattle.arith.specs.Value.{Val}
use Rattle.record.specs.declared.NameIx.{NameIx}
use Rattle.record.specs.Reader.{num_at}
use Rattle.record.specs.Write.{be, join}
use Rattle.record.specs.Decode.{id_width, names_count, index_from, two_on}
use Rattle.record.proofs.Stands.{length_be}
use Rattle.record.proofs.Decode.{length_items}
use Rattle.machine.specs.Machine.{Event, event_of, read_all}
use Rattle.running.specs.House.{event_bytes}
use Rattle.read_fields.specs.Places.{places}
use Rattle.write_bytes.specs.Put.{put, Wrote}
use Rattle.write_bytes.proofs.Put.{put_out}
use Rattle.write_bytes.proofs.Numbers as numbers
use Rattle.write_bytes.proofs.Wrote.{wrote_join, wrote_last, wrote_number}
use Rattle.std.proofs.Common.{None, Some}
use Rattle.engine_cells.specs.declared.Cells.{Cells}
use Rattle.engine_cells.specs.Cells.{store_in, row_from, values_bytes, size_of, RowWritten}
use Rattle.engine_quiet.specs.Spot.{code_at}
use Rattle.engine_quiet.proofs.Operands.{id_is, code_is}
use Rattle.engine_quiet.specs.declared.Ground.{Ground}
use Rattle.engine_quiet.specs.declared.Spot.{Spot}
use Rattle.engine_events.specs.declared.Turn.{Turn}
use Rattle.engine_events.specs.Turn.{instr_at, count_place, args_at, Going, Loud, EventPut, EventAs}
use Rattle.engine_events.specs.Replies.{has_dest, has_callee, Near}
use Rattle.engine_events.proofs.Operands.{callee_is, row_inside, place_after, few, dest_named}

-- ---- the parts of an event; w: the bytes of an id
module _ (w : ℕ) (e : Event) where
  pub event_length : length (event_bytes w e) ≡ w + 4 + length (values_bytes e.args)
  unfolding event_bytes join
  event_length =
      let vs = values_bytes e.args in
      let a : length (vs ++ []) ≡ length vs = ap length (append-nil vs) in
      let b : length (be 1 (length e.args) ++ (vs ++ [])) ≡ length (be 1 (length e.args)) + length (vs ++ []) =
      length-append (be 1 (length e.args)) (vs ++ []) in
      let c : length (be 2 e.callee ++ (be 1 (length e.args) ++ (vs ++ []))) ≡
      length (be 2 e.callee) + length (be 1 (length e.args) ++ (vs ++ [])) =
      length-append (be 2 e.callee) (be 1 (length e.args) ++ (vs ++ [])) in
      let d : length (be 1 e.code ++ (be 2 e.callee ++ (be 1 (length e.args) ++ (vs ++ [])))) ≡
      length (be 1 e.code) + length (be 2 e.callee ++ (be 1 (length e.args) ++ (vs ++ []))) =
      length-append (be 1 e.code) (be 2 e.callee ++ (be 1 (length e.args) ++ (vs ++ []))) in
      let f : length (be w e.id ++ (be 1 e.code ++ (be 2 e.callee ++ (be 1 (length e.args) ++ (vs ++ []))))) ≡
      length (be w e.id) + length (be 1 e.code ++ (be 2 e.callee ++ (be 1 (length e.args) ++ (vs ++ [])))) =
      length-append (be w e.id) (be 1 e.code ++ (be 2 e.callee ++ (be 1 (length e.args) ++ (vs ++ [])))) in
      omega (arith, a, b, c, d, f, length_be w e.id, length_be 1 e.code, length_be 2 e.callee, length_be 1 (length e.args))

  event_wrote :
      (l : List ℕ) {a b c d m : List ℕ} (to : ℕ) →
      a ≡ put l to (be w e.id) →
      b ≡ put a (to + w) (be 1 e.code) →
      c ≡ put b (to + w + 1) (be 2 e.callee) →
      d ≡ put c (to + w + 3) (be 1 (length e.args)) →
      m ≡ put d (to + w + 4) (values_bytes e.args) →
      m ≡ put l to (event_bytes w e)
  unfolding event_bytes
  event_wrote l {a} {b} {c} {d} {m} to ea eb ec ed em =
      let p : to + w + 3 ≡ to + w + 1 + 2 = omega arith in
      let q : to + w + 4 ≡ to + w + 1 + 2 + 1 = omega arith in
      let fd : d ≡ put c (to + w + 1 + 2) (be 1 (length e.args)) = ed ∙ ap (λ (k : ℕ). put c k (be 1 (length e.args))) p in
      let fm : Wrote d m (to + w + 1 + 2 + 1) (to + w + 1 + 2 + 1 + length (values_bytes e.args)) (values_bytes e.args) =
      record { out = em ∙ ap (λ (k : ℕ). put d k (values_bytes e.args)) q; end = refl } in
      (wrote_join _ _ (wrote_number w e.id ea)
      (wrote_join _ _ (wrote_number 1 e.code eb)
      (wrote_join _ _ (wrote_number 2 e.callee ec)
      (wrote_join _ _ (wrote_number 1 (length e.args) fd)
      (wrote_last _ fm))))).out

-- ---- the event of an instruction
module _ {s : List ℕ} {at : ℕ} (h : Loud s at) where
  -- no place of it is near the last one
  pub near : length s * 1 < 2 ^ 63 → Near s (id_width s) at (count_place s at)
  near g =
      let r : count_place s at + 1 + 2 * num_at s (count_place s at) 1 ≤ length s = row_inside h in
      let p : at + id_width s + 1 ≤ count_place s at = place_after h in
      let m : length s < 9223372036854775808 = omega (arith, g) in
      (numbers.width_most (numbers.id_width (num_at s 4 1)), (omega (arith, r, p, m), (omega (arith, r, m), few h)))

  -- w: the bytes of an id
  module _ (w : ℕ) (ew : w ≡ id_width s) where
    near_by : length s * 1 < 2 ^ 63 → (w ≤ 8) × (at + 2048 < places)
    near_by g =
        let n = near g in
        let r : count_place s at + 1 + 2 * num_at s (count_place s at) 1 ≤ length s = row_inside h in
        let p : at + id_width s + 1 ≤ count_place s at = place_after h in
        let m : length s < 9223372036854775808 = omega (arith, g) in
        (omega (arith, ew, n.0), omega (arith, r, p, m))

    pub near_row : (row : ℕ) → row ≡ count_place s at → length s * 1 < 2 ^ 63 → Near s w at row
    near_row row er g =
        let n = near g in
        let f : num_at s row 1 ≡ num_at s (count_place s at) 1 = ap (λ (r : ℕ). num_at s r 1) er in
        (omega (arith, ew, n.0), (n.1.0, (omega (arith, er, n.1.1.0), omega (arith, f, n.1.1.1))))

    -- dest has a cell
    pub dest_cell :
        (has : Bool) → has ≡ has_dest (code_at s at) → names_count s ≤ 256 →
        has ≡ true → num_at s (at + w + 1) 2 < 256
    dest_cell has eh n e =
        let d : num_at s (at + id_width s + 1) 2 < names_count s = dest_named h (sym eh ∙ e) in
        let f : num_at s (at + w + 1) 2 ≡ num_at s (at + id_width s + 1) 2 = ap (λ (k : ℕ). num_at s (at + k + 1) 2) ew in
        omega (arith, d, f, n)

  -- row: where the argument count n stands; callee: what callee_at gives
  module _ (row n : ℕ) (er : row ≡ count_place s at) (en : n ≡ num_at s row 1) where
    count_is : n ≡ num_at s (count_place s at) 1
    count_is = en ∙ ap (λ (r : ℕ). num_at s r 1) er

    pub args_by : row_from s (row + 1) n ≡ args_at s at
    args_by = λ i. row_from s (er i + 1) (count_is i)

    pub event_put :
        (cells : Cells 256) (l : List ℕ) {a b c d : List ℕ} (m : List ℕ) (w to id code callee : ℕ) (calls : Bool) →
        w ≡ id_width s →
        id ≡ num_at s at w →
        code ≡ code_at s at →
        calls ≡ has_callee (code_at s at) →
        callee ≡ cond calls (num_at s (row + 1 + 2 * n) 2) 0 →
        a ≡ put l to (be w id) →
        b ≡ put a (to + w) (be 1 code) →
        c ≡ put b (to + w + 1) (be 2 callee) →
        d ≡ put c (to + w + 3) (be 1 n) →
        RowWritten d m (to + w + 4) (read_all (store_in cells) (row_from s (row + 1) n)) →
        EventPut s at l m to (read_all (store_in cells) (args_at s at))
    unfolding RowWritten EventPut
    event_put cells l {a} {b} {c} {d} m w to id code callee calls ew ei ko eh ec pa pb pc pd out =
        go (read_all (store_in cells) (args_at s at)) refl
        (subst (λ (xs : List NameIx). RowWritten d m (to + w + 4) (read_all (store_in cells) xs)) args_by out)
      where
        go :
            (o : Option (List Val)) → read_all (store_in cells) (args_at s at) ≡ o →
            RowWritten d m (to + w + 4) o →
            EventPut s at l m to o
        go none e r = tt
        go (some vs) e r =
            let f : n ≡ length vs =
            count_is ∙
            sym (read_all_length (store_in cells) (args_at s at) vs e ∙ length_items (index_from s) two_on (num_at s (count_place s at) 1) (count_place s at + 1)) in
            let k : callee ≡ (instr_at s at).callee =
            ec ∙ (λ i. cond (eh i) (num_at s (er i + 1 + 2 * count_is i) 2) 0) ∙ sym (callee_is h) in
            event_wrote w (event_of (instr_at s at) vs) l to
            (pa ∙ ap (λ (x : ℕ). put l to (be w x)) (ei ∙ ap (num_at s at) ew ∙ sym (id_is (id_width s) s at)))
            (pb ∙ ap (λ (x : ℕ). put a (to + w) (be 1 x)) (ko ∙ sym (code_is (id_width s) s at)))
            (pc ∙ ap (λ (x : ℕ). put b (to + w + 1) (be 2 x)) k)
            (pd ∙ ap (λ (x : ℕ). put c (to + w + 3) (be 1 x)) f)
            r ∙
            ap (λ (k : ℕ). put l to (event_bytes k (event_of (instr_at s at) vs))) ew

-- past the end of the output nothing is written
pub event_past : (s : List ℕ) (at : ℕ) (l : List ℕ) (to : ℕ) (o : Option (List Val)) → length l ≤ to → EventPut s at l l to o
unfolding EventPut
event_past s at l to none h = tt
event_past s at l to (some vs) h = sym (put_out l to (event_bytes (id_width s) (event_of (instr_at s at) vs)) h)

-- where the argument count stands, as the code finds it
pub row_by :
    (s : List ℕ) (at w row : ℕ) (has : Bool) → w ≡ id_width s → has ≡ has_dest (code_at s at) →
    row ≡ cond has (at + w + 1 + 2) (at + w + 1) → row ≡ count_place s at
row_by s at w row has ew eh e = e ∙ (λ i. cond (eh i) (at + ew i + 1 + 2) (at + ew i + 1))

-- ---- told
module _ (s : List ℕ) (at : ℕ) (l : List ℕ) (to : ℕ) where
  -- size: the bytes of the values
  pub event_told :
      (m : List ℕ) (o : Option (List Val)) (w size n : ℕ) →
      w ≡ id_width s → Some size ≡ size_of o → size ≤ 17 * n → n ≤ 8 → w ≤ 8 →
      EventPut s at l m to o →
      EventAs s at l m to (Some (to + w + 4 + size)) o
  unfolding EventAs EventPut size_of
  event_told m none w size n ew e k j b p = absurd (cc e)
  event_told m (some vs) w size n ew e k j b p =
      let f : size ≡ length (values_bytes vs) = cc e in
      record {
        place = to + w + 4 + size;
        is = refl;
        wrote = record { out = p; end = omega (arith, ew, f, event_length (id_width s) (event_of (instr_at s at) vs)) };
        near = omega (arith, k, j, b);
      }

  pub event_unset : (o : Option (List Val)) → None ≡ size_of o → EventAs s at l l to None o
  unfolding EventAs size_of
  event_unset none e = (refl, refl)
  event_unset (some vs) e = absurd (cc e)

-- the instruction at which a run stands
pub near_going :
    {g : Ground} {p : Spot} {t : Turn} →
    Going g p t → Loud g.s.now p.at → length g.s.now * 1 < 2 ^ 63 → (g.w ≤ 8) × (p.at + 2048 < places)
near_going {g} h loud few = near_by loud g.w h.grounded.width few
