-- Where a run lands: at the first block from a number on that has an instruction, by the table of the blocks' places.
use Prim.Native.Nat.{ℕ, zero, suc, ◌+◌, ◌-◌, ◌<◌, ◌≤◌}
use mathlib.Core.Path.{◌≡◌, refl, sym, ap, ◌∙◌}
use mathlib.Core.List.{List, [], ◌∷◌, map}
use native.Mathlib.Omega.{arith}
use lib.ListN.{length, get_or, drop}
use Rattle.std.proofs.Common.{Result, Ok, Err}
use Rattle.record.specs.Record.{Instr, Block}
use Rattle.record.specs.Reader.{num_at}
use Rattle.record.specs.Decode.{items, id_width, instr_from, instr_end}
use Rattle.record.specs.Again.{instrs_from, block_in}
use Rattle.record.proofs.Again.{instrs_more}
use Rattle.record.proofs.Ends.{block_body}
use Rattle.machine.specs.Machine.{at_end}
use Rattle.running.specs.Steps.{Stand, facing, over, first_of, land_in, land}
use Rattle.engine_quiet.specs.declared.Ground.{Ground}
use Rattle.engine_quiet.specs.declared.Over.{Over}
use Rattle.engine_quiet.specs.declared.Over.TheVariants.{End}
use Rattle.engine_quiet.specs.declared.Spot.{Spot}
use Rattle.engine_quiet.specs.Spot.{stop_by, body_at, blocks_of, Laid, Before, Landed}
use Rattle.engine_quiet.proofs.Bodies.{rest_sound}

-- ---- the table
module _ (f : ℕ → Block Instr) where
  in_table :
      (xs : List ℕ) (k c : ℕ) → k < length xs →
      land_in c (drop k (map f xs)) ≡ first_of c (f (get_or xs k 0)).body (land_in (suc c) (drop (suc k) (map f xs)))
  unfolding land_in
  in_table [] k c h = absurd (omega arith)
  in_table (x ∷ xs) zero c h = refl
  in_table (x ∷ xs) (suc k) c h = in_table xs k c (omega arith)

  past_table : (xs : List ℕ) (k c : ℕ) → length xs ≤ k → land_in c (drop k (map f xs)) ≡ over at_end
  unfolding land_in
  past_table [] zero c h = refl
  past_table [] (suc k) c h = refl
  past_table (x ∷ xs) zero c h = absurd (omega arith)
  past_table (x ∷ xs) (suc k) c h = past_table xs k c (omega arith)

-- ---- instructions, of which there is one or none
module _ (s : List ℕ) (b at n : ℕ) where
  pub first_some :
      (d : Stand) → 0 < n →
      first_of b (body_at s at n) d ≡ facing b (instr_from (id_width s) s at) (body_at s (instr_end (id_width s) s at) (n - 1))
  first_some d h = ap (λ (is : List Instr). first_of b is d) (instrs_more (id_width s) s at n h)

  -- where there is one, what stands behind them does not matter
  pub first_any : (d e : Stand) → 0 < n → first_of b (body_at s at n) d ≡ first_of b (body_at s at n) e
  first_any d e h = first_some d h ∙ sym (first_some e h)

  pub first_none : (d : Stand) → n ≡ 0 → first_of b (body_at s at n) d ≡ d
  unfolding instrs_from items
  first_none d z = ap (λ (k : ℕ). first_of b (body_at s at k) d) z

-- ---- from a block on
module _ (g : Ground) where
  abbrev s : List ℕ
  s = g.s.now

  abbrev starts : List ℕ
  starts = g.starts.now

  abbrev lands : ℕ → Stand
  lands c = land (blocks_of g) c

  pub land_there :
      (c : ℕ) → c < length starts →
      lands c ≡ first_of c (body_at s (get_or starts c 0 + 2 + 2) (num_at s (get_or starts c 0) 2)) (lands (c + 1))
  unfolding land
  land_there c h =
      let one : c + 1 ≡ suc c = omega arith in
      let next : lands (suc c) ≡ lands (c + 1) = ap lands (sym one) in
      in_table (block_in (id_width s) s) starts c c h ∙
      ap (λ (is : List Instr). first_of c is (lands (suc c))) (block_body (id_width s) s (get_or starts c 0)) ∙
      ap (first_of c (body_at s (get_or starts c 0 + 2 + 2) (num_at s (get_or starts c 0) 2))) next

  pub land_past : (c : ℕ) → length starts ≤ c → lands c ≡ over at_end
  unfolding land
  land_past c h = past_table (block_in (id_width s) s) starts c c h

  -- the turns of the loop: b: the block to land at; c: the one looked at, at place q with n instructions
  module _ (b c : ℕ) (same : lands c ≡ lands b) where
    module _ (h : c < length starts) (q n : ℕ) (eq : q ≡ get_or starts c 0) (en : n ≡ num_at s q 2) where
      there : lands c ≡ first_of c (body_at s (q + 2 + 2) n) (lands (c + 1))
      there = rw (en, eq) (land_there c h)

      pub land_empty : n ≡ 0 → lands (c + 1) ≡ lands b
      land_empty z = sym (first_none s c (q + 2 + 2) n (lands (c + 1)) z) ∙ sym there ∙ same

      pub land_found :
          (at : ℕ) → at ≡ q + 2 + 2 → Laid g → 0 < n → Landed g (lands b) (Ok (record { block = c; at = at; left = n }))
      land_found at ea laid some =
          record {
            stand = rw ea (first_any s c (q + 2 + 2) n _ _ some ∙ sym there ∙ same);
            standing = record { sound = rw (ea, en, eq) (laid.each c h); placed = h; some = some };
            stop = λ e. cc e;
          }

    pub land_ended : length starts ≤ c → Landed g (lands b) (Err End)
    unfolding stop_by
    land_ended h = record { stand = sym (land_past c h) ∙ same; standing = tt; stop = λ e. cc e }

  -- the next of a block's instructions
  module _ (p : Spot) (st : Before g p) (next : ℕ) (e : next ≡ instr_end (id_width s) s p.at) where
    pub went_on :
        (d : Stand) → 1 < p.left →
        Landed g (first_of p.block (body_at s next (p.left - 1)) d)
        (Ok (record { block = p.block; at = next; left = p.left - 1 }))
    went_on d more =
        record {
          stand = first_any s p.block next (p.left - 1) _ _ (omega (arith, more));
          standing =
              record {
                sound = rw e (rest_sound s p.at p.left st.sound st.some);
                placed = st.placed;
                some = omega (arith, more);
              };
          stop = λ e. cc e;
        }

    -- there is none
    pub went_past :
        (r : Result Spot Over) (d : Stand) → p.left ≤ 1 → Landed g d r →
        Landed g (first_of p.block (body_at s next (p.left - 1)) d) r
    went_past r d few l = rw (first_none s p.block next (p.left - 1) d (omega (arith, few))) l
