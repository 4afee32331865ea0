-- The figures of an input foretell what rewrite answers and writes, whatever output it is lent; and which inputs and places have
-- figures, which are refused, and what is then left of the places.
use Prim.Native.Nat.{ℕ, zero, suc, ◌≤◌}
use mathlib.Core.Path.{◌≡◌, refl, sym, ap, ◌∙◌, subst}
use mathlib.Core.Logic.{◌≢◌, ◌↔◌, ◌⊎◌, inl, inr, ⊎_elim}
use mathlib.Core.Bool.{Bool, true, false, cond}
use mathlib.Core.List.{List, [], ◌∷◌, ◌++◌, map}
use native.Mathlib.Omega.{arith}
use lib.ListN.{length, get_or, take, drop, length-append, length-drop, length-map, get_or-append, replicate, length-replicate}
use lib.Seq.{take-append_seam, drop-append_seam}
use lib.Dec.{ltb}
use borrow.Author.Tests.{ltb-true, ltb-false}
use Rattle.arith.proofs.Clash.{clash}
use Rattle.std.specs.Prelude.{Ok, Err}
use Rattle.record.specs.declared.Fault.{Fault}
use Rattle.record.specs.Answer.{fault_at}
use Rattle.record.specs.Record.{Instr, Placed, Block, Record, plain, plain_block, function, limits, wide}
use Rattle.record.specs.Reader.{Res, got, fault}
use Rattle.record.specs.Read.{read}
use Rattle.record.specs.Typing.{accept}
use Rattle.record.specs.Answer.{checked_as, checked}
use Rattle.record.specs.Good.{RecordOk}
use Rattle.record.proofs.Accepted.{read_ok}
use Rattle.record.proofs.ReadBack.{ReadsBack}
use Rattle.record.proofs.Tests.{at_most_le}
use Rattle.record.proofs.Typed.{accept_typed}
use Rattle.numbering.specs.declared.FiguresError.TheVariants.{Refused, TooFew}
use Rattle.numbering.specs.declared.RewriteError.TheVariants.{Room}
use Rattle.numbering.specs.declared.RewriteError.TheVariants as rewrites
use Rattle.numbering.specs.Rewrite.{totals}
use Rattle.numbering.specs.Number.{lvn}
use Rattle.numbering.specs.Made.{made, rewriting}
use Rattle.numbering.specs.Rewrite.{rewritten_bytes, rewrite, rewrite_leaves}
use Rattle.numbering.specs.Figures.{instructions, block_figures, figures_result, figures_places, figures, figures_leaves}
use Rattle.numbering.specs.Ways.{all_saves, Faulty, TooShort, HasRoom}
use Rattle.numbering.specs.Ahead.{FewPlaces, Foretold}
use Rattle.numbering.proofs.Wide.{BlocksOk, blocks_length, rewriting_passes}
use Rattle.numbering.proofs.Output.{rewriting_reads_back}
use Rattle.numbering.proofs.Ways.{same_bytes, same_saves, made_saves, same_value, three_ways}

-- ---- the figures of the blocks
rewriting_many : (r : Record Placed) → length (rewriting (plain r)).blocks ≡ length r.blocks
unfolding rewriting lvn
rewriting_many r = blocks_length (function (plain r)) 0 (plain r).blocks ∙ length-map r.blocks plain_block

-- one for each block
pub figures_many : (r : Record Placed) → length (block_figures r) ≡ length r.blocks
unfolding block_figures
figures_many r = length-map (rewriting (plain r)).blocks instructions ∙ rewriting_many r

-- none is over 512
pub figures_small : (N B : ℕ) (bs : List (Block Instr)) → BlocksOk wide N B bs → (b : ℕ) → get_or (map instructions bs) b 0 ≤ 512
figures_small N B [] h b = omega arith
figures_small N B (x ∷ xs) h zero = at_most_le 512 (length x.body) h.0.size
figures_small N B (x ∷ xs) h (suc b) = figures_small N B xs h.1 b

-- ---- the ways in which figures ends
-- there is a place for each block
pub record EnoughPlaces (s : List ℕ) (places : ℕ) : Type 0 where
  pub it : Record Placed
  pub end : ℕ
  pub accepted : accept limits s ≡ got it end
  pub enough : length it.blocks ≤ places

-- each with its answer, and with what it leaves of the places
pub data FiguresEnd (s each : List ℕ) : Type 0 where
  faulty : (w : Faulty s) → figures s each ≡ Err (Refused w.fault) → figures_leaves s each ≡ each → FiguresEnd s each
  few : FewPlaces s (length each) → figures s each ≡ Err TooFew → figures_leaves s each ≡ each → FiguresEnd s each
  enough :
      (w : EnoughPlaces s (length each)) →
      figures s each ≡ Ok (totals (length (rewritten_bytes w.it)) (length (made (plain w.it)))) →
      figures_leaves s each ≡ block_figures w.it ++ drop (length w.it.blocks) each →
      FiguresEnd s each

-- of every input and places
pub figures_end : (s each : List ℕ) → FiguresEnd s each
unfolding checked figures figures_leaves figures_result figures_places
figures_end s each = go (accept limits s) refl
  where
    accepted :
        (r : Record Placed) (p : ℕ) → accept limits s ≡ got r p → (b : Bool) → ltb (length each) (length r.blocks) ≡ b →
        figures s each ≡ cond b (Err TooFew) (Ok (totals (length (rewritten_bytes r)) (length (made (plain r))))) →
        figures_leaves s each ≡ cond b each (block_figures r ++ drop (length r.blocks) each) →
        FiguresEnd s each
    accepted r p e true l = few (record { it = r; end = p; accepted = e; few = ltb-true (length each) (length r.blocks) l })
    accepted r p e false l = enough (record { it = r; end = p; accepted = e; enough = ltb-false (length each) (length r.blocks) l })

    go : (v : Res (Record Placed)) → accept limits s ≡ v → FiguresEnd s each
    go (got r p) e =
        accepted r p e (ltb (length each) (length r.blocks)) refl (ap (figures_result (length each)) e) (ap (figures_places each) e)
    go (fault k o) e =
        faulty (record { fault = fault_at k o; refused = ap checked_as e })
        (ap (figures_result (length each)) e) (ap (figures_places each) e)

-- ---- enough places: what is foretold
module _ (s : List ℕ) (r : Record Placed) (p : ℕ) (e : accept limits s ≡ got r p) where
  good : RecordOk limits (plain r)
  good = read_ok limits s r p (accept_typed limits s r p e).reads

  back : ReadsBack wide (rewriting (plain r))
  back = rewriting_reads_back (plain r) good

  abbrev needed : ℕ
  needed = length (rewritten_bytes r)

  abbrev with_room : (out : List ℕ) → needed ≤ length out → HasRoom s (length out)
  with_room out l = record { it = r; end = p; accepted = e; holds = l }

  -- the record that is read back has the input's number of blocks
  back_many : length back.back.blocks ≡ length r.blocks
  back_many =
      sym (length-map back.back.blocks plain_block) ∙ ap (λ q. length q.blocks) back.same ∙ rewriting_many r

  -- a written output reads back as that record
  reads_written :
      (out : List ℕ) → needed ≤ length out → read wide (take needed (rewrite_leaves s out)) 0 ≡ got back.back needed
  unfolding rewritten_bytes
  reads_written out l =
      let new = rewritten_bytes r in
      ap (λ t. read wide (take needed t) 0) ((three_ways s out).has_room (with_room out l)).1 ∙
      ap (λ t. read wide t 0) (take-append_seam new (drop needed out)) ∙
      back.reads

  -- and as no other
  written_reads :
      (out : List ℕ) (n k : ℕ) (q : Record Placed) (m : ℕ) →
      rewrite s out ≡ Ok (totals n k) → read wide (take n (rewrite_leaves s out)) 0 ≡ got q m → q ≡ back.back
  written_reads out n k q m a f = go (ltb (length out) needed) refl
    where
      go : (b : Bool) → ltb (length out) needed ≡ b → q ≡ back.back
      go true l =
          let t : TooShort s (length out) = record { it = r; end = p; accepted = e; short = ltb-true (length out) needed l } in
          let c : rewrite s out ≡ Err (Room (length (rewritten_bytes t.it))) = ((three_ways s out).too_short t).0 in
          clash (cc)
      go false l =
          let h = ltb-false (length out) needed l in
          let c : rewrite s out ≡ Ok (totals needed (all_saves (rewriting (plain r)).blocks)) = ((three_ways s out).has_room (with_room out h)).0 in
          let many : n ≡ needed = same_bytes (rewrite s out) a c in
          let g = ap (λ j. read wide (take j (rewrite_leaves s out)) 0) (sym many) ∙ f in
          same_value _ q back.back m needed g (reads_written out h)

  enough_foretell :
      (each : List ℕ) →
      length r.blocks ≤ length each →
      figures_leaves s each ≡ block_figures r ++ drop (length r.blocks) each →
      Foretold s each needed (length (made (plain r)))
  unfolding rewritten_bytes block_figures
  enough_foretell each room left =
      let rest = drop (length r.blocks) each in
      let many : length back.back.blocks ≡ length (block_figures r) = back_many ∙ sym (figures_many r) in
      record {
        written = λ out l. ((three_ways s out).has_room (with_room out l)).0 ∙ ap (λ k. Ok (totals needed k)) (sym (made_saves r));
        short = λ out l. ((three_ways s out).too_short (record { it = r; end = p; accepted = e; short = l })).0;
        output = back.back;
        reads = reads_written;
        saves = made_saves r ∙ ap (λ q. all_saves q.blocks) (sym back.same);
        blocks = (λ i. take (many i) (left i)) ∙ take-append_seam (block_figures r) rest ∙
            ap (λ q. map instructions q.blocks) (sym back.same);
        beyond = (λ i. drop (many i) (left i)) ∙ drop-append_seam (block_figures r) rest ∙ ap (λ n. drop n each) (sym back_many);
        many = let b = back_many in omega (arith, b, room);
        most = λ b l.
            let v : get_or (figures_leaves s each) b 0 ≡ get_or (block_figures r) b 0 =
            ap (λ t. get_or t b 0) left ∙ get_or-append (block_figures r) rest 0 b (omega (arith, l, many)) in
            subst (λ n. n ≤ 512) (sym v)
            (figures_small (length (rewriting (plain r)).names) (length (rewriting (plain r)).blocks) (rewriting (plain r)).blocks
            (rewriting_passes (plain r) good).blocks b);
      }

-- the figures of an input are those that rewrite gives
pub figures_foretell : (s each : List ℕ) (n k : ℕ) → figures s each ≡ Ok (totals n k) → Foretold s each n k
figures_foretell s each n k e = go (figures_end s each)
  where
    go : FiguresEnd s each → Foretold s each n k
    go (faulty w a l) = clash (cc)
    go (few w a l) = clash (cc)
    go (enough w a l) =
        let bytes : length (rewritten_bytes w.it) ≡ n = same_bytes (figures s each) a e in
        let saves : length (made (plain w.it)) ≡ k = same_saves (figures s each) a e in
        let f = enough_foretell s w.it w.end w.accepted each w.enough l in
        subst (λ m. Foretold s each m k) bytes (subst (Foretold s each (length (rewritten_bytes w.it))) saves f)

-- ---- and whatever rewrite gives was foretold
-- of an output: written, or too short
either_way : (s each out : List ℕ) (n k : ℕ) → Foretold s each n k → (rewrite s out ≡ Ok (totals n k)) ⊎ (rewrite s out ≡ Err (Room n))
either_way s each out n k f = go (ltb (length out) n) refl
  where
    go : (b : Bool) → ltb (length out) n ≡ b → (rewrite s out ≡ Ok (totals n k)) ⊎ (rewrite s out ≡ Err (Room n))
    go true l = inr (f.short out (ltb-true (length out) n l))
    go false l = inl (f.written out (ltb-false (length out) n l))

-- P: what follows of what was foretold and of the output
foretold_for :
    (P : Type 0) (s each out : List ℕ) → ((f : Fault) → rewrite s out ≢ Err (rewrites.Refused f)) →
    ((m j : ℕ) → figures s each ≡ Ok (totals m j) → (rewrite s out ≡ Ok (totals m j)) ⊎ (rewrite s out ≡ Err (Room m)) → P) →
    P ⊎ (figures s each ≡ Err TooFew)
foretold_for P s each out h same = go (figures_end s each)
  where
    go : FiguresEnd s each → P ⊎ (figures s each ≡ Err TooFew)
    go (faulty w a l) = absurd (h w.fault ((three_ways s out).faulty w).0)
    go (few w a l) = inr a
    go (enough w a l) = inl (same _ _ a (either_way s each out _ _ (figures_foretell s each _ _ a)))

pub written_was_foretold :
    (s each out : List ℕ) (n k : ℕ) → rewrite s out ≡ Ok (totals n k) → (figures s each ≡ Ok (totals n k)) ⊎ (figures s each ≡ Err TooFew)
written_was_foretold s each out n k e =
    foretold_for (figures s each ≡ Ok (totals n k)) s each out (λ f r. clash (cc))
    (λ m j a o. ⊎_elim (λ w. cc) (λ w. clash (cc)) o)

pub room_was_foretold :
    (s each out : List ℕ) (n : ℕ) → rewrite s out ≡ Err (Room n) → ((k : ℕ) × (figures s each ≡ Ok (totals n k))) ⊎ (figures s each ≡ Err TooFew)
room_was_foretold s each out n e =
    foretold_for ((k : ℕ) × (figures s each ≡ Ok (totals n k))) s each out (λ f r. clash (cc))
    (λ m j a o. (j, ⊎_elim (λ w. clash (cc)) (λ w. cc) o))

-- ---- refusals
-- check accepts what has a number of blocks
accepts : (s : List ℕ) (r : Record Placed) (p : ℕ) → accept limits s ≡ got r p → checked s ≡ Ok tt
unfolding checked
accepts s r p e = ap checked_as e

-- check's refusals come before 12, and there are no others
pub figures_refuse : (s each : List ℕ) (f : Fault) → (figures s each ≡ Err (Refused f)) ↔ (checked s ≡ Err f)
figures_refuse s each f = (go (figures_end s each), back (figures_end s each))
  where
    go : FiguresEnd s each → figures s each ≡ Err (Refused f) → checked s ≡ Err f
    go (faulty w a l) e = let c = w.refused in cc
    go (few w a l) e = clash (cc)
    go (enough w a l) e = clash (cc)

    back : FiguresEnd s each → checked s ≡ Err f → figures s each ≡ Err (Refused f)
    back (faulty w a l) e = let c = w.refused in cc
    back (few w a l) e = let c = accepts s w.it w.end w.accepted in clash (cc)
    back (enough w a l) e = let c = accepts s w.it w.end w.accepted in clash (cc)

-- 12 where check accepts and the places are fewer than the blocks, and only there
pub too_few : (s each : List ℕ) → (figures s each ≡ Err TooFew) ↔ FewPlaces s (length each)
too_few s each = (go (figures_end s each), back (figures_end s each))
  where
    go : FiguresEnd s each → figures s each ≡ Err TooFew → FewPlaces s (length each)
    go (faulty w a l) e = clash (cc)
    go (few w a l) e = w
    go (enough w a l) e = clash (cc)

    back : FiguresEnd s each → FewPlaces s (length each) → figures s each ≡ Err TooFew
    back (faulty w a l) t =
        let c = w.refused in
        let d = accepts s t.it t.end t.accepted in
        clash (cc)
    back (few w a l) t = a
    back (enough w a l) t =
        let e = same_value (accept limits s) t.it w.it t.end w.end t.accepted w.accepted in
        let n : length t.it.blocks ≡ length w.it.blocks = ap (λ r. length r.blocks) e in
        absurd (omega (arith, n, t.few, w.enough))

-- ---- nothing else is foretold
alone_with : (s each out : List ℕ) (n k : ℕ) → n ≤ length out → Foretold s each n k → figures s each ≡ Ok (totals n k)
alone_with s each out n k room f = go (written_was_foretold s each out n k (f.written out room))
  where
    go : (figures s each ≡ Ok (totals n k)) ⊎ (figures s each ≡ Err TooFew) → figures s each ≡ Ok (totals n k)
    go (inl a) = a
    go (inr a) =
        let t = (too_few s each).0 a in
        let o = written_reads s t.it t.end t.accepted out n k f.output n (f.written out room) (f.reads out room) in
        let b : length f.output.blocks ≡ length t.it.blocks =
        ap (λ q. length q.blocks) o ∙ back_many s t.it t.end t.accepted in
        absurd (omega (arith, b, t.few, f.many))

pub foretold_alone : (s each : List ℕ) (n k : ℕ) → Foretold s each n k → figures s each ≡ Ok (totals n k)
foretold_alone s each n k =
    let out : List ℕ = replicate n 0 in
    let l : length out ≡ n = length-replicate n 0 in
    alone_with s each out n k (omega (arith, l))

-- ---- the places
pub figures_keep_length : (s each : List ℕ) → length (figures_leaves s each) ≡ length each
figures_keep_length s each = go (figures_end s each)
  where
    go : FiguresEnd s each → length (figures_leaves s each) ≡ length each
    go (faulty w a l) = ap length l
    go (few w a l) = ap length l
    go (enough w a l) =
        let B = length w.it.blocks in
        let m = figures_many w.it in
        let e = length-append (block_figures w.it) (drop B each) in
        let d = length-drop B each in
        ap length l ∙ omega (arith, m, e, d, w.enough)

-- no refusal writes a place
pub figures_untouched : (s each : List ℕ) → ((n k : ℕ) → figures s each ≢ Ok (totals n k)) → figures_leaves s each ≡ each
figures_untouched s each h = go (figures_end s each)
  where
    go : FiguresEnd s each → figures_leaves s each ≡ each
    go (faulty w a l) = l
    go (few w a l) = l
    go (enough w a l) = absurd (h _ _ a)
