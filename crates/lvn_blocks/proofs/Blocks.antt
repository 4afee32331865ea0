-- One block done, and then the rest: laws of the loop over the blocks.
use Prim.Native.Nat.{ℕ, ◌+◌, ◌-◌, ◌*◌, ◌<◌, ◌≤◌}
use mathlib.Core.Path.{◌≡◌, sym, ap, ◌∙◌, subst}
use mathlib.Core.List.{List, [], ◌∷◌, ◌++◌, map, map-append}
use native.Mathlib.Omega.{arith}
use lib.ListN.{length, length-map}
use Rattle.record.specs.declared.NameIx.{NameIx}
use Rattle.record.specs.Record.{Instr, Block, Function, names_of, type_in}
use Rattle.record.specs.Write.{join, block_bytes}
use Rattle.record.specs.Decode.{items, block_end}
use Rattle.record.specs.Again.{block_in, blocks_in, BlocksPass}
use Rattle.record.specs.Sizes.{longest_block, longest_block_lines, places_end}
use Rattle.record.proofs.Rows.{one_more}
use Rattle.numbering.specs.Number.{Numbered, blocks_lvn, count_saves, saved_in, made_from}
use Rattle.numbering.specs.Figures.{instructions}
use Rattle.numbering.proofs.Made.{saved_in_length}
use Rattle.write_bytes.specs.Put.{put, Wrote}
use Rattle.write_bytes.proofs.Wrote.{Rest, rest_all, rest_less, rest_none}
use Rattle.read_layout.specs.declared.Layout.{Layout}
use Rattle.read_layout.specs.declared.Spot.{Spot}
use Rattle.lvn_blocks.specs.declared.SaveCount.{SaveCount}
use Rattle.lvn_blocks.specs.Block.{indexes}
use Rattle.lvn_blocks.specs.Blocks.{BlocksAsk, block_as, BlockDone, numbered_in, BlocksDone}

-- ---- blocks in a row
module _ (w : ℕ) (s : List ℕ) (p n : ℕ) (h : 0 < n) where
  blocks_more : blocks_in w s p n ≡ block_in w s p ∷ blocks_in w s (block_end w s p) (n - 1)
  unfolding blocks_in items
  blocks_more = ap (items (block_in w s) (block_end w s) p) (one_more n h)

-- ---- the bytes of blocks, and what they saved
abbrev all_bytes : ℕ → List (Block Instr) → List ℕ
all_bytes w bs = join (map (block_bytes w) bs)

abbrev all_saved : ℕ → List (Block Instr) → List ℕ
all_saved N bs = indexes (made_from N bs)

-- what the head of a record says whose function is f, with so many blocks
abbrev layout_for : ℕ → Function → ℕ → ℕ → Layout
layout_for w f e n = record { width = w; args = f.args; names = names_of f; end = e; blocks = n }

module _
    (F : Layout) (f : Function) {s : List ℕ} {ty : NameIx → ℕ} {at : Spot} {c : SaveCount} {r : Spot} {c' : SaveCount}
    {made made' out out' : List ℕ} {v : ℕ}
  where
    -- v: how many instructions are written of the block
    pub laid_out :
        F.names ≡ names_of f → F.args ≡ f.args → BlockDone F s ty at c r c' made made' out out' →
        v ≡ length (numbered_in F s ty at.p c.k).body →
        BlockDone (layout_for F.width f F.end F.blocks) s ty at c r c' made made' out out' ×
        (v ≡ length (numbered_in (layout_for F.width f F.end F.blocks) s ty at.p c.k).body)
    laid_out names args d e =
        subst
        (λ (G : Layout). BlockDone G s ty at c r c' made made' out out' × (v ≡ length (numbered_in G s ty at.p c.k).body))
        (λ i. record { width = F.width; args = args i; names = names i; end = F.end; blocks = F.blocks }) (d, e)

module _ (w : ℕ) (f : Function) (s : List ℕ) (p k n : ℕ) (h : 0 < n) where
  abbrev first : Numbered
  first = numbered_in (layout_for w f 0 0) s (type_in f.types) p k

  abbrev others : List (Block Instr)
  others = blocks_lvn f first.temps (blocks_in w s (block_end w s p) (n - 1))

  lvn_more : blocks_lvn f k (blocks_in w s p n) ≡ block_as (names_of f) first ∷ others
  unfolding blocks_lvn
  lvn_more = ap (blocks_lvn f k) (blocks_more w s p n h)

  bytes_more : all_bytes w (blocks_lvn f k (blocks_in w s p n)) ≡ block_bytes w (block_as (names_of f) first) ++ all_bytes w others
  unfolding join
  bytes_more = ap (all_bytes w) lvn_more

  saved_more :
      all_saved (names_of f) (blocks_lvn f k (blocks_in w s p n)) ≡
      indexes (saved_in (names_of f) first.body) ++ all_saved (names_of f) others
  unfolding made_from
  saved_more =
      ap (all_saved (names_of f)) lvn_more ∙
      map-append (λ (x : NameIx). x.0) (saved_in (names_of f) first.body) (made_from (names_of f) others)

  figures_more :
      map instructions (blocks_lvn f k (blocks_in w s p n)) ≡ instructions (block_as (names_of f) first) ∷ map instructions others
  figures_more = ap (map instructions) lvn_more

-- ---- the loop: what is left from here gives the whole
pub record Going
    (w : ℕ) (f : Function) (s : List ℕ) (at₀ : Spot) (n₀ : ℕ) (made₀ each₀ out₀ : List ℕ) (at : Spot) (k n : ℕ) (made each out : List ℕ)
    : Type 0 where
  pub written :
      Rest out at.q (all_bytes w (blocks_lvn f k (blocks_in w s at.p n))) out₀ at₀.q
      (all_bytes w (blocks_lvn f 0 (blocks_in w s at₀.p n₀)))
  pub noted :
      Rest made k (all_saved (names_of f) (blocks_lvn f k (blocks_in w s at.p n))) made₀ 0
      (all_saved (names_of f) (blocks_lvn f 0 (blocks_in w s at₀.p n₀)))
  pub figured :
      Rest each (n₀ - n) (map instructions (blocks_lvn f k (blocks_in w s at.p n))) each₀ 0
      (map instructions (blocks_lvn f 0 (blocks_in w s at₀.p n₀)))
  pub close : at.q + longest_block_lines * n ≤ at₀.q + longest_block_lines * n₀

module _ {w : ℕ} {f : Function} {s : List ℕ} {at₀ : Spot} {n₀ : ℕ} {made₀ each₀ out₀ : List ℕ} where
  pub going_all : {n : ℕ} → n ≡ n₀ → Going w f s at₀ n₀ made₀ each₀ out₀ at₀ 0 n made₀ each₀ out₀
  going_all e =
      let all = map instructions (blocks_lvn f 0 (blocks_in w s at₀.p n₀)) in
      subst (λ m. Going w f s at₀ n₀ made₀ each₀ out₀ at₀ 0 m made₀ each₀ out₀) (sym e)
      (record {
        written = rest_all;
        noted = rest_all;
        figured = subst (λ (i : ℕ). Rest each₀ i all each₀ 0 all) (omega arith) rest_all;
        close = omega arith;
      })

  pub going_none :
      {at : Spot} (c : SaveCount) (n : ℕ) {made each out : List ℕ} → n ≡ 0 → c.k ≡ c.total →
      Going w f s at₀ n₀ made₀ each₀ out₀ at c.k n made each out →
      BlocksDone w f s at₀ (record { at = at; count = c }) n₀ made₀ made each₀ each out₀ out
  unfolding blocks_lvn blocks_in items join made_from
  going_none {at} c n {made} {each} z t g =
      let e : blocks_lvn f c.k (blocks_in w s at.p n) ≡ [] =
      ap (λ (m : ℕ). blocks_lvn f c.k (blocks_in w s at.p m)) z in
      record {
        written = rest_none _ (ap (all_bytes w) e) g.written;
        noted =
            subst (λ (k : ℕ). Wrote made₀ made 0 k (all_saved (names_of f) (blocks_lvn f 0 (blocks_in w s at₀.p n₀)))) t
            (rest_none _ (ap (all_saved (names_of f)) e) g.noted);
        figured =
            subst (λ (k : ℕ). Wrote each₀ each 0 k (map instructions (blocks_lvn f 0 (blocks_in w s at₀.p n₀)))) (omega (arith, z))
            (rest_none _ (ap (map instructions) e) g.figured);
        close = let x : at.q + longest_block_lines * n ≤ at₀.q + longest_block_lines * n₀ = g.close in omega arith;
      }

  -- m: one less than n; v: how many instructions are written of the block, at the place i
  pub going_less :
      (at : Spot) (c : SaveCount) (r : Spot) (c' : SaveCount) (n m end l v i : ℕ) {made made' each each' out out' : List ℕ} →
      0 < n → n ≤ n₀ → m ≡ n - 1 → i ≡ n₀ - n →
      BlockDone (layout_for w f end l) s (type_in f.types) at c r c' made made' out out' →
      v ≡ length (numbered_in (layout_for w f end l) s (type_in f.types) at.p c.k).body →
      each' ≡ put each i (v ∷ []) →
      Going w f s at₀ n₀ made₀ each₀ out₀ at c.k n made each out →
      Going w f s at₀ n₀ made₀ each₀ out₀ r c'.k m made' each' out'
  going_less at c r c' n m end l v i {made' = made'} {each = each} {each' = each'} {out' = out'} h few one place d size store g =
      let b = first w f s at.p c.k n h in
      let bs = others w f s at.p c.k n h in
      let e : blocks_lvn f c'.k (blocks_in w s r.p (n - 1)) ≡ bs =
      λ z. blocks_lvn f (d.temps z) (blocks_in w s (d.next z) (n - 1)) in
      subst (λ j. Going w f s at₀ n₀ made₀ each₀ out₀ r c'.k j made' each' out') (sym one)
      (record {
        written =
            rest_less (block_bytes w (block_as (names_of f) b)) _ _
            (bytes_more w f s at.p c.k n h ∙
            ap (λ (x : List (Block Instr)). block_bytes w (block_as (names_of f) b) ++ all_bytes w x) (sym e))
            d.written g.written;
        noted =
            rest_less (indexes (saved_in (names_of f) b.body)) _ _
            (saved_more w f s at.p c.k n h ∙
            ap (λ (x : List (Block Instr)). indexes (saved_in (names_of f) b.body) ++ all_saved (names_of f) x) (sym e))
            d.noted g.noted;
        figured =
            rest_less (length b.body ∷ []) _ _
            (figures_more w f s at.p c.k n h ∙
            ap (λ (x : List (Block Instr)). length b.body ∷ map instructions x) (sym e))
            (record { out = store ∙ (λ z. put each (place z) (size z ∷ [])); end = omega (arith, h, few) }) g.figured;
        close =
            let x : at.q + longest_block_lines * n ≤ at₀.q + longest_block_lines * n₀ = g.close in
            let y : r.q ≤ at.q + longest_block_lines = d.close in
            omega arith;
      })

-- ---- the count: K and the total grow by the saves of a block alike
module _
    {F : Layout} {s : List ℕ} {ty : NameIx → ℕ} {at : Spot} {c : SaveCount} {r : Spot} {c' : SaveCount} {made made' out out' : List ℕ}
    (d : BlockDone F s ty at c r c' made made' out out')
  where
    grown : c'.k ≡ c.k + count_saves F.names (numbered_in F s ty at.p c.k).body
    grown =
        let is = (numbered_in F s ty at.p c.k).body in
        d.noted.end ∙ ap (λ (n : ℕ). c.k + n) (length-map (saved_in F.names is) (λ (x : NameIx). x.0) ∙ saved_in_length F.names is)

    pub alike_less : c.k ≡ c.total → c'.k ≡ c'.total
    alike_less e = let g = grown in omega (arith, g, e, d.total)

-- ---- what the next block asks
module _ {N : ℕ} (w : ℕ) (s : List ℕ) (p n : ℕ) (h : 0 < n) (a : BlocksPass N (blocks_in w s p n)) where
  pass_more : BlocksPass N (block_in w s p ∷ blocks_in w s (block_end w s p) (n - 1))
  pass_more = subst (BlocksPass N) (blocks_more w s p n h) a

  pass_first : BlocksPass N (block_in w s p ∷ [])
  pass_first = record { blocks = pass_more.blocks; each = (pass_more.each.0, tt) }

  pass_rest : (q : ℕ) → q ≡ block_end w s p → BlocksPass N (blocks_in w s q (n - 1))
  pass_rest q e =
      subst (λ (k : ℕ). BlocksPass N (blocks_in w s k (n - 1))) (sym e) (record { blocks = pass_more.blocks; each = pass_more.each.1 })

pub block_passes :
    {F : Layout} {s : List ℕ} {at : Spot} {c : SaveCount} → BlocksAsk F s at c 1 →
    BlocksPass F.names (block_in F.width s at.p ∷ [])
block_passes {F} {s} {at} b = pass_first F.width s at.p 1 (omega arith) b.passing

module _ {F : Layout} {s : List ℕ} {at : Spot} {c : SaveCount} (n : ℕ) (h : 0 < n) (b : BlocksAsk F s at c n) where
  pub ask_one : BlocksAsk F s at c 1
  unfolding blocks_in items
  ask_one =
      record {
        width = b.width;
        names = b.names;
        arguments = b.arguments;
        made = let x : F.names + c.k + 256 * n < 65535 = b.made in omega arith;
        total = b.total;
        reads = let x : at.p + longest_block * n < places_end = b.reads in omega arith;
        writes = let x : at.q + longest_block_lines * n < places_end = b.writes in omega arith;
        passing = pass_first F.width s at.p n h b.passing;
      }

  -- m: one less than n
  pub ask_less :
      {ty : NameIx → ℕ} {r : Spot} {c' : SaveCount} {made made' out out' : List ℕ} (m : ℕ) → m ≡ n - 1 →
      BlockDone F s ty at c r c' made made' out out' →
      BlocksAsk F s r c' m
  ask_less {r = r} {c' = c'} m one d =
      let few : c'.k ≤ c.k + 256 = d.few in
      record {
        width = b.width;
        names = b.names;
        arguments = b.arguments;
        made = let x : F.names + c.k + 256 * n < 65535 = b.made in omega arith;
        total = let g = grown d in omega (arith, g, d.total, b.total);
        reads = let x : at.p + longest_block * n < places_end = b.reads in let y : r.p ≤ at.p + longest_block = d.near in omega arith;
        writes =
            let x : at.q + longest_block_lines * n < places_end = b.writes in
            let y : r.q ≤ at.q + longest_block_lines = d.close in
            omega arith;
        passing =
            subst (λ (j : ℕ). BlocksPass F.names (blocks_in F.width s r.p j)) (sym one)
            (pass_rest F.width s at.p n h b.passing r.p d.next);
      }
