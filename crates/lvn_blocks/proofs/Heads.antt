-- One block: its head, written behind its body at the place before it, and how many instructions and saves are written of it.
use Prim.Native.Nat.{ℕ, zero, suc, ◌+◌, ◌-◌, ◌*◌, ◌<◌, ◌≤◌}
use mathlib.Core.Path.{◌≡◌, refl, sym, ap, ◌∙◌, subst}
use mathlib.Core.List.{List, [], ◌∷◌, ◌++◌, map, append_assoc}
use native.Mathlib.Omega.{arith}
use lib.ListN.{length, length-append, length-map}
use Rattle.record.specs.declared.NameIx.{NameIx}
use Rattle.record.specs.Record.{Instr, Placed, Block}
use Rattle.record.specs.Reader.{num_at}
use Rattle.record.specs.Good.{Each, InstrOk}
use Rattle.record.specs.Write.{be, join, instr_bytes, block_bytes}
use Rattle.record.specs.Decode.{items, behind, instr_from, placed_from, instr_end, body_from, block_end}
use Rattle.record.specs.Again.{instrs_from, instrs_end, Passing, block_in, BlocksPass}
use Rattle.record.specs.Sizes.{longest_instr, longest_lines, longest_block, longest_block_lines, places_end}
use Rattle.record.proofs.Tests.{at_most_le}
use Rattle.record.proofs.Decode.{length_items}
use Rattle.record.proofs.Stands.{length_be}
use Rattle.record.proofs.Again.{passing_all}
use Rattle.numbering.specs.State.{State, start}
use Rattle.numbering.specs.Number.{Numbered, instr_lvn, block_lvn, count_saves, saved_in}
use Rattle.numbering.proofs.Codes.{instr_original, body_originals}
use Rattle.numbering.proofs.Saves.{instr_emits, block_temps}
use Rattle.numbering.proofs.Passes.{saves_count, block_few}
use Rattle.write_bytes.specs.Put.{put, Wrote}
use Rattle.write_bytes.proofs.Wrote.{wrote_before, wrote_last}
use Rattle.lvn_state.specs.Room.{room}
use Rattle.lvn_state.proofs.Room.{start_room}
use Rattle.read_layout.specs.declared.Layout.{Layout}
use Rattle.read_layout.specs.declared.Spot.{Spot}
use Rattle.lvn_blocks.specs.declared.SaveCount.{SaveCount}
use Rattle.lvn_blocks.specs.Block.{body_bytes, indexes, Asks, Done}
use Rattle.lvn_blocks.specs.Blocks.{BlocksAsk, block_as, BlockDone, numbered_in}
use Rattle.lvn_blocks.proofs.Blocks.{block_passes}

-- ---- the instructions of a block, read again
items_map :
    (w : ℕ) (s : List ℕ) (n p : ℕ) →
    map (λ (i : Placed). i.it) (items (placed_from w s) (instr_end w s) p n) ≡ items (instr_from w s) (instr_end w s) p n
unfolding items
items_map w s zero p = refl
items_map w s (suc n) p = ap (λ (is : List Instr). instr_from w s p ∷ is) (items_map w s n (instr_end w s p))

four_on : (p : ℕ) → p + 2 + 2 ≡ p + 4
four_on p = omega arith

module _ (w : ℕ) (s : List ℕ) (p : ℕ) where
  pub body_again : (block_in w s p).body ≡ instrs_from w s (p + 4) (num_at s p 2)
  unfolding body_from instrs_from
  body_again =
      items_map w s (num_at s p 2) (p + 2 + 2) ∙
      ap (λ (at : ℕ). items (instr_from w s) (instr_end w s) at (num_at s p 2)) (four_on p)

  pub end_again : instrs_end w s (p + 4) (num_at s p 2) ≡ block_end w s p
  unfolding block_end instrs_end
  end_again = ap (λ (at : ℕ). behind (instr_end w s) at (num_at s p 2)) (sym (four_on p))

  pub size_again : length (block_in w s p).body ≡ num_at s p 2
  unfolding body_from
  size_again =
      length-map (items (placed_from w s) (instr_end w s) (p + 2 + 2) (num_at s p 2)) (λ (i : Placed). i.it) ∙
      length_items (placed_from w s) (instr_end w s) (num_at s p 2) (p + 2 + 2)

-- ---- how many are written
block_length :
    (N B : ℕ) (t : NameIx → ℕ) (is : List Instr) (s : State) →
    Each (InstrOk N B) is →
    length (block_lvn N t s is).body + s.temps ≡ length is + (block_lvn N t s is).temps
unfolding block_lvn
block_length N B t [] s p = refl
block_length N B t (i ∷ is) s p =
    let e = instr_lvn N t s i in
    let w = instr_emits N t s i (instr_original N B (length is) t i p.0) in
    let c = saves_count w.saves in
    let h = block_length N B t is e.state p.1 in
    let a = length-append e.saves (e.instr ∷ (block_lvn N t e.state is).body) in
    omega arith

start_temps : (args k : ℕ) → (start args k).temps ≡ k
unfolding start
start_temps args k = refl

module _ (F : Layout) (ty : NameIx → ℕ) (s : List ℕ) (p k : ℕ) (h : BlocksPass F.names (block_in F.width s p ∷ [])) where
  pub size_most : num_at s p 2 ≤ 256
  size_most =
      let e = size_again F.width s p in
      let l : length (block_in F.width s p).body ≤ 256 = at_most_le 256 (length (block_in F.width s p).body) h.each.0.size in
      omega arith

  pub temps_most : (numbered_in F s ty p k).temps ≤ k + 256
  temps_most =
      let is = (block_in F.width s p).body in
      let f = (block_few F.names h.blocks ty is (start F.args k) h.each.0.body).0 in
      let e = size_again F.width s p in
      let l = size_most in
      let z = start_temps F.args k in
      omega arith

  pub saves_many : (numbered_in F s ty p k).temps ≡ k + count_saves F.names (numbered_in F s ty p k).body
  saves_many =
      let is = (block_in F.width s p).body in
      let f = block_temps F.names ty is (start F.args k) (body_originals F.names h.blocks ty is h.each.0.body) in
      let z = start_temps F.args k in
      omega arith

  pub lines_many : length (numbered_in F s ty p k).body + k ≡ num_at s p 2 + (numbered_in F s ty p k).temps
  lines_many =
      let is = (block_in F.width s p).body in
      let f = block_length F.names h.blocks ty is (start F.args k) h.each.0.body in
      let e = size_again F.width s p in
      let z = start_temps F.args k in
      omega arith

-- ---- what the body asks; count: how many instructions it has
pub body_asks :
    {F : Layout} {s : List ℕ} {at : Spot} {c : SaveCount} (st : State) (count : ℕ) →
    count ≡ num_at s at.p 2 →
    BlocksAsk F s at c 1 →
    st ≡ start F.args c.k →
    Asks 256 512 F s st (record { p = at.p + 4; q = at.q + 4 }) count
body_asks {F} {s} {at} {c} st count many b e =
    let h = block_passes b in
    let few : num_at s at.p 2 ≤ 256 = size_most F (λ x. 0) s at.p 0 h in
    let m : st.temps ≡ c.k = ap (λ (x : State). x.temps) e ∙ start_temps F.args c.k in
    let args_fit : F.args ≤ 256 = b.arguments in
    let r : room 256 st ≡ 256 = ap (room 256) e ∙ start_room 256 F.args c.k (omega arith) in
    let is : (block_in F.width s at.p).body ≡ instrs_from F.width s (at.p + 4) count =
    body_again F.width s at.p ∙ ap (instrs_from F.width s (at.p + 4)) (sym many) in
    record {
      width = b.width;
      some = omega arith;
      maps = record { names = omega arith; numbers = omega arith };
      names = b.names;
      numbers = omega (arith, r, few, many);
      made = let x : F.names + c.k + 256 * 1 < 65535 = b.made in omega (arith, m, few, many, x);
      reads = let x : at.p + longest_block * 1 < places_end = b.reads in omega arith;
      writes = let x : at.q + longest_block_lines * 1 < places_end = b.writes in omega arith;
      passing = subst (Passing F.names) is (passing_all F.names h.blocks (block_in F.width s at.p).body h.each.0.body);
    }

-- ---- head and body are the block
head_wrote :
    {out m out' : List ℕ} {q p : ℕ} (w n saves : ℕ) (b : Block Instr) →
    n ≡ length b.body →
    saves ≡ b.saves →
    Wrote out m (q + 4) p (body_bytes w b.body) →
    out' ≡ put m q (be 2 n ++ be 2 saves) →
    Wrote out out' q p (block_bytes w b)
unfolding block_bytes body_bytes join
head_wrote {out} {m} {out'} {q} {p} w n saves b e f c d =
    let head = be 2 (length b.body) ++ be 2 b.saves in
    let rest = join (map (instr_bytes w) b.body) ++ [] in
    let l : length head ≡ 4 =
    length-append (be 2 (length b.body)) (be 2 b.saves) ∙
    (let x = length_be 2 (length b.body) in let y = length_be 2 b.saves in omega arith) in
    let g : out' ≡ put m q head = d ∙ (λ z. put m q (be 2 (e z) ++ be 2 (f z))) in
    subst (Wrote out out' q p) (append_assoc (be 2 (length b.body)) (be 2 b.saves) rest)
    (wrote_before 4 head rest l (wrote_last (join (map (instr_bytes w) b.body)) c) g)

module _
    {F : Layout} {s : List ℕ} (count : ℕ) (ty : NameIx → ℕ) (at : Spot) (c : SaveCount) (r : Spot) (st st' : State)
    {made made' out m : List ℕ}
    (many : count ≡ num_at s at.p 2)
    (b : BlocksAsk F s at c 1)
    (e : st ≡ start F.args c.k)
    (d : Done F s ty (record { p = at.p + 4; q = at.q + 4 }) r st st' count made made' out m)
  where
    abbrev block : Numbered
    block = numbered_in F s ty at.p c.k

    same : block_lvn F.names ty st (instrs_from F.width s (at.p + 4) count) ≡ block
    same =
        λ z. block_lvn F.names ty (e z)
        ((ap (instrs_from F.width s (at.p + 4)) many ∙ sym (body_again F.width s at.p)) z)

    temps_are : st'.temps ≡ block.temps
    temps_are = d.temps ∙ ap (λ (x : Numbered). x.temps) same

    -- so that the numbers of the head and the count are in range
    pub head_fits : (count ≤ 256) × ((c.k ≤ st'.temps) × ((st'.temps ≤ c.k + 256) × (c.total + 256 < 65536)))
    head_fits =
        let n : num_at s at.p 2 ≤ 256 = size_most F ty s at.p c.k (block_passes b) in
        let t = temps_are in
        let saved = saves_many F ty s at.p c.k (block_passes b) in
        let most = temps_most F ty s at.p c.k (block_passes b) in
        let last : F.names + c.k + 256 * 1 < 65535 = b.made in
        (omega (arith, n, many), (omega (arith, t, saved), (omega (arith, t, most), omega (arith, last, b.total))))

    pub block_done :
        {out' : List ℕ} (j : ℕ) → j ≡ st'.temps →
        out' ≡ put m at.q (be 2 (count + (j - c.k)) ++ be 2 (j - c.k)) →
        BlockDone F s ty at c r (record { k = j; total = c.total + (j - c.k) }) made made' out out'
    block_done {out'} j is o =
        let t : j ≡ block.temps = is ∙ temps_are in
        let saved = saves_many F ty s at.p c.k (block_passes b) in
        let lines = lines_many F ty s at.p c.k (block_passes b) in
        let n : count ≤ 256 = head_fits.0 in
        let k₀ : st.temps ≡ c.k = ap (λ (x : State). x.temps) e ∙ start_temps F.args c.k in
        let saves : j - c.k ≡ count_saves F.names block.body = omega (arith, t, saved) in
        let size : count + (j - c.k) ≡ length block.body = omega (arith, many, t, saved, lines) in
        let body : Wrote out m (at.q + 4) r.q (body_bytes F.width block.body) =
        subst (λ (x : Numbered). Wrote out m (at.q + 4) r.q (body_bytes F.width x.body)) same d.written in
        let noted : Wrote made made' st.temps st'.temps (indexes (saved_in F.names block.body)) =
        subst (λ (x : Numbered). Wrote made made' st.temps st'.temps (indexes (saved_in F.names x.body))) same d.noted in
        record {
          written = head_wrote F.width _ _ (block_as F.names block) size saves body o;
          noted =
              subst (λ (x : ℕ). Wrote made made' c.k x (indexes (saved_in F.names block.body))) (sym is)
              (subst (λ (x : ℕ). Wrote made made' x st'.temps (indexes (saved_in F.names block.body))) k₀ noted);
          temps = t;
          total = ap (λ (x : ℕ). c.total + x) saves;
          next = d.next ∙ ap (instrs_end F.width s (at.p + 4)) many ∙ end_again F.width s at.p;
          near = let x : r.p ≤ at.p + 4 + longest_instr * count = d.near in omega (arith, x, n);
          close = let x : r.q ≤ at.q + 4 + longest_lines * count = d.close in omega (arith, x, n);
          few = let f = head_fits.1.1.0 in omega (arith, is, f);
        }

-- ---- how many instructions are written of a block, by its own count and by how the total of saves grew
module _
    {F : Layout} {s : List ℕ} {ty : NameIx → ℕ} {at : Spot} {c : SaveCount} {r : Spot} {c' : SaveCount} {made made' out out' : List ℕ}
    (b : BlocksAsk F s at c 1)
    (d : BlockDone F s ty at c r c' made made' out out')
  where
    pub block_figure : num_at s at.p 2 + (c'.total - c.total) ≡ length (numbered_in F s ty at.p c.k).body
    block_figure =
        let h = block_passes b in
        omega (arith, lines_many F ty s at.p c.k h, saves_many F ty s at.p c.k h, d.total)

    pub figure_fits : (c.total ≤ c'.total) × (num_at s at.p 2 + (c'.total - c.total) < 65536)
    figure_fits =
        let h = block_passes b in
        let saved = saves_many F ty s at.p c.k h in (
          omega (arith, d.total),
          omega (arith, d.total, saved, size_most F ty s at.p c.k h, temps_most F ty s at.p c.k h),
        )
