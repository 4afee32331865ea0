-- An accepted record laid open: the tables of its types and of the places of its blocks, and that each block is sound.
use Prim.Native.Nat.{ℕ, zero, suc, ◌+◌, ◌<◌, ◌≤◌}
use mathlib.Core.Path.{◌≡◌, sym, ap, ◌∙◌, subst}
use mathlib.Core.List.{List}
use native.Mathlib.Omega.{arith}
use lib.ListN.{length, get_or, take, drop, replicate, length-replicate, length-map}
use lib.Seq.{sets, sets-eq, take-append_seam}
use Rattle.std.specs.Prelude.{Ok}
use Rattle.record.specs.Record.{limits, id_bytes}
use Rattle.record.specs.Reader.{got, num_at}
use Rattle.record.specs.Read.{read}
use Rattle.record.specs.Good.{Each, BlockOk}
use Rattle.record.specs.Answer.{checked}
use Rattle.record.specs.Decode.{items, behind, block_end, names_count, names_end, id_width, blocks_end, record_from}
use Rattle.record.specs.Again.{instrs_end, Passing, block_in, blocks_in, record_in, types_in}
use Rattle.record.specs.Sizes.{places_end}
use Rattle.record.proofs.Tests.{at_most_le}
use Rattle.record.proofs.Typed.{accept_typed}
use Rattle.record.proofs.Decode.{item_at, length_items}
use Rattle.record.proofs.Rows.{behind_on, behind_more, map_items}
use Rattle.record.proofs.Again.{blocks_again, accepted_pass, passing_all, version_in, names_in, blocks_number, read_good, few_names}
use Rattle.record.proofs.Ends.{block_grows, block_body, blocks_inside, blocks_near}
use Rattle.record.proofs.Judged.{accepted_as}
use Rattle.read_layout.specs.declared.Layout.{Layout}
use Rattle.read_layout.specs.Layout.{types_from, blocks_from, layout_of}
use Rattle.read_layout.proofs.Tables.{types_hold}
use Rattle.engine_quiet.specs.declared.Ground.{Ground}
use Rattle.engine_quiet.specs.Spot.{laid_out, Sound}
use Rattle.engine.specs.Opened.{Opened}

-- ---- items in a row
item_holds :
    {A : Type 0} (P : A → Type 0) (one : ℕ → A) (next : ℕ → ℕ) (k n p : ℕ) → k < n →
    Each (λ left x. P x) (items one next p n) → P (one (behind next p k))
unfolding items behind
item_holds P one next k zero p l h = absurd (omega arith)
item_holds P one next zero (suc n) p l h = h.0
item_holds P one next (suc k) (suc n) p l h = item_holds P one next k n (next p) (omega arith) h.1

behind_upto : (next : ℕ → ℕ) → ((p : ℕ) → p ≤ next p) → (k n p : ℕ) → k ≤ n → behind next p k ≤ behind next p n
unfolding behind
behind_upto next grows zero n p l = behind_on next grows p n
behind_upto next grows (suc k) zero p l = absurd (omega arith)
behind_upto next grows (suc k) (suc n) p l = behind_upto next grows k n (next p) (omega arith)

-- a table filled from its start
table_holds :
    (ps table : List ℕ) (n m : ℕ) → length ps ≡ n → n ≤ m → table ≡ sets (replicate m 0) 0 ps → take n table ≡ ps
table_holds ps table n m many room e =
    let l = replicate {A = ℕ} m 0 in
    let r : 0 + length ps ≤ length l = omega (arith, many, room, length-replicate {A = ℕ} m 0) in
    (λ i. take (sym many i) ((e ∙ sets-eq ps l 0 r) i)) ∙ take-append_seam ps (drop (0 + length ps) l)

-- ---- an accepted record
-- the places of its blocks
abbrev pub places_of : List ℕ → List ℕ
places_of s = blocks_from (id_width s) s (names_end s + 2) (num_at s (names_end s) 2)

module _ (s : List ℕ) (h : checked s ≡ Ok tt) where
  abbrev w : ℕ
  w = id_width s

  abbrev at : ℕ
  at = names_end s + 2

  abbrev count : ℕ
  count = num_at s (names_end s) 2

  abbrev place : ℕ → ℕ
  place b = behind (block_end w s) at b

  reads : read limits s 0 ≡ got (record_from s) (accepted_as s h).behind
  reads = (accept_typed limits s _ _ (accepted_as s h).got).reads

  pub few : names_count s ≤ 256
  few = few_names s _ _ reads

  pub few_blocks : count ≤ 64
  few_blocks =
      let n : length (record_in s).blocks ≤ 64 = at_most_le 64 (length (record_in s).blocks) (read_good s _ _ reads).count in
      omega (arith, n, blocks_number s)

  pub near : behind (block_end w s) at count < places_end
  unfolding blocks_end
  near = omega (arith, blocks_near s _ reads)

  -- ---- each block
  abbrev count_names : ℕ
  count_names = length (record_in s).names

  block_sound : (b : ℕ) → b < count → Sound s (place b + 2 + 2) (num_at s (place b) 2)
  unfolding blocks_in instrs_end block_end blocks_end
  block_sound b l =
      let p = accepted_pass s _ _ reads in
      let x = block_in w s (place b) in
      let ok : BlockOk limits count_names p.blocks x =
      item_holds (BlockOk limits count_names p.blocks) (block_in w s) (block_end w s) b count at l p.each in
      let passes : Passing count_names x.body = passing_all count_names p.blocks x.body ok.body in
      let e : block_end w s (place b) ≤ behind (block_end w s) at count =
      subst (λ (k : ℕ). k ≤ behind (block_end w s) at count) (behind_more (block_end w s) at b)
      (behind_upto (block_end w s) (block_grows w s) (suc b) count at (omega (arith, l))) in
      record {
        passing =
            subst (Passing (names_count s)) (block_body w s (place b)) (subst (λ (n : ℕ). Passing n x.body) (names_in s) passes);
        inside = omega (arith, e, blocks_inside s _ reads);
      }

  many : length (places_of s) ≡ count
  unfolding blocks_from
  many = length_items (λ p. p) (block_end w s) count at

  abbrev Each' : List ℕ → Type 0
  Each' starts = (b : ℕ) → b < length starts → Sound s (get_or starts b 0 + 2 + 2) (num_at s (get_or starts b 0) 2)

  each_sound : Each' (places_of s)
  unfolding blocks_from
  each_sound b l =
      let k : b < count = omega (arith, l, many) in
      let e : get_or (places_of s) b 0 ≡ place b = item_at (λ p. p) (block_end w s) 0 b count at k in
      subst (λ (p : ℕ). Sound s (p + 2 + 2) (num_at s p 2)) (sym e) (block_sound b k)

  -- ---- laid open
  blocks_laid : (record_in s).blocks ≡ laid_out s (places_of s)
  unfolding blocks_from blocks_in
  blocks_laid = blocks_again s ∙ sym (map_items (block_in w s) (λ p. p) (block_end w s) count at)

  types_many : length (types_in s) ≡ names_count s
  types_many = length-map (record_in s).names _ ∙ names_in s

  -- ---- the tables; l: what the head says
  module _ (l : Layout) (e : l ≡ layout_of s) where
    pub names_are : l.names ≡ names_count s
    unfolding layout_of
    names_are = ap (λ (x : Layout). x.names) e

    pub blocks_are : l.blocks ≡ count
    unfolding layout_of
    blocks_are = ap (λ (x : Layout). x.blocks) e

    pub types_first :
        (table : List ℕ) → table ≡ sets (replicate 256 0) 0 (types_from s 8 (names_count s)) → take l.names table ≡ types_in s
    types_first table f =
        let room : names_count s ≤ length (replicate {A = ℕ} 256 0) = omega (arith, length-replicate {A = ℕ} 256 0, few) in
        ap (λ (n : ℕ). take n table) names_are ∙ types_hold s (replicate 256 0) table room f

    pub ends_near : behind (block_end l.width s) (l.end + 2) l.blocks < places_end
    unfolding layout_of
    ends_near = subst (λ (x : Layout). behind (block_end x.width s) (x.end + 2) x.blocks < places_end) (sym e) near

    pub places_first :
        (table : List ℕ) → table ≡ sets (replicate 64 0) 0 (blocks_from l.width s (l.end + 2) l.blocks) →
        take l.blocks table ≡ places_of s
    unfolding layout_of
    places_first table f =
        ap (λ (n : ℕ). take n table) blocks_are ∙
        table_holds (places_of s) table count 64 many few_blocks
        (f ∙ ap (λ (x : Layout). sets (replicate 64 0) 0 (blocks_from x.width s (x.end + 2) x.blocks)) e)

    pub width_is : l.width ≡ id_width s
    unfolding layout_of
    width_is = ap (λ (x : Layout). x.width) e

pub opened :
    (g : Ground) → checked g.s.now ≡ Ok tt → g.w ≡ id_width g.s.now → g.types.now ≡ types_in g.s.now → g.starts.now ≡ places_of g.s.now →
    Opened g
opened g h ew et es =
    let s = g.s.now in
    record {
      it = record_from s;
      end = (accepted_as s h).behind;
      accepted = (accepted_as s h).got;
      types_are = et;
      blocks_are = blocks_laid s h ∙ ap (laid_out s) (sym es);
      width = ap id_bytes (version_in s);
      grounded = record { width = ew; laid = record { names = few s h; each = subst (Each' s h) (sym es) (each_sound s h) } };
      few = omega (arith, ap length et, types_many s h, few s h);
    }
