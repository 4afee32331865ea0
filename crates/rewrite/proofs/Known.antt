-- What the code knows of a record that is read without a fault: what numbering its blocks asks, and what it then has.
use Prim.Native.Nat.{ℕ, ◌+◌, ◌-◌, ◌*◌, ◌<◌, ◌≤◌}
use mathlib.Core.Path.{◌≡◌, refl, sym, ap, ◌∙◌, subst}
use mathlib.Core.List.{List, [], ◌∷◌, ◌++◌, map}
use native.Mathlib.Omega.{arith}
use lib.ListN.{length, get_or, take, drop, length-map, length-drop, get_or-map}
use lib.Seq.{length-take-le, take-append_seam}
use Rattle.record.specs.declared.NameIx.{NameIx}
use Rattle.record.specs.Record.{nm, Instr, Placed, Block, Name, Record, Function, plain, function, id_bytes}
use Rattle.record.specs.Reader.{num_at}
use Rattle.record.specs.Write.{be, join, name_bytes, block_bytes}
use Rattle.record.specs.Decode.{names_count, names_end}
use Rattle.record.specs.Again.{blocks_in, BlocksPass, record_in, Reads, types_in}
use Rattle.record.specs.Sizes.{longest_names}
use Rattle.record.proofs.Sizes.{total, total_append}
use Rattle.record.proofs.Again.{record_again, accepted_blocks, accepted_pass, blocks_again, version_in, args_in, names_in, blocks_number, record_ok, few_original, few_blocks, few_args, names_on, names_lie}
use Rattle.numbering.specs.Number.{lvn}
use Rattle.numbering.specs.Made.{made_names, made, rewriting}
use Rattle.numbering.proofs.Made.{temps_behind}
use Rattle.numbering.proofs.Wide.{input_blocks, blocks_few, made_count, made_few, made_original, rewriting_names, blocks_length}
use Rattle.write_bytes.specs.Put.{put, Wrote, IdWidth}
use Rattle.write_bytes.proofs.Put.{put_first, length_put}
use Rattle.write_bytes.proofs.Numbers.{id_width}
use Rattle.write_names.specs.Named.{Named, Short}
use Rattle.read_layout.specs.declared.Layout.{Layout}
use Rattle.read_layout.specs.Layout.{layout_of}
use Rattle.write_names.proofs.Copied.{names_copied, names_short}
use Rattle.lvn_blocks.specs.declared.Behind.{Behind}
use Rattle.lvn_blocks.specs.Block.{indexes}
use Rattle.lvn_blocks.specs.Blocks.{BlocksAsk, BlocksDone}
use Rattle.lvn_blocks.proofs.Whole.{blocks_written, made_noted, made_many, instructions_noted}
use Rattle.rewrite.specs.Parts.{rewriting_in, figures_in, front_parts, blocks_bytes, Noted, longest_front}
use Rattle.rewrite.proofs.Parts.{front_total, front_written}

module _ {s : List ℕ} {end : ℕ} (h : Reads s end) where
  -- a block has at most 256 saves
  made_each : length (made (record_in s)) ≤ 256 * num_at s end 2
  made_each =
      let x = record_in s in
      let k : temps_behind (function x) 0 x.blocks ≤ 0 + 256 * length x.blocks =
      blocks_few (function x) (length x.blocks) x.blocks 0 (input_blocks x (record_ok h)) in
      rw h.names (omega (arith, k, made_count x (record_ok h), blocks_number s))

  -- the names are copied whole, and what follows them stands behind
  pub names_before :
      {p q : ℕ} → p ≡ 8 + length (take (end - 8) (drop 8 s)) → p ≤ q → end + 2 ≤ q + 2
  names_before e f =
      let l : length (take (end - 8) (drop 8 s)) ≡ end - 8 =
      length-take-le (end - 8) (drop 8 s) (omega (arith, length-drop 8 s, h.names, names_lie h)) in
      omega (arith, e, f, l)

  pub types_many : {types : List ℕ} → types ≡ types_in s → length types ≡ names_count s
  types_many e = ap length e ∙ length-map (record_in s).names (λ (x : Name). x.type) ∙ names_in s

  -- ---- numbering its blocks
  blocks_at : (w count : ℕ) → w ≡ id_bytes (num_at s 4 1) → count ≡ num_at s end 2 → (record_in s).blocks ≡ blocks_in w s (end + 2) count
  blocks_at w count e f =
      blocks_again s ∙
      (λ i. blocks_in (sym e i) s (sym h.names i + 2) (sym (f ∙ ap (λ (k : ℕ). num_at s k 2) h.names) i))

  blocks_pass :
      {types : List ℕ} (w count : ℕ) → types ≡ types_in s → w ≡ id_bytes (num_at s 4 1) → count ≡ num_at s end 2 →
      BlocksPass (length types) (blocks_in w s (end + 2) count)
  blocks_pass {types} w count t e f =
      let again = record_again s h.it h.behind h.reads in
      let same : blocks_in w s (end + 2) count ≡ (plain h.it).blocks =
      sym (blocks_at w count e f) ∙ sym (ap (λ (r : Record Placed). (plain r).blocks) again) in
      let many : length (plain h.it).names ≡ length types =
      ap (λ (r : Record Placed). length r.names) again ∙ names_in s ∙ sym (types_many t) in
      subst (λ (n : ℕ). BlocksPass n (blocks_in w s (end + 2) count)) many
      (subst (BlocksPass (length (plain h.it).names))
      (sym (accepted_blocks s h.it h.behind h.reads) ∙ sym same)
      (accepted_pass s h.it h.behind h.reads))

-- ---- a record whose head says F
module _ {s : List ℕ} {F : Layout} (h : Reads s F.end) (l : F ≡ layout_of s) where
  wide : F.width ≡ id_bytes (num_at s 4 1)
  unfolding layout_of
  wide = ap (λ (x : Layout). x.width) l

  few_arguments : F.args ≡ num_at s 5 1
  unfolding layout_of
  few_arguments = ap (λ (x : Layout). x.args) l

  named_count : F.names ≡ names_count s
  unfolding layout_of
  named_count = ap (λ (x : Layout). x.names) l

  pub blocks_count : F.blocks ≡ num_at s F.end 2
  unfolding layout_of
  blocks_count = ap (λ (x : Layout). x.blocks) l ∙ ap (λ (k : ℕ). num_at s k 2) (sym h.names)

  module _ {types : List ℕ} (t : types ≡ types_in s) where
    pub named_many : F.names ≡ length types
    named_many = named_count ∙ sym (types_many h t)

    pub blocks_ask : (at : ℕ) → at ≤ longest_front → BlocksAsk F s (record { p = F.end + 2; q = at }) (record { k = 0; total = 0 }) F.blocks
    blocks_ask at b =
        let n : F.blocks ≤ 64 = omega (arith, blocks_count, few_blocks h) in
        let m : F.end ≤ longest_names = h.near in
        record {
          width = subst IdWidth (sym wide) (id_width (num_at s 4 1));
          names = omega (arith, named_count, few_original h);
          arguments = omega (arith, few_arguments, few_args h);
          made = omega (arith, n, named_count, few_original h);
          total = omega arith;
          reads = omega arith;
          writes = omega arith;
          passing =
              subst (λ (k : ℕ). BlocksPass k (blocks_in F.width s (F.end + 2) F.blocks)) (sym named_many)
              (blocks_pass h F.width F.blocks t wide blocks_count);
        }

    module _
        {names names' each each' out out' : List ℕ} {r : Behind} (at : ℕ)
        (done :
        (bs : List (Block Instr)) →
        BlocksDone F.width (record { args = F.args; types = types; blocks = bs }) s (record { p = F.end + 2; q = at }) r F.blocks
        names names' each each' out out')
      where
        again_blocks : (record_in s).blocks ≡ blocks_in F.width s (F.end + 2) F.blocks
        again_blocks = blocks_at h F.width F.blocks wide blocks_count

        exact : BlocksDone F.width (function (record_in s)) s (record { p = F.end + 2; q = at }) r F.blocks names names' each each' out out'
        exact =
            let same : ◌≡◌ {A = Function} (record { args = F.args; types = types; blocks = (record_in s).blocks }) (function (record_in s)) =
            λ i. record { args = (few_arguments ∙ sym (args_in s)) i; types = t i; blocks = (record_in s).blocks } in
            subst
            (λ (g : Function). BlocksDone F.width g s (record { p = F.end + 2; q = at }) r F.blocks names names' each each' out out') same
            (done (record_in s).blocks)

        pub blocks_put : Wrote out out' at r.at.q (blocks_bytes (rewriting_in s))
        unfolding rewriting
        blocks_put =
            subst (λ (k : ℕ). Wrote out out' at r.at.q (join (map (block_bytes k) (lvn (function (record_in s))).blocks)))
            (wide ∙ ap id_bytes (sym (version_in s)))
            (blocks_written (record_in s) again_blocks exact)

        pub blocks_noted : 256 * num_at s F.end 2 ≤ length names → Noted s names' r.count.total
        blocks_noted room =
            let x = record_in s in
            let many : r.count.total ≡ length (made x) = made_many x again_blocks exact in
            let few : length (made x) ≤ length names = omega (arith, made_each h, room) in
            let same : length (indexes (made x)) ≡ length (made x) = length-map (made x) (λ (y : NameIx). y.0) in
            let noted : Wrote names names' 0 r.count.total (indexes (made x)) = made_noted x again_blocks exact in
            let whole : names' ≡ indexes (made x) ++ drop (length (indexes (made x))) names =
            noted.out ∙ put_first names (indexes (made x)) (omega (arith, same, few)) in
            record {
              many = many;
              room = omega (arith, many, few, ap length noted.out, length_put names 0 (indexes (made x)));
              saved =
                  (λ i. take ((many ∙ sym same) i) (whole i)) ∙
                  take-append_seam (indexes (made x)) (drop (length (indexes (made x))) names);
            }

        pub blocks_figured : each' ≡ put each 0 (figures_in s)
        unfolding rewriting
        blocks_figured = instructions_noted (record_in s) again_blocks exact

-- ---- the made names
again : (xs : List NameIx) → map nm (indexes xs) ≡ xs
again [] = refl
again (x ∷ xs) = ap (λ (l : List NameIx). x ∷ l) (again xs)

-- row: those that they are made of
module _ {s row : List ℕ} {end : ℕ} (h : Reads s end) (m : row ≡ indexes (made (record_in s))) where
  row_many : length row ≡ length (made (record_in s))
  row_many = ap length m ∙ length-map (made (record_in s)) (λ (y : NameIx). y.0)

  pub few_made : length row ≤ 16384
  few_made = omega (arith, row_many, made_few (record_in s) (record_ok h))

  pub made_named : Named row (length row) (names_count s)
  made_named j l =
      let x = record_in s in
      let e : get_or row j 0 ≡ (get_or (made x) j (nm 0)).0 =
      ap (λ (t : List ℕ). get_or t j 0) m ∙ get_or-map (λ (y : NameIx). y.0) (made x) j (nm 0) in
      let o : (get_or (made x) j (nm 0)).0 < length x.names = made_original x (record_ok h) j (omega (arith, row_many, l)) in
      omega (arith, e, o, names_in s)

  pub made_short : Short s (names_count s)
  made_short = names_short s (names_lie h) (record_ok h).names

  made_again : map nm row ≡ made (record_in s)
  made_again = ap (map nm) m ∙ again (made (record_in s))

  -- ---- how long is what stands before the blocks; n: the bytes of the made names
  pub front_measured :
      {n : ℕ} → n ≡ length (join (map name_bytes (made_names (record_in s) 0 (map nm row)))) →
      end + 2 + n ≡ length (join (be 4 0 ∷ front_parts (rewriting_in s)))
  unfolding rewriting
  front_measured {n} e =
      let x = record_in s in
      let old : total name_bytes x.names ≡ names_end s - 8 =
      sym (ap length (names_copied s (names_lie h))) ∙
      length-take-le (names_end s - 8) (drop 8 s) (omega (arith, length-drop 8 s, names_lie h)) in
      let new : n ≡ total name_bytes (made_names x 0 (made x)) =
      e ∙ ap (λ (xs : List NameIx). total name_bytes (made_names x 0 xs)) made_again in
      let both : total name_bytes (x.names ++ made_names x 0 (made x)) ≡ total name_bytes x.names + total name_bytes (made_names x 0 (made x)) =
      total_append name_bytes x.names (made_names x 0 (made x)) in
      omega (arith, old, new, both, front_total (rewriting x), h.names, names_on h)

  -- ---- what stands before the blocks; l: L, v: version, a: A, n: N + K, b: B
  pub front_put :
      {o1 o2 o3 o4 o5 o6 : List ℕ} {p q : ℕ} (l v a n b : ℕ) →
      o2 ≡ put o1 0 (be 4 l) →
      Wrote o2 o3 4 8 (be 1 v ++ (be 1 a ++ be 2 n)) →
      Wrote o3 o4 8 p (take (end - 8) (drop 8 s)) →
      Wrote o4 o5 p q (join (map name_bytes (made_names (record_in s) 0 (map nm row)))) →
      o6 ≡ put o5 q (be 2 b) →
      v ≡ num_at s 4 1 → a ≡ num_at s 5 1 → n ≡ names_count s + length row → b ≡ num_at s end 2 →
      Wrote o1 o6 0 (q + 2) (join (be 4 l ∷ front_parts (rewriting_in s)))
  unfolding rewriting lvn
  front_put {o1} {o3 = o3} {o4 = o4} {o5 = o5} {o6 = o6} {p = p} {q = q} l v a n b e1 e2 e3 e4 e5 ev ea en eb =
      let x = record_in s in
      let g3 : Wrote o3 o4 8 p (join (map name_bytes x.names)) =
      subst (Wrote o3 o4 8 p) (ap (λ (z : ℕ). take (z - 8) (drop 8 s)) h.names ∙ names_copied s (names_lie h)) e3 in
      let g4 : Wrote o4 o5 p q (join (map name_bytes (made_names x 0 (made x)))) =
      subst (λ (xs : List NameIx). Wrote o4 o5 p q (join (map name_bytes (made_names x 0 xs)))) made_again e4 in
      let n' : n ≡ length (x.names ++ made_names x 0 (made x)) =
      en ∙ (λ i. sym (names_in s) i + row_many i) ∙ sym (rewriting_names x (record_ok h)) in
      let b' : b ≡ length (lvn (function x)).blocks =
      eb ∙ ap (λ (z : ℕ). num_at s z 2) h.names ∙ sym (blocks_number s) ∙ sym (blocks_length (function x) 0 x.blocks) in
      subst
      (λ (z : List (List ℕ)). Wrote o1 o6 0 (q + 2) (join (be 4 l ∷ z)))
      (λ i.
      be 1 ((ev ∙ sym (version_in s)) i) ∷ be 1 ((ea ∙ sym (args_in s)) i) ∷ be 2 (n' i) ∷
      join (map name_bytes (x.names ++ made_names x 0 (made x))) ∷ be 2 (b' i) ∷ [])
      (front_written l v a n b x.names (made_names x 0 (made x)) e1 e2 g3 g4 e5)
