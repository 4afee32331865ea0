-- The rewriting of a record that passes the tests passes the wide ones: names, blocks and instructions.
use Prim.Native.Nat.{ℕ, suc, ◌+◌, ◌*◌, ◌<◌, ◌≤◌}
use mathlib.Core.Path.{◌≡◌, refl, sym, ap, ◌∙◌, subst}
use mathlib.Core.Bool.{true}
use mathlib.Core.List.{List, [], ◌∷◌}
use native.Mathlib.Omega.{arith}
use lib.ListN.{length, get_or, length-append, length-map}
use Rattle.record.specs.declared.NameIx.{NameIx}
use Rattle.record.specs.declared.Limits.{Limits}
use Rattle.std.specs.Prelude.{Ok}
use Rattle.record.specs.Record.{nm, Instr, Block, Record, Function, function, texts, names_of, type_in, limits, wide}
use Rattle.record.specs.Tests.{saves_test}
use Rattle.record.specs.Good.{Each, BlockOk, RecordOk}
use Rattle.record.proofs.Tests.{at_most_le, le_at_most, names_limit, names_args, names_passes}
use Rattle.numbering.specs.State.{start}
use Rattle.numbering.specs.Number.{block_lvn, blocks_lvn, lvn}
use Rattle.numbering.specs.Made.{made_names, made, rewriting}
use Rattle.numbering.specs.Ways.{all_saves}
use Rattle.numbering.proofs.Codes.{body_originals}
use Rattle.numbering.proofs.Made.{OriginalBlocks, lvn_makes, temps_behind, made_length, made_temps, made_below}
use Rattle.numbering.proofs.Homes.{start_homed}
use Rattle.numbering.proofs.Passes.{LiteralOk, block_passes, block_few}
use Rattle.numbering.proofs.Names.{names_wider, names_append, input_fresh, made_names_pass, made_names_length}

saves_pass : (n : ℕ) → saves_test true n ≡ Ok tt
unfolding saves_test
saves_pass n = refl

-- ---- blocks
abbrev pub BlocksOk : Limits → ℕ → ℕ → List (Block Instr) → Type 0
BlocksOk lim N B bs = Each (λ left b. BlockOk lim N B b) bs

pub original_blocks : (N B : ℕ) (t : NameIx → ℕ) (bs : List (Block Instr)) → BlocksOk limits N B bs → OriginalBlocks N t bs
original_blocks N B t [] h = tt
original_blocks N B t (b ∷ bs) h = (body_originals N B t b.body h.0.body, original_blocks N B t bs h.1)

pub blocks_length : (f : Function) (k : ℕ) (bs : List (Block Instr)) → length (blocks_lvn f k bs) ≡ length bs
unfolding blocks_lvn
blocks_length f k [] = refl
blocks_length f k (b ∷ bs) = ap suc (blocks_length f (block_lvn (names_of f) (type_in f.types) (start f.args k) b.body).temps bs)

module _ (f : Function) (B : ℕ) where
  -- K behind a block, and how long it becomes
  block_bounds :
      (k : ℕ) (b : Block Instr) → BlockOk limits (names_of f) B b →
      ((block_lvn (names_of f) (type_in f.types) (start f.args k) b.body).temps ≤ k + 256) ×
      (length (block_lvn (names_of f) (type_in f.types) (start f.args k) b.body).body ≤ 512)
  unfolding start
  block_bounds k b h =
      let n : length b.body ≤ 256 = at_most_le 256 (length b.body) h.size in
      let q = block_few (names_of f) B (type_in f.types) b.body (start f.args k) h.body in
      (omega arith, omega arith)

  pub blocks_few : (bs : List (Block Instr)) (k : ℕ) → BlocksOk limits (names_of f) B bs → temps_behind f k bs ≤ k + 256 * length bs
  blocks_few [] k h = omega arith
  blocks_few (b ∷ bs) k h =
      let q = block_lvn (names_of f) (type_in f.types) (start f.args k) b.body in
      let e = block_bounds k b h.0 in
      let rest : temps_behind f q.temps bs ≤ q.temps + 256 * length bs = blocks_few bs q.temps h.1 in
      omega arith

  pub blocks_pass :
      (M : ℕ) (bs : List (Block Instr)) (k : ℕ) →
      f.args ≤ names_of f →
      BlocksOk limits (names_of f) B bs →
      names_of f + temps_behind f k bs ≤ M →
      BlocksOk wide M B (blocks_lvn f k bs)
  unfolding blocks_lvn
  blocks_pass M [] k a h l = tt
  blocks_pass M (b ∷ bs) k a h l =
      let N = names_of f in
      let t = type_in f.types in
      let q = block_lvn N t (start f.args k) b.body in
      let e : temps_behind f q.temps bs ≡ q.temps + all_saves (blocks_lvn f q.temps bs) =
      made_temps f bs q.temps (original_blocks N B t bs h.1) in (
        record {
          size = le_at_most 512 (length q.body) (block_bounds k b h.0).1;
          saves = saves_pass _;
          body = block_passes N B M t b.body (start f.args k) (start_homed LiteralOk N f.args k a) h.0.body (omega arith);
        },
        blocks_pass M bs q.temps a h.1 l,
      )

-- ---- a record
module _ (r : Record Instr) (h : RecordOk limits r) where
  names_count : names_of (function r) ≡ length r.names
  names_count = length-map r.names (λ x. x.type)

  pub input_blocks : BlocksOk limits (names_of (function r)) (length r.blocks) r.blocks
  input_blocks = subst (λ (n : ℕ). BlocksOk limits n (length r.blocks) r.blocks) (sym names_count) h.blocks

  pub input_originals : OriginalBlocks (names_of (function r)) (type_in (function r).types) r.blocks
  input_originals = original_blocks (names_of (function r)) (length r.blocks) (type_in (function r).types) r.blocks input_blocks

  -- as many names are made as K says behind the last block
  pub made_count : length (made r) ≡ temps_behind (function r) 0 r.blocks
  unfolding lvn
  made_count =
      let e : temps_behind (function r) 0 r.blocks ≡ 0 + all_saves (blocks_lvn (function r) 0 r.blocks) =
      made_temps (function r) r.blocks 0 input_originals in
      let m : length (made r) ≡ all_saves (blocks_lvn (function r) 0 r.blocks) = made_length (function r) r.blocks 0 in
      omega arith

  pub made_few : length (made r) ≤ 16384
  made_few =
      let b : length r.blocks ≤ 64 = at_most_le 64 (length r.blocks) h.count in
      let k : temps_behind (function r) 0 r.blocks ≤ 0 + 256 * length r.blocks =
      blocks_few (function r) (length r.blocks) r.blocks 0 input_blocks in
      let m : length (made r) ≡ temps_behind (function r) 0 r.blocks = made_count in
      omega arith

  -- names that are saved are those of the input
  pub made_original : (j : ℕ) → j < length (made r) → (get_or (made r) j (nm 0)).0 < length r.names
  unfolding lvn
  made_original j l =
      subst (λ (n : ℕ). (get_or (made r) j (nm 0)).0 < n) names_count
      (made_below (names_of (function r)) 0 (lvn (function r)).blocks (lvn_makes (function r) input_originals) j l)

  -- N + K
  pub rewriting_names : length (rewriting r).names ≡ length r.names + length (made r)
  unfolding rewriting
  rewriting_names =
      length-append r.names (made_names r 0 (made r)) ∙ ap (λ (n : ℕ). length r.names + n) (made_names_length r 0 (made r))

  pub rewriting_passes : RecordOk wide (rewriting r)
  unfolding rewriting lvn
  rewriting_passes =
      let f = function r in
      let N : length r.names ≤ 256 = names_limit 256 r.args (length r.names) h.size in
      let a : r.args ≤ length r.names = names_args 256 r.args (length r.names) h.size in
      let K : length (made r) ≤ 16384 = made_few in
      let c : length (made r) ≡ temps_behind f 0 r.blocks = made_count in
      let n : names_of f ≡ length r.names = names_count in
      let m : length (rewriting r).names ≡ length r.names + length (made r) = rewriting_names in
      record {
        version = h.version;
        args = h.args;
        size = names_passes 16640 r.args (length (rewriting r).names) (omega arith) (omega arith);
        names = names_append [] r.names (made_names r 0 (made r)) (names_wider [] r.names h.names)
            (made_names_pass r h.names (made r) 0 (texts r) made_original (omega arith) (input_fresh [] r.names 0 h.names));
        count = rw (blocks_length f 0 r.blocks) h.count;
        blocks = rw (blocks_length f 0 r.blocks)
            (blocks_pass f (length r.blocks) (length (rewriting r).names) r.blocks 0 (omega arith) input_blocks (omega arith));
      }
