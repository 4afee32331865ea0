-- From what was measured to the answer of figures and to its places.
use Prim.Native.Nat.{ℕ, ◌+◌, ◌<◌, ◌≤◌}
use mathlib.Core.Path.{◌≡◌, refl, sym, ap, ◌∙◌}
use mathlib.Core.List.{List, [], ◌++◌, map}
use mathlib.Core.Bool.{true, false}
use native.Mathlib.Omega.{arith}
use lib.ListN.{length, drop, length-map}
use lib.Dec.{ltb}
use borrow.Author.Tests.{lt-ltb, le-ltb}
use Rattle.std.specs.Prelude.{Ok, Err}
use Rattle.record.specs.declared.Fault.{Fault}
use Rattle.record.specs.Record.{Instr, Block, function, names_of, id_bytes}
use Rattle.record.specs.Reader.{got, num_at}
use Rattle.record.specs.Write.{join, block_bytes, bytes}
use Rattle.record.specs.Answer.{checked}
use Rattle.record.specs.Decode.{items, names_end, record_from}
use Rattle.record.specs.Again.{blocks_in, record_in, Reads}
use Rattle.record.proofs.Again.{blocks_again, blocks_number}
use Rattle.record.proofs.Judged.{accepted_as, refused_as}
use Rattle.numbering.specs.declared.FiguresError.TheVariants.{Refused, TooFew}
use Rattle.numbering.specs.Rewrite.{totals}
use Rattle.numbering.specs.Number.{blocks_lvn, made_from, lvn}
use Rattle.numbering.specs.Made.{made_names, made, rewriting}
use Rattle.numbering.specs.Rewrite.{rewritten_bytes}
use Rattle.numbering.specs.Figures.{instructions, block_figures, figures_result, figures_places, figures, figures_leaves}
use Rattle.numbering.proofs.Ahead.{figures_many}
use Rattle.write_bytes.specs.Put.{put}
use Rattle.write_bytes.proofs.Put.{put_first}
use Rattle.lvn_blocks.specs.Block.{indexes}
use Rattle.rewrite.specs.Parts.{rewriting_in, figures_in, blocks_bytes}
use Rattle.rewrite.proofs.Known.{front_measured}
use Rattle.rewrite.proofs.Parts.{parts_size}
use Rattle.figures.specs.Answers.{FiguredAs}

-- ---- an accepted record: what the definition says of it
module _ (s : List ℕ) (h : checked s ≡ Ok tt) (each : List ℕ) where
  pub accepted_result : figures_result (length each) (got (record_from s) 0) ≡ figures s each
  unfolding figures figures_result
  accepted_result = sym (ap (figures_result (length each)) (accepted_as s h).got)

  pub accepted_places : figures_places each (got (record_from s) 0) ≡ figures_leaves s each
  unfolding figures_leaves figures_places
  accepted_places = sym (ap (figures_places each) (accepted_as s h).got)

-- ---- a refusal of check
module _ (s : List ℕ) (f : Fault) (h : checked s ≡ Err f) (each : List ℕ) where
  pub refused_result : Err (Refused f) ≡ figures s each
  unfolding figures figures_result
  refused_result = sym (ap (figures_result (length each)) (refused_as s f h))

  pub refused_places : each ≡ figures_leaves s each
  unfolding figures_leaves figures_places
  refused_places = sym (ap (figures_places each) (refused_as s f h))

-- ---- counted, or too few places; count: B
module _ (s each : List ℕ) (count : ℕ) (b : count ≡ num_at s (names_end s) 2) where
  many : length (record_from s).blocks ≡ count
  many = sym (length-map (record_from s).blocks _) ∙ blocks_number s ∙ sym b

  few : length each < count → ltb (length each) (length (record_from s).blocks) ≡ true
  few l = lt-ltb (length each) (length (record_from s).blocks) (omega (arith, many, l))

  enough : count ≤ length each → ltb (length each) (length (record_from s).blocks) ≡ false
  enough l = le-ltb (length each) (length (record_from s).blocks) (omega (arith, many, l))

  pub too_few : length each < count → FiguredAs s each (Err TooFew) each
  unfolding figures_result figures_places
  too_few l = rw (few l) (refl, refl)

  pub counted :
      {n k : ℕ} {each' : List ℕ} → count ≤ length each → n ≡ length (bytes (rewriting_in s)) → k ≡ length (made (record_in s)) →
      each' ≡ put each 0 (figures_in s) → FiguredAs s each (Ok (totals n k)) each'
  unfolding figures_result figures_places rewritten_bytes block_figures
  counted l size saves e =
      rw (enough l) (
        (λ i. Ok (totals (size i) (saves i))),
        e ∙ put_first each (figures_in s) (omega (arith, many, figures_many (record_from s), l)) ∙
            ap (λ (m : ℕ). figures_in s ++ drop m each) (figures_many (record_from s)),
      )

-- ---- no block: nothing is numbered, and no name is made
module _ {s : List ℕ} {end : ℕ} (h : Reads s end) (z : num_at s end 2 ≡ 0) where
  count_none : 0 ≡ num_at s (names_end s) 2
  count_none = sym z ∙ ap (λ (k : ℕ). num_at s k 2) h.names

  blocks_none : (record_in s).blocks ≡ []
  unfolding blocks_in items
  blocks_none = blocks_again s ∙ ap (blocks_in _ s _) (sym count_none)

  written_none : (rewriting_in s).blocks ≡ []
  unfolding rewriting lvn blocks_lvn
  written_none = ap (blocks_lvn (function (record_in s)) 0) blocks_none

  made_none : made (record_in s) ≡ []
  unfolding rewriting made_from
  made_none = ap (made_from (names_of (function (record_in s)))) written_none

  row_none : [] ≡ indexes (made (record_in s))
  row_none = ap indexes (sym made_none)

  pub itself : (each : List ℕ) → FiguredAs s each (Ok (totals (end + 2) 0)) each
  unfolding put made_names join
  itself each =
      let front = front_measured h row_none {n = 0} refl in
      let w = id_bytes (rewriting_in s).version in
      let rest : 0 ≡ length (blocks_bytes (rewriting_in s)) =
      ap (λ (bs : List (Block Instr)). length (join (map (block_bytes w) bs))) (sym written_none) in
      let size = parts_size (rewriting_in s) 0 (end + 2 + 0) 0 front rest in
      counted s each 0 count_none (omega arith) (omega (arith, size)) (ap length (sym made_none))
      (ap (λ (bs : List (Block Instr)). put each 0 (map instructions bs)) (sym written_none))
