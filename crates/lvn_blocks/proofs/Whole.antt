-- What the code has behind the last block of a record is what the rewriting has.
use Prim.Native.Nat.{ℕ, ◌+◌}
use mathlib.Core.Path.{◌≡◌, sym, ap, ◌∙◌, subst}
use mathlib.Core.List.{List, map}
use native.Mathlib.Omega.{arith}
use lib.ListN.{length, length-map}
use Rattle.record.specs.declared.NameIx.{NameIx}
use Rattle.record.specs.Record.{Instr, Block, Record, function, names_of}
use Rattle.record.specs.Write.{join, block_bytes}
use Rattle.record.specs.Again.{blocks_in}
use Rattle.numbering.specs.Number.{blocks_lvn, made_from, lvn}
use Rattle.numbering.specs.Made.{made}
use Rattle.numbering.specs.Figures.{instructions}
use Rattle.write_bytes.specs.Put.{put, Wrote}
use Rattle.read_layout.specs.declared.Spot.{Spot}
use Rattle.lvn_blocks.specs.declared.Behind.{Behind}
use Rattle.lvn_blocks.specs.Block.{indexes}
use Rattle.lvn_blocks.specs.Blocks.{BlocksDone}

-- ---- what the code has behind the last block
module _
    {w : ℕ} {s : List ℕ} {at : Spot} {r : Behind} {n : ℕ} {names names' each each' out out' : List ℕ}
    (x : Record Instr)
    (same : x.blocks ≡ blocks_in w s at.p n)
    (done : BlocksDone w (function x) s at r n names names' each each' out out')
  where
    whole : blocks_lvn (function x) 0 (blocks_in w s at.p n) ≡ (lvn (function x)).blocks
    unfolding lvn
    whole = λ z. blocks_lvn (function x) 0 (sym same z)

    -- the blocks of the rewriting are written
    pub blocks_written : Wrote out out' at.q r.at.q (join (map (block_bytes w) (lvn (function x)).blocks))
    blocks_written = subst (λ (bs : List (Block Instr)). Wrote out out' at.q r.at.q (join (map (block_bytes w) bs))) whole done.written

    -- the table holds what each K saved
    pub made_noted : Wrote names names' 0 r.count.total (indexes (made x))
    made_noted =
        subst (λ (bs : List (Block Instr)). Wrote names names' 0 r.count.total (indexes (made_from (names_of (function x)) bs))) whole
        done.noted

    -- the total counts the saves
    pub made_many : r.count.total ≡ length (made x)
    made_many =
        let e : r.count.total ≡ 0 + length (indexes (made x)) = made_noted.end in
        let f : length (indexes (made x)) ≡ length (made x) = length-map (made x) (λ (y : NameIx). y.0) in
        omega arith

    -- the places hold how many instructions each block has
    pub instructions_noted : each' ≡ put each 0 (map instructions (lvn (function x)).blocks)
    instructions_noted = done.figured.out ∙ ap (λ (bs : List (Block Instr)). put each 0 (map instructions bs)) whole
