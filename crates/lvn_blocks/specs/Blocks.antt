-- Whole blocks read again, numbered and written, and all blocks of a record: what the code asks of them and what it then has.
use Rattle.std.specs.Prelude.{ℕ, ◌+◌, ◌*◌, ◌<◌, ◌≤◌, List, map, ◌≡◌}
use Rattle.record.specs.declared.NameIx.{NameIx}
use Rattle.record.specs.Record.{Instr, Block, Function, names_of}
use Rattle.record.specs.Write.{join, block_bytes}
use Rattle.record.specs.Decode.{block_end}
use Rattle.record.specs.Again.{block_in, blocks_in, BlocksPass}
use Rattle.record.specs.Sizes.{most_names, most_body, longest_block, longest_block_lines, places_end}
use Rattle.numbering.specs.State.{start}
use Rattle.numbering.specs.Number.{Numbered, block_lvn, blocks_lvn, count_saves, saved_in, made_from}
use Rattle.numbering.specs.Figures.{instructions}
use Rattle.write_bytes.specs.Put.{Wrote, IdWidth}
use Rattle.read_layout.specs.declared.Layout.{Layout}
use Rattle.read_layout.specs.declared.Spot.{Spot}
use Rattle.lvn_blocks.specs.declared.SaveCount.{SaveCount}
use Rattle.lvn_blocks.specs.declared.Behind.{Behind}
use Rattle.lvn_blocks.specs.Block.{indexes}

-- ---- what n more blocks ask, from a place on, with the count c before them: that they pass their tests, and that there is room
pub record BlocksAsk (F : Layout) (s : List ℕ) (at : Spot) (c : SaveCount) (n : ℕ) : Type 0 where
  pub width : IdWidth F.width
  pub names : F.names ≤ most_names
  pub arguments : F.args ≤ most_names
  pub made : F.names + c.k + most_body * n < 65535
  pub total : c.total ≤ c.k
  pub reads : at.p + longest_block * n < places_end
  pub writes : at.q + longest_block_lines * n < places_end
  pub passing : BlocksPass F.names (blocks_in F.width s at.p n)

-- ---- a block as it is written
abbrev pub block_as : ℕ → Numbered → Block Instr
block_as N b = record { saves = count_saves N b.body; body = b.body }

-- the block at p, numbered with K from k on; ty: the type of a name
abbrev pub numbered_in : Layout → List ℕ → (NameIx → ℕ) → ℕ → ℕ → Numbered
numbered_in F s ty p k = block_lvn F.names ty (start F.args k) (block_in F.width s p).body

-- one block done: r is the place behind it, and c' the count there; made: the table of what each K saved
pub record BlockDone
    (F : Layout) (s : List ℕ) (ty : NameIx → ℕ) (at : Spot) (c : SaveCount) (r : Spot) (c' : SaveCount) (made made' out out' : List ℕ)
    : Type 0 where
  pub written :
      Wrote out out' at.q r.q (block_bytes F.width (block_as F.names (numbered_in F s ty at.p c.k)))
  pub noted : Wrote made made' c.k c'.k (indexes (saved_in F.names (numbered_in F s ty at.p c.k).body))
  pub temps : c'.k ≡ (numbered_in F s ty at.p c.k).temps
  pub total : c'.total ≡ c.total + count_saves F.names (numbered_in F s ty at.p c.k).body
  pub next : r.p ≡ block_end F.width s at.p
  pub near : r.p ≤ at.p + longest_block
  pub close : r.q ≤ at.q + longest_block_lines
  pub few : c'.k ≤ c.k + most_body

-- n blocks done, of a function f, K from 0 on; w: the bytes of an id; each: the table of their instructions
pub record BlocksDone
    (w : ℕ) (f : Function) (s : List ℕ) (at : Spot) (r : Behind) (n : ℕ) (made made' each each' out out' : List ℕ) : Type 0 where
  pub written : Wrote out out' at.q r.at.q (join (map (block_bytes w) (blocks_lvn f 0 (blocks_in w s at.p n))))
  pub noted :
      Wrote made made' 0 r.count.total (indexes (made_from (names_of f) (blocks_lvn f 0 (blocks_in w s at.p n))))
  pub figured : Wrote each each' 0 n (map instructions (blocks_lvn f 0 (blocks_in w s at.p n)))
  pub close : r.at.q ≤ at.q + longest_block_lines * n
