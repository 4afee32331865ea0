-- An accepted record read again, by its bytes: its instructions and blocks, the tests that they pass, and the record itself.
use Rattle.std.specs.Prelude.{ℕ, ◌≤◌, List, [], ◌∷◌, ◌≡◌}
use Rattle.record.specs.Record.{Instr, Placed, Block, Record, plain_block, plain, function, limits}
use Rattle.record.specs.Reader.{got}
use Rattle.record.specs.Read.{read}
use Rattle.record.specs.Good.{Each, InstrOk, BlockOk}
use Rattle.record.specs.Decode.{items, behind, instr_from, instr_end, block_from, block_end, names_end, record_from}
use Rattle.record.specs.Sizes.{longest_names}

-- ---- instructions
-- n instructions from a place on, and the place behind them; w: the bytes of an id
unfoldable pub instrs_from : ℕ → List ℕ → ℕ → ℕ → List Instr
instrs_from w s p n = items (instr_from w s) (instr_end w s) p n

unfoldable pub instrs_end : ℕ → List ℕ → ℕ → ℕ → ℕ
instrs_end w s p n = behind (instr_end w s) p n

-- an instruction that passes its tests, in a record of N names and so many blocks; left: how many stand behind it
pub record Passes (N : ℕ) (i : Instr) : Type 0 where
  pub blocks : ℕ
  pub left : ℕ
  pub ok : InstrOk N blocks left i

abbrev pub Passing : ℕ → List Instr → Type 0
Passing N [] = Unit {0}
Passing N (i ∷ is) = Passes N i × Passing N is

-- ---- blocks
-- the block at a place, n blocks from a place on, and the place behind them; w: the bytes of an id
abbrev pub block_in : ℕ → List ℕ → ℕ → Block Instr
block_in w s at = plain_block (block_from w s at)

unfoldable pub blocks_in : ℕ → List ℕ → ℕ → ℕ → List (Block Instr)
blocks_in w s at n = items (block_in w s) (block_end w s) at n

unfoldable pub blocks_behind : ℕ → List ℕ → ℕ → ℕ → ℕ
blocks_behind w s at n = behind (block_end w s) at n

-- they pass their tests, in a record of N names and so many blocks
pub record BlocksPass (N : ℕ) (bs : List (Block Instr)) : Type 0 where
  pub blocks : ℕ
  pub each : Each (λ left b. BlockOk limits N blocks b) bs

-- ---- the record
-- the record that stands in these bytes
abbrev pub record_in : List ℕ → Record Instr
record_in s = plain (record_from s)

-- the types of its names
abbrev pub types_in : List ℕ → List ℕ
types_in s = (function (record_in s)).types

-- s is read without a fault, and its names end there
pub record Reads (s : List ℕ) (end : ℕ) : Type 0 where
  pub it : Record Placed
  pub behind : ℕ
  pub reads : read limits s 0 ≡ got it behind
  pub names : end ≡ names_end s
  pub near : end ≤ longest_names
