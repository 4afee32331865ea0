-- What the second pass answers by the bytes alone: the place behind what it looked at, or the first instruction that breaks its rule.
use Rattle.std.specs.Prelude.{ℕ, List, Result}
use Rattle.record.specs.declared.Fault.{Fault}
use Rattle.record.specs.Record.{type_in}
use Rattle.record.specs.Reader.{got}
use Rattle.record.specs.Typing.{body_types, block_types}
use Rattle.record.specs.Answer.{verdict}
use Rattle.record.specs.Decode.{items, behind, placed_from, instr_end, body_from, block_from, block_end}

-- w: the bytes of an id; types: the type of each name
module _ (w : ℕ) (types s : List ℕ) where
  -- the n instructions from a place on
  unfoldable pub body_verdict : ℕ → ℕ → Result ℕ Fault
  body_verdict at n =
      let is = items (placed_from w s) (instr_end w s) at n in
      verdict (body_types {A = Unit {0}} (type_in types) is (got tt (behind (instr_end w s) at n)))

  -- the block at a place
  unfoldable pub block_verdict : ℕ → Result ℕ Fault
  block_verdict at = verdict (body_types {A = Unit {0}} (type_in types) (body_from w s at) (got tt (block_end w s at)))

  -- the n blocks from a place on
  unfoldable pub blocks_verdict : ℕ → ℕ → Result ℕ Fault
  blocks_verdict at n =
      let bs = items (block_from w s) (block_end w s) at n in
      verdict (block_types {A = Unit {0}} (type_in types) bs (got tt (behind (block_end w s) at n)))
