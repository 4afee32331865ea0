-- How far behind its start a part of a record can end, whatever the bytes are.
use Rattle.std.specs.Prelude.{ℕ, ◌+◌, ◌*◌}

-- the bytes of an id
abbrev pub widest_id : ℕ
widest_id = 8

-- a count of one byte, and two bytes for each that it counts
abbrev pub row_reach : ℕ
row_reach = 1 + 2 * 255

-- a destination, a literal, arguments, a callee, blocks
abbrev pub operands_reach : ℕ
operands_reach = 2 + 9 + row_reach + 2 + 2 * 255

abbrev pub instr_reach : ℕ
instr_reach = widest_id + 1 + operands_reach

-- two counts of two bytes and the instructions
abbrev pub block_reach : ℕ
block_reach = 2 + 2 + instr_reach * 65535

-- type, length and text
abbrev pub name_reach : ℕ
name_reach = 1 + 1 + 255
