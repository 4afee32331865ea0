-- How long the parts of an accepted record and of what is written for them can be, and how far places reach: bounds by which no sum
-- of a place and a size wraps.
use Rattle.std.specs.Prelude.{ℕ}

-- the names of a record, the instructions of a block, and the numbers that a block can need, one for each of both
abbrev pub most_names : ℕ
most_names = 256

abbrev pub most_body : ℕ
most_body = 256

abbrev pub most_numbers : ℕ
most_numbers = 512

-- what stands behind a code: dest, literal, eight arguments and their count, callee, eight block numbers, as if a code had them all
abbrev pub longest_operands : ℕ
longest_operands = 46

-- an instruction: an id of at most eight bytes, the code and its operands
abbrev pub longest_instr : ℕ
longest_instr = 55

-- an instruction and the save before it
abbrev pub longest_lines : ℕ
longest_lines = 110

-- a block: 4 bytes and 256 instructions; and as it is written, with its saves
abbrev pub longest_block : ℕ
longest_block = 14100

abbrev pub longest_block_lines : ℕ
longest_block_lines = 28200

-- all up to the end of the names: 8 bytes and 256 names
abbrev pub longest_names : ℕ
longest_names = 70000

-- a whole record
abbrev pub longest_record : ℕ
longest_record = 1000000

-- places are numbers of four bytes
abbrev pub places_end : ℕ
places_end = 4294967296
