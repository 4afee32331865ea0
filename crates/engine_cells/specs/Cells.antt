-- The cells of the names as a store: what each name holds, whatever its cell is.
use Rattle.std.specs.Prelude.{ℕ, List, map, cond, ◌≡◌, Option as CodeOption, None, Some, get_or, length, leb, eqb}
use Rattle.std.proofs.Math.Option.{Option, none, some}
use Rattle.arith.specs.Value.{Val, pointer}
use Rattle.record.specs.declared.NameIx.{NameIx}
use Rattle.record.specs.Write.{join}
use Rattle.record.specs.Decode.{items, two_on, index_from}
use Rattle.machine.specs.Machine.{Store}
use Rattle.write_bytes.specs.Put.{put}
use Rattle.running.specs.House.{held, nothing_byte, value_bytes}
use Rattle.running.specs.Items.{plain_from}
use Rattle.engine_cells.specs.declared.Cell.{Cell}
use Rattle.engine_cells.specs.declared.Cells.{Cells}

-- ---- a cell
-- the value with this type byte: to 04 its word's, above it a pointer with base and offset
unfoldable pub value_by : ℕ → ℕ → ℕ → Val
value_by kind word offset = cond (leb kind held) (plain_from kind word) (pointer kind word offset)

-- a value, or nothing
unfoldable pub held_by : ℕ → ℕ → ℕ → Option Val
held_by kind word offset = cond (eqb kind nothing_byte) none (some (value_by kind word offset))

abbrev pub cell_value : Cell → Val
cell_value c = value_by c.kind c.word c.offset

abbrev pub cell_holds : Cell → Option Val
cell_holds c = held_by c.kind c.word c.offset

-- ---- the cells of the names, as many as there are; past the last nothing is held
module _ {N : ℕ} (cells : Cells N) (x : ℕ) where
  abbrev pub cell_in : Cell
  cell_in = record { kind = get_or cells.kinds x nothing_byte; word = get_or cells.words x 0; offset = get_or cells.offsets x 0 }

  abbrev pub kind_in : ℕ
  kind_in = cell_in.kind

  abbrev pub word_in : ℕ
  word_in = cell_in.word

  abbrev pub offset_in : ℕ
  offset_in = cell_in.offset

  abbrev pub value_in : Val
  value_in = cell_value cell_in

unfoldable pub store_in : {N : ℕ} → Cells N → Store
store_in cells x = cell_holds (cell_in cells x.0)

-- ---- what is held, read at a type: a value of another type counts as not set, as in arith's operations
abbrev pub found : {A : Type 0} → Option A → CodeOption A
found none = None
found (some a) = Some a

-- to: arith's as_int or as_bool
unfoldable pub held_as : {A : Type 0} → (Val → Option A) → Option Val → CodeOption A
held_as to none = None
held_as to (some v) = found (to v)

-- ---- a row of names
-- the n names whose indexes stand from a place of the record on
abbrev pub row_from : List ℕ → ℕ → ℕ → List NameIx
row_from s at n = items (index_from s) two_on at n

-- the bytes of values one after the other
abbrev pub values_bytes : List Val → List ℕ
values_bytes vs = join (map value_bytes vs)

-- how many they are, of values that were read
unfoldable pub size_of : Option (List Val) → CodeOption ℕ
size_of none = None
size_of (some vs) = Some (length (values_bytes vs))

-- they are written from a place on, if they were read
unfoldable pub RowWritten : List ℕ → List ℕ → ℕ → Option (List Val) → Type 0
RowWritten l m to none = Unit {0}
RowWritten l m to (some vs) = m ≡ put l to (values_bytes vs)
