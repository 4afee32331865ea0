-- What reading the house form comes to in the code: an item as a cell, a store as cells, a list of answers as their number.
use Rattle.std.specs.Prelude.{ℕ, zero, suc, ◌+◌, ◌<◌, ◌≤◌, List, map, Bool, true, false, cond, ◌||◌, ◌≡◌, ◌≢◌, eqb, length, Option as CodeOption, None, Some}
use Rattle.std.proofs.Math.Option.{Option, none}
use Rattle.arith.specs.Value.{Val, is_pointer}
use Rattle.record.specs.declared.NameIx.{NameIx}
use Rattle.record.specs.Reader.{Res, got, fault, num_at}
use Rattle.record.specs.Write.{join}
use Rattle.record.specs.Decode.{items}
use Rattle.machine.specs.Machine.{Answer, value, go_on, halt}
use Rattle.running.specs.House.{nothing_byte, go_on_byte, halt_byte, value_type, of_type, of_types, holding, values_from, stored_bytes}
use Rattle.running.specs.Items.{answer_from, answer_end}
use Rattle.read_fields.specs.Opens.{longest_form}
use Rattle.engine_cells.specs.declared.Cell.{Cell}
use Rattle.engine_cells.specs.declared.Cells.{Cells}
use Rattle.engine_cells.specs.Cells.{cell_value, cell_holds, store_in}
use Rattle.engine_house.specs.declared.Answer.{Answer as Told}
use Rattle.engine_house.specs.declared.Answer.TheVariants.{GoOn, Halt, Value}
use Rattle.engine_house.specs.declared.Item.{Item}

-- ---- items
-- a cell, and the place behind it
abbrev pub item : Cell → ℕ → Item
item c p = record { cell = c; end = p }

-- a cell with this value, and the place behind it
pub record CellOf (v : Val) (p : ℕ) (r : CodeOption Item) : Type 0 where
  pub cell : Cell
  pub is : r ≡ Some (item cell p)
  pub value : cell_value cell ≡ v

-- a value, read or not
unfoldable pub ReadAs : Res Val → CodeOption Item → Type 0
ReadAs (got v p) r = CellOf v p r
ReadAs (fault k o) r = r ≡ None

-- and the cell's type byte
unfoldable pub KindAs : ℕ → CodeOption Item → Type 0
KindAs kind (Some x) = x.cell.kind ≡ kind
KindAs kind None = Unit {0}

-- both behind a byte that is a value's type byte, and nothing behind another
unfoldable pub BehindAs : Bool → ℕ → Res Val → CodeOption Item → Type 0
BehindAs true kind z r = ReadAs z r × KindAs kind r
BehindAs false kind z r = r ≡ None

-- a cell that holds this, and the place behind it
pub record CellWith (o : Option Val) (p : ℕ) (r : CodeOption Item) : Type 0 where
  pub cell : Cell
  pub is : r ≡ Some (item cell p)
  pub holds : cell_holds cell ≡ o

-- a value of the store or nothing, where it has its name's type or not
unfoldable pub TypedAs : Bool → Option Val → ℕ → CodeOption Item → Type 0
TypedAs true o p r = CellWith o p r
TypedAs false o p r = r ≡ None

-- t: the type of its name
unfoldable pub StoredAs : ℕ → Res (Option Val) → CodeOption Item → Type 0
StoredAs t (got o p) r = TypedAs (of_type t o) o p r
StoredAs t (fault k o) r = r ≡ None

-- an answer ends at a place
unfoldable pub EndAs : Res Answer → CodeOption ℕ → Type 0
EndAs (got x p) r = r ≡ Some p
EndAs (fault k o) r = r ≡ None

-- ---- a store
-- cells of which none is set
abbrev pub Blank : {N : ℕ} → Cells N → Type 0
Blank cells = (x : NameIx) → store_in cells x ≡ none

module _ {N : ℕ} where
  -- where each value is of its name's type the cells hold them
  unfoldable pub FitAs : Bool → List (Option Val) → Cells N → CodeOption Unit → Type 0
  FitAs true vs after r = (r ≡ Some tt) × (store_in after ≡ holding vs)
  FitAs false vs after r = r ≡ None

  -- ts: the types of the names
  unfoldable pub StoreAs : List ℕ → Res (List (Option Val)) → Cells N → CodeOption Unit → Type 0
  StoreAs ts (got vs p) after r = FitAs (of_types ts vs) vs after r
  StoreAs ts (fault k o) after r = r ≡ None

-- ---- a list of answers
-- the n answers from a place on have each a byte that stands alone or a type byte
unfoldable pub Sure : List ℕ → ℕ → ℕ → Type 0
Sure s at zero = Unit {0}
Sure s at (suc n) = ((eqb (num_at s at 1) go_on_byte || (eqb (num_at s at 1) halt_byte || value_type (num_at s at 1))) ≡ true) × Sure s (answer_end s at) n

-- n answers, which are xs
pub record ListOf (s : List ℕ) (xs : List Answer) (r : CodeOption ℕ) : Type 0 where
  pub count : ℕ
  pub are : r ≡ Some count
  pub those : xs ≡ items (answer_from s) (answer_end s) 5 count
  pub sure : Sure s 5 count
  pub few : count ≤ length s
  pub short : length s < longest_form

unfoldable pub ListAs : List ℕ → Res (List Answer) → CodeOption ℕ → Type 0
ListAs s (got xs p) r = ListOf s xs r
ListAs s (fault k o) r = r ≡ None

-- ---- a second time
-- what the code has as an answer, by its first byte and the words behind it
abbrev pub answer_by : ℕ → ℕ → ℕ → Told
answer_by kind word offset =
    cond (eqb kind go_on_byte) GoOn (cond (eqb kind halt_byte) Halt (Value (record { kind = kind; word = word; offset = offset })))

abbrev pub answer_there : List ℕ → ℕ → Told
answer_there s at = answer_by (num_at s at 1) (num_at s (at + 1) 8) (num_at s (at + 1 + 8) 8)

-- the answer that it is
abbrev pub answer_of : Told → Answer
answer_of GoOn = go_on
answer_of Halt = halt
answer_of (Value c) = value (cell_value c)

-- a value is one, and not nothing
abbrev pub IsSet : Told → Type 0
IsSet GoOn = Unit {0}
IsSet Halt = Unit {0}
IsSet (Value c) = c.kind ≢ nothing_byte

-- where it ends
abbrev pub end_of : Told → ℕ → ℕ
end_of GoOn at = at + 1
end_of Halt at = at + 1
end_of (Value c) at = cond (is_pointer c.kind) (at + 1 + 8 + 8) (at + 1 + 8)

-- ---- a store written
-- the bytes of what n names hold, the first of them i
abbrev pub values_held : {N : ℕ} → Cells N → ℕ → ℕ → List ℕ
values_held cells i n = join (map stored_bytes (values_from (store_in cells) i n))
