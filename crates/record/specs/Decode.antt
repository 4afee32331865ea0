-- Where each part of an accepted record stands and what it holds, by its bytes alone: for code that reads it a second time, with no tests.
use Rattle.std.specs.Prelude.{ℕ, zero, suc, ◌+◌, List, [], ◌∷◌, not, take, drop}
use Rattle.std.proofs.Math.Bool.{cond}
use Rattle.record.specs.declared.NameIx.{NameIx}
use Rattle.record.specs.declared.Shape.{Shape}
use Rattle.record.specs.Record.{nm, no_lit, Instr, Placed, Block, Name, Record, id_bytes}
use Rattle.record.specs.Shape.{targets, shape_of}
use Rattle.record.specs.Reader.{num_at}

-- n items in a row, each by its place, and the place behind them; next: the place behind an item
unfoldable pub items : {A : Type 0} → (ℕ → A) → (ℕ → ℕ) → ℕ → ℕ → List A
items one next at zero = []
items one next at (suc n) = one at ∷ items one next (next at) n

unfoldable pub behind : (ℕ → ℕ) → ℕ → ℕ → ℕ
behind next at zero = at
behind next at (suc n) = behind next (next at) n

-- ---- numbers of two bytes
abbrev pub two_on : ℕ → ℕ
two_on p = p + 2

unfoldable pub index_from : List ℕ → ℕ → NameIx
index_from s p = nm (num_at s p 2)

unfoldable pub number_from : List ℕ → ℕ → ℕ
number_from s p = num_at s p 2

-- ---- what stands behind an id and a code
-- how many arguments there are, where their count would stand at a place
abbrev pub count_from : Shape → List ℕ → ℕ → ℕ
count_from sh s at = cond (not sh.literal) (num_at s at 1) 0

module _ (sh : Shape) (s : List ℕ) (at : ℕ) where
  unfoldable pub lit_at : ℕ
  lit_at = cond sh.dest (at + 2) at

  unfoldable pub count_at : ℕ
  unfolding lit_at
  count_at = cond sh.literal (lit_at + 1 + 8) lit_at

  unfoldable pub callee_at : ℕ
  unfolding count_at
  callee_at = cond (not sh.literal) (behind two_on (count_at + 1) (num_at s count_at 1)) count_at

  unfoldable pub targets_at : ℕ
  unfolding callee_at
  targets_at = cond sh.callee (callee_at + 2) callee_at

  unfoldable pub operands_end : ℕ
  unfolding targets_at
  operands_end = behind two_on targets_at (targets sh (count_from sh s count_at))

  unfoldable pub operands_from : ℕ → ℕ → Instr
  unfolding lit_at count_at callee_at targets_at
  operands_from id code =
      record {
        id = id;
        code = code;
        dest = cond sh.dest (index_from s at) (nm 0);
        lit = cond sh.literal (record { kind = num_at s lit_at 1; bits = num_at s (lit_at + 1) 8 }) no_lit;
        args = cond (not sh.literal) (items (index_from s) two_on (count_at + 1) (num_at s count_at 1)) [];
        callee = cond sh.callee (num_at s callee_at 2) 0;
        blocks = items (number_from s) two_on targets_at (targets sh (count_from sh s count_at));
      }

-- ---- an instruction; w: the bytes of an id
module _ (w : ℕ) (s : List ℕ) (at : ℕ) where
  unfoldable pub instr_from : Instr
  instr_from = operands_from (shape_of (num_at s (at + w) 1)) s (at + w + 1) (num_at s at w) (num_at s (at + w) 1)

  abbrev pub placed_from : Placed
  placed_from = record { at = at; it = instr_from }

  unfoldable pub instr_end : ℕ
  instr_end = operands_end (shape_of (num_at s (at + w) 1)) s (at + w + 1)

-- n instructions from a place on
abbrev pub body_placed : ℕ → List ℕ → ℕ → ℕ → List Placed
body_placed w s at n = items (placed_from w s) (instr_end w s) at n

-- ---- a block
module _ (w : ℕ) (s : List ℕ) (at : ℕ) where
  unfoldable pub body_from : List Placed
  body_from = body_placed w s (at + 2 + 2) (num_at s at 2)

  abbrev pub block_from : Block Placed
  block_from = record { saves = num_at s (at + 2) 2; body = body_from }

  unfoldable pub block_end : ℕ
  block_end = behind (instr_end w s) (at + 2 + 2) (num_at s at 2)

-- ---- a name: type, length, text
module _ (s : List ℕ) (at : ℕ) where
  abbrev pub name_from : Name
  name_from = record { type = num_at s at 1; text = take (num_at s (at + 1) 1) (drop (at + 1 + 1) s) }

  unfoldable pub name_end : ℕ
  name_end = at + 1 + 1 + num_at s (at + 1) 1

-- ---- a record
module _ (s : List ℕ) where
  -- N and the names stand behind L, version and A
  abbrev pub names_count : ℕ
  names_count = num_at s 6 2

  unfoldable pub names_end : ℕ
  names_end = behind (name_end s) 8 names_count

  abbrev pub id_width : ℕ
  id_width = id_bytes (num_at s 4 1)

  unfoldable pub blocks_end : ℕ
  blocks_end = behind (block_end id_width s) (names_end + 2) (num_at s names_end 2)

  unfoldable pub record_from : Record Placed
  record_from =
      record {
        version = num_at s 4 1;
        args = num_at s 5 1;
        names = items (name_from s) (name_end s) 8 names_count;
        blocks = items (block_from id_width s) (block_end id_width s) (names_end + 2) (num_at s names_end 2);
      }
