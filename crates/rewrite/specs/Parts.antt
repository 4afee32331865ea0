-- The rewriting of an accepted record by its parts, and what is known of the record and of the made names while it is written.
use Rattle.std.specs.Prelude.{ℕ, ◌*◌, ◌≤◌, List, [], ◌∷◌, map, ◌≡◌, length, take}
use Rattle.record.specs.Record.{Instr, Record, id_bytes}
use Rattle.record.specs.Reader.{got, num_at}
use Rattle.record.specs.Write.{be, join, row_bytes, name_bytes, block_bytes}
use Rattle.record.specs.Sizes.{most_body}
use Rattle.record.specs.Decode.{names_count, record_from}
use Rattle.record.specs.Again.{record_in, types_in, Reads}
use Rattle.numbering.specs.Made.{made, rewriting}
use Rattle.numbering.specs.Rewrite.{Rewritten, rewrite_result, rewrite_output}
use Rattle.numbering.specs.Figures.{instructions}
use Rattle.read_layout.specs.Layout.{NamesAt}
use Rattle.lvn_blocks.specs.Block.{indexes}
use Rattle.rewrite.specs.declared.Opened.{Opened}

-- the rewriting of the record that stands in these bytes
abbrev pub rewriting_in : List ℕ → Record Instr
rewriting_in s = rewriting (record_in s)

-- how many instructions each of its blocks has
abbrev pub figures_in : List ℕ → List ℕ
figures_in s = map instructions (rewriting_in s).blocks

-- what stands between L and the blocks
abbrev pub front_parts : Record Instr → List (List ℕ)
front_parts r =
    be 1 r.version ∷ be 1 r.args ∷ be 2 (length r.names) ∷ join (map name_bytes r.names) ∷ be 2 (length r.blocks) ∷ []

abbrev pub blocks_bytes : Record Instr → List ℕ
blocks_bytes r = row_bytes block_bytes (id_bytes r.version) r.blocks

-- how long its parts can be: what stands before the blocks, the blocks, and all
abbrev pub longest_front : ℕ
longest_front = 5000000

abbrev pub longest_blocks : ℕ
longest_blocks = 2000000

abbrev pub longest_rewriting : ℕ
longest_rewriting = 7000000

-- how many saves a record can have: those of 64 blocks
abbrev pub most_saves : ℕ
most_saves = 16384

-- the table of places of a record that is laid open has the place of each name
abbrev pub PlacesHeld : Opened → Type 0
PlacesHeld x = NamesAt x.reads.now x.places.now (names_count x.reads.now)

-- what is known of a record that is laid open
pub record Typed (x : Opened) : Type 0 where
  pub reads : Reads x.reads.now x.end
  pub types : x.types.now ≡ types_in x.reads.now
  pub places : PlacesHeld x

-- what numbering its blocks is lent: the types, and a table for what each K saves
pub record Lent (x : Opened) (ms : List ℕ) : Type 0 where
  pub reads : Reads x.reads.now x.end
  pub types : x.types.now ≡ types_in x.reads.now
  pub names : most_body * num_at x.reads.now x.end 2 ≤ length ms

-- what measuring and writing a record are lent: all that is known of it, and a table for what each K saves
pub record Ready (x : Opened) (ms : List ℕ) : Type 0 where
  pub typed : Typed x
  pub names : most_body * num_at x.reads.now x.end 2 ≤ length ms

-- what writing all that stands before the blocks is lent: the places, and a row of the names of which K = 0, 1, .. are made
pub record Front (x : Opened) (row : List ℕ) : Type 0 where
  pub reads : Reads x.reads.now x.end
  pub saved : row ≡ indexes (made (record_in x.reads.now))
  pub places : PlacesHeld x

-- the answer and what it leaves of an output are those of the record that stands in these bytes
abbrev pub Answered : List ℕ → List ℕ → Rewritten → List ℕ → Type 0
Answered s out r out' =
    (r ≡ rewrite_result (length out) (got (record_from s) 0)) × (out' ≡ rewrite_output out (got (record_from s) 0))

-- K counts the saves of the rewriting, and the table holds what each K saved
pub record Noted (s names : List ℕ) (k : ℕ) : Type 0 where
  pub many : k ≡ length (made (record_in s))
  pub room : k ≤ length names
  pub saved : take k names ≡ indexes (made (record_in s))
