-- The types, texts and places of the names, the places of the blocks, and what the head of a record says of them, by its bytes alone.
use Rattle.std.specs.Prelude.{ℕ, ◌+◌, ◌*◌, ◌<◌, ◌≤◌, List, ◌≡◌, get_or}
use Rattle.record.specs.Reader.{num_at}
use Rattle.record.specs.Decode.{items, behind, name_from, name_end, block_end, names_count, names_end, id_width}
use Rattle.read_layout.specs.declared.Layout.{Layout}
use Rattle.read_layout.specs.Bounds.{widest_id, name_reach}

-- of the n names from a place on
unfoldable pub types_from : List ℕ → ℕ → ℕ → List ℕ
types_from s at n = items (λ p. (name_from s p).type) (name_end s) at n

unfoldable pub texts_from : List ℕ → ℕ → ℕ → List (List ℕ)
texts_from s at n = items (λ p. (name_from s p).text) (name_end s) at n

unfoldable pub places_from : List ℕ → ℕ → ℕ → List ℕ
places_from s at n = items (λ p. p) (name_end s) at n

-- of the n blocks from a place on; w: the bytes of an id
unfoldable pub blocks_from : ℕ → List ℕ → ℕ → ℕ → List ℕ
blocks_from w s at n = items (λ p. p) (block_end w s) at n

-- a table holds the places of n names
abbrev pub NamesAt : List ℕ → List ℕ → ℕ → Type 0
NamesAt s places n = (x : ℕ) → x < n → get_or places x 0 ≡ behind (name_end s) 8 x

unfoldable pub layout_of : List ℕ → Layout
layout_of s =
    record {
      width = id_width s;
      args = num_at s 5 1;
      names = names_count s;
      end = names_end s;
      blocks = num_at s (names_end s) 2;
    }

-- what can be said of it whatever the bytes are
abbrev pub Bounded : Layout → Type 0
Bounded l =
    (l.width ≤ widest_id) × (l.args < 256) × (l.names < 65536) × (l.end ≤ 8 + name_reach * l.names) × (l.blocks < 65536)
