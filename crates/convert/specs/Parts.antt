-- What the code asks of the parts that it converts, instructions, blocks and rows of both, and what it then has.
use Rattle.std.specs.Prelude.{Ok, Err, Option, Some, None, ℕ, ◌+◌, ◌<◌, ◌≤◌, List, ◌++◌, ◌≡◌, length, drop}
use mathlib.Core.List.{flat_map}
use Rattle.record.specs.Record.{Bytes, Placed}
use Rattle.record.specs.Tests.{version_test}
use Rattle.record.specs.Answer.{checked}
use Rattle.record.specs.Ranged.{Ranged}
use Rattle.record.specs.Write.{bytes}
use Rattle.record.specs.Decode.{items, block_from, block_end, names_end, blocks_end}
use Rattle.record.specs.Again.{record_in}
use Rattle.record.specs.declared.ConvertError.TheVariants.{Wide}
use Rattle.record.specs.Versions.{in_version, Converted}
use Rattle.record.specs.Sizes.{places_end}
use Rattle.read_layout.specs.declared.Spot.{Spot}
use Rattle.write_bytes.specs.Put.{Wrote}

-- ---- the ids
-- the instructions of the n blocks from a place on
abbrev pub blocks_placed : ℕ → List ℕ → ℕ → ℕ → List Placed
blocks_placed w s at n = flat_map (λ b. b.body) (items (block_from w s) (block_end w s) at n)

-- the place of an instruction whose id has no room, or else what is there to say
unfoldable pub scanned : Option ℕ → ℕ → Converted
scanned None n = Ok n
scanned (Some o) n = Err (Wide o)

-- ---- the parts
-- a part x stands at a place of s with ids of one width, and ends there; in the other width it fits, and there is room for it
pub record Stands {A : Type 0} (f : ℕ → A → List ℕ) (ok : A → Type 0) (from to : ℕ) (s : List ℕ) (at : Spot) (x : A) (end : ℕ) : Type 0 where
  pub rest : List ℕ
  pub stands : drop at.p s ≡ f from x ++ rest
  pub fits : ok x
  pub reads : end < places_end
  pub writes : at.q + length (f to x) < places_end

-- it is written in the other width, and r is the place behind it in both
pub record Done {A : Type 0} (f : ℕ → A → List ℕ) (to : ℕ) (out out' : List ℕ) (at r : Spot) (x : A) (end : ℕ) : Type 0 where
  pub wrote : Wrote out out' at.q r.q (f to x)
  pub next : r.p ≡ end

-- ---- the record
-- s is accepted, and the version is one of the two
pub record Checked (version : ℕ) (s : List ℕ) : Type 0 where
  pub bytes : Bytes s
  pub accepted : checked s ≡ Ok tt
  pub known : version_test version ≡ Ok tt

-- s is all of a record, whose ids fit a version, and which has so many bytes there
pub record Measured (version : ℕ) (s : List ℕ) (size : ℕ) : Type 0 where
  pub all : bytes (record_in s) ≡ s
  pub fits : Ranged (in_version version (record_in s))
  pub names : names_end s + 2 ≤ length s
  pub near : blocks_end s < places_end
  pub size_is : size ≡ length (bytes (in_version version (record_in s)))
  pub small : size < places_end
