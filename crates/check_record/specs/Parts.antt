-- The part of a record's contents that stands behind N, as a reader of its own: the code reads it in a function of its own.
use Rattle.std.specs.Prelude.{ℕ, List, []}
use Rattle.record.specs.declared.Limits.{Limits}
use Rattle.record.specs.Record.{Placed, Block, most_blocks}
use Rattle.record.specs.Reader.{Reader, ◌>>=◌, field, times}
use Rattle.record.specs.Tests.{at_most}
use Rattle.record.specs.Read.{block, names}

-- n names, B, the blocks; w: the bytes of an id
unfoldable pub names_and_blocks : Limits → ℕ → ℕ → Reader (List (Block Placed))
names_and_blocks lim w n = do
  xs ← names lim [] n
  b ← field 2 (at_most most_blocks)
  times b (λ left. block lim w n b)
