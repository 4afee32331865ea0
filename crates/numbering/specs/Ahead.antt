-- What the figures of an input foretell (document 02, Point 1): whatever output rewrite is lent, its answer has them, and so has what it
-- writes; and where 12 refuses. That it is so is proved in proofs/Ahead.antt.
use Rattle.std.specs.Prelude.{Ok, Err, ℕ, ◌<◌, ◌≤◌, ◌≡◌, List, map, length, get_or, take, drop}
use Rattle.record.specs.Record.{Placed, Record, plain, limits, wide}
use Rattle.record.specs.Reader.{got}
use Rattle.record.specs.Read.{read}
use Rattle.record.specs.Typing.{accept}
use Rattle.numbering.specs.declared.RewriteError.TheVariants.{Room}
use Rattle.numbering.specs.Rewrite.{totals, rewrite, rewrite_leaves}
use Rattle.numbering.specs.Figures.{instructions, figures_leaves}
use Rattle.numbering.specs.Ways.{all_saves}

-- "12: the slice has fewer places than blocks"
pub record FewPlaces (s : List ℕ) (places : ℕ) : Type 0 where
  pub it : Record Placed
  pub end : ℕ
  pub accepted : accept limits s ≡ got it end
  pub few : places < length it.blocks

-- of an input s whose figures are n bytes and k saves, each: the places as they were lent
pub record Foretold (s each : List ℕ) (n k : ℕ) : Type 0 where
  -- "these are the figures that rewrite would give": written, or 9 with the bytes needed
  pub written : (out : List ℕ) → n ≤ length out → rewrite s out ≡ Ok (totals n k)
  pub short : (out : List ℕ) → length out < n → rewrite s out ≡ Err (Room n)
  -- what is then written, read back with the wider limits
  pub output : Record Placed
  pub reads : (out : List ℕ) → n ≤ length out → read wide (take n (rewrite_leaves s out)) 0 ≡ got output n
  pub saves : k ≡ all_saves (plain output).blocks
  -- the first places hold the n of its blocks, in order; "places beyond B are untouched"
  pub blocks : take (length output.blocks) (figures_leaves s each) ≡ map instructions (plain output).blocks
  pub beyond : drop (length output.blocks) (figures_leaves s each) ≡ drop (length output.blocks) each
  pub many : length output.blocks ≤ length each
  -- a figure is at most 512: twice the instructions of a block of the input
  pub most : (b : ℕ) → b < length output.blocks → get_or (figures_leaves s each) b 0 ≤ 512
