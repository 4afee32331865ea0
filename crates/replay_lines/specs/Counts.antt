-- What the replays write of their counts.
use Rattle.std.specs.Prelude.{ℕ, List, ◌++◌, codes}
use Rattle.std.specs.Fmt.{decimal}

-- so many lines agree, and so many do not
abbrev pub counts_text : ℕ → ℕ → List ℕ
counts_text same other = decimal same ++ (codes " agree, " ++ (decimal other ++ codes " differ"))

-- the same, and the byte that ends a line
abbrev pub counts_line : ℕ → ℕ → List ℕ
counts_line same other = counts_text same other ++ codes "\n"
