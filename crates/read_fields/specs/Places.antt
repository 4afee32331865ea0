-- Places in a record, as the code has them.
use Rattle.std.specs.Prelude.{ℕ}

-- so many places a usize can name
abbrev pub places : ℕ
places = 18446744073709551616
