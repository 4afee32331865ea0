-- What making names asks of the bytes of the input, of the table of their places, and of the row of names they are made of.
use Rattle.std.specs.Prelude.{ℕ, ◌+◌, ◌<◌, ◌≤◌, List, get_or}
use Rattle.record.specs.Reader.{num_at}
use Rattle.write_bytes.specs.Put.{longest_text}
use Rattle.record.specs.Decode.{behind, name_end}

-- the length of the text of the name x
abbrev pub text_length : List ℕ → ℕ → ℕ
text_length s x = num_at s (behind (name_end s) 8 x + 1) 1

-- the first entries of a row are of n names
abbrev pub Named : List ℕ → ℕ → ℕ → Type 0
Named row count n = (k : ℕ) → k < count → get_or row k 0 < n

-- the n names have texts that names are made of
abbrev pub Short : List ℕ → ℕ → Type 0
Short s n = (x : ℕ) → x < n → text_length s x ≤ longest_text

-- ---- how long a made name is: type, length, `_`, the text, `_lvn` and K
-- made of such a text
abbrev pub longest_made : ℕ
longest_made = 217

-- made of a text of any length that a byte says; K has at most five digits
abbrev pub made_reach : ℕ
made_reach = 7 + 255 + 5
