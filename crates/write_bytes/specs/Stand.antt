-- A writer's promise byte by byte: what stands where afterwards. It says of each place what `Wrote` (Put) says by stores: `stand_wrote`,
-- `wrote_stand` (write_bytes/proofs/Stand).
use Rattle.std.specs.Prelude.{ℕ, ◌+◌, ◌<◌, ◌≤◌, List, ◌≡◌, ◌⊎◌, length, get_or}

-- in m exactly bs stand from `at` on, as far as there is room, and every other byte is as in l; `end` is the place behind them
pub record Stand (l m : List ℕ) (at end : ℕ) (bs : List ℕ) : Type 0 where
  pub behind : end ≡ at + length bs
  -- past the end nothing is stored
  pub same_length : length m ≡ length l
  pub there : (i : ℕ) → i < length bs → at + i < length l → get_or m (at + i) 0 ≡ get_or bs i 0
  pub others : (j : ℕ) → (j < at) ⊎ (end ≤ j) → get_or m j 0 ≡ get_or l j 0
