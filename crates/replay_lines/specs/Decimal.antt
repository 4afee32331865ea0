-- The decimal number that comes next in a text, or behind a space.
use Rattle.std.specs.Prelude.{ℕ, ◌+◌, ◌*◌, ◌-◌, ◌%◌, ◌^◌, ◌==◌, cond, List, [], ◌∷◌, length, drop}
use Rattle.std.specs.List.{fold, take_while}
use Rattle.std.specs.Char.{is_ascii_digit}

-- behind the space, if one comes next
abbrev pub behind_space : List ℕ → List ℕ
behind_space [] = []
behind_space (c ∷ s) = cond (c == 0x20) s (c ∷ s)

-- the digits that come next
abbrev pub digits : List ℕ → List ℕ
digits s = take_while is_ascii_digit (behind_space s)

-- what is behind them
abbrev pub behind_digits : List ℕ → List ℕ
behind_digits s = drop (length (digits s)) (behind_space s)

-- their value in base ten, in 64 bits
abbrev pub decimal : List ℕ → ℕ
decimal s = fold (λ n c. n * 10 + (c - 0x30)) 0 (digits s) % 2 ^ 64
