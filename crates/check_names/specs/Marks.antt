-- The mark of a text, a number below MARKS that depends on its bytes alone.
use Rattle.std.specs.Prelude.{ℕ, ◌+◌, ◌*◌, ◌%◌, List, [], ◌∷◌}
use Rattle.check_names.specs.declared.TheConstants.{MARKS}

-- h: the number of the bytes before; of a whole text it is 0
unfoldable pub mark : ℕ → List ℕ → ℕ
mark h [] = h
mark h (b ∷ t) = mark ((h * 37 + b) % MARKS) t
