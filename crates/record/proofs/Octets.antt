-- A slice of u8 is a list of bytes: each of its elements, at whatever place, is a value of its type.
use Prim.Native.Nat.{ℕ, suc, ◌<◌}
use mathlib.Core.List.{List, [], ◌∷◌}
use lib.ListN.{get_or}
use Rattle.record.specs.Record.{Bytes}

pub octets : (s : List ℕ) → ((i : ℕ) → get_or s i 0 < 256) → Bytes s
octets [] h = tt
octets (b ∷ s) h = (h 0, octets s (λ i. h (suc i)))
