-- Three parts, written one after the other.
use Rattle.std.proofs.Common.{ℕ, List, ◌++◌, Option, Result, Ok, Err, OnOk}
use Rattle.std.specs.Io.KnownBytes.{Appends}
use Rattle.std.proofs.KnownBytes.{Appends-trans}

-- r: what the last write answered; o, u, v and w: what the writer held before the first, and after each
pub wrote_parts :
    {T E : Type 0} (r : Result T E) (o u v w : Option (List ℕ)) (a b c : List ℕ) →
    Appends o u a → Appends u v b → OnOk r (Appends v w c) → OnOk r (Appends o w (a ++ (b ++ c)))
wrote_parts (Ok x) o u v w a b c p q h = Appends-trans o u w a (b ++ c) p (Appends-trans u v w b c q h)
wrote_parts (Err x) o u v w a b c p q h = tt
