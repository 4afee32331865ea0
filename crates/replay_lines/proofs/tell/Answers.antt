-- `replay_lines::tell`: the counts that are written are those of the lines read.
use Rattle.std.proofs.Common.{ℕ, ◌+◌, ◌≤◌, List, Option, Result, Ok, Err, OnOk, length-take, arith}
use Rattle.std.specs.Io.KnownBytes.{Appends}
use Rattle.replay_lines.specs.Counts.{counts_line}
use Rattle.replay_lines.proofs.tell.Goals as goal

-- o and w: what the writer held before and holds
told :
    {T E : Type 0} (r : Result T E) (o w : Option (List ℕ)) (most a b : ℕ) → a + b ≤ most → OnOk r (Appends o w (counts_line a b)) →
    OnOk r ((same : ℕ) × (other : ℕ) × (same + other ≤ most) × Appends o w (counts_line same other))
told (Ok x) o w most a b h p = (a, b, h, p)
told (Err x) o w most a b h p = tt

pub returns : goal.returns
returns g c = let counts = c.replay-counts.result in
    told c.writeln.result _ _ _ counts.same counts.other
    (omega (arith, c.replay-counts.ensures, c.in_ok-n.ensures.bound.0, c.read_full.auto.buf, length-take c.in_ok-n.n c.read_full.new.buf)) c.writeln.ensures.bytes
