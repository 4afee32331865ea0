-- The bytes of events in a row: those of the first ones and of the others, and no bytes only where there is no event.
use Prim.Native.Nat.{ℕ, ◌<◌}
use mathlib.Core.Path.{◌≡◌, refl}
use mathlib.Core.List.{List, [], ◌∷◌, ◌++◌, map}
use native.Mathlib.Omega.{arith}
use Rattle.running.proofs.Bounds.{events_append}
use lib.ListN.{length, length-append}
use Rattle.record.specs.Write.{be, join}
use Rattle.record.proofs.Stands.{length_be}
use Rattle.machine.specs.Machine.{Event}
use Rattle.running.specs.House.{value_bytes, event_bytes, events_bytes}
use Rattle.write_bytes.specs.Put.{Wrote}
use Rattle.write_bytes.proofs.Wrote.{wrote_append}

pub events_then :
    {l m r : List ℕ} {i p q : ℕ} (w : ℕ) (es fs : List Event) →
    Wrote l m i p (events_bytes w es) →
    Wrote m r p q (events_bytes w fs) →
    Wrote l r i q (events_bytes w (es ++ fs))
events_then w es fs a b = rw (events_append w es fs) (wrote_append (events_bytes w es) (events_bytes w fs) a b)

-- ---- an event has at least its code
event_some : (w : ℕ) (e : Event) → 0 < length (event_bytes w e)
unfolding event_bytes join
event_some w e =
    let rest = be 2 e.callee ++ (be 1 (length e.args) ++ (join (map value_bytes e.args) ++ [])) in
    omega (
      arith,
      length-append (be w e.id) (be 1 e.code ++ rest),
      length-append (be 1 e.code) rest,
      length_be 1 e.code,
    )

pub no_bytes : (w : ℕ) (es : List Event) → length (events_bytes w es) ≡ 0 → es ≡ []
unfolding events_bytes join
no_bytes w [] h = refl
no_bytes w (e ∷ es) h =
    absurd (omega (arith, h, event_some w e, length-append (event_bytes w e) (events_bytes w es)))
