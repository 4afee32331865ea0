-- What the program has to write when it has run, in three parts: the first bytes of the answer's, of the events' and of the store's.
use Rattle.std.specs.Prelude.{Ok, Err, ℕ, ◌≤◌, List, ◌++◌, ◌≡◌, length, take}
use Rattle.running.specs.Engine.{Ran}
use Rattle.engine_report.specs.declared.Parts.{Parts}

-- so many bytes of each, one part after the other, are these
pub record Shows (p : Parts) (head events left bytes : List ℕ) : Type 0 where
  pub head_within : p.head ≤ length head
  pub events_within : p.events ≤ length events
  pub left_within : p.left ≤ length left
  pub all : take p.head head ++ (take p.events events ++ take p.left left) ≡ bytes

-- behind an answer of n bytes: events and store when the run is done
unfoldable pub parts_of : ℕ → Ran → Parts
parts_of n (Ok r) = record { head = n; events = r.events; left = r.store }
parts_of n (Err e) = record { head = n; events = 0; left = 0 }
