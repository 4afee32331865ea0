-- The premises of demand 3 as a test that computes, for records and stores that are written out.
use Rattle.std.specs.Prelude.{ℕ, zero, suc, Bool, true, false, ◌&&◌, List, [], ◌∷◌, ltb}
use Rattle.std.proofs.Math.Option.{Option, none, some}
use Rattle.arith.specs.Map.{pick}
use Rattle.arith.specs.Value.{Val, Val-discrete, has_type}
use Rattle.machine.specs.Reached.{is_set}
use Rattle.record.specs.Reader.{Res, got, fault}

abbrev pub accepted : {A : Type 0} → Res A → Bool
accepted (got x p) = true
accepted (fault k o) = false

unfoldable pub are_bytes : List ℕ → Bool
are_bytes [] = true
are_bytes (b ∷ s) = ltb b 256 && are_bytes s

abbrev pub value_fits : ℕ → Option Val → Bool
value_fits t none = true
value_fits t (some v) = has_type t v

-- each value is of its name's type; beyond the names nothing is set
unfoldable pub typed : List ℕ → List (Option Val) → Bool
typed ts [] = true
typed [] (v ∷ vs) = false
typed (t ∷ ts) (v ∷ vs) = value_fits t v && typed ts vs

-- the first n are set
unfoldable pub first_set : ℕ → List (Option Val) → Bool
first_set zero vs = true
first_set (suc n) [] = false
first_set (suc n) (v ∷ vs) = is_set v && first_set n vs

abbrev pub same_value : Option Val → Option Val → Bool
same_value none none = true
same_value none (some w) = false
same_value (some v) none = false
same_value (some v) (some w) = pick (Val-discrete v w) true false

-- the first n are the same
unfoldable pub all_same : ℕ → List (Option Val) → List (Option Val) → Bool
all_same zero vs ws = true
all_same (suc n) [] ws = false
all_same (suc n) (v ∷ vs) [] = false
all_same (suc n) (v ∷ vs) (w ∷ ws) = same_value v w && all_same n vs ws
