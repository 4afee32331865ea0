-- What the readers of a field answer, as a result of reading.
use Rattle.std.specs.Prelude.{ℕ, ◌≡◌, ◌<◌, Result, Ok, Err}
use Rattle.record.specs.declared.Fault.{Fault}
use Rattle.record.specs.Reader.{Test, Res, got, fault}

-- the number and the place behind it, or the fault
abbrev pub res : Result (ℕ × ℕ) Fault → Res ℕ
res (Ok p) = got p.0 p.1
res (Err f) = fault f.refusal f.offset

-- what a test of the code's answers is, at each number of 64 bits, what t says
abbrev pub Tests : (ℕ → Test → Type 0) → (ℕ → Test) → Type 0
Tests answers t = (x : ℕ) (r : Test) → x < 18446744073709551616 → answers x r → r ≡ t x
