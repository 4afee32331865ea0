-- A division's answer in code as a value of the definitions, where there is one.
use Rattle.std.specs.Prelude.{ℕ, Option as OptionIn, Some, None}
use Rattle.std.proofs.Math.Option.{Option, none, some}
use Rattle.arith.specs.Value.{Val, int}
use Rattle.arith.specs.Operation.{Result, ok, stops, unset}

-- what a result gives; nothing where it stops, or an operand is not set
unfoldable pub result_of : Result → Option Val
result_of (ok v) = some v
result_of (stops c) = none
result_of unset = none

-- the int whose word is the quotient, where there is one
unfoldable pub quotient_of : OptionIn ℕ → Option Val
quotient_of (Some w) = some (int w)
quotient_of None = none
