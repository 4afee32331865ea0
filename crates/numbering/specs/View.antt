-- The value expressions of the code as those of the definitions.
use Rattle.std.proofs.Math.Option.{Option, none, some}
use Rattle.arith.specs.Value.{Val, int, literal, bool}
use Rattle.arith.specs.Operation.{Expr, constant, one, two}
use Rattle.numbering.specs.declared.ValNum.{ValNum}
use Rattle.numbering.specs.declared.Constant.{Constant as ConstantIn}
use Rattle.numbering.specs.declared.Constant.TheVariants.{Int, IntAsFloat, Bool}
use Rattle.numbering.specs.declared.Value.{Value}
use Rattle.numbering.specs.declared.Value.TheVariants.{Unique, Constant, One, Two}

abbrev pub val_of : ConstantIn → Val
val_of (Int w) = int w
val_of (IntAsFloat w) = literal w
val_of (Bool b) = bool b

-- none of a value of which nothing is known
abbrev pub expr_of : Value → Option (Expr ValNum)
expr_of Unique = none
expr_of (Constant c) = some (constant (val_of c))
expr_of (One o a) = some (one o a)
expr_of (Two o a b) = some (two o a b)
