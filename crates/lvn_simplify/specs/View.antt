-- What the code knows of a number, and what it finds for a value, as the definitions have them.
use Rattle.std.specs.Prelude.{Option as OptionIn, Some, None}
use Rattle.std.proofs.Math.Option.{Option, none, some}
use Rattle.arith.specs.Value.{Val}
use Rattle.arith.specs.Operation.{Expr, constant}
use Rattle.numbering.specs.declared.ValNum.{ValNum}
use Rattle.numbering.specs.declared.Constant.{Constant}
use Rattle.numbering.specs.declared.Value.{Value}
use Rattle.numbering.specs.View.{val_of, expr_of}

abbrev pub known_of : OptionIn Constant → Option Val
known_of None = none
known_of (Some c) = some (val_of c)

-- the value expression that a fold gives
abbrev pub fold_of : OptionIn Constant → Option (Expr ValNum)
fold_of None = none
fold_of (Some c) = some (constant (val_of c))

-- where a value is found, its value expression, which is none of Unique alone
abbrev pub found_of : OptionIn Value → Option (Option (Expr ValNum))
found_of None = none
found_of (Some v) = some (expr_of v)
