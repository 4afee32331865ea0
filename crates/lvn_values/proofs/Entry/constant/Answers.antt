-- `lvn_values::Entry::constant` meets its contract: by the constant.
use mathlib.Core.Path.{◌≡◌, refl}
use mathlib.Core.Bool.{Bool, true, false, cond}
use mir.Val.{bool_byte}
use Rattle.lvn_values.specs.Table.{constant_tag, constant_bits, head_of, num_of}
use Rattle.lvn_values.proofs.Entry.constant.Goals as goal

bit : (b : Bool) → bool_byte b ≡ cond b 1 0
bit true = refl
bit false = refl

pub returns-in-Int : goal.returns-in-Int
unfolding constant_tag constant_bits head_of num_of
returns-in-Int c = rw c.in-Int.is

pub returns-in-IntAsFloat : goal.returns-in-IntAsFloat
unfolding constant_tag constant_bits head_of num_of
returns-in-IntAsFloat c = rw c.in-IntAsFloat.is

pub returns-in-Bool : goal.returns-in-Bool
unfolding constant_tag constant_bits head_of num_of
returns-in-Bool c = rw (c.in-Bool.is, c.from.ensures, bit c.in-Bool.b)
