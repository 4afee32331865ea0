-- `engine_pure::shift` meets its contract: a pointer is moved, and of what is none there is no value.
use mathlib.Core.Path.{refl}
use Rattle.engine_pure.proofs.Works.{told_unset}
use Rattle.engine_pure.proofs.Evals.{no_pointer, pointer_moved}
use Rattle.engine_pure.proofs.shift.Goals as goal

pub returns-then-p-le-HELD : goal.returns-then-p-le-HELD
returns-then-p-le-HELD c = told_unset refl (no_pointer c.args.p c.args.k c.then-p-le-HELD.either)

pub returns : goal.returns
returns c = pointer_moved c.args.p c.args.k _ c.if-p-le-HELD.false c.if-p-eq-NOTHING.false c.add.ensures
