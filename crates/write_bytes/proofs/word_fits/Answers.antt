-- `write_bytes::word_fits` meets its contract: eight bytes hold every number of a u64, and four those below 2^32.
use mathlib.Core.Path.{◌∙◌}
use native.Mathlib.Omega.{arith}
use borrow.Author.Tests.{eq-eqb}
use Rattle.write_bytes.proofs.Numbers.{fits_eight, fits_four}
use Rattle.write_bytes.proofs.word_fits.Goals as goal

pub returns-then-w-eq8 : goal.returns-then-w-eq8
returns-then-w-eq8 c = let e = c.if-w-eq8.true in
    eq-eqb _ 8 e ∙ fits_eight _ _ e (omega (arith, c.ranges.x))

pub returns-else-w-eq8 : goal.returns-else-w-eq8
returns-else-w-eq8 c = fits_four _ _ c.requires c.if-w-eq8.false
