-- `codes::float_literal` meets its contract: by whether the bits are those of a NaN.
use borrow.Author.Rules.{rules}
use mathlib.Core.Path.{◌≡◌, ◌∙◌, refl, sym}
use mathlib.Core.Bool.{false}
use lib.Ieee.{binary64, of_bits, is_nan}
use lib.Ieee.Bits.{nan_bits_above, nan_bits_is, to_bits-of_bits}
use borrow.Author.Tests.{le-ltb}
use Rattle.record.specs.Answer.{literal_of}
use Rattle.codes.proofs.Literal.{lit_same}
use Rattle.codes.proofs.float_literal.Goals as goal

pub float_from_bits-result : goal.float_from_bits-result
float_from_bits-result c = rw (nan_bits_above binary64 c.args.b ∙ le-ltb _ _ c.if-m-gt9218868437227405312.false) tt

pub returns-then-m-gt9218868437227405312 : goal.returns-then-m-gt9218868437227405312
unfolding literal_of
returns-then-m-gt9218868437227405312 c = refl

pub returns-else-m-gt9218868437227405312 : goal.returns-else-m-gt9218868437227405312
unfolding literal_of
returns-else-m-gt9218868437227405312 c = let b = c.args.b in
    let n : is_nan (of_bits binary64 b) ≡ false = sym (nan_bits_is binary64 b) ∙ nan_bits_above binary64 c.args.b ∙ le-ltb _ _ c.if-m-gt9218868437227405312.false in
    lit_same refl (to_bits-of_bits binary64 b (search rules) (rw n tt))
