-- `read_instrs::read_literal` meets its contract: by whether it is there.
use mathlib.Core.Path.{◌∙◌}
use Rattle.record.specs.Answer.{literal_of}
use Rattle.codes.proofs.Literal.{lit_same}
use Rattle.read_instrs.proofs.read_literal.Goals as goal

pub literal_of-requires : goal.literal_of-requires
literal_of-requires c = rw (c.byte_or.ensures.0, c.be.ensures.0) (rw c.if-there.true at c.requires.1)

pub returns-then-there : goal.returns-then-there
returns-then-there c = rw c.if-there.true (c.literal_of.ensures ∙ lit_same c.byte_or.ensures.0 c.be.ensures.0)

pub returns : goal.returns
unfolding literal_of
returns c = rw c.if-there.false
