-- `write_instrs::put_literal` meets its contract: its kind, then its bits.
use mathlib.Core.Path.{refl}
use Rattle.record.specs.Answer.{literal_of}
use Rattle.write_instrs.proofs.Written.{literal_wrote}
use Rattle.write_instrs.proofs.put_literal.Goals as goal

pub returns : goal.returns
returns c = (
  literal_wrote (literal_of c.args.l) c.literal_kind.ensures c.literal_bits.ensures c.put_u8.ensures c.put_u64.ensures,
  refl,
)
