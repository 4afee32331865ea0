-- `lvn_blocks::save_instr` meets its contract.
use Rattle.record.specs.View.{instr_of}
use Rattle.lvn_blocks.proofs.save_instr.Goals as goal

pub returns : goal.returns
unfolding instr_of
returns c = c.one_instr.ensures
