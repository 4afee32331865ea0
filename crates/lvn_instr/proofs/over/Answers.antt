-- `lvn_instr::over` meets its contract: field by field.
use mathlib.Core.List.{map}
use mathlib.Core.Path.{refl}
use Rattle.record.specs.Answer.{literal_of}
use Rattle.record.specs.Record.{nm, no_lit}
use Rattle.record.specs.View.{code_of, row_of, instr_of}
use Rattle.lvn_instr.proofs.over.Goals as goal

pub returns : goal.returns
unfolding instr_of code_of literal_of
returns c = let a = c.args in (
  (λ z. record {
    id = a.id;
    code = code_of a.op;
    dest = a.dest;
    lit = no_lit;
    args = map nm (row_of a.args);
    callee = 0;
    blocks = c.of.ensures z;
  }),
  refl,
)
