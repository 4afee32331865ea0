-- `lvn_instr::make_const_instr` meets its contract: field by field.
use mathlib.Core.List.{map}
use mathlib.Core.Path.{ap, ◌∙◌}
use Rattle.record.specs.Record.{nm, Instr}
use Rattle.record.specs.View.{code_of, instr_of}
use Rattle.lvn_instr.proofs.make_const_instr.Goals as goal

pub returns : goal.returns
unfolding instr_of code_of
returns c = let e = c.over.ensures.0 in
    λ z. record {
      id = (e z).id;
      code = (e z).code;
      dest = (e z).dest;
      lit = c.literal_for.ensures z;
      args = (ap (λ (i : Instr). i.args) e ∙ ap (map nm) c.of.ensures) z;
      callee = (e z).callee;
      blocks = (e z).blocks;
    }
