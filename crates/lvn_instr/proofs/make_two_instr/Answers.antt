-- `lvn_instr::make_two_instr` meets its contract.
use mathlib.Core.List.{[], ◌∷◌, map}
use mathlib.Core.Path.{ap, ◌∙◌}
use Rattle.arith.specs.Code.{code2}
use Rattle.record.specs.Record.{nm, no_lit}
use Rattle.record.specs.View.{code_of, instr_of}
use Rattle.lvn_instr.proofs.make_two_instr.Goals as goal

pub returns : goal.returns
unfolding instr_of code_of
returns _ c = let a = c.args in
    c.over.ensures.0 ∙
    (λ z. record {
      id = a.i.now.id;
      code = code2 a.o;
      dest = a.i.now.dest;
      lit = no_lit;
      args = (ap (map nm) c.of.ensures ∙ (λ j. c.home-x.ensures j ∷ c.home-y.ensures j ∷ [])) z;
      callee = 0;
      blocks = [];
    })
