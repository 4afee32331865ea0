-- `lvn_instr::one_instr` meets its contract.
use mathlib.Core.List.{[], map}
use mathlib.Core.Path.{◌∙◌}
use Rattle.arith.specs.Code.{code1}
use Rattle.record.specs.Record.{nm, no_lit}
use Rattle.record.specs.View.{code_of}
use Rattle.lvn_instr.proofs.one_instr.Goals as goal

pub returns : goal.returns
unfolding code_of
returns c = let a = c.args in
    let e = c.over.ensures in (
      e.0 ∙
          (λ z. record {
            id = a.id;
            code = code1 a.o;
            dest = a.dest;
            lit = no_lit;
            args = map nm (c.of.ensures z);
            callee = 0;
            blocks = [];
          }),
      e.1,
    )
