-- `lvn_instr::make_one_instr` meets its contract.
use mathlib.Core.List.{[], ◌∷◌}
use mathlib.Core.Path.{ap, ◌∙◌}
use Rattle.arith.specs.Code.{code1}
use Rattle.record.specs.View.{instr_of}
use Rattle.record.specs.declared.NameIx.{NameIx}
use Rattle.numbering.specs.Number.{make_val_instr}
use Rattle.lvn_instr.proofs.make_one_instr.Goals as goal

pub returns : goal.returns
unfolding instr_of
returns _ c = let a = c.args in
    let e = c.one_instr.ensures in
    (e.0 ∙ ap (λ (x : NameIx). make_val_instr (instr_of a.i.now) (code1 a.o) (x ∷ [])) c.home.ensures)
