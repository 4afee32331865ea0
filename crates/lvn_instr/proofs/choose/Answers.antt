-- `lvn_instr::choose` meets its contract: by whether the value has a number.
use mathlib.Core.Option.{Option}
use mathlib.Core.Path.{ap, ◌∙◌}
use Rattle.arith.specs.Value.{Val}
use Rattle.record.specs.View.{instr_of}
use Rattle.numbering.specs.Number.{make_id_instr}
use Rattle.lvn_state.specs.View.{state_of}
use Rattle.lvn_instr.proofs.Alike.{known_alike}
use Rattle.lvn_instr.proofs.choose.Goals as goal

pub returns-in-Some : goal.returns-in-Some
returns-in-Some _ c = let a = c.args in
    let i = instr_of a.i.now in
    let v = c.in-Some.v in
    λ s e f. rw c.in-Some.is
    (c.make_id_instr.ensures s e ∙ ap (λ (o : Option Val). make_id_instr o s i v) c.known.ensures ∙
    known_alike s (state_of a.st.now) e i v f)
