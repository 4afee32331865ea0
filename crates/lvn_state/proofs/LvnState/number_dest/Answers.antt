-- `lvn_state::LvnState::number_dest` meets its contract.
use mathlib.Core.Path.{sym, ◌∙◌}
use native.Mathlib.Omega.{arith}
use Rattle.numbering.specs.View.{expr_of}
use Rattle.lvn_state.specs.View.{state_of}
use Rattle.lvn_state.proofs.Dest.{settled_known, settled_new, number_stands}
use Rattle.lvn_state.proofs.LvnState.number_dest.Goals as goal

pub update_env-requires : goal.update_env-requires
update_env-requires _ c = let s = state_of c.args.self.now in
    let p = c.requires in
    (omega arith, (p.0, number_stands s (expr_of c.args.v) c.in-Some.u (omega (arith, p.1.1.0)) p.1.1.1 (sym (c.in-Some.ensures))))

pub returns-in-Some : goal.returns-in-Some
returns-in-Some _ c = let s = state_of c.args.self.now in
    let f = c.in-Some.ensures in
    (f, c.update_env.ensures ∙ sym (settled_known s c.args.dest (expr_of c.args.v) c.in-Some.u (sym f)))

pub returns-in-None : goal.returns-in-None
returns-in-None _ c = let s = state_of c.args.self.now in
    let f = c.in-None.ensures in
    (f, c.give.ensures ∙ sym (settled_new s c.args.dest (expr_of c.args.v) (sym f)))
