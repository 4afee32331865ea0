-- `lvn_state::LvnState::restart` meets its contract: nothing stands in the maps, then one argument after another is given its number.
use Prim.Native.Nat.{ℕ}
use mathlib.Core.Path.{◌≡◌, sym, ap, ◌∙◌}
use native.Mathlib.Omega.{arith}
use native.Mathlib.Numerals.{add-one}
use Rattle.record.specs.Record.{nm}
use mathlib.Core.Option.{none}
use Rattle.numbering.specs.State.{State, start, new_number}
use Rattle.lvn_state.specs.View.{state_with}
use Rattle.lvn_state.proofs.Arguments.{none_numbered, start_more}
use Rattle.lvn_state.proofs.LvnState.restart.Goals as goal

pub loop-i-init : goal.loop-i-init
loop-i-init _ c = let v = c.clear.new.self in
    let env = c.fill.ensures.after (λ y p. p) in
    let homes = c.fill-2.ensures.after (λ y p. p) in
    (λ i. state_with (env i) (homes i) v.heads v.nums (c.clear.ensures i) c.args.k) ∙ none_numbered _ _ v.heads v.nums c.args.k

pub give-requires : goal.give-requires
unfolding start
give-requires _ c = let l = c.loop-i in
    let p = c.requires in
    let n : l.self.values.count ≡ l.i = ap (λ (s : State). s.next) l.invariant in
    (omega arith, (omega arith, omega (arith, n, c.ranges.args)))

pub loop-i-preserved : goal.loop-i-preserved
loop-i-preserved _ c = let l = c.loop-i in
    c.give.ensures ∙ ap (λ (s : State). new_number s (nm l.i) none) l.invariant ∙ start_more l.i c.args.k ∙
    ap (λ (n : ℕ). start n c.args.k) (sym (add-one l.i))
