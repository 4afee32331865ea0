-- `lvn_instr::replace_args` meets its contract.
use Prim.Native.Nat.{ℕ, suc, ◌+◌, ◌<◌}
use mathlib.Core.List.{List, ◌∷◌}
use mathlib.Core.Path.{◌≡◌, sym, ap, ◌∙◌}
use native.Mathlib.Numerals.{add-one}
use native.Mathlib.Omega.{arith}
use lib.ListN.{length, get_or, set, drop}
use lib.Seq.{drop-cons}
use Rattle.std.proofs.lemmas.List.{drop-set-lt}
use Rattle.record.specs.Record.{nm}
use Rattle.numbering.specs.State.{State, home_of, number_of}
use Rattle.lvn_state.proofs.Seen.{replaced_next}
use Rattle.lvn_state.specs.View.{state_of}
use Rattle.lvn_instr.proofs.Alike.{home_alike}
use Rattle.lvn_instr.proofs.replace_args.Goals as goal

module _ (l m : List ℕ) (i : ℕ) (a : i < length l) (b : i < length m) (e : drop i l ≡ drop i m) where
  both : get_or l i 0 ∷ drop (suc i) l ≡ get_or m i 0 ∷ drop (suc i) m
  both = sym (drop-cons l i 0 a) ∙ e ∙ drop-cons m i 0 b

  stands : get_or l i 0 ≡ get_or m i 0
  stands = let p = both in cc

  rest_kept : (v : ℕ) → drop (i + 1) (set l i v) ≡ drop (i + 1) m
  rest_kept v =
      let p = both in
      let e : drop (suc i) l ≡ drop (suc i) m = cc in
      drop-set-lt (i + 1) l i v (omega arith) ∙ ap (λ n. drop n l) (add-one i) ∙ e ∙ sym (ap (λ n. drop n m) (add-one i))

homed : (s : State) (x y : ℕ) → x ≡ y → s.locs (number_of s (nm x)) ≡ home_of s (nm y)
unfolding home_of
homed s x y e = ap (λ (n : ℕ). s.locs (number_of s (nm n))) e

pub loop-x-preserved : goal.loop-x-preserved
loop-x-preserved _ c = let l = c.loop-x in
    let old = c.args.args.now in
    let s = state_of c.args.st.now in
    let k : length l.args ≡ length old = l.auto.args in
    let h : l.x-index < length old = c.loop-x-test.true in
    let g : l.x-index < length l.args = omega arith in (
      (λ u p q. replaced_next (home_of u) l.args old l.x-index c.home.result g h
          (c.home.ensures ∙ ap s.locs c.number_of.ensures.0 ∙ homed s _ _ (stands l.args old l.x-index g h l.invariant.1) ∙
          home_alike u s p q _)
          (l.invariant.0 u p q)),
      rest_kept l.args old l.x-index g h l.invariant.1 c.home.result.0,
    )
