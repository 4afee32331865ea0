-- `read_layout::fill_names` meets its contract: filled on with the names left, the tables are as filled with all.
use borrow.Author.Rules.{rules}
use Prim.Native.Nat.{◌+◌, ◌-◌}
use mathlib.Core.Path.{◌≡◌, refl, ap, ◌∙◌}
use lib.Seq.{sets}
use native.Mathlib.Omega.{arith}
use Rattle.record.specs.Decode.{behind, name_from, name_end}
use Rattle.read_layout.specs.Layout.{types_from, places_from}
use Rattle.record.proofs.Rows.{behind_next, behind_done, filled_next, filled_done}
use Rattle.read_layout.proofs.fill_names.Goals as goal

pub loop-i-init : goal.loop-i-init
loop-i-init c = let a = c.args in
    let s = a.s.now in
    let all : a.n - 0 ≡ a.n = omega arith in (
      omega arith,
      refl,
      refl,
      ap (behind (name_end s) a.at) all,
      ap (λ k. sets a.types.now 0 (types_from s a.at k)) all,
      ap (λ k. sets a.places.now 0 (places_from s a.at k)) all,
    )

pub overflow_cast-p : goal.overflow_cast-p
overflow_cast-p c = omega (arith, c.loop-i-test.true, c.loop-i.invariant.0, c.requires)

pub name_end-p-requires : goal.name_end-p-requires
unfolding name_end
name_end-p-requires c = let l = c.loop-i in
    omega (arith, c.type_inv.s (l.p + 1), c.loop-i-test.true, l.invariant.0, c.requires)

pub loop-i-preserved : goal.loop-i-preserved
unfolding types_from places_from
loop-i-preserved c = let l = c.loop-i in
    let s = c.args.s.now in
    let next = c.name_end-p.ensures in
    let h = c.loop-i-test.true in (
      omega (arith, h, l.invariant.0, next.1),
      search rules,
      search rules,
      behind_next (name_end s) _ _ _ h _ next.0 ∙ l.invariant.3,
      filled_next (name_end s) _ _ _ h (λ p. (name_from s p).type) _ _ _ _
          c.store.ensures c.u8_at.ensures next.0 ∙ l.invariant.4,
      filled_next (name_end s) _ _ _ h (λ p. p) _ _ _ _ c.store-in-loop-i.ensures refl next.0 ∙ l.invariant.5,
    )

pub returns : goal.returns
unfolding types_from places_from
returns c = let l = c.loop-i in
    let a = c.args in
    let s = a.s.now in
    let z : a.n - l.i ≡ 0 = omega arith in (
      behind_done _ _ _ z ∙ l.invariant.3,
      omega (arith, l.invariant.0),
      filled_done (name_end s) (λ p. (name_from s p).type) _ _ _ _ z ∙ l.invariant.4,
      filled_done (name_end s) (λ p. p) _ _ _ _ z ∙ l.invariant.5,
    )
