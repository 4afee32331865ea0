-- `read_layout::fill_blocks` meets its contract: filled on with the blocks left, the table is as filled with all.
use borrow.Author.Rules.{rules}
use mathlib.Core.Path.{◌≡◌, refl, ap, ◌∙◌}
use Prim.Native.Nat.{◌-◌}
use lib.Seq.{sets}
use native.Mathlib.Omega.{arith}
use Rattle.record.specs.Decode.{behind, block_end}
use Rattle.read_layout.specs.Layout.{blocks_from}
use Rattle.record.proofs.Ends.{block_grows}
use Rattle.record.proofs.Rows.{behind_next, behind_done, behind_within, filled_next, filled_done}
use Rattle.read_layout.proofs.fill_blocks.Goals as goal

pub loop-i-init : goal.loop-i-init
loop-i-init c = let a = c.args in
    let s = a.s.now in
    let on = behind_within (block_end a.w s) (block_grows a.w s) a.at a.n _ refl in
    let all : a.n - 0 ≡ a.n = omega arith in (
      omega (arith, on, c.requires.1),
      refl,
      ap (behind (block_end a.w s) a.at) all,
      ap (λ k. sets a.places.now 0 (blocks_from a.w s a.at k)) all,
    )

pub loop-i-preserved : goal.loop-i-preserved
unfolding blocks_from
loop-i-preserved c = let l = c.loop-i in
    let a = c.args in
    let s = a.s.now in
    let ends = block_end a.w s in
    let next = c.block_end-p.ensures.0 in
    let h = c.loop-i-test.true in
    let same = behind_next ends _ _ _ h _ next ∙ l.invariant.2 in (
      omega (arith, behind_within ends (block_grows a.w s) _ _ _ same, c.requires.1),
      search rules,
      same,
      filled_next ends _ _ _ h (λ p. p) _ _ _ _ c.store.ensures refl next ∙ l.invariant.3,
    )

pub returns : goal.returns
unfolding blocks_from
returns c = let l = c.loop-i in
    let a = c.args in
    let z : a.n - l.i ≡ 0 = omega arith in
    (behind_done _ _ _ z ∙ l.invariant.2, filled_done (block_end a.w a.s.now) (λ p. p) _ _ _ _ z ∙ l.invariant.3)
