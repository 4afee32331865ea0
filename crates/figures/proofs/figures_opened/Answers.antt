-- `figures::figures_opened` meets its contract: too few places, or no block.
use Prim.Native.Nat.{ℕ}
use mathlib.Core.Path.{sym, ap, ◌∙◌}
use Rattle.record.specs.Reader.{num_at}
use Rattle.figures.proofs.Answers.{too_few, itself}
use Rattle.figures.proofs.figures_opened.Goals as goal

pub returns-then-each-blocks : goal.returns-then-each-blocks
returns-then-each-blocks c = let s = c.args.src.now.reads.now in
    too_few s c.args.each.now _ (c.from-blocks.ensures ∙ c.blocks-2.ensures ∙ ap (λ (k : ℕ). num_at s k 2) c.requires.reads.names) c.if-each-blocks.true

pub returns-then-blocks-eq0 : goal.returns-then-blocks-eq0
returns-then-blocks-eq0 c = itself c.requires.reads (sym (c.from-blocks.ensures ∙ c.blocks-2.ensures) ∙ c.if-blocks-eq0.true) c.args.each.now
