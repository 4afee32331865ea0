-- `figures::figures_noting` meets its contract: what is measured is what is answered.
use Prim.Native.Nat.{ℕ}
use mathlib.Core.Path.{ap}
use Rattle.record.specs.Reader.{num_at}
use Rattle.figures.proofs.Answers.{counted}
use Rattle.figures.proofs.figures_noting.Goals as goal

pub returns : goal.returns
returns c = let p = c.requires in
    let s = c.args.src.now.reads.now in
    let m = c.measure.ensures in
    counted s c.args.each.now _ (ap (λ (k : ℕ). num_at s k 2) p.0.typed.reads.names) p.1 m.0 m.1.0.many m.1.1.1.0
