-- `read_instrs::read_id` meets its contract: by the width of an id.
use Prim.Native.Nat.{ℕ, ◌^◌, ◌<◌}
use mathlib.Core.Path.{◌≡◌, sym, ap, ◌∙◌, subst}
use Rattle.record.specs.Reader.{num_at}
use Rattle.write_bytes.proofs.Numbers.{width_four}
use Rattle.read_instrs.proofs.read_id.Goals as goal

pub returns-then-w-eq8 : goal.returns-then-w-eq8
returns-then-w-eq8 c = let a = c.args in
    let e : 8 ≡ a.w = sym c.if-w-eq8.true in
    (c.be.ensures.0 ∙ ap (num_at a.s.now a.at) e, subst (λ (w : ℕ). c.be.result < 256 ^ w) e c.be.ensures.1)

pub returns : goal.returns
returns c = let e : 4 ≡ c.args.w = sym (width_four c.requires.1 c.if-w-eq8.false) in
    (c.be-2.ensures.0 ∙ ap (num_at c.args.s.now c.args.at) e, subst (λ (w : ℕ). c.be-2.result < 256 ^ w) e c.be-2.ensures.1)
