-- `read_instrs::parts_at` meets its contract: each part stands where the parts before it leave off.
use Rattle.std.proofs.Common.{ℕ, ◌≡◌, ◌≤◌, ◌∙◌, sym, subst, ap, arith}
use Rattle.record.specs.declared.Shape.{Shape}
use Rattle.record.specs.Shape.{shape_of}
use Rattle.record.specs.Decode.{count_at, count_from}
use Rattle.read_shapes.proofs.Bounds.{shape_targets}
use Rattle.read_instrs.proofs.Again.{literal_there, count_there, callee_there, blocks_there}
use Rattle.read_instrs.proofs.parts_at.Goals as goal

pub returns : goal.returns
returns c = let a = c.args in
    let s = a.s.now in
    let sh = c.shape_of-shape.result in
    let same : sh ≡ shape_of a.code = rw c.from.ensures at c.shape_of-shape.ensures in
    let lit = literal_there sh s a.at c.past_if-literal.ensures.0 in
    let count = count_there sh s a.at lit c.past_if-count.ensures.0 in
    let callee = callee_there sh s a.at count c.count_from-args.ensures.0 c.past_if-callee.ensures.0 in
    let e : c.count_from-args.result ≡ count_from (shape_of a.code) s (count_at (shape_of a.code) s a.at) =
    c.count_from-args.ensures.0 ∙ ap (count_from sh s) count ∙ ap (λ (t : Shape). count_from t s (count_at t s a.at)) same in
    let few : c.count_from-args.result ≤ 8 = subst (λ (n : ℕ). n ≤ 8) (sym e) c.requires.1 in
    record {
      shape = same;
      literal = lit;
      count = count;
      args = c.count_from-args.ensures.0;
      callee = callee;
      blocks = blocks_there sh s a.at callee c.past_if-blocks.ensures.0;
      targets = c.targets-targets.ensures.0;
      few_args = few;
      few_targets = rw (c.targets-targets.ensures.0, same) (shape_targets a.code c.count_from-args.result few);
      literal_near = c.past_if-literal.ensures.1;
      count_near = omega (arith, c.past_if-literal.ensures.1, c.past_if-count.ensures.1);
      callee_near = omega (arith, few, c.past_if-literal.ensures.1, c.past_if-count.ensures.1, c.past_if-callee.ensures.1);
      blocks_near =
          omega (arith, few, c.past_if-literal.ensures.1, c.past_if-count.ensures.1, c.past_if-callee.ensures.1, c.past_if-blocks.ensures.1);
    }
