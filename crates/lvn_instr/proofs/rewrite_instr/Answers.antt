-- `lvn_instr::rewrite_instr` meets its contract.
use mathlib.Core.List.{◌++◌, map}
use mathlib.Core.Path.{◌≡◌, refl, sym, ap, ◌∙◌}
use native.Mathlib.Omega.{arith}
use borrow.Author.Rules.{rules}
use lib.ListN.{length, take, drop}
use lib.Seq.{length-take-le}
use Rattle.std.proofs.Math.Seq.{take-append_seam}
use Rattle.record.specs.Answer.{literal_of}
use Rattle.record.specs.Record.{nm}
use Rattle.record.specs.View.{code_of, row_of, instr_of}
use Rattle.lvn_instr.proofs.rewrite_instr.Goals as goal

pub returns : goal.returns
unfolding instr_of
returns _ c = let i = c.args.i in
    let n = i.args.count in
    let l = i.args.items in
    let r = c.replace_args in
    let k : length l ≡ 8 = search rules in
    let m : length r.new.args ≡ n = (rw c.from.ensures at r.auto.args) ∙ length-take-le n l (omega arith) in
    let e : take n (r.new.args ++ drop n l) ≡ r.new.args =
    ap (λ m. take m (r.new.args ++ drop n l)) (sym m) ∙ take-append_seam r.new.args (drop n l) in
    rw c.from.ensures (
      (λ u p q z. record {
        id = i.id;
        code = code_of i.op;
        dest = i.dest;
        lit = literal_of i.literal;
        args = (ap (map nm) e ∙ (rw c.from.ensures at (r.ensures u p q))) z;
        callee = i.callee;
        blocks = row_of i.blocks;
      }),
      (refl, refl),
    )
