-- `lvn_values::Values::push` meets its contract: the entry of the value stands at the next number.
use Prim.Native.Nat.{◌<◌}
use mathlib.Core.Path.{refl, ap, ◌∙◌}
use native.Mathlib.Numerals.{add-one}
use borrow.Author.Rules.{rules}
use lib.ListN.{length, set}
use Rattle.arith.specs.Map.{upd}
use Rattle.numbering.specs.State.{vn, ValNum-discrete}
use Rattle.lvn_values.specs.Table.{vals_of}
use Rattle.lvn_values.proofs.Search.{vals_set}
use Rattle.lvn_values.proofs.Values.push.Goals as goal

pub returns : goal.returns
returns _ c = let s = c.args.self.now in
    let e = c.of-e.result in
    let h : s.count < length s.heads = search rules in
    let n : s.count < length s.nums = search rules in
    rw c.from-k.ensures (
      refl,
      ap (vals_of (set s.heads s.count e.head) (set s.nums s.count e.num)) (add-one s.count) ∙
          vals_set s.heads s.nums s.count h e.head e.num n ∙
          ap (upd ValNum-discrete (vals_of s.heads s.nums s.count) (vn s.count)) c.of-e.ensures,
    )
