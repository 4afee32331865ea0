-- `write_names::Names::put_made_name` meets its contract: the type and the text of the name stand at its place.
use borrow.Author.Rules.{rules}
use Prim.Native.Nat.{◌+◌}
use mathlib.Core.Path.{ap, ◌∙◌}
use native.Mathlib.Omega.{arith}
use lib.ListN.{length, drop}
use Rattle.std.proofs.lemmas.List.{length-take}
use Rattle.write_names.proofs.Laws.{made_wrote, text_short}
use Rattle.write_names.proofs.Names.put_made_name.Goals as goal

pub put_made-requires : goal.put_made-requires
put_made-requires c =
    let n = c.from-n in
    let short = text_short _ _ _ _ c.place-p.ensures.0 (n.ensures ∙ c.u8_at.ensures) c.requires.1.1.0 in
    let long = length-take n.result (drop (c.place-p.result + 2) c.args.self.bytes.now) in
    (search rules, (omega (arith, short, ap length c.part-text.ensures, long), search rules))

pub returns : goal.returns
returns c = (
  made_wrote _ _ _ _ _ _
      c.requires.1.0
      c.place-p.ensures.0
      c.u8_at-ty.ensures
      (c.from-n.ensures ∙ c.u8_at.ensures)
      (rw c.part-text.ensures at c.put_made.ensures.0),
  search rules,
)
