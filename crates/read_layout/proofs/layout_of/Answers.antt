-- `read_layout::layout_of` meets its contract: the head is read where the names that are walked end.
use mathlib.Core.Path.{ap, ◌∙◌}
use lib.Seq.{sets}
use Rattle.std.proofs.Common.{arith}
use Rattle.record.specs.Decode.{behind, name_end, names_end}
use Rattle.read_layout.specs.Layout.{types_from, places_from}
use Rattle.read_layout.proofs.layout_of.Goals as goal

pub returns : goal.returns
unfolding names_end
returns c = let f = c.fill_names-end.ensures in
    let n = c.from.ensures ∙ c.names_count.ensures in
    let l = c.layout_at.ensures in
    let a = c.args in
    let s = a.s.now in (
      l.says (f.0 ∙ ap (behind (name_end s) 8) n),
      (l.few.0, l.few.1.0, l.few.1.1.0, omega (arith, l.names.0, l.names.1, f.1, n), l.few.1.1.1),
      f.2 ∙ ap (λ k. sets a.types.now 0 (types_from s 8 k)) n,
      f.3 ∙ ap (λ k. sets a.places.now 0 (places_from s 8 k)) n,
    )
