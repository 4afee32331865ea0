-- `rewrite::with_opened` meets its contract: the tables of an accepted record hold the types and places of its names.
use mathlib.Core.Path.{refl, sym}
use native.Mathlib.Omega.{arith}
use lib.Seq.{length-take-le}
use Rattle.rewrite.proofs.Answers.{few_in, types_first, placed_first, accepted_reads}
use Rattle.rewrite.proofs.with_opened.Goals as goal

pub slice_bounds-types-end : goal.slice_bounds-types-end
slice_bounds-types-end _ c = let p = c.requires.accepted in
    omega (arith, few_in _ p _ c.layout_of-layout.ensures.0, c.layout_of-layout.auto)

pub slice_bounds-src-end : goal.slice_bounds-src-end
slice_bounds-src-end _ c = let p = c.requires.accepted in
    sym (length-take-le _ _ (omega (arith, few_in _ p _ c.layout_of-layout.ensures.0, c.layout_of-layout.auto)))

pub then-requires : goal.then-requires
then-requires _ c = let p = c.requires.accepted in
    let head = c.layout_of-layout.ensures in
    c.requires.callable _ _ refl
    (record {
      reads = accepted_reads _ p _ head.0 head.1;
      types = rw c.from.ensures (types_first _ p _ head.0 _ head.2);
      places = placed_first _ p _ head.0 _ head.3;
    }) refl

pub returns : goal.returns
returns _ c = let p = c.requires.accepted in
    let head = c.layout_of-layout.ensures in (
      _,
      _,
      _,
      refl,
      record {
        reads = accepted_reads _ p _ head.0 head.1;
        types = rw c.from.ensures (types_first _ p _ head.0 _ head.2);
        places = placed_first _ p _ head.0 _ head.3;
      },
      refl,
      refl,
      c.then.ensures,
    )
