-- `engine::run_accepted` meets its contract: the tables of an accepted record hold the types of its names and the places of its blocks.
use mathlib.Core.Path.{sym}
use native.Mathlib.Omega.{arith}
use lib.Seq.{length-take-le}
use Rattle.engine.proofs.Accepted.{few, few_blocks, names_are, blocks_are, types_first, ends_near, places_first, width_is, opened}
use Rattle.engine.proofs.run_accepted.Goals as goal

pub fill_blocks-requires : goal.fill_blocks-requires
fill_blocks-requires c = (c.layout_of-head.ensures.1.0, ends_near _ c.requires _ c.layout_of-head.ensures.0)

pub slice_bounds-types-end : goal.slice_bounds-types-end
slice_bounds-types-end c = omega (arith, few _ c.requires, names_are _ c.requires _ c.layout_of-head.ensures.0, c.layout_of-head.auto)

pub slice_bounds-g-end : goal.slice_bounds-g-end
slice_bounds-g-end c = sym
    (length-take-le _ _
    (omega (arith, few _ c.requires, names_are _ c.requires _ c.layout_of-head.ensures.0, c.layout_of-head.auto)))

pub slice_bounds-starts-end : goal.slice_bounds-starts-end
slice_bounds-starts-end c = omega (arith, few_blocks _ c.requires, blocks_are _ c.requires _ c.layout_of-head.ensures.0, c.fill_blocks.auto)

pub slice_bounds-g-end-2 : goal.slice_bounds-g-end-2
slice_bounds-g-end-2 c = sym
    (length-take-le _ _
    (omega (arith, few_blocks _ c.requires, blocks_are _ c.requires _ c.layout_of-head.ensures.0, c.fill_blocks.auto)))

pub run_opened-requires : goal.run_opened-requires
run_opened-requires c = let head = c.layout_of-head.ensures in
    rw c.from.ensures
    (opened _ c.requires (width_is _ c.requires _ head.0) (types_first _ c.requires _ head.0 _ head.2)
    (places_first _ c.requires _ head.0 _ c.fill_blocks.ensures.1))
