-- `rewrite::front_size` meets its contract: the bytes up to the end of the names, B, and the names that are made.
use native.Mathlib.Omega.{arith}
use Rattle.record.proofs.Again.{names_lie}
use Rattle.rewrite.proofs.Known.{few_made, made_named, front_measured}
use Rattle.rewrite.proofs.front_size.Goals as goal

pub made_size-requires : goal.made_size-requires
made_size-requires c = let p = c.requires.reads in
    let m = c.requires.saved in
    (few_made p m, (made_named p m, names_lie p))

pub overflow_add-result-2 : goal.overflow_add-result-2
overflow_add-result-2 c = let p = c.requires in
    omega (arith, p.reads.near, c.made_size.ensures.1, few_made p.reads p.saved)

pub returns : goal.returns
returns c = let p = c.requires in (
  front_measured p.reads p.saved c.made_size.ensures.0,
  (omega (arith, p.reads.near, c.made_size.ensures.1, few_made p.reads p.saved), omega arith),
)
