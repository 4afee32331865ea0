-- `check_rules::typed_at` meets its contract: each rule is kept or not by a method of its own, and fits the shape of its code.
use mathlib.Core.Path.{refl}
use mathlib.Core.Bool.{true, false}
use Rattle.check_rules.proofs.Laws.{typed_free, typed_kept}
use Rattle.check_rules.proofs.typed_at.Goals as goal

pub returns-in-Free : goal.returns-in-Free
returns-in-Free c = typed_free c.args.s c.args.types _ _ _ true c.byte_or.ensures.0 _ _ c.rule_of.ensures c.in-Free.is refl

pub returns-in-FitsDest : goal.returns-in-FitsDest
returns-in-FitsDest c = typed_kept c.args.s c.args.types _ _ _ _ c.byte_or.ensures.0 _ _ c.rule_of.ensures c.in-FitsDest.is true true refl c.fits_dest.ensures

pub returns-in-Copies : goal.returns-in-Copies
returns-in-Copies c = typed_kept c.args.s c.args.types _ _ _ _ c.byte_or.ensures.0 _ _ c.rule_of.ensures c.in-Copies.is true false refl c.copies.ensures

pub returns-in-Shifts : goal.returns-in-Shifts
returns-in-Shifts c = typed_kept c.args.s c.args.types _ _ _ _ c.byte_or.ensures.0 _ _ c.rule_of.ensures c.in-Shifts.is true false refl c.shifts.ensures

pub returns-in-Allocates : goal.returns-in-Allocates
returns-in-Allocates c = typed_kept c.args.s c.args.types _ _ _ _ c.byte_or.ensures.0 _ _ c.rule_of.ensures c.in-Allocates.is true false refl c.allocates.ensures

pub returns-in-Loads : goal.returns-in-Loads
returns-in-Loads c = typed_kept c.args.s c.args.types _ _ _ _ c.byte_or.ensures.0 _ _ c.rule_of.ensures c.in-Loads.is true false refl c.loads.ensures

pub returns-in-Joins : goal.returns-in-Joins
returns-in-Joins c = typed_kept c.args.s c.args.types _ _ _ _ c.byte_or.ensures.0 _ _ c.rule_of.ensures c.in-Joins.is true false refl c.joins.ensures

pub returns-in-Stores : goal.returns-in-Stores
returns-in-Stores c = typed_kept c.args.s c.args.types _ _ _ _ c.byte_or.ensures.0 _ _ c.rule_of.ensures c.in-Stores.is false false refl c.stores.ensures

pub returns-in-Frees : goal.returns-in-Frees
returns-in-Frees c = typed_kept c.args.s c.args.types _ _ _ _ c.byte_or.ensures.0 _ _ c.rule_of.ensures c.in-Frees.is false false refl c.frees.ensures

pub returns-in-Branches : goal.returns-in-Branches
returns-in-Branches c = typed_kept c.args.s c.args.types _ _ _ _ c.byte_or.ensures.0 _ _ c.rule_of.ensures c.in-Branches.is false false refl c.branches.ensures

pub returns-in-Takes : goal.returns-in-Takes
returns-in-Takes c = typed_kept c.args.s c.args.types _ _ _ _ c.byte_or.ensures.0 _ _ c.rule_of.ensures c.in-Takes.is true false refl
    (rw (← c.from.ensures, ← c.from-in-Takes.ensures) c.takes.ensures)
