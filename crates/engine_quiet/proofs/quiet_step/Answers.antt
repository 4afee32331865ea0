-- `engine_quiet::quiet_step` meets its contract.
use mathlib.Core.Path.{refl, sym, ◌∙◌}
use borrow.Author.Rules.{rules}
use Rattle.engine_quiet.proofs.Spots.{nop_left, value_next, value_lies, value_moved, one_here, one_value, two_here, two_value, const_next, const_lies, const_done, jump_done, nop_next, nop_done}
use Rattle.engine_quiet.proofs.quiet_step.Goals as goal

pub constant-requires : goal.constant-requires
constant-requires c = let r = c.requires in
    (search rules, const_lies r.facing _ c.behind_code-at.ensures.place (sym c.in-Const.is ∙ r.coded))

pub onward-requires-clause-next : goal.onward-requires-clause-next
onward-requires-clause-next c = let r = c.requires in
    const_next r.facing _ c.behind_code-at.ensures.place (sym c.in-Const.is ∙ r.coded)

pub returns-in-Const : goal.returns-in-Const
returns-in-Const c = let r = c.requires in
    const_done r.facing _ c.behind_code-at.ensures.place (sym c.in-Const.is ∙ r.coded) c.args.cells.now _ _
    c.constant.ensures c.onward.ensures

pub operate_one-requires : goal.operate_one-requires
operate_one-requires c = let r = c.requires in
    let at = c.behind_code-at.ensures.place in
    let e = sym c.in-One.is ∙ r.coded in
    (search rules, value_lies r.facing _ at 1 (one_value r.facing _ at _ e) 5 refl _ (one_here r.facing _ at _ e))

pub behind_operation-requires-clause-next : goal.behind_operation-requires-clause-next
behind_operation-requires-clause-next c = let r = c.requires in
    let at = c.behind_code-at.ensures.place in
    let e = sym c.in-One.is ∙ r.coded in
    value_next r.facing _ at 1 (one_value r.facing _ at _ e) 5 refl _ (one_here r.facing _ at _ e)

pub returns-in-One : goal.returns-in-One
returns-in-One c = let r = c.requires in
    let at = c.behind_code-at.ensures.place in
    let e = sym c.in-One.is ∙ r.coded in
    value_moved r.facing _ at 1 (one_value r.facing _ at _ e) 5 refl _ (one_here r.facing _ at _ e) c.args.cells.now _ _ _
    c.operate_one.ensures c.behind_operation.ensures

pub operate_two-requires : goal.operate_two-requires
operate_two-requires c = let r = c.requires in
    let at = c.behind_code-at.ensures.place in
    let e = sym c.in-Two.is ∙ r.coded in
    (search rules, value_lies r.facing _ at 2 (two_value r.facing _ at _ e) 7 refl _ (two_here r.facing _ at _ e))

pub behind_operation-requires-in-Two-clause-next : goal.behind_operation-requires-in-Two-clause-next
behind_operation-requires-in-Two-clause-next c = let r = c.requires in
    let at = c.behind_code-at.ensures.place in
    let e = sym c.in-Two.is ∙ r.coded in
    value_next r.facing _ at 2 (two_value r.facing _ at _ e) 7 refl _ (two_here r.facing _ at _ e)

pub returns-in-Two : goal.returns-in-Two
returns-in-Two c = let r = c.requires in
    let at = c.behind_code-at.ensures.place in
    let e = sym c.in-Two.is ∙ r.coded in
    value_moved r.facing _ at 2 (two_value r.facing _ at _ e) 7 refl _ (two_here r.facing _ at _ e) c.args.cells.now _ _ _
    c.operate_two.ensures c.behind_operation-in-Two.ensures

pub returns-in-Jmp : goal.returns-in-Jmp
returns-in-Jmp c = let r = c.requires in
    jump_done r.facing _ c.behind_code-at.ensures.place (sym c.in-Jmp.is ∙ r.coded) c.args.cells.now _ _ (c.from.ensures ∙ c.u16_at.ensures) c.land.ensures

pub onward-requires-in_default-clause-next : goal.onward-requires-in_default-clause-next
onward-requires-in_default-clause-next c = let r = c.requires in
    let d = c.in_default in
    let e = nop_left _ r.quiet d.not-Const d.not-One d.not-Two d.not-Jmp d.not-Br in
    nop_next r.facing _ c.behind_code-at.ensures.place (e ∙ r.coded)

pub returns-in_default : goal.returns-in_default
returns-in_default c = let r = c.requires in
    let d = c.in_default in
    let e = nop_left _ r.quiet d.not-Const d.not-One d.not-Two d.not-Jmp d.not-Br in
    nop_done r.facing _ c.behind_code-at.ensures.place (e ∙ r.coded) c.args.cells.now _ c.onward-in_default.ensures
