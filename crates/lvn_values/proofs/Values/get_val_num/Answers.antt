-- `lvn_values::Values::get_val_num` meets its contract: what is new each time and an id are not looked up.
use borrow.Author.Rules.{rules}
use denote.Enum.Declared.{tag_of}
use mathlib.Core.List.{[], ◌∷◌}
use mathlib.Core.Option.{Option}
use mathlib.Core.Path.{◌≡◌, sym, ap, ◌∙◌}
use types.Run.{OneOf}
use Rattle.arith.specs.declared.One.{One as Operator}
use Rattle.arith.specs.declared.One.TheVariants.{Not, Id}
use Rattle.arith.specs.Operation.{Expr}
use Rattle.numbering.specs.Number.{find, get_val_num}
use Rattle.numbering.specs.contracts.Value as values
use Rattle.numbering.specs.declared.ValNum.{ValNum}
use Rattle.numbering.specs.declared.Value.TheVariants.{One}
use Rattle.lvn_values.specs.Table.{numbered_of}
use Rattle.lvn_values.proofs.Numbers.{Found, looked_up, looked_not}
use Rattle.lvn_values.proofs.Values.get_val_num.Goals as goal
use Rattle.lvn_values.proofs.Values.get_val_num.Goals.{in_default-via-in-One+in_default, in_default-via-in_default}

pub returns-in-One-Id-default : goal.returns-in-One-Id-default
unfolding get_val_num
returns-in-One-Id-default _ c = λ s p q. let e : c.in-One-Id-default.field-0 ≡ Id = search rules in rw (c.in-One-Id-default.is, e)

pub returns-in_default : goal.returns-in_default
returns-in_default _ c = λ s p q.
    let v = c.args.v in
    let found : Found s (numbered_of c.look_up.result) v =
    λ e h. c.look_up.ensures e (c.of.ensures ∙ h) ∙
    ap (λ (f : ValNum → Option (Expr ValNum)). find f e 0 c.args.self.now.count) (sym p) ∙ ap (find s.vals e 0) (sym q) in
    elim c.in_default.branch [
      | in_default-via-in-One+in_default w ↦
          let e : w.in_default.field-0 ≡ Not = search rules in
          looked_not s _ v w.in_default.field-1 (w.in_default.is ∙ ap (λ (o : Operator). One o w.in_default.field-1) e) found
      | in_default-via-in_default w ↦
          let k : OneOf (1 ∷ 3 ∷ []) (tag_of values.the_type v) = search rules in
          looked_up s _ v k found
    ]
