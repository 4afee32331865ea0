-- `check_blocks::check_operands` meets its contract: its parts in order, each passed or refused.
use mathlib.Core.Path.{◌≡◌, sym, ap, ◌∙◌}
use lib.ListN.{length}
use Rattle.record.specs.Shape.{targets}
use Rattle.record.specs.Reader.{field, times}
use Rattle.record.specs.Tests.{below}
use Rattle.record.specs.Read.{operands}
use Rattle.record.proofs.Decode.{args_counted}
use Rattle.record.proofs.Following.{handed_on, stopped, passed, passed_by, made}
use Rattle.check_blocks.proofs.check_operands.Goals as goal

pub returns-in_err-literal : goal.returns-in_err-literal
unfolding operands
returns-in_err-literal c = λ id code.
    handed_on c.from_residual.result c.in_err-literal.field-0.0 c.from_residual.ensures.1
    ∙ stopped _ _ _ _ _ (sym c.dest_if.ensures ∙ c.in_err-literal.was)

pub returns-in_err-args : goal.returns-in_err-args
unfolding operands
returns-in_err-args c = λ id code.
    handed_on c.from_residual-in_err-args.result c.in_err-args.field-0.0 c.from_residual-in_err-args.ensures.1
    ∙ passed _ _ _ _ _ _ (sym c.dest_if.ensures ∙ c.in_ok-literal.was) (λ dest.
    stopped _ _ _ _ _ (sym c.literal_if.ensures ∙ c.in_err-args.was))

pub returns-in_err-callee : goal.returns-in_err-callee
unfolding operands
returns-in_err-callee c = λ id code.
    handed_on c.from_residual-in_err-callee.result c.in_err-callee.field-0.0 c.from_residual-in_err-callee.ensures.1
    ∙ passed _ _ _ _ _ _ (sym c.dest_if.ensures ∙ c.in_ok-literal.was) (λ dest.
    passed _ _ _ _ _ _ (sym c.literal_if.ensures ∙ c.in_ok-args.was) (λ lit.
    stopped _ _ _ _ _ (sym c.arguments_if.ensures ∙ c.in_err-callee.was)))

pub returns-in_err-blocks : goal.returns-in_err-blocks
unfolding operands
returns-in_err-blocks c = λ id code.
    handed_on c.from_residual-in_err-blocks.result c.in_err-blocks.field-0.0 c.from_residual-in_err-blocks.ensures.1
    ∙ passed _ _ _ _ _ _ (sym c.dest_if.ensures ∙ c.in_ok-literal.was) (λ dest.
    passed _ _ _ _ _ _ (sym c.literal_if.ensures ∙ c.in_ok-args.was) (λ lit.
    passed _ _ _ _ _ _ (sym c.arguments_if.ensures ∙ c.in_ok-callee.was) (λ args.
    stopped _ _ _ _ _ (sym c.callee_if.ensures ∙ c.in_err-blocks.was))))

pub returns : goal.returns
unfolding operands
returns c = let a = c.args in λ id code.
    passed _ _ _ _ _ _ (sym c.dest_if.ensures ∙ c.in_ok-literal.was) (λ dest.
    passed _ _ _ _ _ _ (sym c.literal_if.ensures ∙ c.in_ok-args.was) (λ lit.
    passed_by _ _ _ _ _ _ (sym c.arguments_if.ensures ∙ c.in_ok-callee.was) (λ args g.
    let many : c.targets.result ≡ targets a.sh (length args) =
    c.targets.ensures.0 ∙ ap (targets a.sh) (c.count_from-count.ensures.0 ∙ sym (args_counted a.of.names a.sh _ _ args _ g)) in
    passed _ _ _ _ _ _ (sym c.callee_if.ensures ∙ c.in_ok-blocks.was) (λ callee.
    (rw many at c.indexes_at.ensures) ∙ sym (made (times _ (λ left. field 2 (below a.of.blocks))) _ _ _)))))
