-- `check_names::text_at` meets its contract: the text is cut off, or its test decides.
use Prim.Native.Nat.{◌+◌, ◌-◌, ◌<◌}
use mathlib.Core.Path.{◌≡◌, sym, ap, ◌∙◌, subst}
use native.Mathlib.Omega.{arith}
use Rattle.record.specs.declared.Refusal.{Refusal}
use Rattle.record.specs.Answer.{fault_at}
use borrow.Author.Rules.{rules}
use lib.ListN.{take, drop}
use Rattle.std.specs.Prelude.{Err}
use Rattle.record.specs.Tests.{text_test}
use Rattle.read_layout.specs.Layout.{texts_from}
use Rattle.check_names.proofs.Laws.{text_past, text_passes, text_fails}
use Rattle.check_names.proofs.text_at.Goals as goal

pub returns-then-left-n : goal.returns-then-left-n
returns-then-left-n c = ap Err c.fault.ensures ∙ text_past _ _ _ _ (subst (λ m. m < c.args.n) c.left.ensures c.if-left-n.true)

pub returns-in_err-map_err : goal.returns-in_err-map_err
returns-in_err-map_err c = let a = c.args in
    let n : a.t + a.n - a.t ≡ a.n = omega arith in
    let tests = text_test a.lim.made (texts_from a.s.now a.before.from a.before.count) in
    let (k, e, r) : (k : Refusal) × (c.text_test.result ≡ Err k) × (c.from_residual.result ≡ Err (fault_at k a.t)) = search rules in
    r
    ∙ text_fails a.n tests a.s.now a.t (omega (arith, c.left.ensures, c.if-left-n.false)) _
    (ap (λ m. tests (take m (drop a.t a.s.now))) (sym n) ∙ sym c.text_test.ensures ∙ e)

pub returns : goal.returns
returns c = let a = c.args in
    let n : a.t + a.n - a.t ≡ a.n = omega arith in
    let tests = text_test a.lim.made (texts_from a.s.now a.before.from a.before.count) in
    text_passes a.n tests a.s.now a.t (omega (arith, c.left.ensures, c.if-left-n.false))
    (ap (λ m. tests (take m (drop a.t a.s.now))) (sym n) ∙ sym c.text_test.ensures ∙ search rules)
