-- `convert::convert` meets its contract: check's refusal, or what is done with an accepted record.
use mathlib.Core.Path.{sym, ap, ◌∙◌}
use native.Mathlib.Omega.{arith}
use Rattle.record.specs.Reader.{num_at}
use Rattle.record.proofs.Following.{handed_on}
use Rattle.read_layout.specs.declared.Layout.{Layout}
use Rattle.read_layout.specs.Layout.{layout_of}
use Rattle.write_bytes.proofs.Numbers.{id_width}
use Rattle.convert.proofs.Accepted.{refused_answer, input_checked, other_width}
use Rattle.convert.proofs.convert.Goals as goal

pub returns-in_err-check : goal.returns-in_err-check
returns-in_err-check g c = let a = c.args in
    let r = refused_answer a.version a.input.now a.output.now _ (sym c.check.ensures ∙ c.in_err-check.was) in
    (handed_on c.from_residual.result _ c.from_residual.ensures.1 ∙ r.0, r.1)

pub invariant_of-put : goal.invariant_of-put
unfolding layout_of
invariant_of-put g c = record {
  widths = (sym c.if-layout-eq8.true ∙ ap (λ (l : Layout). l.width) c.head_of-layout.ensures, c.requires.1);
}

pub put-requires : goal.put-requires
put-requires g c = let a = c.args in
    let k = input_checked a.version a.input.now (λ i. omega (arith, c.type_inv.input i)) c.requires.0 (sym c.check.ensures ∙ c.in_ok-check.was) in
    (omega arith, (k, c.head_of-layout.ensures))

pub invariant_of-put-2 : goal.invariant_of-put-2
unfolding layout_of
invariant_of-put-2 g c =
    let w = ap (λ (l : Layout). l.width) c.head_of-layout.ensures in
    record {
      widths = (other_width _ (id_width (num_at c.args.input.now 4 1)) (λ e. c.if-layout-eq8.false (w ∙ e)), c.requires.1);
    }

pub put-requires-2 : goal.put-requires-2
put-requires-2 g c = let a = c.args in
    let k = input_checked a.version a.input.now (λ i. omega (arith, c.type_inv.input i)) c.requires.0 (sym c.check.ensures ∙ c.in_ok-check.was) in
    (omega arith, (k, c.head_of-layout.ensures))
