-- `lvn_values::Values::known` meets its contract: the table read at a number, where there is one.
use mathlib.Core.Path.{sym, ap, ◌∙◌}
use Rattle.numbering.specs.State.{known_expr}
use Rattle.lvn_values.specs.declared.Entry.{Entry}
use Rattle.lvn_values.specs.Table.{expr_at}
use Rattle.lvn_values.proofs.Search.{vals_in, vals_past}
use Rattle.lvn_values.proofs.Values.known.Goals as goal

pub returns-then-v-self : goal.returns-then-v-self
unfolding known_expr
returns-then-v-self _ c = let s = c.args.self.now in
    sym (ap known_expr (vals_past s.heads s.nums s.count c.args.v c.if-v-self.true))

pub returns : goal.returns
returns _ c = let s = c.args.self.now in
    c.known.ensures ∙ ap (λ (e : Entry). known_expr (expr_at e.head e.num)) c.entry.ensures ∙
    sym (ap known_expr (vals_in s.heads s.nums s.count c.args.v c.if-v-self.false))
