-- `engine_events::takes` meets its contract, by what the answer is and whether there is a dest.
use Prim.Native.Nat.{ℕ, ◌<◌}
use mathlib.Core.Path.{sym, ap, ◌∙◌, subst}
use borrow.Author.Rules.{rules}
use Rattle.arith.specs.Map.{upd}
use Rattle.arith.specs.Value.{has_type}
use Rattle.record.specs.declared.NameIx.{NameIx}
use Rattle.record.specs.Record.{NameIx-discrete, type_in}
use Rattle.record.specs.Decode.{index_from}
use Rattle.engine_cells.specs.Cells.{store_in, cell_value, cell_holds}
use Rattle.engine_house.specs.Reads.{IsSet}
use Rattle.engine_events.specs.Replies.{dest_op}
use Rattle.engine_events.proofs.Answers.{takes_go_on, takes_halt, takes_none, takes_fits, takes_sets, dest_name}
use Rattle.engine_events.proofs.takes.Goals as goal

pub returns-in-GoOn : goal.returns-in-GoOn
returns-in-GoOn c = let a = c.args in
    let g = a.g.now in
    let d = index_from g.s.now a.at in
    rw (c.in-GoOn.is, c.has_dest.ensures) (takes_go_on (dest_op a.op) (type_in g.types.now d) (store_in a.cells.now) d)

pub returns-in-Halt : goal.returns-in-Halt
returns-in-Halt c = let a = c.args in
    let g = a.g.now in
    let d = index_from g.s.now a.at in
    rw c.in-Halt.is (takes_halt (dest_op a.op) (type_in g.types.now d) (store_in a.cells.now) d)

pub returns-then-not-has_dest : goal.returns-then-not-has_dest
returns-then-not-has_dest c = let a = c.args in
    let g = a.g.now in
    let d = index_from g.s.now a.at in
    rw c.in-Value.is
    (takes_none (dest_op a.op) (type_in g.types.now d) (store_in a.cells.now) d c.in-Value.c (sym c.has_dest-in-Value.ensures ∙ c.if-not-has_dest.true), λ e. absurd (cc e))

pub returns-then-not-has_type : goal.returns-then-not-has_type
returns-then-not-has_type c = let a = c.args in
    let g = a.g.now in
    let d = index_from g.s.now a.at in
    let x = c.in-Value.c in
    let has = sym c.has_dest-in-Value.ensures ∙ c.if-not-has_dest.false in
    let t = c.type_of.ensures ∙ ap (type_in g.types.now) (dest_name g.s.now a.at c.be-d.result c.be-d.ensures.0) in
    rw c.in-Value.is (
      sym
          (takes_fits (dest_op a.op) (type_in g.types.now d) (store_in a.cells.now) d x has ∙
          ap (λ (k : ℕ). has_type k (cell_value x)) (sym t) ∙ sym c.has_type.ensures ∙ c.if-not-has_type.true),
      λ e. absurd (cc e),
    )

pub set_cell-requires : goal.set_cell-requires
set_cell-requires c =
    (search rules, subst (λ (x : ℕ). x < 256) (sym c.be-d.ensures.0) (c.requires.dest (sym c.has_dest-in-Value.ensures ∙ c.if-not-has_dest.false)))

pub returns-else-not-has_type : goal.returns-else-not-has_type
returns-else-not-has_type c = let a = c.args in
    let g = a.g.now in
    let d = index_from g.s.now a.at in
    let x = c.in-Value.c in
    let has = sym c.has_dest-in-Value.ensures ∙ c.if-not-has_dest.false in
    let t = c.type_of.ensures ∙ ap (type_in g.types.now) (dest_name g.s.now a.at c.be-d.result c.be-d.ensures.0) in
    let set = subst IsSet c.in-Value.is c.requires.set in
    rw c.in-Value.is (
      sym
          (takes_fits (dest_op a.op) (type_in g.types.now d) (store_in a.cells.now) d x has ∙
          ap (λ (k : ℕ). has_type k (cell_value x)) (sym t) ∙ sym c.has_type.ensures ∙ c.if-not-has_type.false),
      λ e.
          c.set_cell.ensures ∙
          ap (λ (y : NameIx). upd NameIx-discrete (store_in a.cells.now) y (cell_holds x))
          (dest_name g.s.now a.at c.be-d.result c.be-d.ensures.0) ∙
          takes_sets (dest_op a.op) (type_in g.types.now d) (store_in a.cells.now) d x has set,
    )
