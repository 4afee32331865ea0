-- `convert::Source::put_block` meets its contract: the head, and behind it the instructions.
use mathlib.Core.Path.{◌∙◌}
use native.Mathlib.Omega.{arith}
use Rattle.convert.proofs.Block.{head_ends, body_stands, block_put}
use Rattle.convert.proofs.Source.put_block.Goals as goal

pub u16_at-count-requires : goal.u16_at-count-requires
u16_at-count-requires g c = let a = c.args in
    omega (arith, (head_ends g.row.FROM g.row.TO a.self.reads.now a.at c.requires).0)

pub overflow_add-at : goal.overflow_add-at
overflow_add-at g c = let a = c.args in
    record { fits = omega (arith, (head_ends g.row.FROM g.row.TO a.self.reads.now a.at c.requires).0) }

pub u16_at-saves-requires : goal.u16_at-saves-requires
u16_at-saves-requires g c = let a = c.args in
    omega (arith, (head_ends g.row.FROM g.row.TO a.self.reads.now a.at c.requires).0)

pub overflow_add-first : goal.overflow_add-first
overflow_add-first g c = let a = c.args in
    record { fits = omega (arith, (head_ends g.row.FROM g.row.TO a.self.reads.now a.at c.requires).0) }

pub overflow_add-first-2 : goal.overflow_add-first-2
overflow_add-first-2 g c = let a = c.args in
    record { fits = omega (arith, (head_ends g.row.FROM g.row.TO a.self.reads.now a.at c.requires).1) }

pub overflow_add-at-2 : goal.overflow_add-at-2
overflow_add-at-2 g c = let a = c.args in
    record { fits = omega (arith, (head_ends g.row.FROM g.row.TO a.self.reads.now a.at c.requires).1) }

pub put_body-requires : goal.put_body-requires
put_body-requires g c = let a = c.args in
    (omega arith, body_stands g.row.FROM g.row.TO a.self.reads.now a.at c.requires _ (c.from.ensures ∙ c.u16_at-count.ensures))

pub returns : goal.returns
returns g c = let a = c.args in
    block_put g.row.FROM g.row.TO a.self.reads.now a.at c.requires c.from.result (c.from.ensures ∙ c.u16_at-count.ensures) _ _ c.u16_at-count.ensures
    c.u16_at-saves.ensures c.put_u16.ensures c.put_u16-2.ensures c.put_body.ensures
