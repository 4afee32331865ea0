-- `convert::Source::size` meets its contract: what is found of the ids of all blocks, and the bytes of an id exchanged in as many instructions.
use mathlib.Core.Path.{sym, ◌∙◌}
use native.Mathlib.Omega.{arith}
use Rattle.record.proofs.Following.{handed_on}
use Rattle.convert.proofs.Accepted.{blocks_near, wide_found, sizes, size_found}
use Rattle.convert.proofs.Source.size.Goals as goal

pub overflow_add-layout : goal.overflow_add-layout
overflow_add-layout g c = let a = c.args in
    omega (arith, (blocks_near a.self.version a.self.reads.now c.requires.0 a.layout c.requires.1 g.row.FROM a.self.widths.0).0)

pub scan_blocks-requires : goal.scan_blocks-requires
scan_blocks-requires g c = let a = c.args in
    let n = blocks_near a.self.version a.self.reads.now c.requires.0 a.layout c.requires.1 g.row.FROM a.self.widths.0 in
    (omega arith, (n.1, n.2))

pub returns-in_err-n : goal.returns-in_err-n
returns-in_err-n g c = let a = c.args in
    handed_on c.from_residual.result c.in_err-n.field-0.0 c.from_residual.ensures.1
    ∙ wide_found a.self.version a.self.reads.now c.requires.0 a.layout c.requires.1 g.row.FROM g.row.TO a.self.widths.0 a.self.widths.1 _
    (sym c.in_err-n.was ∙ c.scan_blocks.ensures)

pub overflow_mul-result : goal.overflow_mul-result
overflow_mul-result g c = let a = c.args in
    let z =
    sizes a.self.version a.self.reads.now c.requires.0 a.layout c.requires.1 g.row.FROM g.row.TO a.self.widths.0 a.self.widths.1 c.in_ok-n.n
    (sym c.in_ok-n.was ∙ c.scan_blocks.ensures) in
    omega (arith, z.0, c.ranges.self)

pub overflow_sub-result : goal.overflow_sub-result
overflow_sub-result g c = let a = c.args in
    (sizes a.self.version a.self.reads.now c.requires.0 a.layout c.requires.1 g.row.FROM g.row.TO a.self.widths.0 a.self.widths.1 c.in_ok-n.n
    (sym c.in_ok-n.was ∙ c.scan_blocks.ensures)).0

pub overflow_mul-result-2 : goal.overflow_mul-result-2
overflow_mul-result-2 g c = let a = c.args in
    let z =
    sizes a.self.version a.self.reads.now c.requires.0 a.layout c.requires.1 g.row.FROM g.row.TO a.self.widths.0 a.self.widths.1 c.in_ok-n.n
    (sym c.in_ok-n.was ∙ c.scan_blocks.ensures) in
    omega (arith, z.1)

pub overflow_add-result : goal.overflow_add-result
overflow_add-result g c = let a = c.args in
    let z =
    sizes a.self.version a.self.reads.now c.requires.0 a.layout c.requires.1 g.row.FROM g.row.TO a.self.widths.0 a.self.widths.1 c.in_ok-n.n
    (sym c.in_ok-n.was ∙ c.scan_blocks.ensures) in
    omega (arith, z.2)

pub returns : goal.returns
returns g c = let a = c.args in
    size_found a.self.version a.self.reads.now c.requires.0 a.layout c.requires.1 g.row.FROM g.row.TO a.self.widths.0 a.self.widths.1 c.in_ok-n.n
    (sym c.in_ok-n.was ∙ c.scan_blocks.ensures)
