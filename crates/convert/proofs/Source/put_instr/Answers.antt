-- `convert::Source::put_instr` meets its contract: the id, and behind it what stands behind the id that is read.
use mathlib.Core.Path.{sym, subst}
use native.Mathlib.Omega.{arith}
use Rattle.write_bytes.specs.Put.{IdWidth}
use Rattle.write_bytes.proofs.Numbers.{id_width, width_most}
use Rattle.record.specs.Reader.{num_at}
use Rattle.convert.proofs.Instr.{id_fits, id_ends, instr_put}
use Rattle.convert.proofs.Source.put_instr.Goals as goal

pub read_id-id-requires : goal.read_id-id-requires
read_id-id-requires g c = let a = c.args in
    let e = id_ends g.row.FROM g.row.TO a.self.reads.now a.at c.requires in
    (omega (arith, e.1), subst IdWidth (sym a.self.widths.0) (id_width (num_at a.self.reads.now 4 1)))

pub instr_end-end-requires : goal.instr_end-end-requires
instr_end-end-requires g c = let a = c.args in
    let e = id_ends g.row.FROM g.row.TO a.self.reads.now a.at c.requires in
    (width_most (subst IdWidth (sym a.self.widths.0) (id_width (num_at a.self.reads.now 4 1))), omega (arith, e.1))

pub overflow_add-behind : goal.overflow_add-behind
overflow_add-behind g c = let a = c.args in
    let e = id_ends g.row.FROM g.row.TO a.self.reads.now a.at c.requires in
    omega (arith, e.1)

pub put_word-requires : goal.put_word-requires
put_word-requires g c = let a = c.args in (
  subst IdWidth (sym a.self.widths.1) (id_width a.self.version),
  id_fits g.row.FROM g.row.TO a.self.reads.now a.at c.requires _ c.read_id-id.ensures.0,
)

pub overflow_sub-end : goal.overflow_sub-end
overflow_sub-end g c = let a = c.args in
    let e = id_ends g.row.FROM g.row.TO a.self.reads.now a.at c.requires in
    omega (arith, e.0, c.instr_end-end.ensures.0)

pub overflow_add-at : goal.overflow_add-at
overflow_add-at g c = let a = c.args in
    let e = id_ends g.row.FROM g.row.TO a.self.reads.now a.at c.requires in
    omega (arith, e.2)

pub copy_bytes-q-requires : goal.copy_bytes-q-requires
copy_bytes-q-requires g c = let a = c.args in
    let e = id_ends g.row.FROM g.row.TO a.self.reads.now a.at c.requires in
    omega (arith, e.2, c.requires.reads, c.instr_end-end.ensures.0)

pub returns : goal.returns
returns g c = let a = c.args in
    instr_put g.row.FROM g.row.TO a.self.reads.now a.at c.requires _ _ c.read_id-id.ensures.0 c.instr_end-end.ensures.0 c.put_word.ensures
    c.copy_bytes-q.ensures.0
