-- `convert::Source::scan_body` meets its contract: what is found from here is what is found of all.
use Prim.Native.Nat.{◌-◌, ◌<◌}
use mathlib.Core.Path.{◌≡◌, sym, ap, ◌∙◌, subst}
use native.Mathlib.Omega.{arith}
use Rattle.record.specs.Reader.{num_at}
use Rattle.record.specs.Decode.{behind, instr_end}
use Rattle.record.proofs.Rows.{behind_next, behind_within}
use Rattle.record.proofs.Ends.{instr_grows}
use Rattle.write_bytes.specs.Put.{IdWidth}
use Rattle.write_bytes.proofs.Numbers.{id_width, width_most}
use Rattle.convert.proofs.Scan.{in_body, body_wide, body_on, body_done}
use Rattle.convert.proofs.Source.scan_body.Goals as goal

pub loop-init : goal.loop-init
loop-init g c = let a = c.args in
    let s = a.self.reads.now in
    let z : a.n - 0 ≡ a.n = omega arith in
    (ap (behind (instr_end g.row.FROM s) a.at) z, ap (in_body g.row.FROM g.row.TO s a.at) z)

pub fits-requires : goal.fits-requires
fits-requires g c = let a = c.args in
    let s = a.self.reads.now in
    omega (arith, behind_within (instr_end g.row.FROM s) (instr_grows g.row.FROM s) c.loop.p _ _ c.loop.invariant.0, c.requires)

pub returns-then-not-fits : goal.returns-then-not-fits
returns-then-not-fits g c = let a = c.args in
    let s = a.self.reads.now in
    let more : c.loop.counter < a.n = c.loop-test.true in
    body_wide g.row.FROM g.row.TO s c.loop.p (a.n - c.loop.counter) (omega (arith, more)) (sym c.fits.ensures ∙ c.if-not-fits.true)
    ∙ c.loop.invariant.1

pub instr_end-p-requires : goal.instr_end-p-requires
instr_end-p-requires g c = let a = c.args in
    let s = a.self.reads.now in (
      width_most (subst IdWidth (sym a.self.widths.0) (id_width (num_at s 4 1))),
      omega (arith, behind_within (instr_end g.row.FROM s) (instr_grows g.row.FROM s) c.loop.p _ _ c.loop.invariant.0, c.requires),
    )

pub loop-preserved : goal.loop-preserved
loop-preserved g c = let a = c.args in
    let s = a.self.reads.now in
    let next = c.instr_end-p.ensures.0 in
    let more : c.loop.counter < a.n = c.loop-test.true in (
      behind_next _ _ _ _ c.loop-test.true _ next ∙ c.loop.invariant.0,
      body_on g.row.FROM g.row.TO s c.loop.p _ (a.n - c.loop.counter) _ (omega (arith, more)) (omega arith) next
          (sym c.fits.ensures ∙ c.if-not-fits.false)
          ∙ c.loop.invariant.1,
    )

pub returns : goal.returns
returns g c = let a = c.args in
    body_done g.row.FROM g.row.TO a.self.reads.now c.loop.p (a.n - c.loop.counter) (omega arith) ∙ c.loop.invariant.1
