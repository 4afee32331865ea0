-- `convert::Source::put` meets its contract: an id that has no room, too short an output, or the record in the version that is wanted.
use mathlib.Core.Path.{sym, ◌∙◌}
use native.Mathlib.Omega.{arith}
use Rattle.record.proofs.Following.{handed_on}
use Rattle.convert.proofs.Accepted.{measured, wide_answer, short_answer, done_answer}
use Rattle.convert.proofs.Source.put.Goals as goal

pub returns-in_err-size : goal.returns-in_err-size
returns-in_err-size g c = let a = c.args in
    let w = wide_answer a.self.version a.self.reads.now c.requires.0 c.in_err-size.field-0.0 a.out.now (sym c.in_err-size.was ∙ c.size.ensures) in
    (handed_on c.from_residual.result c.in_err-size.field-0.0 c.from_residual.ensures.1 ∙ w.0, w.1)

pub returns-then-out-size : goal.returns-then-out-size
returns-then-out-size g c = let a = c.args in
    short_answer a.self.version a.self.reads.now c.requires.0 c.in_ok-size.size (sym c.in_ok-size.was ∙ c.size.ensures) a.out.now c.if-out-size.true

pub overflow_cast-size : goal.overflow_cast-size
overflow_cast-size g c = let a = c.args in
    omega (arith, (measured a.self.version a.self.reads.now c.requires.0 c.in_ok-size.size (sym c.in_ok-size.was ∙ c.size.ensures)).small)

pub put_record-requires : goal.put_record-requires
put_record-requires g c = let a = c.args in
    let m = measured a.self.version a.self.reads.now c.requires.0 c.in_ok-size.size (sym c.in_ok-size.was ∙ c.size.ensures) in
    (omega arith, (m, c.requires.1))

pub returns : goal.returns
returns g c = let a = c.args in
    done_answer a.self.version a.self.reads.now c.requires.0 c.in_ok-size.size (sym c.in_ok-size.was ∙ c.size.ensures) a.out.now _
    (omega (arith, c.if-out-size.false)) c.put_record.ensures
