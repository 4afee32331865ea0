-- What the loop keeps: the rest from here gives the whole answer.
use mathlib.Core.Path.{◌≡◌}
use lib.Dec.{eqb}
use Rattle.record.specs.Reader.{times}
use Rattle.record.specs.Answer.{verdict}
use Rattle.record.specs.Read.{instr}
use Rattle.check_blocks.proofs.check_instrs.Given as goal

abbrev pub invariant-loop-left : goal.invariant-loop-left
invariant-loop-left l =
    verdict (times l.left (λ k. instr l.of.width l.of.names l.of.blocks (eqb k 0)) l.s l.p)
    ≡ verdict (times l.fn.count (λ k. instr l.of.width l.of.names l.of.blocks (eqb k 0)) l.s l.fn.at)
