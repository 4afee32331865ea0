-- What the loop keeps: the rest from here gives the whole answer.
use Prim.Native.Nat.{◌-◌}
use mathlib.Core.Path.{◌≡◌}
use Rattle.record.specs.Reader.{times}
use Rattle.record.specs.Answer.{verdict}
use Rattle.record.specs.Read.{block}
use Rattle.check_blocks.proofs.check_blocks.Given as goal

abbrev pub invariant-loop : goal.invariant-loop
invariant-loop l =
    verdict (times (l.fn.of.blocks - l.counter) (λ k. block l.lim l.of.width l.of.names l.of.blocks) l.s l.p)
    ≡ verdict (times l.fn.of.blocks (λ k. block l.lim l.of.width l.of.names l.of.blocks) l.s l.fn.at)
