-- What the loop keeps: the numbers so far stand in the row.
use Rattle.std.proofs.Common.{◌≡◌, take}
use Rattle.record.specs.Decode.{items, two_on, number_from}
use Rattle.read_instrs.proofs.read_row.Given as goal

abbrev pub invariant-loop-i : goal.invariant-loop-i
invariant-loop-i l = take l.i l.x-items ≡ items (number_from l.s) two_on l.at l.i
