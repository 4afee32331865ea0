-- What the second pass answers for a whole record, by its bytes alone.
use Rattle.std.specs.Prelude.{ℕ, List, Result}
use Rattle.record.specs.declared.Fault.{Fault}
use Rattle.record.specs.Record.{type_in, function, plain}
use Rattle.record.specs.Reader.{got}
use Rattle.record.specs.Typing.{block_types}
use Rattle.record.specs.Answer.{verdict}
use Rattle.record.specs.Decode.{record_from, blocks_end}

unfoldable pub typed_verdict : List ℕ → Result ℕ Fault
typed_verdict s =
    verdict (block_types {A = Unit {0}} (type_in (function (plain (record_from s))).types) (record_from s).blocks (got tt (blocks_end s)))
