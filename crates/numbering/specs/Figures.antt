-- "Bytes and saves ahead of filing" (document 02, Point 1): the figures of an input, read off the rewriting that rewrite's definition
-- has, as functions of the input and of the places as they were lent.
use Rattle.std.specs.Prelude.{Result, Ok, Err, ℕ, cond, List, [], ◌∷◌, ◌++◌, map, length, drop, ltb}
use Rattle.record.specs.Record.{Instr, Placed, Block, Record, plain, limits}
use Rattle.record.specs.Reader.{Res, got, fault}
use Rattle.record.specs.Typing.{accept}
use Rattle.record.specs.Answer.{Returned, success, refusal, fault_at}
use Rattle.numbering.specs.declared.Totals.{Totals}
use Rattle.numbering.specs.declared.FiguresError.{FiguresError}
use Rattle.numbering.specs.declared.FiguresError.TheVariants.{Refused, TooFew}
use Rattle.numbering.specs.Made.{made, rewriting}
use Rattle.numbering.specs.Rewrite.{totals, rewritten_bytes}

-- the answer of figures: what the rewriting comes to, or why nothing is counted
abbrev pub Figured : Type 0
Figured = Result Totals FiguresError

-- "12: the slice has fewer places than blocks"
unfoldable pub figures_answer : Figured → Returned
figures_answer (Ok t) = success (t.bytes ∷ t.saves ∷ [])
figures_answer (Err (Refused f)) = refusal f
figures_answer (Err TooFew) = record { number = 12; values = 0 ∷ [] }

-- "per block, the instructions of its rewriting": the n of a block as it is filed
abbrev pub instructions : Block Instr → ℕ
instructions b = length b.body

-- those of all blocks of the rewriting
unfoldable pub block_figures : Record Placed → List ℕ
block_figures r = map instructions (rewriting (plain r)).blocks

-- "the bytes needed, the total of saves"; places: how many were lent
unfoldable pub figures_result : ℕ → Res (Record Placed) → Figured
figures_result places (fault k o) = Err (Refused (fault_at k o))
figures_result places (got r p) =
    cond (ltb places (length r.blocks)) (Err TooFew) (Ok (totals (length (rewritten_bytes r)) (length (made (plain r)))))

-- "places beyond B are untouched"; of 12: "nothing is written"
unfoldable pub figures_places : List ℕ → Res (Record Placed) → List ℕ
figures_places each (fault k o) = each
figures_places each (got r p) =
    cond (ltb (length each) (length r.blocks)) each (block_figures r ++ drop (length r.blocks) each)

-- what figures returns, and what the places hold then
unfoldable pub figures : List ℕ → List ℕ → Figured
figures input each = figures_result (length each) (accept limits input)

unfoldable pub figures_leaves : List ℕ → List ℕ → List ℕ
figures_leaves input each = figures_places each (accept limits input)
