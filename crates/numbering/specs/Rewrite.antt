-- "Rewrite": its answer and its whole output, as functions of the input and of the output as it was lent.
use Rattle.std.specs.Prelude.{Result, Ok, Err, ℕ, cond, List, [], ◌∷◌, ◌++◌, length, drop, ltb}
use Rattle.record.specs.Record.{Placed, Record, plain, limits}
use Rattle.record.specs.Reader.{Res, got, fault}
use Rattle.record.specs.Typing.{accept}
use Rattle.record.specs.Write.{bytes}
use Rattle.record.specs.Answer.{Returned, success, refusal, fault_at}
use Rattle.numbering.specs.declared.Totals.{Totals}
use Rattle.numbering.specs.declared.RewriteError.{RewriteError}
use Rattle.numbering.specs.declared.RewriteError.TheVariants.{Refused, Room}
use Rattle.numbering.specs.Made.{made, rewriting}

-- n bytes and k saves
abbrev pub totals : ℕ → ℕ → Totals
totals n k = record { bytes = n; saves = k }

-- the answer of rewrite: what is written comes to, or why nothing is
abbrev pub Rewritten : Type 0
Rewritten = Result Totals RewriteError

-- "9: the output is shorter than the bytes needed, which it returns"
unfoldable pub rewrite_answer : Rewritten → Returned
rewrite_answer (Ok t) = success (t.bytes ∷ t.saves ∷ [])
rewrite_answer (Err (Refused f)) = refusal f
rewrite_answer (Err (Room n)) = record { number = 9; values = n ∷ [] }

-- the bytes that are written of an accepted record
unfoldable pub rewritten_bytes : Record Placed → List ℕ
rewritten_bytes r = bytes (rewriting (plain r))

-- "Success returns bytes written and all saves"; room: the length of the output
unfoldable pub rewrite_result : ℕ → Res (Record Placed) → Rewritten
rewrite_result room (fault k o) = Err (Refused (fault_at k o))
rewrite_result room (got r p) =
    let n = length (rewritten_bytes r) in
    cond (ltb room n) (Err (Room n)) (Ok (totals n (length (made (plain r)))))

-- "A refusal leaves the output untouched"; "bytes beyond are untouched"
unfoldable pub rewrite_output : List ℕ → Res (Record Placed) → List ℕ
rewrite_output out (fault k o) = out
rewrite_output out (got r p) =
    let new = rewritten_bytes r in
    cond (ltb (length out) (length new)) out (new ++ drop (length new) out)

-- what rewrite returns, and what the output holds then
unfoldable pub rewrite : List ℕ → List ℕ → Rewritten
rewrite input output = rewrite_result (length output) (accept limits input)

unfoldable pub rewrite_leaves : List ℕ → List ℕ → List ℕ
rewrite_leaves input output = rewrite_output output (accept limits input)
