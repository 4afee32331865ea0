-- The program's runs, computed: a run that is done, those that are refused, and inputs that are cut off or go on.
use Rattle.std.specs.Prelude.{◌≡◌, refl, Bool, true, List, [], ◌∷◌, ◌++◌, map, ℕ}
use Prim.Native.String.{String}
use Rattle.record.specs.Hex.{hex}
use Rattle.record.specs.Samples.{call, call_wide}
use Rattle.record.specs.Text.{same_bytes}
use Rattle.running.specs.Program.{output_with, run_output}
use Rattle.running.specs.Opened.{all_of_running}

-- an input, and what the program writes
pub data Run : Type 0 where
  gives : List ℕ → String → Run

-- a = call 3 (a); print a, with 5 in a: store, answers and limit
abbrev pub given : List ℕ → List ℕ
given rest = call ++ (hex "0000000A 01 00 0000000000000005" ++ rest)

abbrev pub runs : List Run
runs =
    -- to the end, in two steps: events of 34 bytes, a store of 14
    gives (given (hex "0000000B 01 00 0000000000000006 FE 0000000000000009"))
    "00 0000000000000022 000000000000000E 0000000000000002 0000000000000000 0000000000000000 00000001 14 0003 01 00 0000000000000005 00000002 44 0000 01 00 0000000000000006 0000000A 01 00 0000000000000006" ∷
    -- the same in version 2: events of 42 bytes
    gives (call_wide ++ hex "0000000A 01 00 0000000000000005 0000000B 01 00 0000000000000006 FE 0000000000000009")
    "00 000000000000002A 000000000000000E 0000000000000002 0000000000000000 0000000000000000 0000000100000000 14 0003 01 00 0000000000000005 FFFFFFFFFFFFFFFF 44 0000 01 00 0000000000000006 0000000A 01 00 0000000000000006" ∷
    -- no step: the limit is spent
    gives (given (hex "00000001 01 0000000000000000"))
    "00 0000000000000000 000000000000000E 0000000000000000 0000000000000005 0000000000000000 0000000A 01 00 0000000000000005" ∷
    -- 13: an answer that does not fit; and check's refusal, of a record that ends behind its length
    gives (given (hex "00000002 01 FE 0000000000000009")) "0D 0000000000000000" ∷
    gives (hex "00000000 00000001 01 00000001 01 0000000000000009") "01 0000000000000004" ∷
    -- 10, with the place of the limit: nothing at all, a cut length, a cut part, a limit of seven bytes and of nine
    gives [] "0A 0000000000000000" ∷
    gives (hex "000000") "0A 0000000000000003" ∷
    gives (hex "00000009 01 0000000000000009") "0A 000000000000000D" ∷
    gives (given (hex "00000001 01 00000000000009")) "0A 0000000000000038" ∷
    gives (given (hex "00000001 01 000000000000000009")) "0A 0000000000000038" ∷
    []

abbrev pub agrees : Run → Bool
agrees (gives s t) = same_bytes (run_output s) (hex t)

pub written_runs : map agrees runs ≡ map (λ r. true) runs
unfolding all_of_running
written_runs = refl

-- 14, where less is lent than the program lends: both counts
pub short_run :
    output_with 33 14 (given (hex "0000000B 01 00 0000000000000006 FE 0000000000000009")) ≡ hex "0E 0000000000000022 000000000000000E"
unfolding all_of_running
short_run = refl
