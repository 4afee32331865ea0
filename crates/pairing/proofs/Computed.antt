-- Instances of demand 3, computed: functions, stores and answers that meet every premise, with the events and the steps of both runs.
use Prim.Native.Nat.{ℕ, ◌-◌}
use mathlib.Core.Path.{◌≡◌, refl}
use mathlib.Core.Bool.{true, false}
use mathlib.Core.List.{List, [], ◌∷◌, map}
use mathlib.Core.Option.{Option, none, some}
use Rattle.arith.specs.Value.{Val, int, char, bool}
use Rattle.arith.specs.Operation.{by_zero}
use Rattle.record.specs.Record.{Instr, Block, limits}
use Rattle.record.specs.Samples.{division, call, loop, quotient, join}
use Rattle.arith.specs.Word.{W, least, minus_one}
use Rattle.record.specs.Hex.{hex}
use Rattle.record.specs.Typing.{accept}
use Rattle.numbering.specs.Number.{lvn}
use Rattle.machine.specs.Machine.{Answer, value, go_on, at_end, at_ret, at_halt, at_unset, at_division, Place, before, stopped}
use Rattle.machine.specs.Examples.{Summary, summary, function_of, event, shows}
use Rattle.pairing.specs.Demand.{next_block, stop, shown, saves_passed, saves_before, count_dests}
use Rattle.pairing.proofs.Instances.{Case, function_in, first_run, second_run, Instance, meets, instance}
use Rattle.pairing.specs.Opened.{all_of_pairing}

-- C5: x = 5; y = 5; x = 6; print y
abbrev pub c5 : List ℕ
c5 = hex "00000048 01 00 0002 000178 000179 0001 0004 0000 00000001 00 0000 00 0000000000000005 00000002 00 0001 00 0000000000000005 00000003 00 0000 00 0000000000000006 00000004 44 01 0001"

-- ---- the cases
-- C5, with a made name that holds a char at the start: one save, one step more
abbrev pub c5_case : Case
c5_case =
    record { bytes = c5; first = none ∷ none ∷ []; second = none ∷ none ∷ some (char 97) ∷ []; answers = go_on ∷ []; asked = 1 }

-- both runs start alike
abbrev from : List ℕ → List (Option Val) → List Answer → ℕ → Case
from s vs xs n = record { bytes = s; first = vs; second = vs; answers = xs; asked = n }

-- a division by zero: the save before it is counted
abbrev pub division_case : Case
division_case = from division (some (int 0) ∷ none ∷ []) [] 3

-- an answer that does not fit: a bool for an int
abbrev pub call_case : Case
call_case = from call (some (int 5) ∷ []) (value (bool true) ∷ go_on ∷ []) 1

-- a loop passed twice, its save counted each time
abbrev pub loop_case : Case
loop_case = from loop (some (int 2) ∷ some (int minus_one) ∷ some (int 0) ∷ none ∷ []) (go_on ∷ go_on ∷ []) 4

-- -2^63 by -1, of arguments and of known constants: the run passes on
abbrev pub quotient_case : Case
quotient_case = from quotient (some (int least) ∷ some (int minus_one) ∷ none ∷ none ∷ none ∷ []) (go_on ∷ go_on ∷ []) 2

-- a loop with phi passed twice, its two saves counted each time; the first phi answered by a bool
abbrev pub join_case : Case
join_case = from join (some (int 2) ∷ none ∷ none ∷ none ∷ none ∷ []) (value (int (W - 5)) ∷ value (int 7) ∷ []) 4

abbrev pub join_unfit : Case
join_unfit = from join (some (int 2) ∷ none ∷ none ∷ none ∷ none ∷ []) (value (bool true) ∷ []) 4

-- print a | a = phi a x, of which x is not set: "from that block on demand 3 says nothing"
abbrev pub phi_unset : ℕ → Case
phi_unset n =
    from (hex "0000002C 01 01 0002 000161 000178 0002 0001 0000 00000001 44 01 0000 0001 0000 00000002 27 0000 02 0000 0001 0000 0000")
    (some (int 5) ∷ none ∷ []) (go_on ∷ value (int 6) ∷ []) n

-- print a | print y, which is not set: the first block's runs are alike, and more is not said
abbrev pub unset_later : ℕ → Case
unset_later n =
    from (hex "00000024 01 01 0002 000161 000179 0002 0001 0000 00000001 44 01 0000 0001 0000 00000002 44 01 0001")
    (some (int 5) ∷ none ∷ []) (go_on ∷ go_on ∷ []) n

-- ---- each meets every premise
pub cases_alike :
    Instance c5_case × Instance division_case × Instance call_case × Instance loop_case × Instance quotient_case × Instance (unset_later 1) ×
    Instance join_case × Instance join_unfit × Instance (phi_unset 1)
unfolding all_of_pairing
cases_alike = (
  instance c5_case tt,
  instance division_case tt,
  instance call_case tt,
  instance loop_case tt,
  instance quotient_case tt,
  instance (unset_later 1) tt,
  instance join_case tt,
  instance join_unfit tt,
  instance (phi_unset 1) tt,
)

pub unset_later_read : map (λ n. meets (unset_later n)) (0 ∷ 1 ∷ 2 ∷ 3 ∷ []) ≡ true ∷ true ∷ false ∷ false ∷ []
unfolding all_of_pairing
unset_later_read = refl

pub phi_unset_read : map (λ n. meets (phi_unset n)) (0 ∷ 1 ∷ 2 ∷ 3 ∷ []) ≡ true ∷ true ∷ false ∷ false ∷ []
unfolding all_of_pairing
phi_unset_read = refl

-- ---- what the run of the function and the run of its rewriting show; the values are those of the original names
abbrev both_runs : Case → Summary × Summary
both_runs c = let f = function_in c in (summary f (first_run c), summary f (second_run c))

-- the same but for the place and the steps
abbrev alike_but : (Place → ℕ → Summary) → Place → ℕ → Place → ℕ → Summary × Summary
alike_but s p n q m = (s p n, s q m)

pub cases_run :
    map both_runs (c5_case ∷ division_case ∷ call_case ∷ loop_case ∷ quotient_case ∷ join_case ∷ join_unfit ∷ []) ≡
    alike_but (λ p n. shows p (0 ∷ []) (event 4 68 0 (int 5 ∷ []) ∷ []) [] (some (int 6) ∷ some (int 5) ∷ []) n)
    (stopped at_end 1 0) 4 (stopped at_end 1 0) 5 ∷
    alike_but (λ p n. shows p [] [] [] (some (int 0) ∷ some (int 7) ∷ []) n)
    (stopped (at_division 2 by_zero) 0 1) 2 (stopped (at_division 2 by_zero) 0 2) 3 ∷
    alike_but (λ p n. shows p [] (event 1 20 3 (int 5 ∷ []) ∷ []) (go_on ∷ []) (some (int 5) ∷ []) n)
    (stopped at_halt 0 0) 1 (stopped at_halt 0 1) 2 ∷
    alike_but
    (λ p n. shows p (0 ∷ 0 ∷ []) (event 2 68 0 (int 1 ∷ []) ∷ event 2 68 0 (int 0 ∷ []) ∷ event 5 66 0 (int 0 ∷ []) ∷ []) []
    (some (int 0) ∷ some (int minus_one) ∷ some (int 0) ∷ some (bool false) ∷ []) n)
    (stopped at_ret 1 0) 9 (stopped at_ret 1 0) 11 ∷
    alike_but
    (λ p n. shows p (0 ∷ []) (event 2 68 0 (int least ∷ []) ∷ event 6 68 0 (int least ∷ []) ∷ []) []
    (some (int least) ∷ some (int minus_one) ∷ some (int least) ∷ some (int least) ∷ some (int minus_one) ∷ []) n)
    (stopped at_end 1 0) 6 (stopped at_end 1 0) 7 ∷
    alike_but
    (λ p n. shows p (1 ∷ 1 ∷ 0 ∷ [])
    (event 4 39 0 (int 0 ∷ int 0 ∷ []) ∷ event 4 39 0 (int (W - 5) ∷ int (W - 3) ∷ []) ∷ event 8 66 0 (int 7 ∷ []) ∷ []) []
    (some (int 2) ∷ some (int 7) ∷ some (int 9) ∷ some (int (W - 3)) ∷ some (bool false) ∷ []) n)
    (stopped at_ret 2 0) 13 (stopped at_ret 2 0) 17 ∷
    alike_but
    (λ p n. shows p (0 ∷ []) (event 4 39 0 (int 0 ∷ int 0 ∷ []) ∷ []) [] (some (int 2) ∷ some (int 0) ∷ some (int 0) ∷ some (int 0) ∷ none ∷ []) n)
    (stopped at_halt 1 1) 4 (stopped at_halt 1 2) 5 ∷
    []
unfolding all_of_pairing
cases_run = refl

-- ---- what the statement counts and compares
abbrev rewritten_blocks : List ℕ → List (Block Instr)
rewritten_blocks s = (lvn (function_of (accept limits s))).blocks

-- the loop's block passed twice; before the division, before its save, and where nothing stopped; instructions with a dest in the division
pub counted :
    saves_passed (rewritten_blocks loop) (0 ∷ 0 ∷ []) ∷
    saves_passed (rewritten_blocks loop) (1 ∷ 0 ∷ []) ∷
    saves_before 2 (rewritten_blocks division) (stopped (at_division 2 by_zero) 0 2) ∷
    saves_before 2 (rewritten_blocks division) (stopped (at_division 2 by_zero) 0 1) ∷
    saves_before 2 (rewritten_blocks division) (before 0) ∷
    map (λ (b : Block Instr). count_dests b.body) (function_of (accept limits division)).blocks ≡
    2 ∷ 1 ∷ 1 ∷ 0 ∷ 0 ∷ 2 ∷ []
unfolding all_of_pairing
counted = refl

-- a stop is shown by its kind, a division by id and cause, and where it stands in the block is not
pub compared :
    shown (before 3) ∷
    shown (stopped at_end 1 0) ∷
    shown (stopped at_ret 1 2) ∷
    shown (stopped at_halt 1 2) ∷
    shown (stopped at_unset 1 2) ∷
    shown (stopped (at_division 7 by_zero) 1 2) ∷
    [] ≡
    next_block 3 ∷ stop at_end ∷ stop at_ret ∷ stop at_halt ∷ stop at_unset ∷ stop (at_division 7 by_zero) ∷ []
unfolding shown
compared = refl
