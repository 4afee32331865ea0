-- Runs of the machine, computed: an input and its rewriting side by side, with what they did and how many steps they took.
use Rattle.std.specs.Prelude.{ℕ, suc, ◌-◌, ◌≡◌, refl, Bool, true, false, List, [], ◌∷◌, ◌++◌, map, get_or}
use Rattle.std.proofs.Math.Option.{Option, none, some}
use Rattle.arith.specs.Value.{Val, int, bool, pointer}
use Rattle.arith.specs.Operation.{by_zero}
use Rattle.record.specs.Record.{nm, Placed, Record, Function, function, plain, wide}
use Rattle.record.specs.Reader.{Res, got, fault}
use Rattle.record.specs.Samples.{division, division_rewritten, call, call_rewritten, loop, loop_rewritten, walk, comparison, comparison_rewritten, quotient, quotient_rewritten, join, join_rewritten}
use Rattle.arith.specs.Word.{W, least, minus_one}
use Rattle.record.specs.Typing.{accept}
use Rattle.machine.specs.Machine.{Store, Answer, value, go_on, halt, Event, at_end, at_ret, at_halt, at_unset, at_division, Place, before, stopped, Run, run}
use Rattle.machine.specs.Opened.{all_of_machine}

-- what a run shows: where it is, the blocks passed, the events, the answers left, the values of the names in order, and the steps
pub record Summary : Type 0 where
  pub place : Place
  pub passed : List ℕ
  pub events : List Event
  pub answers : List Answer
  pub values : List (Option Val)
  pub steps : ℕ

abbrev pub values_in : Store → ℕ → List ℕ → List (Option Val)
values_in σ n [] = []
values_in σ n (x ∷ xs) = σ (nm n) ∷ values_in σ (suc n) xs

abbrev pub summary : Function → Run → Summary
summary f r =
    record {
      place = r.place;
      passed = r.passed;
      events = r.mach.events;
      answers = r.mach.answers;
      values = values_in r.mach.store 0 f.types;
      steps = r.mach.steps;
    }

-- a store with these values of the names in order, and nothing else set
abbrev pub store_of : List (Option Val) → Store
store_of vs x = get_or vs x.0 none

-- the function of a record, input or rewriting
abbrev pub function_of : Res (Record Placed) → Function
function_of (got r p) = function (plain r)
function_of (fault k o) = record { args = 0; types = []; blocks = [] }

-- n blocks of a record's function
abbrev pub runs : List ℕ → List (Option Val) → List Answer → ℕ → Summary
runs s vs answers n = let f = function_of (accept wide s) in summary f (run f (store_of vs) answers n)

abbrev pub event : ℕ → ℕ → ℕ → List Val → Event
event i c f vs = record { id = i; code = c; callee = f; args = vs }

-- a summary by its parts in order
abbrev pub shows : Place → List ℕ → List Event → List Answer → List (Option Val) → ℕ → Summary
shows p bs es xs vs n = record { place = p; passed = bs; events = es; answers = xs; values = vs; steps = n }

-- ---- a record, what its names hold, the answers, how many blocks are run, and what the run shows
abbrev pub Case : Type 0
Case = List ℕ × List (Option Val) × List Answer × ℕ × Summary

-- a division by zero stops both runs, the second behind one save
abbrev pub stops_in_division : List Case
stops_in_division =
    let vs : List (Option Val) = some (int 0) ∷ none ∷ [] in
    let xs : List Answer = go_on ∷ [] in
    let stop : ℕ → Place = stopped (at_division 2 by_zero) 0 in
    (division, vs, xs, 1, shows (stop 1) [] [] xs (some (int 0) ∷ some (int 7) ∷ []) 2) ∷
    (division_rewritten, vs, xs, 1, shows (stop 2) [] [] xs (some (int 0) ∷ some (int 7) ∷ some (int 7) ∷ []) 3) ∷
    []

-- a bool does not fit an int: the event stands, dest keeps its value
abbrev pub halts : List Case
halts =
    let vs : List (Option Val) = some (int 5) ∷ [] in
    let xs : List Answer = value (bool true) ∷ go_on ∷ [] in
    let es : List Event = event 1 20 3 (int 5 ∷ []) ∷ [] in
    (call, vs, xs, 1, shows (stopped at_halt 0 0) [] es (go_on ∷ []) (some (int 5) ∷ []) 1) ∷
    (call_rewritten, vs, xs, 1, shows (stopped at_halt 0 1) [] es (go_on ∷ []) (some (int 5) ∷ some (int 5) ∷ []) 2) ∷
    []

-- over a jump back: the first block is passed twice, with its save each time
abbrev pub jumps_back : List Case
jumps_back =
    let vs : List (Option Val) = some (int 2) ∷ some (int minus_one) ∷ some (int 0) ∷ [] in
    let xs : List Answer = go_on ∷ go_on ∷ halt ∷ [] in
    let es : List Event = event 2 68 0 (int 1 ∷ []) ∷ event 2 68 0 (int 0 ∷ []) ∷ event 5 66 0 (int 0 ∷ []) ∷ [] in
    let end : List (Option Val) → ℕ → Summary = shows (stopped at_ret 1 0) (0 ∷ 0 ∷ []) es (halt ∷ []) in
    (loop, vs, xs, 5, end (some (int 0) ∷ some (int minus_one) ∷ some (int 0) ∷ some (bool false) ∷ []) 9) ∷
    (loop_rewritten, vs, xs, 5, end (some (int 0) ∷ some (int minus_one) ∷ some (int 0) ∷ some (bool false) ∷ some (int 1) ∷ []) 11) ∷
    []

-- an empty block, nop, jmp, load, store, and the end past the last block; the first two blocks of it, before block 3 is begun
abbrev pub walks : List Case
walks =
    let p : Val = pointer 0x10 100 8 in
    let vs : List (Option Val) = some p ∷ none ∷ [] in
    let es : List Event = event 4 38 0 (p ∷ []) ∷ event 5 70 0 (p ∷ int 9 ∷ []) ∷ [] in
    (walk, vs, value (int 9) ∷ go_on ∷ [], 4, shows (stopped at_end 4 0) (3 ∷ 1 ∷ 0 ∷ []) es [] (some p ∷ some (int 9) ∷ []) 4) ∷
    (walk, vs, [], 2, shows (before 3) (1 ∷ 0 ∷ []) [] [] vs 2) ∷
    []

-- an argument that is not set
abbrev pub unset_stops : List Case
unset_stops =
    (call, [], value (int 6) ∷ [], 1, shows (stopped at_unset 0 0) [] [] (value (int 6) ∷ []) (none ∷ []) 1) ∷ []

-- gt a b and ge a b, which the rewriting has as lt b a and le b a: of a less than b, equal, greater, and of -1 and 0
abbrev pub compares : ℕ → ℕ → Bool → Bool → List Case
compares a b greater not-less =
    let vs : List (Option Val) = some (int a) ∷ some (int b) ∷ none ∷ none ∷ [] in
    let es : List Event = event 5 68 0 (bool not-less ∷ bool not-less ∷ []) ∷ [] in
    let held : List (Option Val) = some (int a) ∷ some (int b) ∷ some (bool not-less) ∷ some (bool not-less) ∷ [] in
    let end : List (Option Val) → ℕ → Summary = shows (stopped at_end 1 0) (0 ∷ []) es [] in
    (comparison, vs, go_on ∷ [], 2, end held 5) ∷ (comparison_rewritten, vs, go_on ∷ [], 2, end (held ++ (some (bool greater) ∷ [])) 6) ∷ []

abbrev pub compare_alike : List Case
compare_alike =
    compares 2 5 false false ++ (compares 5 5 false true ++ (compares 5 2 true true ++ compares minus_one 0 false false))

-- div a b and, of known operands, div l m, which the rewriting has as a const: of -2^63 by -1 both pass on
abbrev pub passes_on : List Case
passes_on =
    let start : List (Option Val) = some (int least) ∷ some (int minus_one) ∷ [] in
    let held : List (Option Val) = some (int least) ∷ some (int minus_one) ∷ some (int least) ∷ some (int least) ∷ some (int minus_one) ∷ [] in
    let es : List Event = event 2 68 0 (int least ∷ []) ∷ event 6 68 0 (int least ∷ []) ∷ [] in
    let end : List (Option Val) → ℕ → Summary = shows (stopped at_end 1 0) (0 ∷ []) es [] in
    (quotient, start, go_on ∷ go_on ∷ [], 2, end held 6) ∷
    (quotient_rewritten, start, go_on ∷ go_on ∷ [], 2, end (held ++ (some (int least) ∷ [])) 7) ∷
    []

-- and of -2^63 by 0 both stop at the first of them
abbrev pub stops_by_zero : List Case
stops_by_zero =
    let start : List (Option Val) = some (int least) ∷ some (int 0) ∷ [] in
    let end : List (Option Val) → Summary = λ vs. shows (stopped (at_division 1 by_zero) 0 0) [] [] (go_on ∷ []) vs 1 in
    (quotient, start, go_on ∷ [], 2, end (start ++ (none ∷ none ∷ none ∷ []))) ∷
    (quotient_rewritten, start, go_on ∷ [], 2, end (start ++ (none ∷ none ∷ none ∷ none ∷ []))) ∷
    []

-- a loop with phi, passed twice: its argument k, which the rewriting has as j, holds the same; each pass has two saves
abbrev pub joins_twice : List Case
joins_twice =
    let vs : List (Option Val) = some (int 2) ∷ [] in
    let xs : List Answer = value (int (W - 5)) ∷ value (int 7) ∷ halt ∷ [] in
    let es : List Event = event 4 39 0 (int 0 ∷ int 0 ∷ []) ∷ event 4 39 0 (int (W - 5) ∷ int (W - 3) ∷ []) ∷ event 8 66 0 (int 7 ∷ []) ∷ [] in
    let held : List (Option Val) = some (int 2) ∷ some (int 7) ∷ some (int 9) ∷ some (int (W - 3)) ∷ some (bool false) ∷ [] in
    let end : List (Option Val) → ℕ → Summary = shows (stopped at_ret 2 0) (1 ∷ 1 ∷ 0 ∷ []) es (halt ∷ []) in
    (join, vs, xs, 5, end held 13) ∷
    (join_rewritten, vs, xs, 5, end (held ++ (some (int (W - 5)) ∷ some (int (W - 3)) ∷ [])) 17) ∷
    []

-- an answer that does not fit: a bool for the int that phi gives
abbrev pub joins_unfit : List Case
joins_unfit =
    let vs : List (Option Val) = some (int 2) ∷ [] in
    let es : List Event = event 4 39 0 (int 0 ∷ int 0 ∷ []) ∷ [] in
    let held : List (Option Val) = some (int 2) ∷ some (int 0) ∷ some (int 0) ∷ some (int 0) ∷ none ∷ [] in
    let end : ℕ → List (Option Val) → ℕ → Summary = λ p. shows (stopped at_halt 1 p) (0 ∷ []) es [] in
    (join, vs, value (bool true) ∷ [], 5, end 1 held 4) ∷
    (join_rewritten, vs, value (bool true) ∷ [], 5, end 2 (held ++ (some (int 0) ∷ none ∷ [])) 5) ∷
    []

abbrev pub cases : List Case
cases =
    stops_in_division ++ (halts ++ (jumps_back ++ (walks ++ (unset_stops ++ (compare_alike ++ (passes_on ++ (stops_by_zero ++ (joins_twice ++ joins_unfit))))))))

pub samples_run : map (λ c. runs c.0 c.1 c.2 c.3) cases ≡ map (λ c. c.4) cases
unfolding all_of_machine
samples_run = refl

-- ---- where each answer leads: value and effect codes
abbrev pub stop_of : List ℕ → List (Option Val) → List Answer → Place
stop_of s vs answers = (runs s vs answers 5).place

pub answers_that_halt :
    map (stop_of call (some (int 5) ∷ []))
    ([] ∷ (halt ∷ []) ∷ (go_on ∷ []) ∷ (value (pointer 0x10 1 2) ∷ []) ∷ (value (int W) ∷ []) ∷
    (value (int 6) ∷ []) ∷ (value (int 6) ∷ value (int 6) ∷ []) ∷ (value (int 6) ∷ halt ∷ []) ∷ (value (int 6) ∷ go_on ∷ []) ∷ []) ≡
    stopped at_halt 0 0 ∷ stopped at_halt 0 0 ∷ stopped at_halt 0 0 ∷ stopped at_halt 0 0 ∷ stopped at_halt 0 0 ∷
    stopped at_halt 0 1 ∷ stopped at_halt 0 1 ∷ stopped at_halt 0 1 ∷ stopped at_end 1 0 ∷ []
unfolding all_of_machine
answers_that_halt = refl
