-- Runs of small functions, computed: no block at all, events with their callee, answers of every type, what is read first, and every end.
use Rattle.std.specs.Prelude.{ℕ, ◌+◌, ◌-◌, ◌≡◌, refl, Bool, true, false, List, [], ◌∷◌, ◌++◌, map, length}
use Rattle.std.proofs.Math.Option.{Option, none, some}
use Rattle.arith.specs.Operation.{by_zero}
use Rattle.arith.specs.Value.{Val, int, float, literal, char, bool, pointer}
use Rattle.arith.specs.Word.{W, least, minus_one}
use Rattle.record.specs.Record.{Instr, Function}
use Rattle.record.specs.Short.{gives, asks, joins, set, does, tells, chooses, goes}
use Rattle.record.specs.Tables.{count, numerals}
use Rattle.machine.specs.Machine.{Answer, value, go_on, halt, Event, Stop, at_end, at_ret, at_halt, at_unset, at_division, Place, before, stopped, run}
use Rattle.machine.specs.Examples.{Summary, summary, store_of, event, shows}
use Rattle.machine.specs.Opened.{all_of_machine}

-- a function by the types of its names and its blocks, what its names hold, the answers, how many blocks are run, and what the run shows
pub record Case : Type 0 where
  pub types : List ℕ
  pub blocks : List (List Instr)
  pub values : List (Option Val)
  pub answers : List Answer
  pub asked : ℕ
  pub shows : Summary

abbrev pub ran : List ℕ → List (List Instr) → List (Option Val) → List Answer → ℕ → Summary
ran ts bs vs answers n =
    let f : Function = record { args = 0; types = ts; blocks = map (λ is. record { saves = 0; body = is }) bs } in
    summary f (run f (store_of vs) answers n)

-- one block that is run to its end: types, instructions, values, answers, all of which are taken; events, the values then, and steps
abbrev pub one_block : List ℕ → List Instr → List (Option Val) → List Answer → List Event → List (Option Val) → ℕ → Case
one_block ts is vs xs es then n =
    record { types = ts; blocks = is ∷ []; values = vs; answers = xs; asked = 1; shows = shows (stopped at_end 1 0) (0 ∷ []) es [] then n }

-- ---- "B of 0 ends", however many blocks are asked for
abbrev pub no_blocks : List Case
no_blocks =
    map
    (λ n. record {
      types = 0x00 ∷ [];
      blocks = [];
      values = some (int 5) ∷ [];
      answers = go_on ∷ [];
      asked = n;
      shows = shows (stopped at_end 0 0) [] [] (go_on ∷ []) (some (int 5) ∷ []) 0;
    })
    (0 ∷ 1 ∷ 3 ∷ [])

-- ---- "an event (id, code, callee, argument values)": a = call 7 (a); call 9 (a, a); print a; call 0 (); nop and jmp add none
-- p ptr<int>, x int: p = alloc x; x = load p; store p x; free p
abbrev pub events_in_order : List Case
events_in_order =
    let a : List Event = event 1 20 7 (int 5 ∷ []) ∷ event 2 67 9 (int 6 ∷ int 6 ∷ []) ∷ event 3 68 0 (int 6 ∷ []) ∷ event 4 67 0 [] ∷ [] in
    let p : Val = pointer 0x10 3 0 in
    record {
      types = 0x00 ∷ [];
      blocks =
          (asks 1 0 7 (0 ∷ []) ∷ tells 2 9 (0 ∷ 0 ∷ []) ∷ does 3 68 (0 ∷ []) ∷ tells 4 0 [] ∷ does 5 69 [] ∷ goes 6 1 ∷ []) ∷ [] ∷ [];
      values = some (int 5) ∷ [];
      answers = value (int 6) ∷ go_on ∷ go_on ∷ go_on ∷ halt ∷ [];
      asked = 2;
      shows = shows (stopped at_end 2 0) (1 ∷ 0 ∷ []) a (halt ∷ []) (some (int 6) ∷ []) 6;
    } ∷
    one_block (0x10 ∷ 0x00 ∷ [])
    (gives 1 0 37 (1 ∷ []) ∷ gives 2 1 38 (0 ∷ []) ∷ does 3 70 (0 ∷ 1 ∷ []) ∷ does 4 71 (0 ∷ []) ∷ [])
    (none ∷ some (int 5) ∷ []) (value p ∷ value (int 6) ∷ go_on ∷ go_on ∷ [])
    (event 1 37 0 (int 5 ∷ []) ∷ event 2 38 0 (p ∷ []) ∷ event 3 70 0 (p ∷ int 6 ∷ []) ∷ event 4 71 0 (p ∷ []) ∷ [])
    (some p ∷ some (int 6) ∷ []) 4 ∷
    []

-- each of the codes 20 to 39 asks, and each of the effects 67, 68, 70, 71 tells
abbrev pub codes_with_events : List Case
codes_with_events =
    let five : List (Option Val) = some (int 5) ∷ [] in
    let told : ℕ → List Event = λ c. event 1 c 0 (int 5 ∷ []) ∷ [] in
    map
    (λ c. one_block (0x00 ∷ 0x00 ∷ []) (gives 1 1 c (0 ∷ []) ∷ []) five (value (int 6) ∷ []) (told c) (some (int 5) ∷ some (int 6) ∷ []) 1)
    (count 20 20) ++
    map (λ c. one_block (0x00 ∷ []) (does 1 c (0 ∷ []) ∷ []) five (go_on ∷ []) (told c) five 1) (67 ∷ 68 ∷ 70 ∷ 71 ∷ [])

-- ---- phi: "an event over all its argument values", in order and with the callee 0, whatever its blocks; of none, of a name twice and of itself
abbrev pub phi_events : List Case
phi_events =
    let vs : Option Val → List (Option Val) = λ x. some (int 5) ∷ some (int 6) ∷ x ∷ [] in
    let phi : List (ℕ × ℕ) → List Val → Case =
    λ xbs read. one_block (0x00 ∷ 0x00 ∷ 0x00 ∷ []) (joins 1 2 xbs ∷ []) (vs (some (int 7))) (value (int 8) ∷ []) (event 1 39 0 read ∷ []) (vs (some (int 8))) 1 in
    phi [] [] ∷
    phi ((1, 0) ∷ []) (int 6 ∷ []) ∷
    phi ((1, 0) ∷ (0, 9) ∷ (1, 1) ∷ []) (int 6 ∷ int 5 ∷ int 6 ∷ []) ∷
    phi ((0, 0) ∷ (2, 0) ∷ []) (int 5 ∷ int 7 ∷ []) ∷
    phi ((0, 0) ∷ (1, 0) ∷ (2, 0) ∷ (0, 0) ∷ (1, 0) ∷ (2, 0) ∷ (0, 0) ∷ (1, 0) ∷ [])
    (int 5 ∷ int 6 ∷ int 7 ∷ int 5 ∷ int 6 ∷ int 7 ∷ int 5 ∷ int 6 ∷ []) ∷
    []

-- ---- an instruction that stops a run at once, with nop behind it: the stop, its event or none, and the answers that are left
abbrev pub stops_run : List (Option Val) → Instr → List Answer → Stop → List Event → List Answer → Case
stops_run vs i answers s es left =
    record {
      types = 0x00 ∷ 0x00 ∷ [];
      blocks = (i ∷ does 2 69 [] ∷ []) ∷ (does 3 69 [] ∷ []) ∷ [];
      values = vs;
      answers = answers;
      asked = 3;
      shows = shows (stopped s 0 0) [] es left vs 1;
    }

-- every answer that halts is taken off the list, its event stands, and dest keeps its value
abbrev pub halts : Instr → Event → List Answer → List Answer → Case
halts i e answers left = stops_run (some (int 5) ∷ none ∷ []) i answers at_halt (e ∷ []) left

abbrev pub halting_answers : List Case
halting_answers =
    -- a = call 7 (): halt, go on, a value of another type, none left
    halts (asks 1 0 7 []) (event 1 20 7 []) (halt ∷ go_on ∷ []) (go_on ∷ []) ∷
    halts (asks 1 0 7 []) (event 1 20 7 []) (go_on ∷ halt ∷ []) (halt ∷ []) ∷
    halts (asks 1 0 7 []) (event 1 20 7 []) (value (bool true) ∷ go_on ∷ []) (go_on ∷ []) ∷
    halts (asks 1 0 7 []) (event 1 20 7 []) [] [] ∷
    -- a = phi a, from block 0: the same
    halts (joins 1 0 ((0, 0) ∷ [])) (event 1 39 0 (int 5 ∷ [])) (halt ∷ go_on ∷ []) (go_on ∷ []) ∷
    halts (joins 1 0 ((0, 0) ∷ [])) (event 1 39 0 (int 5 ∷ [])) (go_on ∷ halt ∷ []) (halt ∷ []) ∷
    halts (joins 1 0 ((0, 0) ∷ [])) (event 1 39 0 (int 5 ∷ [])) (value (bool true) ∷ go_on ∷ []) (go_on ∷ []) ∷
    halts (joins 1 0 ((0, 0) ∷ [])) (event 1 39 0 (int 5 ∷ [])) [] [] ∷
    -- print a: halt, a value, none left
    halts (does 1 68 (0 ∷ [])) (event 1 68 0 (int 5 ∷ [])) (halt ∷ go_on ∷ []) (go_on ∷ []) ∷
    halts (does 1 68 (0 ∷ [])) (event 1 68 0 (int 5 ∷ [])) (value (int 5) ∷ halt ∷ []) (halt ∷ []) ∷
    halts (does 1 68 (0 ∷ [])) (event 1 68 0 (int 5 ∷ [])) [] [] ∷
    []

-- ret with an argument and without: its event, and no answer taken
abbrev pub returns : List Case
returns =
    stops_run (some (int 5) ∷ none ∷ []) (does 1 66 (0 ∷ [])) (go_on ∷ []) at_ret (event 1 66 0 (int 5 ∷ []) ∷ []) (go_on ∷ []) ∷
    stops_run (some (int 5) ∷ none ∷ []) (does 1 66 []) (go_on ∷ []) at_ret (event 1 66 0 [] ∷ []) (go_on ∷ []) ∷
    []

-- "Arguments are read first": nothing in the first name, a number in the second; no event, and no answer taken
abbrev pub unset : Instr → Case
unset i = stops_run (none ∷ some (int 0) ∷ []) i (go_on ∷ []) at_unset [] (go_on ∷ [])

abbrev pub read_first : List Case
read_first =
    -- id x; call (x); phi x; phi y x, of which Bril would read but one; print y x; ret x; br x; div x y, where y is 0; div y x
    unset (gives 1 1 13 (0 ∷ [])) ∷
    unset (asks 1 1 7 (0 ∷ [])) ∷
    unset (joins 1 1 ((0, 0) ∷ [])) ∷
    unset (joins 1 1 ((1, 0) ∷ (0, 1) ∷ [])) ∷
    unset (does 1 68 (1 ∷ 0 ∷ [])) ∷
    unset (does 1 66 (0 ∷ [])) ∷
    unset (chooses 1 0 0 0) ∷
    unset (gives 1 1 4 (0 ∷ 1 ∷ [])) ∷
    unset (gives 1 1 4 (1 ∷ 0 ∷ [])) ∷
    -- 7 by 0, and -2^63 by 0: by id and cause
    stops_run (some (int 7) ∷ some (int 0) ∷ []) (gives 1 0 4 (0 ∷ 1 ∷ [])) (go_on ∷ []) (at_division 1 by_zero) [] (go_on ∷ []) ∷
    stops_run (some (int least) ∷ some (int 0) ∷ []) (gives 9 0 4 (0 ∷ 1 ∷ [])) (go_on ∷ []) (at_division 9 by_zero) [] (go_on ∷ []) ∷
    []

-- ---- an int literal in a float: f = 7; print f; g = id f; f = call 3 (g), answered by "that literal" or by the float of the same number
abbrev pub literal_in_a_float : List Case
literal_in_a_float =
    map
    (λ v. one_block (0x02 ∷ 0x02 ∷ [])
    (set 1 0 0 7 ∷ does 2 68 (0 ∷ []) ∷ gives 3 1 13 (0 ∷ []) ∷ asks 4 0 3 (1 ∷ []) ∷ []) [] (go_on ∷ value v ∷ [])
    (event 2 68 0 (literal 7 ∷ []) ∷ event 4 20 3 (literal 7 ∷ []) ∷ []) (some v ∷ some (literal 7) ∷ []) 4)
    (literal 8 ∷ float 8 ∷ [])

-- ---- a block that only computes: what its names hold, and then
abbrev pub computes : List ℕ → List Instr → List (Option Val) → List (Option Val) → ℕ → Case
computes ts is vs then n = one_block ts is vs [] [] then n

-- q = ptradd p n: the offset wraps, base and type stay
abbrev pub shifted : ℕ → ℕ → ℕ → Case
shifted o n sum =
    let vs : Option Val → List (Option Val) = λ q. some (pointer 0x11 3 o) ∷ q ∷ some (int n) ∷ [] in
    computes (0x11 ∷ 0x11 ∷ 0x00 ∷ []) (gives 1 1 14 (0 ∷ 2 ∷ []) ∷ []) (vs none) (vs (some (pointer 0x11 3 sum))) 1

-- x = div a b, which passes on
abbrev pub divided : ℕ → ℕ → ℕ → Case
divided a b q =
    let vs : Option Val → List (Option Val) = λ x. some (int a) ∷ some (int b) ∷ x ∷ [] in
    computes (0x00 ∷ 0x00 ∷ 0x00 ∷ []) (gives 1 2 4 (0 ∷ 1 ∷ []) ∷ []) (vs none) (vs (some (int q))) 1

abbrev pub computed : List Case
computed =
    shifted minus_one 2 1 ∷ shifted 0 minus_one minus_one ∷ shifted least least 0 ∷ shifted 5 6 11 ∷
    -- -2^63 by -1, by 1, by 2; -2^63+1 by -1; 7 by -2
    divided least minus_one least ∷ divided least 1 least ∷ divided least 2 0xC000_0000_0000_0000 ∷
    divided (least + 1) minus_one (least - 1) ∷ divided 7 (W - 2) (W - 3) ∷
    -- a literal of each kind
    computes (0x00 ∷ 0x01 ∷ 0x02 ∷ 0x02 ∷ 0x03 ∷ []) (set 1 0 0 7 ∷ set 2 1 1 1 ∷ set 3 2 0 7 ∷ set 4 3 2 7 ∷ set 5 4 3 7 ∷ []) []
    (some (int 7) ∷ some (bool true) ∷ some (literal 7) ∷ some (float 7) ∷ some (char 7) ∷ []) 5 ∷
    []

-- ---- where a run goes from each block, and how it ends: c bool; five blocks are asked for
abbrev pub goes_by : List (List Instr) → Bool → Place → List ℕ → ℕ → Case
goes_by bs c p l n =
    record {
      types = 0x01 ∷ [];
      blocks = bs;
      values = some (bool c) ∷ [];
      answers = [];
      asked = 5;
      shows = shows p l [] [] (some (bool c) ∷ []) n;
    }

abbrev pub ways : List Case
ways =
    -- an empty block alone; behind another; a block without a terminator at the end
    goes_by ([] ∷ []) true (stopped at_end 1 0) (0 ∷ []) 0 ∷
    goes_by ((does 1 69 [] ∷ []) ∷ [] ∷ []) true (stopped at_end 2 0) (1 ∷ 0 ∷ []) 1 ∷
    goes_by ((does 1 69 [] ∷ []) ∷ (does 2 69 [] ∷ []) ∷ []) true (stopped at_end 2 0) (1 ∷ 0 ∷ []) 2 ∷
    -- jmp over a block; br c, true's block first; jmp to the same block again and again
    goes_by ((goes 1 2 ∷ []) ∷ (does 2 69 [] ∷ []) ∷ [] ∷ []) true (stopped at_end 3 0) (2 ∷ 0 ∷ []) 1 ∷
    goes_by ((chooses 1 0 2 1 ∷ []) ∷ (does 2 69 [] ∷ goes 3 2 ∷ []) ∷ [] ∷ []) true (stopped at_end 3 0) (2 ∷ 0 ∷ []) 1 ∷
    goes_by ((chooses 1 0 2 1 ∷ []) ∷ (does 2 69 [] ∷ goes 3 2 ∷ []) ∷ [] ∷ []) false (stopped at_end 3 0) (2 ∷ 1 ∷ 0 ∷ []) 3 ∷
    goes_by ((goes 1 0 ∷ []) ∷ []) true (before 0) (0 ∷ 0 ∷ 0 ∷ 0 ∷ 0 ∷ []) 5 ∷
    []

abbrev pub cases : List Case
cases =
    no_blocks ++ (events_in_order ++ (codes_with_events ++ (phi_events ++ (halting_answers ++ (returns ++ (read_first ++ (literal_in_a_float ++ (computed ++ ways))))))))

pub run_so : map (λ c. ran c.types c.blocks c.values c.answers c.asked) cases ≡ map (λ c. c.shows) cases
unfolding all_of_machine count numerals
run_so = refl

-- ---- "a value of dest's type": 1 where the call of that type takes the value, 0 where it halts
abbrev pub values_of_each_type : List Val
values_of_each_type =
    -- ints, and one that is too great; bools; floats, and "that literal", and such that are too great
    int 0 ∷ int minus_one ∷ int W ∷ bool false ∷ bool true ∷ float 0 ∷ float minus_one ∷ float W ∷ literal 7 ∷ literal W ∷
    -- chars, a surrogate, one past the last
    char 0xD7FF ∷ char 0xD800 ∷ char 0xDFFF ∷ char 0xE000 ∷ char 0x10FFFF ∷ char 0x110000 ∷
    -- pointers to int and char, of depth 15, with a base or an offset that is too great, of no pointer type
    pointer 0x10 0 minus_one ∷ pointer 0x13 1 2 ∷ pointer 0xF0 1 2 ∷ pointer 0x10 W 0 ∷ pointer 0x10 0 W ∷ pointer 0x00 1 2 ∷ []

abbrev pub takes : ℕ → Val → ℕ
takes type v = length (ran (type ∷ []) ((asks 1 0 7 [] ∷ []) ∷ []) [] (value v ∷ []) 1).passed

pub answers_by_type :
    map (λ type. map (takes type) values_of_each_type) (0x00 ∷ 0x01 ∷ 0x02 ∷ 0x03 ∷ 0x10 ∷ 0x13 ∷ 0xF0 ∷ 0x11 ∷ []) ≡
    map numerals
    ("110 00 000 00 000000 000000" ∷
    "000 11 000 00 000000 000000" ∷
    "000 00 110 10 000000 000000" ∷
    "000 00 000 00 100110 000000" ∷
    "000 00 000 00 000000 100000" ∷
    "000 00 000 00 000000 010000" ∷
    "000 00 000 00 000000 001000" ∷
    "000 00 000 00 000000 000000" ∷
    [])
unfolding all_of_machine count numerals
answers_by_type = refl
