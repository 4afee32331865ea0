-- Functions with a wrong rewriting each that only a rare run shows: what demand 3 must refuse, so that it holds from every store,
-- with every list of answers and over every number of blocks. Beside each, ordinary runs of the same two functions, which are alike.
use Rattle.std.specs.Prelude.{ℕ, ◌+◌, true, false, List, [], ◌∷◌}
use Rattle.std.proofs.Math.Option.{Option, none, some}
use Rattle.arith.specs.Word.{least, minus_one}
use Rattle.arith.specs.Value.{tint, tbool, Val, int, bool}
use Rattle.record.specs.Record.{Instr, Block, Function}
use Rattle.record.specs.Short.{gives, joins, set, chooses}
use Rattle.machine.specs.Machine.{Answer, value, go_on, halt}
use Rattle.pairing.specs.Wrong.{const, id, div, print, nop, saving, body, fn, just, Case, from, next_block_other}

-- the same two functions, run otherwise
abbrev instead : Case → List (Option Val) → List Answer → ℕ → Case
instead c vs xs n = from vs xs n c.first c.second

-- ---- stores
-- name 1 is copied though the input never reads it: unlike where it holds nothing
abbrev pub copies_unread : Case
copies_unread =
    from (some (int 3) ∷ none ∷ []) (go_on ∷ []) 1
    (just 1 (tint ∷ tint ∷ []) (print 1 0 ∷ []))
    (fn 1 (tint ∷ tint ∷ tint ∷ []) (saving 1 (id 1 2 1 ∷ print 1 0 ∷ []) ∷ []))

-- it is copied a block before the input reads it: unlike where it holds nothing, before that block
abbrev pub copies_early : Case
copies_early =
    from (none ∷ none ∷ []) [] 1
    (fn 0 (tint ∷ tint ∷ []) (body (const 1 0 7 ∷ []) ∷ body (id 2 0 1 ∷ []) ∷ []))
    (fn 0 (tint ∷ tint ∷ tint ∷ []) (saving 1 (id 1 2 1 ∷ const 1 0 7 ∷ []) ∷ body (id 2 0 1 ∷ []) ∷ []))

-- a + 1 > a taken to be true: unlike where a is the greatest int
abbrev wraps : ℕ → Instr → Instr → Case
wraps a i j =
    from (some (int 0x7FFF_FFFF_FFFF_FFFF) ∷ none ∷ none ∷ none ∷ []) (value (int 0x7FFF_FFFF_FFFF_FFFF) ∷ []) 1
    (just a (tint ∷ tint ∷ tint ∷ tbool ∷ []) (i ∷ const 2 1 1 ∷ gives 3 2 1 (0 ∷ 1 ∷ []) ∷ gives 4 3 7 (2 ∷ 0 ∷ []) ∷ []))
    (just a (tint ∷ tint ∷ tint ∷ tbool ∷ []) (j ∷ const 2 1 1 ∷ gives 3 2 1 (0 ∷ 1 ∷ []) ∷ set 4 3 1 1 ∷ []))

abbrev pub greatest_argument : Case
greatest_argument = wraps 1 (nop 1) (nop 1)

-- a = 1311768467463790320 taken to be false, "under one rare store"; and of two bools taken to be the first: unlike where that is true
-- and the other false
abbrev pub rare_argument : Case
rare_argument =
    from (some (int 0x1234_5678_9ABC_DEF0) ∷ none ∷ none ∷ []) [] 1
    (just 1 (tint ∷ tint ∷ tbool ∷ []) (const 1 1 0x1234_5678_9ABC_DEF0 ∷ gives 2 2 5 (0 ∷ 1 ∷ []) ∷ []))
    (just 1 (tint ∷ tint ∷ tbool ∷ []) (const 1 1 0x1234_5678_9ABC_DEF0 ∷ set 2 2 1 0 ∷ []))

abbrev pub false_argument : Case
false_argument =
    from (some (bool true) ∷ some (bool false) ∷ none ∷ []) [] 1
    (just 2 (tbool ∷ tbool ∷ tbool ∷ []) (gives 1 2 11 (0 ∷ 1 ∷ []) ∷ []))
    (just 2 (tbool ∷ tbool ∷ tbool ∷ []) (id 1 2 0 ∷ []))

-- gt a b taken to be le b a, and ge a b to be lt b a: unlike where a and b are equal, and nowhere else; gt a b taken to be lt a b
abbrev compared : ℕ → ℕ → List ℕ → ℕ → Case
compared c d xs b =
    from (some (int 5) ∷ some (int b) ∷ none ∷ []) [] 1
    (just 2 (tint ∷ tint ∷ tbool ∷ []) (gives 1 2 c (0 ∷ 1 ∷ []) ∷ []))
    (just 2 (tint ∷ tint ∷ tbool ∷ []) (gives 1 2 d xs ∷ []))

abbrev pub equal_not_greater : Case
equal_not_greater = compared 7 8 (1 ∷ 0 ∷ []) 5

abbrev pub equal_not_less : Case
equal_not_less = compared 9 6 (1 ∷ 0 ∷ []) 5

abbrev pub not_swapped : Case
not_swapped = compared 7 6 (0 ∷ 1 ∷ []) 3

-- a div -1 = a taken to be a = 0: unlike where a is -2^63
abbrev pub least_argument : Case
least_argument =
    from (some (int least) ∷ none ∷ none ∷ none ∷ none ∷ []) [] 1
    (just 1 (tint ∷ tint ∷ tint ∷ tint ∷ tbool ∷ []) (const 1 1 minus_one ∷ const 2 2 0 ∷ div 3 3 0 1 ∷ gives 4 4 5 (3 ∷ 0 ∷ []) ∷ []))
    (just 1 (tint ∷ tint ∷ tint ∷ tint ∷ tbool ∷ []) (const 1 1 minus_one ∷ const 2 2 0 ∷ div 3 3 0 1 ∷ gives 4 4 5 (0 ∷ 2 ∷ []) ∷ []))

-- phi a b taken to be phi b a, its block numbers left in place: unlike where a and b hold other values
abbrev pub phi_exchanged : Case
phi_exchanged =
    from (some (int 3) ∷ some (int 5) ∷ none ∷ []) (value (int 7) ∷ []) 1
    (just 2 (tint ∷ tint ∷ tint ∷ []) (joins 1 2 ((0, 0) ∷ (1, 0) ∷ []) ∷ []))
    (just 2 (tint ∷ tint ∷ tint ∷ []) (joins 1 2 ((1, 0) ∷ (0, 0) ∷ []) ∷ []))

-- the second of two equal phis taken to be an id of the first: an event less, and its answer is not taken
abbrev pub phi_merged : Case
phi_merged =
    from (some (int 3) ∷ none ∷ none ∷ []) (value (int 7) ∷ value (int 8) ∷ []) 1
    (just 1 (tint ∷ tint ∷ tint ∷ []) (joins 1 1 ((0, 0) ∷ []) ∷ joins 2 2 ((0, 0) ∷ []) ∷ []))
    (just 1 (tint ∷ tint ∷ tint ∷ []) (joins 1 1 ((0, 0) ∷ []) ∷ id 2 2 1 ∷ []))

-- a function that reads a name beyond its own, which is made: it is not like itself
abbrev pub reads_made : Function
reads_made = just 0 [] (print 1 0 ∷ [])

-- ---- answers
-- and where a, which a call gives, is the greatest int
abbrev pub greatest_answer : Case
greatest_answer = wraps 0 (gives 1 0 20 []) (gives 1 0 20 [])

-- name 1 is written before the print and not behind it: unlike where the answer to the print does not let the run go on
abbrev pub writes_early : Case
writes_early =
    from (some (int 3) ∷ none ∷ []) (halt ∷ []) 1
    (just 1 (tint ∷ tint ∷ []) (print 1 0 ∷ const 2 1 7 ∷ []))
    (just 1 (tint ∷ tint ∷ []) (const 2 1 7 ∷ print 1 0 ∷ []))

-- behind two prints: unlike where both are answered
abbrev pub behind_answers : Case
behind_answers =
    from (some (int 3) ∷ none ∷ []) (go_on ∷ go_on ∷ []) 1
    (just 1 (tint ∷ tint ∷ []) (print 1 0 ∷ print 2 0 ∷ const 3 1 7 ∷ []))
    (just 1 (tint ∷ tint ∷ []) (print 1 0 ∷ print 2 0 ∷ const 3 1 8 ∷ []))

-- name 0 is of a type that no value has, so that no answer fits; the rewriting takes a bool: unlike where the answer is one
abbrev pub takes_bool : Case
takes_bool =
    from (none ∷ []) (value (bool true) ∷ []) 1
    (just 0 (4 ∷ []) (gives 1 0 20 [] ∷ []))
    (fn 0 (4 ∷ tbool ∷ []) (saving 1 (gives 1 1 20 [] ∷ []) ∷ []))

-- ---- numbers of blocks
abbrev pub second_block : Case
second_block =
    from (none ∷ []) [] 2
    (fn 0 (tint ∷ []) (body (nop 1 ∷ []) ∷ body (const 2 0 7 ∷ []) ∷ []))
    (fn 0 (tint ∷ []) (body (nop 1 ∷ []) ∷ body (const 2 0 8 ∷ []) ∷ []))

-- three blocks, of which the second is passed three times
abbrev counting : ℕ → List (Block Instr)
counting w =
    body (const 1 0 0 ∷ const 2 1 1 ∷ const 3 2 3 ∷ []) ∷
    body (gives 4 0 1 (0 ∷ 1 ∷ []) ∷ gives 5 3 6 (0 ∷ 2 ∷ []) ∷ chooses 6 3 1 2 ∷ []) ∷
    body (const 7 0 w ∷ []) ∷
    []

abbrev pub behind_loop : Case
behind_loop =
    from (none ∷ none ∷ none ∷ none ∷ []) [] 5
    (fn 0 (tint ∷ tint ∷ tint ∷ tbool ∷ []) (counting 7))
    (fn 0 (tint ∷ tint ∷ tint ∷ tbool ∷ []) (counting 8))

-- ---- runs of the same functions that show nothing
abbrev pub ordinary : List Case
ordinary =
    instead copies_unread (some (int 3) ∷ some (int 5) ∷ []) (go_on ∷ []) 1 ∷
    instead copies_early (none ∷ some (int 5) ∷ []) [] 1 ∷
    instead copies_early (none ∷ some (int 5) ∷ []) [] 2 ∷
    instead greatest_argument (some (int 0) ∷ none ∷ none ∷ none ∷ []) [] 1 ∷
    instead greatest_argument (some (int least) ∷ none ∷ none ∷ none ∷ []) [] 1 ∷
    instead rare_argument (some (int 0x1234_5678_9ABC_DEF1) ∷ none ∷ none ∷ []) [] 1 ∷
    instead false_argument (some (bool false) ∷ some (bool false) ∷ none ∷ []) [] 1 ∷
    instead false_argument (some (bool false) ∷ some (bool true) ∷ none ∷ []) [] 1 ∷
    instead false_argument (some (bool true) ∷ some (bool true) ∷ none ∷ []) [] 1 ∷
    instead equal_not_greater (some (int 5) ∷ some (int 3) ∷ none ∷ []) [] 1 ∷
    instead equal_not_greater (some (int 3) ∷ some (int 5) ∷ none ∷ []) [] 1 ∷
    instead equal_not_less (some (int 5) ∷ some (int 3) ∷ none ∷ []) [] 1 ∷
    instead equal_not_less (some (int 3) ∷ some (int 5) ∷ none ∷ []) [] 1 ∷
    instead not_swapped (some (int 5) ∷ some (int 5) ∷ none ∷ []) [] 1 ∷
    instead phi_exchanged (some (int 5) ∷ some (int 5) ∷ none ∷ []) (value (int 7) ∷ []) 1 ∷
    instead least_argument (some (int 0) ∷ none ∷ none ∷ none ∷ none ∷ []) [] 1 ∷
    instead least_argument (some (int (least + 1)) ∷ none ∷ none ∷ none ∷ none ∷ []) [] 1 ∷
    instead greatest_answer (none ∷ none ∷ none ∷ none ∷ []) (value (int 0) ∷ []) 1 ∷
    instead greatest_answer (none ∷ none ∷ none ∷ none ∷ []) [] 1 ∷
    instead writes_early (some (int 3) ∷ none ∷ []) (go_on ∷ []) 1 ∷
    instead behind_answers (some (int 3) ∷ none ∷ []) [] 1 ∷
    instead behind_answers (some (int 3) ∷ none ∷ []) (go_on ∷ halt ∷ []) 1 ∷
    instead takes_bool (none ∷ []) [] 1 ∷
    instead takes_bool (none ∷ []) (halt ∷ []) 1 ∷
    instead takes_bool (none ∷ []) (value (int 3) ∷ []) 1 ∷
    instead second_block (none ∷ []) [] 1 ∷
    instead behind_loop (none ∷ none ∷ none ∷ none ∷ []) [] 1 ∷
    instead behind_loop (none ∷ none ∷ none ∷ none ∷ []) [] 2 ∷
    instead behind_loop (none ∷ none ∷ none ∷ none ∷ []) [] 4 ∷
    instead next_block_other (some (int 3) ∷ []) [] 0 ∷
    instead next_block_other (some (int 3) ∷ []) [] 2 ∷
    []
