-- Calls of the engine, computed: what it answers, and what it leaves in what was lent for the events and for the store.
use Rattle.std.specs.Prelude.{ℕ, ◌≡◌, refl, Bool, true, false, ◌&&◌, List, [], ◌∷◌, ◌++◌, map, length, replicate, eqb}
use Prim.Native.String.{String}
use Rattle.std.proofs.Math.Option.{none, some}
use Rattle.arith.specs.Value.{Val, int, float, literal, char, bool, pointer}
use Rattle.arith.specs.Word.{minus_one}
use Rattle.record.specs.Answer.{Returned, success}
use Rattle.record.specs.Hex.{hex}
use Rattle.record.specs.Samples.{division, call, call_rewritten, call_wide, call_wide_rewritten, walk}
use Rattle.record.specs.Text.{same_bytes}
use Rattle.record.specs.Write.{be}
use Rattle.machine.specs.Machine.{value, go_on, halt, Event}
use Rattle.running.specs.House.{value_bytes, store_bytes, answers_bytes, events_bytes}
use Rattle.running.specs.Engine.{engine, engine_events, engine_store, engine_answer}
use Rattle.running.specs.Opened.{all_of_running}

-- ---- values, stores, answers and events as bytes
abbrev pub values : List Val
values =
    int 5 ∷ int minus_one ∷ bool true ∷ bool false ∷ float 0x3FF0000000000000 ∷ literal 7 ∷ char 0x41 ∷
    pointer 0x10 1 2 ∷ pointer 0xF3 3 4 ∷ []

pub written_values :
    map value_bytes values ≡
    map hex
    ("00 0000000000000005" ∷
    "00 FFFFFFFFFFFFFFFF" ∷
    "01 0000000000000001" ∷
    "01 0000000000000000" ∷
    "02 3FF0000000000000" ∷
    "04 0000000000000007" ∷
    "03 0000000000000041" ∷
    "10 0000000000000001 0000000000000002" ∷
    "F3 0000000000000003 0000000000000004" ∷
    [])
unfolding all_of_running
written_values = refl

-- "one int name with 5 in it", a name that is not set, and no name at all
pub written_stores :
    map store_bytes ((some (int 5) ∷ []) ∷ (some (literal 7) ∷ none ∷ []) ∷ [] ∷ []) ≡
    map hex ("0000000A 01 00 0000000000000005" ∷ "0000000B 01 04 0000000000000007 FF" ∷ "00000001 01" ∷ [])
unfolding all_of_running
written_stores = refl

pub written_answers :
    answers_bytes (value (int 5) ∷ go_on ∷ halt ∷ []) ≡ hex "0000000C 01 00 0000000000000005 FE FD"
unfolding all_of_running
written_answers = refl

-- w 4 and 8: the id of either version
abbrev pub called : Event
called = record { id = 1; code = 20; callee = 3; args = int 5 ∷ bool true ∷ [] }

pub written_events :
    map (λ w. events_bytes w (called ∷ [])) (4 ∷ 8 ∷ []) ≡
    map hex
    ("00000001 14 0003 02 00 0000000000000005 01 0000000000000001" ∷
    "0000000000000001 14 0003 02 00 0000000000000005 01 0000000000000001" ∷
    [])
unfolding all_of_running
written_events = refl

-- ---- records
-- L, and what follows it
abbrev pub framed : String → List ℕ
framed s = let b = hex s in be 4 (length b) ++ b

-- no block; two empty blocks; nop; nop between two empty blocks; ret; an empty block and a jmp to it
abbrev pub no_block : List ℕ
no_block = framed "01 00 0000 0000"

abbrev pub empty_blocks : List ℕ
empty_blocks = framed "01 00 0000 0002 0000 0000 0000 0000"

abbrev pub one_nop : List ℕ
one_nop = framed "01 00 0000 0001 0001 0000 00000007 45 00"

abbrev pub nop_and_empty : List ℕ
nop_and_empty = framed "01 00 0000 0003 0000 0000 0001 0000 00000007 45 00 0000 0000"

abbrev pub one_ret : List ℕ
one_ret = framed "01 00 0000 0001 0001 0000 00000007 42 00"

abbrev pub circle : List ℕ
circle = framed "01 00 0000 0002 0000 0000 0001 0000 00000007 40 00 0000"

-- f = call 3 (f), f a float
abbrev pub float_call : List ℕ
float_call = framed "01 01 0001 020166 0001 0001 0000 00000001 14 0000 01 0000 0003"

-- ---- calls
-- number and values, and what is left in both lent parts
pub record Told : Type 0 where
  pub answer : Returned
  pub events : List ℕ
  pub left : List ℕ

-- record, store, answers, limit, bytes lent for the events and for the store
pub data Row : Type 0 where
  row : List ℕ → String → String → ℕ → ℕ → ℕ → Told → Row

-- lent bytes are EE for the events and DD for the store
abbrev pub told : Row → Told
told (row r store list n e l t) =
    let s = hex store in
    let a = hex list in
    let es : List ℕ = replicate e 0xEE in
    let ls : List ℕ = replicate l 0xDD in
    record {
      answer = engine_answer (engine r s a n es ls);
      events = engine_events r s a n es ls;
      left = engine_store r s a n es ls;
    }

abbrev pub expected : Row → Told
expected (row r store list n e l t) = t

-- record, store, answers, limit: done, with its values; the bytes lent, and what they hold then
abbrev pub done : List ℕ → String → String → ℕ → List ℕ → ℕ → String → ℕ → String → Row
done r s a n vs e es l ls = row r s a n e l (record { answer = success vs; events = hex es; left = hex ls })

-- refused, with e and l bytes lent, which stay
abbrev pub not_done : List ℕ → String → String → ℕ → ℕ → ℕ → Returned → Row
not_done r s a n e l w = row r s a n e l (record { answer = w; events = replicate e 0xEE; left = replicate l 0xDD })

abbrev pub at_13 : List ℕ → String → String → ℕ → Row
at_13 r s a n = not_done r s a n 34 14 (record { number = 13; values = 0 ∷ [] })

-- ---- limits around the end, nop, ret and a circle; values: bytes of events and store, steps, how it ended, id
abbrev pub limit_rows : List Row
limit_rows =
    done no_block "00000001 01" "00000001 01" 0 (0 ∷ 5 ∷ 0 ∷ 0 ∷ 0 ∷ []) 1 "EE" 6 "00000001 01 DD" ∷
    done empty_blocks "00000001 01" "00000001 01" 0 (0 ∷ 5 ∷ 0 ∷ 0 ∷ 0 ∷ []) 1 "EE" 6 "00000001 01 DD" ∷
    done one_nop "00000001 01" "00000001 01" 0 (0 ∷ 5 ∷ 0 ∷ 5 ∷ 0 ∷ []) 1 "EE" 5 "00000001 01" ∷
    done one_nop "00000001 01" "00000001 01" 1 (0 ∷ 5 ∷ 1 ∷ 0 ∷ 0 ∷ []) 1 "EE" 5 "00000001 01" ∷
    done one_nop "00000001 01" "00000001 01" 2 (0 ∷ 5 ∷ 1 ∷ 0 ∷ 0 ∷ []) 1 "EE" 5 "00000001 01" ∷
    done nop_and_empty "00000001 01" "00000001 01" 0 (0 ∷ 5 ∷ 0 ∷ 5 ∷ 0 ∷ []) 0 "" 6 "00000001 01 DD" ∷
    done nop_and_empty "00000001 01" "00000001 01" 1 (0 ∷ 5 ∷ 1 ∷ 0 ∷ 0 ∷ []) 0 "" 6 "00000001 01 DD" ∷
    done one_ret "00000001 01" "00000001 01" 0 (0 ∷ 5 ∷ 0 ∷ 5 ∷ 0 ∷ []) 9 "EEEEEEEEEEEEEEEEEE" 6 "00000001 01 DD" ∷
    done one_ret "00000001 01" "00000002 01 FD" 1 (8 ∷ 5 ∷ 1 ∷ 1 ∷ 0 ∷ []) 9 "00000007 42 0000 00 EE" 6 "00000001 01 DD" ∷
    done circle "00000001 01" "00000001 01" 0 (0 ∷ 5 ∷ 0 ∷ 5 ∷ 0 ∷ []) 1 "EE" 6 "00000001 01 DD" ∷
    done circle "00000001 01" "00000001 01" 5 (0 ∷ 5 ∷ 5 ∷ 5 ∷ 0 ∷ []) 1 "EE" 6 "00000001 01 DD" ∷
    []

-- ---- how it ended, with events and stores
abbrev pub five : String
five = "0000000A 01 00 0000000000000005"

abbrev pub ending_rows : List Row
ending_rows =
    -- a = call 3 (a); print a: to the end; the limit between the two, with an answer behind it that would not fit; before both
    done call five "0000000B 01 00 0000000000000006 FE" 9 (34 ∷ 14 ∷ 2 ∷ 0 ∷ 0 ∷ [])
    34 "00000001 14 0003 01 00 0000000000000005 00000002 44 0000 01 00 0000000000000006" 14 "0000000A 01 00 0000000000000006" ∷
    done call five "00000013 01 00 0000000000000006 00 0000000000000006" 1 (17 ∷ 14 ∷ 1 ∷ 5 ∷ 0 ∷ [])
    19 "00000001 14 0003 01 00 0000000000000005 EEEE" 15 "0000000A 01 00 0000000000000006 DD" ∷
    done call five "0000000A 01 01 0000000000000001" 0 (0 ∷ 14 ∷ 0 ∷ 5 ∷ 0 ∷ []) 1 "EE" 14 "0000000A 01 00 0000000000000005" ∷
    -- halt, and no answer left, by the last allowed step
    done call five "00000002 01 FD" 9 (17 ∷ 14 ∷ 1 ∷ 2 ∷ 0 ∷ [])
    18 "00000001 14 0003 01 00 0000000000000005 EE" 14 "0000000A 01 00 0000000000000005" ∷
    done call five "00000001 01" 1 (17 ∷ 14 ∷ 1 ∷ 2 ∷ 0 ∷ [])
    18 "00000001 14 0003 01 00 0000000000000005 EE" 14 "0000000A 01 00 0000000000000005" ∷
    -- a is not set: no answer is taken, so that one that would not fit passes
    done call "00000002 01 FF" "0000000A 01 01 0000000000000001" 9 (0 ∷ 6 ∷ 1 ∷ 3 ∷ 0 ∷ []) 0 "" 6 "00000002 01 FF" ∷
    -- a division, by its id
    done division "0000000B 01 00 0000000000000000 FF" "00000001 01" 9 (0 ∷ 23 ∷ 2 ∷ 4 ∷ 2 ∷ [])
    0 "" 23 "00000013 01 00 0000000000000000 00 0000000000000007" ∷
    -- 04 in store, answer and event; pointers
    done float_call "0000000A 01 04 0000000000000005" "0000000A 01 04 0000000000000007" 9 (17 ∷ 14 ∷ 1 ∷ 0 ∷ 0 ∷ [])
    17 "00000001 14 0003 01 04 0000000000000005" 14 "0000000A 01 04 0000000000000007" ∷
    done walk "00000013 01 10 0000000000000064 0000000000000008 FF" "0000000B 01 00 0000000000000009 FE" 9 (59 ∷ 31 ∷ 4 ∷ 0 ∷ 0 ∷ [])
    59 "00000004 26 0000 01 10 0000000000000064 0000000000000008 00000005 46 0000 02 10 0000000000000064 0000000000000008 00 0000000000000009"
    31 "0000001B 01 10 0000000000000064 0000000000000008 00 0000000000000009" ∷
    []

-- ---- 13, which leaves both lent parts
abbrev pub unfit_rows : List Row
unfit_rows =
    -- answers: a value of another type, 04 for an int, go on for a value, a value for an effect, each at the last allowed step
    at_13 call five "0000000A 01 01 0000000000000001" 1 ∷
    at_13 call five "0000000A 01 04 0000000000000001" 1 ∷
    at_13 call five "00000002 01 FE" 1 ∷
    at_13 call five "00000013 01 00 0000000000000006 00 0000000000000006" 2 ∷
    -- never taken, but they do not read: nothing, alone and with two words behind it, a bool that is 2, no characters, types 05, 14 and FC,
    -- cut off, version 2, no version
    at_13 call five "00000003 01 FD FF" 9 ∷
    at_13 call five "00000013 01 FD FF 0000000000000000 0000000000000000" 9 ∷
    at_13 call five "0000000B 01 FD 01 0000000000000002" 9 ∷
    at_13 call five "0000000B 01 FD 03 000000000000D800" 9 ∷
    at_13 call five "0000000B 01 FD 03 0000000000110000" 9 ∷
    at_13 call five "0000000B 01 FD 05 0000000000000000" 9 ∷
    at_13 call five "00000013 01 FD 14 0000000000000000 0000000000000000" 9 ∷
    at_13 call five "00000013 01 FD FC 0000000000000000 0000000000000000" 9 ∷
    at_13 call five "0000000B 01 FD 10 0000000000000000" 9 ∷
    at_13 call five "00000004 01 FD 00 00" 9 ∷
    at_13 call five "00000002 02 FD" 9 ∷
    at_13 call five "00000000" 9 ∷
    -- the store: too many values, too few, go on, halt, cut off, version 2, another type, 04 for an int, a pointer; also where no step is taken
    at_13 call "0000000B 01 00 0000000000000005 FF" "00000002 01 FD" 0 ∷
    at_13 call "00000001 01" "00000002 01 FD" 9 ∷
    at_13 call "00000002 01 FE" "00000002 01 FD" 9 ∷
    at_13 call "00000002 01 FD" "00000002 01 FD" 9 ∷
    at_13 call "00000009 01 00 00000000000005" "00000002 01 FD" 9 ∷
    at_13 call "0000000A 02 00 0000000000000005" "00000002 01 FD" 9 ∷
    at_13 call "0000000A 01 01 0000000000000001" "00000002 01 FD" 0 ∷
    at_13 call "0000000A 01 04 0000000000000005" "00000002 01 FD" 9 ∷
    at_13 call "00000012 01 10 0000000000000005 0000000000000000" "00000002 01 FD" 9 ∷
    []

-- lengths that do not count the rest, of the store and of the answers
abbrev pub length_rows : List Row
length_rows =
    map (λ s. not_done call s "00000002 01 FD" 9 1 1 (record { number = 13; values = 0 ∷ [] }))
    ("" ∷ "000000" ∷ "0000000B 01 00 0000000000000005" ∷ "00000009 01 00 0000000000000005" ∷ []) ++
    map (λ a. not_done call five a 9 1 1 (record { number = 13; values = 0 ∷ [] }))
    ("" ∷ "00000003 01 FD" ∷ "00000001 01 FD" ∷ "00000000" ∷ [])

-- ---- 14 with both counts, whichever is short, behind 13; check's refusals before both: a rewriting (4), and a cut record (1)
abbrev pub room_rows : List Row
room_rows =
    not_done call five "0000000B 01 00 0000000000000006 FE" 9 33 14 (record { number = 14; values = 34 ∷ 14 ∷ [] }) ∷
    not_done call five "0000000B 01 00 0000000000000006 FE" 9 34 13 (record { number = 14; values = 34 ∷ 14 ∷ [] }) ∷
    not_done call five "0000000B 01 00 0000000000000006 FE" 9 0 0 (record { number = 14; values = 34 ∷ 14 ∷ [] }) ∷
    not_done call five "00000002 01 FE" 9 0 0 (record { number = 13; values = 0 ∷ [] }) ∷
    not_done call_rewritten "" "" 9 0 0 (record { number = 4; values = 13 ∷ [] }) ∷
    not_done (hex "00000001") "" "" 9 2 2 (record { number = 1; values = 0 ∷ [] }) ∷
    []

-- ---- version 2: an event's id is as wide as in the record, and store and answers are as ever
-- call with its ids in eight bytes
abbrev pub call_2 : List ℕ
call_2 = framed "02 01 0001 000161 0001 0002 0000 0000000000000001 14 0000 01 0000 0003 0000000000000002 44 01 0000"

-- x = 7; x = div x a; print x: the division under the id 2^64-1
abbrev pub division_wide : List ℕ
division_wide = framed "02 01 0002 000161 000178 0001 0003 0000 0000000000000001 00 0001 00 0000000000000007 FFFFFFFFFFFFFFFF 04 0001 02 0001 0000 0000000000000003 44 01 0001"

abbrev pub wide_rows : List Row
wide_rows =
    done call_2 five "0000000B 01 00 0000000000000006 FE" 9 (42 ∷ 14 ∷ 2 ∷ 0 ∷ 0 ∷ [])
    42 "0000000000000001 14 0003 01 00 0000000000000005 0000000000000002 44 0000 01 00 0000000000000006" 14 "0000000A 01 00 0000000000000006" ∷
    done call_wide five "0000000B 01 00 0000000000000006 FE" 9 (42 ∷ 14 ∷ 2 ∷ 0 ∷ 0 ∷ [])
    43 "0000000100000000 14 0003 01 00 0000000000000005 FFFFFFFFFFFFFFFF 44 0000 01 00 0000000000000006 EE" 14 "0000000A 01 00 0000000000000006" ∷
    done call_wide five "00000002 01 FD" 9 (21 ∷ 14 ∷ 1 ∷ 2 ∷ 0 ∷ [])
    21 "0000000100000000 14 0003 01 00 0000000000000005" 14 "0000000A 01 00 0000000000000005" ∷
    done division_wide "0000000B 01 00 0000000000000000 FF" "00000001 01" 9 (0 ∷ 23 ∷ 2 ∷ 4 ∷ 18446744073709551615 ∷ [])
    0 "" 23 "00000013 01 00 0000000000000000 00 0000000000000007" ∷
    -- 13, 14 and check's refusals: of the rewriting, and of version 3
    at_13 call_2 "0000000A 02 00 0000000000000005" "00000002 01 FD" 9 ∷
    at_13 call_2 five "00000002 02 FD" 9 ∷
    not_done call_2 five "0000000B 01 00 0000000000000006 FE" 9 41 14 (record { number = 14; values = 42 ∷ 14 ∷ [] }) ∷
    not_done call_wide_rewritten "" "" 9 0 0 (record { number = 4; values = 13 ∷ [] }) ∷
    not_done (framed "03 00 0000 0000") "" "" 9 0 0 (record { number = 2; values = 4 ∷ [] }) ∷
    []

abbrev pub rows : List Row
rows = limit_rows ++ (ending_rows ++ (unfit_rows ++ (length_rows ++ (room_rows ++ wide_rows))))

-- by a test, which is computed at once
abbrev pub agrees : Row → Bool
agrees r =
    let t = told r in
    let w = expected r in
    eqb t.answer.number w.answer.number &&
    (same_bytes t.answer.values w.answer.values && (same_bytes t.events w.events && same_bytes t.left w.left))

pub calls : map agrees rows ≡ map (λ r. true) rows
unfolding all_of_running
calls = refl
