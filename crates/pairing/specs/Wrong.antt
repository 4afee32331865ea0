-- Functions with a wrong rewriting each, and a run that shows it: what the statement of demand 3 must refuse, clause by clause.
-- That they are refused, and what else they differ in, is in proofs/Unlike.antt.
use Rattle.std.specs.Prelude.{ℕ, ◌+◌, true, List, [], ◌∷◌}
use Rattle.std.proofs.Math.Option.{Option, none, some}
use Rattle.arith.specs.Word.{least, minus_one}
use Rattle.arith.specs.Value.{tint, tbool, tfloat, Val, int, bool}
use Rattle.record.specs.Record.{Instr, Block, Function, names_of}
use Rattle.record.specs.Short.{gives, set, does, tells, goes}
use Rattle.machine.specs.Machine.{Answer, value, go_on, Event, Run, run}
use Rattle.machine.specs.Examples.{values_in, store_of}
use Rattle.pairing.specs.Demand.{Shown, shown, saves_passed, saves_before}

-- ---- instructions: id, dest, then the rest; names by number
abbrev pub const : ℕ → ℕ → ℕ → Instr
const i d w = set i d 0 w

abbrev pub id : ℕ → ℕ → ℕ → Instr
id i d x = gives i d 13 (x ∷ [])

abbrev pub div : ℕ → ℕ → ℕ → ℕ → Instr
div i d x y = gives i d 4 (x ∷ y ∷ [])

abbrev pub print : ℕ → ℕ → Instr
print i x = does i 68 (x ∷ [])

abbrev pub nop : ℕ → Instr
nop i = does i 69 []

abbrev pub ret : ℕ → ℕ → Instr
ret i x = does i 66 (x ∷ [])

-- ---- blocks and functions
abbrev pub saving : ℕ → List Instr → Block Instr
saving k is = record { saves = k; body = is }

abbrev pub body : List Instr → Block Instr
body is = saving 0 is

-- arguments, types, blocks
abbrev pub fn : ℕ → List ℕ → List (Block Instr) → Function
fn a ts bs = record { args = a; types = ts; blocks = bs }

-- with one block
abbrev pub just : ℕ → List ℕ → List Instr → Function
just a ts is = fn a ts (body is ∷ [])

-- ---- two functions, the values that each starts with, the answers and the number of blocks
pub record Case : Type 0 where
  pub first : Function
  pub second : Function
  pub start₁ : List (Option Val)
  pub start₂ : List (Option Val)
  pub world : List Answer
  pub many : ℕ

-- from one list of values
abbrev pub from : List (Option Val) → List Answer → ℕ → Function → Function → Case
from vs xs n f g = record { first = f; second = g; start₁ = vs; start₂ = vs; world = xs; many = n }

abbrev pub run₁ : Case → Run
run₁ c = run c.first (store_of c.start₁) c.world c.many

abbrev pub run₂ : Case → Run
run₂ c = run c.second (store_of c.start₂) c.world c.many

-- what demand 3 compares: of the second run as it is, of the first with the steps that the second should have taken
pub record Seen : Type 0 where
  pub events : List Event
  pub values : List (Option Val)
  pub place : Shown
  pub answers : List Answer
  pub passed : List ℕ
  pub steps : ℕ

abbrev pub seen : Function → Run → ℕ → Seen
seen f r k =
    record {
      events = r.mach.events;
      values = values_in r.mach.store 0 f.types;
      place = shown r.place;
      answers = r.mach.answers;
      passed = r.passed;
      steps = r.mach.steps + k;
    }

-- the saves filed for the blocks passed and those before a stop
abbrev pub owed : Case → ℕ
owed c =
    saves_passed c.second.blocks (run₂ c).passed +
    saves_before (names_of c.first) c.second.blocks (run₂ c).place

abbrev pub seen₁ : Case → Seen
seen₁ c = seen c.first (run₁ c) (owed c)

abbrev pub seen₂ : Case → Seen
seen₂ c = seen c.first (run₂ c) 0

-- ---- "the same events in the same order": names 0 and 1 are int arguments that hold 3 and 5
abbrev two_ints : List (Option Val)
two_ints = some (int 3) ∷ some (int 5) ∷ []

abbrev over_ints : List Instr → List Instr → Case
over_ints is js = from two_ints (go_on ∷ go_on ∷ []) 1 (just 2 (tint ∷ tint ∷ []) is) (just 2 (tint ∷ tint ∷ []) js)

abbrev pub event_id : Case
event_id = over_ints (print 4 0 ∷ []) (print 5 0 ∷ [])

abbrev pub event_code : Case
event_code = over_ints (print 4 0 ∷ []) (tells 4 0 (0 ∷ []) ∷ [])

abbrev pub event_callee : Case
event_callee = over_ints (tells 4 1 [] ∷ []) (tells 4 2 [] ∷ [])

abbrev pub event_argument : Case
event_argument = over_ints (print 4 0 ∷ []) (print 4 1 ∷ [])

abbrev pub event_arguments : Case
event_arguments = over_ints (print 4 0 ∷ []) (does 4 68 (0 ∷ 1 ∷ []) ∷ [])

abbrev pub event_order : Case
event_order = over_ints (print 4 0 ∷ print 5 1 ∷ []) (print 5 1 ∷ print 4 0 ∷ [])

abbrev pub event_ret : Case
event_ret = over_ints (ret 4 0 ∷ []) (ret 4 1 ∷ [])

-- an event less takes an answer less
abbrev pub event_less : Case
event_less = over_ints (print 4 0 ∷ print 5 0 ∷ []) (print 4 0 ∷ nop 5 ∷ [])

abbrev pub event_more : Case
event_more = over_ints (print 4 0 ∷ nop 5 ∷ []) (print 4 0 ∷ print 5 0 ∷ [])

-- ---- "the same value or nothing in every original name": three names, of which the first is an argument
abbrev over_three : ℕ → Instr → Instr → Case
over_three t i j =
    from (some (int 3) ∷ none ∷ none ∷ []) [] 1 (just 1 (tint ∷ t ∷ tint ∷ []) (i ∷ [])) (just 1 (tint ∷ t ∷ tint ∷ []) (j ∷ []))

abbrev pub value_first : Case
value_first = over_three tint (const 1 0 7) (const 1 0 8)

abbrev pub value_middle : Case
value_middle = over_three tint (const 1 1 7) (const 1 1 8)

abbrev pub value_last : Case
value_last = over_three tint (const 1 2 7) (const 1 2 8)

abbrev pub value_for_nothing : Case
value_for_nothing = over_three tint (nop 1) (const 1 1 7)

abbrev pub nothing_for_value : Case
nothing_for_value = over_three tint (const 1 1 7) (nop 1)

-- "Values are compared exactly, floats by bits": 0.0 and -0.0; the float 0.0 and the literal 0
abbrev pub value_bits : Case
value_bits = over_three tfloat (set 1 1 2 0) (set 1 1 2 least)

abbrev pub value_literal : Case
value_literal = over_three tfloat (set 1 1 2 0) (set 1 1 0 0)

-- ---- "the same next block or the same stop"
-- a jump to another block that does the same: the runs differ before it and at no other time
abbrev pub next_block_other : Case
next_block_other =
    from (some (int 3) ∷ []) [] 1
    (fn 1 (tint ∷ []) (body (goes 1 1 ∷ []) ∷ body (ret 5 0 ∷ []) ∷ body (ret 5 0 ∷ []) ∷ []))
    (fn 1 (tint ∷ []) (body (goes 1 2 ∷ []) ∷ body (ret 5 0 ∷ []) ∷ body (ret 5 0 ∷ []) ∷ []))

-- the end, and a block that follows
abbrev pub end_or_block : Case
end_or_block = from [] [] 1 (fn 0 [] (body (nop 1 ∷ []) ∷ [])) (fn 0 [] (body (nop 1 ∷ []) ∷ body [] ∷ []))

-- "B of 0 ends", and a block that is empty
abbrev pub none_or_block : Case
none_or_block = from [] [] 0 (fn 0 [] []) (fn 0 [] (body [] ∷ []))

-- names: -2^63, 0, -1, one that holds nothing
abbrev dividing : Instr → Instr → Case
dividing i j =
    from (some (int least) ∷ some (int 0) ∷ some (int minus_one) ∷ none ∷ []) [] 1
    (just 3 (tint ∷ tint ∷ tint ∷ tint ∷ []) (i ∷ []))
    (just 3 (tint ∷ tint ∷ tint ∷ tint ∷ []) (j ∷ []))

abbrev pub stop_id : Case
stop_id = dividing (div 2 3 0 1) (div 3 3 0 1)

-- -2^63 by 0, which stops, and by -1, which passes on and sets name 0 to what it holds: a block more is passed too
abbrev pub stop_or_passes : Case
stop_or_passes = dividing (div 2 0 0 1) (div 2 0 0 2)

abbrev pub stop_kind : Case
stop_kind = dividing (div 2 3 0 1) (id 2 3 3)

-- a halt, and an unset name read behind a save that takes the answer which does not fit
abbrev pub stop_halt : Case
stop_halt =
    from (none ∷ []) (value (bool true) ∷ []) 1
    (just 0 (tint ∷ []) (gives 1 0 20 [] ∷ []))
    (fn 0 (tint ∷ tbool ∷ tint ∷ []) (saving 1 (gives 1 1 20 [] ∷ id 2 0 2 ∷ []) ∷ []))

-- ---- "exactly as many more steps as the saves filed": names 0 and 1 are 3 and 0, name 2 is made
abbrev stepping : ℕ → List Instr → List Instr → Case
stepping k is js =
    from (some (int 3) ∷ some (int 0) ∷ []) [] 1
    (just 2 (tint ∷ tint ∷ []) is)
    (fn 2 (tint ∷ tint ∷ tint ∷ []) (saving k js ∷ []))

abbrev pub step_more : Case
step_more = stepping 0 (nop 1 ∷ []) (nop 1 ∷ nop 1 ∷ [])

abbrev pub step_less : Case
step_less = stepping 0 (nop 1 ∷ []) []

abbrev pub filed_more : Case
filed_more = stepping 1 (nop 1 ∷ []) (nop 1 ∷ [])

abbrev pub filed_less : Case
filed_less = stepping 0 (nop 1 ∷ []) (id 1 2 0 ∷ nop 1 ∷ [])

-- before a division that stops: a step that is no save
abbrev pub before_stop : Case
before_stop = stepping 0 (div 1 0 0 1 ∷ []) (nop 1 ∷ div 1 0 0 1 ∷ [])

-- and a save that stands behind it, with the number of saves filed
abbrev pub behind_stop : Case
behind_stop = stepping 1 (div 1 0 0 1 ∷ []) (nop 1 ∷ div 1 0 0 1 ∷ id 1 2 0 ∷ [])

-- "a count belongs to the block it is filed under": a save of block 0, filed under block 1
abbrev pub filed_elsewhere : Case
filed_elsewhere =
    from (some (int 3) ∷ []) [] 1
    (fn 1 (tint ∷ []) (body (nop 1 ∷ []) ∷ body (nop 2 ∷ []) ∷ []))
    (fn 1 (tint ∷ tint ∷ []) (saving 0 (id 1 1 0 ∷ nop 1 ∷ []) ∷ saving 1 (nop 2 ∷ []) ∷ []))

-- ---- the blocks passed: to block 3 over block 1 or over block 2
abbrev pub passed_other : Case
passed_other =
    from [] [] 2
    (fn 0 [] (body (goes 1 1 ∷ []) ∷ body (goes 2 3 ∷ []) ∷ body (goes 2 3 ∷ []) ∷ body [] ∷ []))
    (fn 0 [] (body (goes 1 2 ∷ []) ∷ body (goes 2 3 ∷ []) ∷ body (goes 2 3 ∷ []) ∷ body [] ∷ []))
