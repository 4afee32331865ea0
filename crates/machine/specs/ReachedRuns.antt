-- What runs have come to, and which of them have read an unset name, computed.
use Rattle.std.specs.Prelude.{ℕ, ◌≡◌, refl, Bool, true, false, List, [], ◌∷◌, map}
use Rattle.std.proofs.Math.Option.{none, some}
use Rattle.arith.specs.Value.{int, bool}
use Rattle.record.specs.Record.{Instr, Function}
use Rattle.record.specs.Short.{gives, does, chooses, goes}
use Rattle.machine.specs.Machine.{Store, Answer, value, go_on, halt}
use Rattle.machine.specs.Reached.{reached, read_no_unset}
use Rattle.machine.specs.Examples.{values_in, store_of}
use Rattle.machine.specs.Opened.{all_of_machine}

-- names: 0 an int that is set, 1 the int 0, 2 and 3 ints that are not set, 4 a bool that is set
abbrev func : List (List Instr) → Function
func bs =
    record {
      args = 2;
      types = 0 ∷ 0 ∷ 0 ∷ 0 ∷ 1 ∷ [];
      blocks = map (λ is. record { saves = 0; body = is }) bs;
    }

abbrev σ : Store
σ = store_of (some (int 5) ∷ some (int 0) ∷ none ∷ none ∷ some (bool true) ∷ [])

-- the ids of what the first n blocks come to, and whether no unset name was read
abbrev ids : List (List Instr) → List Answer → ℕ → List ℕ
ids bs answers n = map (λ c. c.instr.id) (reached (func bs) σ answers n)

abbrev unread : List (List Instr) → List Answer → ℕ → Bool
unread bs answers n = read_no_unset (func bs) σ answers n

-- ---- the functions
-- x = id a | print y, x; ret | print x: an unset name is read in the second block
abbrev in_second : List (List Instr)
in_second =
    (gives 1 2 13 (0 ∷ []) ∷ []) ∷
    (does 2 68 (3 ∷ 2 ∷ []) ∷ does 3 66 [] ∷ []) ∷
    (does 4 68 (2 ∷ []) ∷ []) ∷ []

-- print a | ret: x and y are passed by
abbrev passed_by : List (List Instr)
passed_by = (does 1 68 (0 ∷ []) ∷ []) ∷ (does 2 66 [] ∷ []) ∷ []

-- x = div a z; print y: the division stops
abbrev behind_stop : List (List Instr)
behind_stop = (gives 1 2 4 (0 ∷ 1 ∷ []) ∷ does 2 68 (3 ∷ []) ∷ []) ∷ []

-- nop; jmp 2; print y | print y | br c 3 1 | ret a
abbrev jumped_over : List (List Instr)
jumped_over =
    (does 1 69 [] ∷ goes 2 2 ∷ does 3 68 (3 ∷ []) ∷ []) ∷
    (does 4 68 (3 ∷ []) ∷ []) ∷
    (chooses 5 4 3 1 ∷ []) ∷
    (does 6 66 (0 ∷ []) ∷ []) ∷ []

-- print a; x = call; jmp 0: over and over, with an answer for each event
abbrev over_again : List (List Instr)
over_again = (does 1 68 (0 ∷ []) ∷ gives 2 2 20 [] ∷ goes 3 0 ∷ []) ∷ []

-- x = id a | x = add x a; ret x: the second block reads what the first has set
abbrev set_before : List (List Instr)
set_before = (gives 1 2 13 (0 ∷ []) ∷ []) ∷ (gives 2 2 1 (2 ∷ 0 ∷ []) ∷ does 3 66 (2 ∷ []) ∷ []) ∷ []

-- ---- what they come to
pub come_to :
    map (ids in_second []) (0 ∷ 1 ∷ 2 ∷ 3 ∷ []) ∷
    map (ids passed_by (go_on ∷ [])) (0 ∷ 1 ∷ 2 ∷ 3 ∷ []) ∷
    map (ids passed_by []) (1 ∷ 2 ∷ []) ∷
    map (ids behind_stop []) (1 ∷ 2 ∷ []) ∷
    map (ids jumped_over []) (1 ∷ 2 ∷ 3 ∷ 4 ∷ []) ∷
    map (ids over_again (go_on ∷ value (int 7) ∷ go_on ∷ halt ∷ [])) (1 ∷ 2 ∷ 3 ∷ []) ∷
    map (ids [] []) (0 ∷ 1 ∷ []) ∷ [] ≡
    ([] ∷ (1 ∷ []) ∷ (1 ∷ 2 ∷ []) ∷ (1 ∷ 2 ∷ []) ∷ []) ∷
    ([] ∷ (1 ∷ []) ∷ (1 ∷ 2 ∷ []) ∷ (1 ∷ 2 ∷ []) ∷ []) ∷
    ((1 ∷ []) ∷ (1 ∷ []) ∷ []) ∷
    ((1 ∷ []) ∷ (1 ∷ []) ∷ []) ∷
    ((1 ∷ 2 ∷ []) ∷ (1 ∷ 2 ∷ 5 ∷ []) ∷ (1 ∷ 2 ∷ 5 ∷ 6 ∷ []) ∷ (1 ∷ 2 ∷ 5 ∷ 6 ∷ []) ∷ []) ∷
    ((1 ∷ 2 ∷ 3 ∷ []) ∷ (1 ∷ 2 ∷ 3 ∷ 1 ∷ 2 ∷ []) ∷ (1 ∷ 2 ∷ 3 ∷ 1 ∷ 2 ∷ []) ∷ []) ∷
    ([] ∷ [] ∷ []) ∷ []
unfolding all_of_machine
come_to = refl

-- each with the store that it found, not the one that it left: x is 5 from the second instruction on, and 10 from the third
pub found :
    map (λ c. values_in c.store 0 (0 ∷ 0 ∷ 0 ∷ [])) (reached (func set_before) σ [] 2) ≡
    (some (int 5) ∷ some (int 0) ∷ none ∷ []) ∷
    (some (int 5) ∷ some (int 0) ∷ some (int 5) ∷ []) ∷
    (some (int 5) ∷ some (int 0) ∷ some (int 10) ∷ []) ∷ []
unfolding all_of_machine
found = refl

-- ---- what they have read
pub has_read_no_unset :
    map (unread in_second []) (0 ∷ 1 ∷ 2 ∷ 3 ∷ []) ∷
    map (unread passed_by (go_on ∷ [])) (0 ∷ 1 ∷ 2 ∷ 3 ∷ []) ∷
    map (unread behind_stop []) (1 ∷ 2 ∷ []) ∷
    map (unread jumped_over []) (1 ∷ 2 ∷ 3 ∷ 4 ∷ []) ∷
    map (unread over_again (go_on ∷ value (int 7) ∷ go_on ∷ halt ∷ [])) (1 ∷ 2 ∷ 3 ∷ []) ∷
    map (unread set_before []) (1 ∷ 2 ∷ []) ∷
    map (unread [] []) (0 ∷ 1 ∷ []) ∷ [] ≡
    (true ∷ true ∷ false ∷ false ∷ []) ∷
    (true ∷ true ∷ true ∷ true ∷ []) ∷
    (true ∷ true ∷ []) ∷
    (true ∷ true ∷ true ∷ true ∷ []) ∷
    (true ∷ true ∷ true ∷ []) ∷
    (true ∷ true ∷ []) ∷
    (true ∷ true ∷ []) ∷ []
unfolding all_of_machine
has_read_no_unset = refl

-- in one block: the first, a middle and the last argument; the first, a middle and the last instruction; a dest that is read too; a name that
-- the instruction before has set; br, ret and a call
pub reads_unset :
    map (λ is. unread (is ∷ []) (go_on ∷ go_on ∷ []) 1) (
    (does 1 68 (2 ∷ 0 ∷ 0 ∷ []) ∷ []) ∷
    (does 1 68 (0 ∷ 2 ∷ 0 ∷ []) ∷ []) ∷
    (does 1 68 (0 ∷ 0 ∷ 2 ∷ []) ∷ []) ∷
    (does 1 68 (0 ∷ 0 ∷ 0 ∷ []) ∷ []) ∷
    (does 1 68 (2 ∷ []) ∷ does 2 69 [] ∷ does 3 69 [] ∷ []) ∷
    (does 1 69 [] ∷ does 2 68 (2 ∷ []) ∷ does 3 69 [] ∷ []) ∷
    (does 1 69 [] ∷ does 2 69 [] ∷ does 3 68 (2 ∷ []) ∷ []) ∷
    (gives 1 2 1 (2 ∷ 0 ∷ []) ∷ []) ∷
    (gives 1 2 1 (0 ∷ 2 ∷ []) ∷ []) ∷
    (gives 1 2 1 (0 ∷ 1 ∷ []) ∷ does 2 68 (2 ∷ []) ∷ []) ∷
    (chooses 1 2 0 0 ∷ []) ∷
    (does 1 66 (2 ∷ []) ∷ []) ∷
    (gives 1 2 20 (2 ∷ []) ∷ []) ∷
    []
    ) ≡
    false ∷ false ∷ false ∷ true ∷ false ∷ false ∷ false ∷ false ∷ false ∷ true ∷ false ∷ false ∷ false ∷ []
unfolding all_of_machine
reads_unset = refl
