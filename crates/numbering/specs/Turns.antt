-- "One block" by example, a block and what is written of it: the order of numbers, values that are new each time, and arguments replaced.
use Rattle.std.specs.Prelude.{ℕ, ◌≡◌, refl, true, false, List, [], ◌∷◌, ◌++◌, map, length}
use Rattle.arith.specs.Value.{int, float, literal, char, bool}
use Rattle.record.specs.Record.{Instr, type_in}
use Rattle.record.specs.Short.{gives, asks, set, does, tells, chooses, goes}
use Rattle.record.specs.Tables.{count}
use Rattle.numbering.specs.Number.{literal_for, block_lvn, lvn}
use Rattle.numbering.specs.State.{start}
use Rattle.numbering.specs.Opened.{all_of_numbering}

-- arguments A, the types of the names, a block, and what is written of it
abbrev pub Row : Type 0
Row = ℕ × List ℕ × List Instr × List Instr

abbrev pub turned : ℕ → List ℕ → List Instr → List Instr
turned A ts is = (block_lvn (length ts) (type_in ts) (start A 0) is).body

-- six ints a b c x y z, by index; a made name has the index 6 and on
abbrev pub ints : List ℕ
ints = 0x00 ∷ 0x00 ∷ 0x00 ∷ 0x00 ∷ 0x00 ∷ 0x00 ∷ []

-- ---- "number unseen arguments left to right": what is seen first has the smaller number, and stands first in a sum
abbrev pub left_to_right : List Row
left_to_right =
    -- print c a b; x = add b a; y = add a c; z = add b c
    (
      0,
      ints,
      does 1 68 (2 ∷ 0 ∷ 1 ∷ []) ∷ gives 2 3 1 (1 ∷ 0 ∷ []) ∷ gives 3 4 1 (0 ∷ 2 ∷ []) ∷ gives 4 5 1 (1 ∷ 2 ∷ []) ∷ [],
      does 1 68 (2 ∷ 0 ∷ 1 ∷ []) ∷ gives 2 3 1 (0 ∷ 1 ∷ []) ∷ gives 3 4 1 (2 ∷ 0 ∷ []) ∷ gives 4 5 1 (2 ∷ 1 ∷ []) ∷ [],
    ) ∷
    -- z = call 7 (c, a, b); x = add b a; y = add a c
    (
      0,
      ints,
      asks 1 5 7 (2 ∷ 0 ∷ 1 ∷ []) ∷ gives 2 3 1 (1 ∷ 0 ∷ []) ∷ gives 3 4 1 (0 ∷ 2 ∷ []) ∷ [],
      asks 1 5 7 (2 ∷ 0 ∷ 1 ∷ []) ∷ gives 2 3 1 (0 ∷ 1 ∷ []) ∷ gives 3 4 1 (2 ∷ 0 ∷ []) ∷ [],
    ) ∷
    -- x = sub b a; y = add a b
    (0, ints, gives 1 3 2 (1 ∷ 0 ∷ []) ∷ gives 2 4 1 (0 ∷ 1 ∷ []) ∷ [], gives 1 3 2 (1 ∷ 0 ∷ []) ∷ gives 2 4 1 (1 ∷ 0 ∷ []) ∷ []) ∷
    -- y = add b a, both unseen; the same where a and b are arguments
    (0, ints, gives 1 4 1 (1 ∷ 0 ∷ []) ∷ [], gives 1 4 1 (1 ∷ 0 ∷ []) ∷ []) ∷
    (2, ints, gives 1 4 1 (1 ∷ 0 ∷ []) ∷ [], gives 1 4 1 (0 ∷ 1 ∷ []) ∷ []) ∷
    -- a is an argument: print x; y = mul b x; z = mul x a
    (
      1,
      ints,
      does 1 68 (3 ∷ []) ∷ gives 2 4 3 (1 ∷ 3 ∷ []) ∷ gives 3 5 3 (3 ∷ 0 ∷ []) ∷ [],
      does 1 68 (3 ∷ []) ∷ gives 2 4 3 (3 ∷ 1 ∷ []) ∷ gives 3 5 3 (0 ∷ 3 ∷ []) ∷ [],
    ) ∷
    -- a name is numbered where it is first read, and then no more: y = id x; print x; z = eq x y, a bool
    (
      0,
      0x00 ∷ 0x00 ∷ 0x01 ∷ [],
      gives 1 1 13 (0 ∷ []) ∷ does 2 68 (0 ∷ []) ∷ gives 3 2 5 (0 ∷ 1 ∷ []) ∷ [],
      gives 1 1 13 (0 ∷ []) ∷ does 2 68 (0 ∷ []) ∷ set 3 2 1 1 ∷ [],
    ) ∷
    []

-- ---- a literal twice, of each kind, and a copy of the second: x = literal; y = literal; z = id y
abbrev pub literal_twice : ℕ → ℕ → ℕ → List Instr → Row
literal_twice type kind bits written =
    (0, type ∷ type ∷ type ∷ [], set 1 0 kind bits ∷ set 2 1 kind bits ∷ gives 3 2 13 (1 ∷ []) ∷ [], set 1 0 kind bits ∷ written)

abbrev pub literals_twice : List Row
literals_twice =
    -- an int and a bool are known
    literal_twice 0x00 0 7 (set 2 1 0 7 ∷ set 3 2 0 7 ∷ []) ∷
    literal_twice 0x01 1 1 (set 2 1 1 1 ∷ set 3 2 1 1 ∷ []) ∷
    literal_twice 0x01 1 0 (set 2 1 1 0 ∷ set 3 2 1 0 ∷ []) ∷
    -- a float and a char are new each time
    literal_twice 0x02 2 7 (set 2 1 2 7 ∷ gives 3 2 13 (1 ∷ []) ∷ []) ∷
    literal_twice 0x03 3 65 (set 2 1 3 65 ∷ gives 3 2 13 (1 ∷ []) ∷ []) ∷
    -- an int literal in a float has a number, and is not known
    literal_twice 0x02 0 7 (gives 2 1 13 (0 ∷ []) ∷ gives 3 2 13 (0 ∷ []) ∷ []) ∷
    []

-- ---- "replace arguments by their numbers' homes": p and q ptr<int>, x and y int, c and d bool, z int, e bool; a made name has the index 8
-- behind q = id p; y = id x; d = id c, where p stands for q, x for y, c for d
abbrev pub copies : List Instr → List Instr
copies is = gives 1 1 13 (0 ∷ []) ∷ gives 2 3 13 (2 ∷ []) ∷ gives 3 5 13 (4 ∷ []) ∷ is

abbrev pub behind_copies : Instr → List Instr → Row
behind_copies i written =
    (0, 0x10 ∷ 0x10 ∷ 0x00 ∷ 0x00 ∷ 0x01 ∷ 0x01 ∷ 0x00 ∷ 0x01 ∷ [], copies (i ∷ []), copies written)

abbrev pub homes_for_arguments : List Row
homes_for_arguments =
    -- ret y; br d; z = load q; print y d q x
    behind_copies (does 4 66 (3 ∷ [])) (does 4 66 (2 ∷ []) ∷ []) ∷
    behind_copies (chooses 4 5 8 9) (chooses 4 4 8 9 ∷ []) ∷
    behind_copies (gives 4 6 38 (1 ∷ [])) (gives 4 6 38 (0 ∷ []) ∷ []) ∷
    behind_copies (does 4 68 (3 ∷ 5 ∷ 1 ∷ 2 ∷ [])) (does 4 68 (2 ∷ 4 ∷ 0 ∷ 2 ∷ []) ∷ []) ∷
    -- z = call 7 (q, y); call 7 (q, y); store q y; free q
    behind_copies (asks 4 6 7 (1 ∷ 3 ∷ [])) (asks 4 6 7 (0 ∷ 2 ∷ []) ∷ []) ∷
    behind_copies (tells 4 7 (1 ∷ 3 ∷ [])) (tells 4 7 (0 ∷ 2 ∷ []) ∷ []) ∷
    behind_copies (does 4 70 (1 ∷ 3 ∷ [])) (does 4 70 (0 ∷ 2 ∷ []) ∷ []) ∷
    behind_copies (does 4 71 (1 ∷ [])) (does 4 71 (0 ∷ []) ∷ []) ∷
    -- z = sub y y; e = not d; e = lt y x
    behind_copies (gives 4 6 2 (3 ∷ 3 ∷ [])) (gives 4 6 2 (2 ∷ 2 ∷ []) ∷ []) ∷
    behind_copies (gives 4 7 10 (5 ∷ [])) (gives 4 7 10 (4 ∷ []) ∷ []) ∷
    behind_copies (gives 4 7 6 (3 ∷ 2 ∷ [])) (gives 4 7 6 (2 ∷ 2 ∷ []) ∷ []) ∷
    -- p = alloc y: p is the home of its number, and is saved; q = ptradd q y: q is not
    behind_copies (gives 4 0 37 (3 ∷ [])) (gives 4 8 13 (0 ∷ []) ∷ gives 4 0 37 (2 ∷ []) ∷ []) ∷
    behind_copies (gives 4 1 14 (1 ∷ 3 ∷ [])) (gives 4 1 14 (0 ∷ 2 ∷ []) ∷ []) ∷
    -- nop; jmp
    behind_copies (does 4 69 []) (does 4 69 [] ∷ []) ∷
    behind_copies (goes 4 9) (goes 4 9 ∷ []) ∷
    []

-- ---- saves
abbrev pub saves_made : List Row
saves_made =
    -- x = add x x, x unseen: it is numbered, and so saved; the operands are x, not the save
    (0, ints, gives 1 3 1 (3 ∷ 3 ∷ []) ∷ [], gives 1 6 13 (3 ∷ []) ∷ gives 1 3 1 (3 ∷ 3 ∷ []) ∷ []) ∷
    -- c = not c, c a bool and an argument
    (1, 0x01 ∷ [], gives 1 0 10 (0 ∷ []) ∷ [], gives 1 1 13 (0 ∷ []) ∷ gives 1 0 10 (0 ∷ []) ∷ []) ∷
    -- d = not c; e = not c, bools: the second has the number of the first
    (1, 0x01 ∷ 0x01 ∷ 0x01 ∷ [], gives 1 1 10 (0 ∷ []) ∷ gives 2 2 10 (0 ∷ []) ∷ [], gives 1 1 10 (0 ∷ []) ∷ gives 2 2 13 (1 ∷ []) ∷ []) ∷
    -- a = call 7 (a), a an argument
    (1, ints, asks 1 0 7 (0 ∷ []) ∷ [], gives 1 6 13 (0 ∷ []) ∷ asks 1 0 7 (0 ∷ []) ∷ []) ∷
    -- a = 1, a an argument that nothing reads
    (1, ints, set 1 0 0 1 ∷ [], gives 1 6 13 (0 ∷ []) ∷ set 1 0 0 1 ∷ []) ∷
    -- y = id x; y = 6; x = 7; print y: y is not the home of its number, x is
    (
      0,
      ints,
      gives 1 4 13 (3 ∷ []) ∷ set 2 4 0 6 ∷ set 3 3 0 7 ∷ does 4 68 (4 ∷ []) ∷ [],
      gives 1 4 13 (3 ∷ []) ∷ set 2 4 0 6 ∷ gives 3 6 13 (3 ∷ []) ∷ set 3 3 0 7 ∷ does 4 68 (4 ∷ []) ∷ [],
    ) ∷
    -- y = id x; x = id y: written x = id x, so no save
    (0, ints, gives 1 4 13 (3 ∷ []) ∷ gives 2 3 13 (4 ∷ []) ∷ [], gives 1 4 13 (3 ∷ []) ∷ gives 2 3 13 (3 ∷ []) ∷ []) ∷
    -- y = id x; x = 1; x = 2; print y x: two saves of x, and y stands in the first
    (
      0,
      ints,
      gives 1 4 13 (3 ∷ []) ∷ set 2 3 0 1 ∷ set 3 3 0 2 ∷ does 4 68 (4 ∷ 3 ∷ []) ∷ [],
      gives 1 4 13 (3 ∷ []) ∷ gives 2 6 13 (3 ∷ []) ∷ set 2 3 0 1 ∷ gives 3 7 13 (3 ∷ []) ∷ set 3 3 0 2 ∷ does 4 68 (6 ∷ 3 ∷ []) ∷ [],
    ) ∷
    -- x = id a; y = add x b; z = add a b: x has the number of a
    (
      2,
      ints,
      gives 1 3 13 (0 ∷ []) ∷ gives 2 4 1 (3 ∷ 1 ∷ []) ∷ gives 3 5 1 (0 ∷ 1 ∷ []) ∷ [],
      gives 1 3 13 (0 ∷ []) ∷ gives 2 4 1 (0 ∷ 1 ∷ []) ∷ gives 3 5 13 (4 ∷ []) ∷ [],
    ) ∷
    -- x = 7; c = 0; y = div x c; z = div x c: what does not fold has a number
    (
      0,
      ints,
      set 1 3 0 7 ∷ set 2 2 0 0 ∷ gives 3 4 4 (3 ∷ 2 ∷ []) ∷ gives 4 5 4 (3 ∷ 2 ∷ []) ∷ [],
      set 1 3 0 7 ∷ set 2 2 0 0 ∷ gives 3 4 4 (3 ∷ 2 ∷ []) ∷ gives 4 5 13 (4 ∷ []) ∷ [],
    ) ∷
    []

abbrev pub rows : List Row
rows = left_to_right ++ (literals_twice ++ (homes_for_arguments ++ saves_made))

pub turns : map (λ r. turned r.0 r.1 r.2) rows ≡ map (λ r. r.3) rows
unfolding all_of_numbering count
turns = refl

-- the literal that a value is written as
pub literals_for :
    map literal_for (int 7 ∷ float 7 ∷ literal 7 ∷ char 7 ∷ bool false ∷ bool true ∷ []) ≡
    map (λ (p : ℕ × ℕ). record { kind = p.0; bits = p.1 }) ((0, 7) ∷ (2, 7) ∷ (0, 7) ∷ (3, 7) ∷ (1, 0) ∷ (1, 1) ∷ [])
literals_for = refl

-- ---- values that are new each time: x = c (a, b); y = c (a, b); z = id y, for each of the codes 20 to 39
abbrev pub twice : ℕ → List Instr
twice c = gives 1 3 c (0 ∷ 1 ∷ []) ∷ gives 2 4 c (0 ∷ 1 ∷ []) ∷ gives 3 5 13 (4 ∷ []) ∷ []

pub new_each_time : map (λ c. turned 2 ints (twice c)) (count 20 20) ≡ map twice (count 20 20)
unfolding all_of_numbering count
new_each_time = refl

-- ---- "Per block": what one block has numbered no other knows; K, saves and types of made names run on
-- a int, an argument, x int, c bool, f float. print c x; x = add a a; c = true. Then x = add a a; c = id c. Then print f; f = a float. Then a = 1
pub block_by_block :
    lvn
    (record {
      args = 1;
      types = 0x00 ∷ 0x00 ∷ 0x01 ∷ 0x02 ∷ [];
      blocks =
          record { saves = 0; body = does 1 68 (2 ∷ 1 ∷ []) ∷ gives 2 1 1 (0 ∷ 0 ∷ []) ∷ set 3 2 1 1 ∷ [] } ∷
          record { saves = 0; body = gives 4 1 1 (0 ∷ 0 ∷ []) ∷ gives 5 2 13 (2 ∷ []) ∷ [] } ∷
          record { saves = 0; body = does 6 68 (3 ∷ []) ∷ set 7 3 2 7 ∷ [] } ∷
          record { saves = 0; body = set 8 0 0 1 ∷ [] } ∷
          [];
    }) ≡
    record {
      args = 1;
      types = 0x00 ∷ 0x00 ∷ 0x01 ∷ 0x02 ∷ 0x00 ∷ 0x01 ∷ 0x02 ∷ 0x00 ∷ [];
      blocks =
          record {
            saves = 2;
            body =
                does 1 68 (2 ∷ 1 ∷ []) ∷ gives 2 4 13 (1 ∷ []) ∷ gives 2 1 1 (0 ∷ 0 ∷ []) ∷ gives 3 5 13 (2 ∷ []) ∷ set 3 2 1 1 ∷ [];
          } ∷
          record { saves = 0; body = gives 4 1 1 (0 ∷ 0 ∷ []) ∷ gives 5 2 13 (2 ∷ []) ∷ [] } ∷
          record { saves = 1; body = does 6 68 (3 ∷ []) ∷ gives 7 6 13 (3 ∷ []) ∷ set 7 3 2 7 ∷ [] } ∷
          record { saves = 1; body = gives 8 7 13 (0 ∷ []) ∷ set 8 0 0 1 ∷ [] } ∷
          [];
    }
unfolding all_of_numbering count
block_by_block = refl
