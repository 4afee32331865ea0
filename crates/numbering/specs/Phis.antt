-- Document 02, Point 5 by example, a block and what is written of it: a phi is "a new number each time with arguments replaced", its block
-- numbers stay, and it may owe a save. So 62 bytes can stand in the rewriting for its 8.
use Rattle.std.specs.Prelude.{ℕ, ◌≡◌, refl, List, [], ◌∷◌, ◌++◌, map, length, replicate}
use Rattle.std.proofs.Math.Option.{some}
use Rattle.record.specs.Record.{nm, Instr, Record, type_in}
use Rattle.record.specs.Short.{gives, joins, set, does, goes}
use Rattle.record.specs.Write.{instr_bytes, name_bytes}
use Rattle.numbering.specs.State.{vn, start}
use Rattle.numbering.specs.Number.{block_lvn, lvn}
use Rattle.numbering.specs.Made.{made_name}
use Rattle.numbering.specs.Shared.{behind}
use Rattle.numbering.specs.Turns.{Row, turned, ints}
use Rattle.numbering.specs.Opened.{all_of_numbering}

-- ---- written as they stand: six ints a b c x y z, by index
abbrev pub stays : ℕ → List Instr → Row
stays A is = (A, ints, is, is)

abbrev pub as_they_stand : List Row
as_they_stand =
    -- x = phi; x = phi a; a phi of eight, of which some are the same
    stays 0 (joins 1 3 [] ∷ []) ∷
    stays 1 (joins 1 3 ((0, 7) ∷ []) ∷ []) ∷
    stays 3 (joins 1 3 ((0, 0) ∷ (1, 1) ∷ (2, 2) ∷ (0, 3) ∷ (1, 0) ∷ (2, 1) ∷ (0, 2) ∷ (1, 63) ∷ []) ∷ []) ∷
    -- two equal phis have two numbers, also of no argument; an id of each is its own
    stays 2 (joins 1 3 ((0, 0) ∷ (1, 1) ∷ []) ∷ joins 2 4 ((0, 0) ∷ (1, 1) ∷ []) ∷ gives 3 5 13 (4 ∷ []) ∷ []) ∷
    stays 0 (joins 1 3 [] ∷ joins 2 4 [] ∷ gives 3 5 13 (4 ∷ []) ∷ gives 4 0 13 (3 ∷ []) ∷ []) ∷
    -- c = 5; x = phi c c: no const, though both are known and the same; y = id x is none either
    stays 0 (set 1 2 0 5 ∷ joins 2 3 ((2, 0) ∷ (2, 1) ∷ []) ∷ gives 3 4 13 (3 ∷ []) ∷ []) ∷
    -- first, in the middle and last in its block
    stays 1 (joins 1 3 ((0, 0) ∷ []) ∷ does 2 68 (3 ∷ []) ∷ joins 3 4 ((3, 1) ∷ []) ∷ goes 4 0 ∷ []) ∷
    []

-- ---- arguments replaced, and saves; a made name has the index 6 and on
abbrev pub replaced : List Row
replaced =
    -- y = id a; x = phi y b y: y's number has the home a, and the block numbers stay with their places
    (
      2,
      ints,
      gives 1 4 13 (0 ∷ []) ∷ joins 2 3 ((4, 9) ∷ (1, 0) ∷ (4, 9) ∷ []) ∷ [],
      gives 1 4 13 (0 ∷ []) ∷ joins 2 3 ((0, 9) ∷ (1, 0) ∷ (0, 9) ∷ []) ∷ [],
    ) ∷
    -- y = id a; a = 5; x = phi y a: the home of y is the save of a
    (
      1,
      ints,
      gives 1 4 13 (0 ∷ []) ∷ set 2 0 0 5 ∷ joins 3 3 ((4, 0) ∷ (0, 1) ∷ []) ∷ [],
      gives 1 4 13 (0 ∷ []) ∷ gives 2 6 13 (0 ∷ []) ∷ set 2 0 0 5 ∷ joins 3 3 ((6, 0) ∷ (0, 1) ∷ []) ∷ [],
    ) ∷
    -- x = phi a; x = phi a; z = id x: the second owes the save of the first, and both stay
    (
      1,
      ints,
      joins 1 3 ((0, 0) ∷ []) ∷ joins 2 3 ((0, 0) ∷ []) ∷ gives 3 5 13 (3 ∷ []) ∷ [],
      joins 1 3 ((0, 0) ∷ []) ∷ gives 2 6 13 (3 ∷ []) ∷ joins 2 3 ((0, 0) ∷ []) ∷ gives 3 5 13 (3 ∷ []) ∷ [],
    ) ∷
    -- a = phi a b, a an argument: its arguments are replaced before the save is made; a = phi, which reads nothing
    (
      2,
      ints,
      joins 1 0 ((0, 0) ∷ (1, 1) ∷ []) ∷ joins 2 0 [] ∷ does 3 68 (0 ∷ []) ∷ [],
      gives 1 6 13 (0 ∷ []) ∷ joins 1 0 ((0, 0) ∷ (1, 1) ∷ []) ∷ gives 2 7 13 (0 ∷ []) ∷ joins 2 0 [] ∷ does 3 68 (0 ∷ []) ∷ [],
    ) ∷
    -- x = phi x, which the block has not numbered: it is read, so it is saved
    (0, ints, joins 1 3 ((3, 0) ∷ []) ∷ [], gives 1 6 13 (3 ∷ []) ∷ joins 1 3 ((3, 0) ∷ []) ∷ []) ∷
    -- "number unseen arguments left to right": x = phi c a b; y = add b a; z = add a c
    (
      0,
      ints,
      joins 1 3 ((2, 0) ∷ (0, 1) ∷ (1, 2) ∷ []) ∷ gives 2 4 1 (1 ∷ 0 ∷ []) ∷ gives 3 5 1 (0 ∷ 2 ∷ []) ∷ [],
      joins 1 3 ((2, 0) ∷ (0, 1) ∷ (1, 2) ∷ []) ∷ gives 2 4 1 (0 ∷ 1 ∷ []) ∷ gives 3 5 1 (2 ∷ 0 ∷ []) ∷ [],
    ) ∷
    []

pub phis_written :
    map (map (λ (r : Row). turned r.0 r.1 r.2)) (as_they_stand ∷ replaced ∷ []) ≡ map (map (λ (r : Row). r.3)) (as_they_stand ∷ replaced ∷ [])
unfolding all_of_numbering
phis_written = refl

-- ---- the numbers behind x = phi a b; y = phi a b; z = id y, where a and b have 0 and 1
pub two_numbers :
    map
    (λ x. (behind 6 (type_in ints) (start 2 0)
    (joins 1 3 ((0, 0) ∷ (1, 1) ∷ []) ∷ joins 2 4 ((0, 0) ∷ (1, 1) ∷ []) ∷ gives 3 5 13 (4 ∷ []) ∷ [])).env (nm x))
    (0 ∷ 1 ∷ 3 ∷ 4 ∷ 5 ∷ []) ≡
    some (vn 0) ∷ some (vn 1) ∷ some (vn 2) ∷ some (vn 3) ∷ some (vn 3) ∷ []
unfolding all_of_numbering
two_numbers = refl

-- ---- over two blocks: a int, an argument, x int. x = a; jmp to block 1. y = id a; a = phi a y x; jmp to block 1
pub in_a_loop :
    lvn
    (record {
      args = 1;
      types = 0x00 ∷ 0x00 ∷ 0x00 ∷ [];
      blocks =
          record { saves = 0; body = gives 1 1 13 (0 ∷ []) ∷ goes 2 1 ∷ [] } ∷
          record { saves = 0; body = gives 3 2 13 (0 ∷ []) ∷ joins 4 0 ((0, 0) ∷ (2, 1) ∷ (1, 1) ∷ []) ∷ goes 5 1 ∷ [] } ∷
          [];
    }) ≡
    record {
      args = 1;
      types = 0x00 ∷ 0x00 ∷ 0x00 ∷ 0x00 ∷ [];
      blocks =
          record { saves = 0; body = gives 1 1 13 (0 ∷ []) ∷ goes 2 1 ∷ [] } ∷
          record {
            saves = 1;
            body =
                gives 3 2 13 (0 ∷ []) ∷ gives 4 3 13 (0 ∷ []) ∷ joins 4 0 ((0, 0) ∷ (0, 1) ∷ (1, 1) ∷ []) ∷ goes 5 1 ∷ [];
          } ∷
          [];
    }
unfolding all_of_numbering
in_a_loop = refl

-- ---- bytes: a = phi of no argument, where a is an argument with a text of 32 bytes, K is 16,383 and ids have four bytes; what stands for its 8:
-- the save, the phi and the made name
pub eight_for_one :
    let r : Record Instr = record { version = 1; args = 1; names = record { type = 0x00; text = replicate 32 0x78 } ∷ []; blocks = [] } in
    length (instr_bytes 4 (joins 1 0 [])) ∷
    map (λ i. length (instr_bytes 4 i)) (block_lvn 1 (type_in (0x00 ∷ [])) (start 1 16383) (joins 1 0 [] ∷ [])).body ++
    (length (name_bytes (made_name r 16383 (nm 0))) ∷ []) ≡
    8 ∷ 10 ∷ 8 ∷ 44 ∷ []
unfolding all_of_numbering
eight_for_one = refl
