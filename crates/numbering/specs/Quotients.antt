-- Document 02, Point 4 by example, a block and what is written of it: a division of known operands is a const, but for one by 0.
use Rattle.std.specs.Prelude.{ℕ, ◌+◌, ◌-◌, ◌≡◌, refl, List, [], ◌∷◌, ◌++◌, map}
use Rattle.std.proofs.Math.Option.{some}
use Rattle.arith.specs.Word.{W, least, minus_one}
use Rattle.record.specs.Record.{nm, Instr, type_in}
use Rattle.record.specs.Short.{gives, set, does}
use Rattle.numbering.specs.State.{vn, start}
use Rattle.numbering.specs.Shared.{behind}
use Rattle.numbering.specs.Turns.{Row, turned, ints}
use Rattle.numbering.specs.Opened.{all_of_numbering}

-- ---- -2^63 and -1 known by a const, by an id of it and by a fold: nine divisions, each -2^63
-- ints: l n o are -2^63, by index 0 to 2, p q r are -1, 3 to 5; g h z, 6 to 8, are what is folded; x is 9
abbrev pub ten_ints : List ℕ
ten_ints = ints ++ (0x00 ∷ 0x00 ∷ 0x00 ∷ 0x00 ∷ [])

-- g = 2^63-1; h = 1; z = 0; l = -2^63; n = id l; o = add g h; p = -1; q = id p; r = sub z h
abbrev pub made_known : List Instr
made_known =
    set 1 6 0 (least - 1) ∷ set 2 7 0 1 ∷ set 3 8 0 0 ∷
    set 4 0 0 least ∷ gives 5 1 13 (0 ∷ []) ∷ gives 6 2 1 (6 ∷ 7 ∷ []) ∷
    set 7 3 0 minus_one ∷ gives 8 4 13 (3 ∷ []) ∷ gives 9 5 2 (8 ∷ 7 ∷ []) ∷ []

abbrev pub as_consts : List Instr
as_consts =
    set 1 6 0 (least - 1) ∷ set 2 7 0 1 ∷ set 3 8 0 0 ∷
    set 4 0 0 least ∷ set 5 1 0 least ∷ set 6 2 0 least ∷
    set 7 3 0 minus_one ∷ set 8 4 0 minus_one ∷ set 9 5 0 minus_one ∷ []

abbrev pub operands : List (ℕ × ℕ)
operands = (0, 3) ∷ (0, 4) ∷ (0, 5) ∷ (1, 3) ∷ (1, 4) ∷ (1, 5) ∷ (2, 3) ∷ (2, 4) ∷ (2, 5) ∷ []

pub known_each_way :
    turned 0 ten_ints (made_known ++ map (λ (p : ℕ × ℕ). gives 10 9 4 (p.0 ∷ p.1 ∷ [])) operands) ≡
    as_consts ++ map (λ (p : ℕ × ℕ). set 10 9 0 least) operands
unfolding all_of_numbering
known_each_way = refl

-- ---- behind a = v and b = w, which are known: x = div a b, and what is written of it
abbrev pub behind_both : ℕ → ℕ → Instr → Row
behind_both v w j = (0, ints, set 1 0 0 v ∷ set 2 1 0 w ∷ gives 3 3 4 (0 ∷ 1 ∷ []) ∷ [], set 1 0 0 v ∷ set 2 1 0 w ∷ j ∷ [])

abbrev pub folds : ℕ → ℕ → ℕ → Row
folds v w q = behind_both v w (set 3 3 0 q)

-- -2^63 by -1, by 1, by 2; -2^63+1 by -1; 7 by -2; by 0 the division stays, of -2^63 too
abbrev pub at_the_edge : List Row
at_the_edge =
    folds least minus_one least ∷ folds least 1 least ∷ folds least 2 0xC000_0000_0000_0000 ∷ folds (least + 1) minus_one (least - 1) ∷
    folds 7 (W - 2) (W - 3) ∷
    behind_both 7 0 (gives 3 3 4 (0 ∷ 1 ∷ [])) ∷
    behind_both least 0 (gives 3 3 4 (0 ∷ 1 ∷ [])) ∷
    behind_both 0 0 (gives 3 3 4 (0 ∷ 0 ∷ [])) ∷
    []

-- ---- one operand known; saves; what is behind the division
abbrev pub around : List Row
around =
    -- a is an argument: b = -1; x = div a b. a and b are arguments: c = -2^63; x = div c b
    (1, ints, set 1 1 0 minus_one ∷ gives 2 3 4 (0 ∷ 1 ∷ []) ∷ [], set 1 1 0 minus_one ∷ gives 2 3 4 (0 ∷ 1 ∷ []) ∷ []) ∷
    (2, ints, set 1 2 0 least ∷ gives 2 3 4 (2 ∷ 1 ∷ []) ∷ [], set 1 2 0 least ∷ gives 2 3 4 (2 ∷ 1 ∷ []) ∷ []) ∷
    -- a is an argument, and is what is set: c = -2^63; b = -1; a = div c b: a is saved, and then the const
    (
      1,
      ints,
      set 1 2 0 least ∷ set 2 1 0 minus_one ∷ gives 3 0 4 (2 ∷ 1 ∷ []) ∷ does 4 68 (0 ∷ []) ∷ [],
      set 1 2 0 least ∷ set 2 1 0 minus_one ∷ gives 3 6 13 (0 ∷ []) ∷ set 3 0 0 least ∷ does 4 68 (2 ∷ []) ∷ [],
    ) ∷
    -- a = -2^63; b = -1; a = div a b; b = div a b: the const of the save, and the same again
    (
      0,
      ints,
      set 1 0 0 least ∷ set 2 1 0 minus_one ∷ gives 3 0 4 (0 ∷ 1 ∷ []) ∷ gives 4 1 4 (0 ∷ 1 ∷ []) ∷ does 5 68 (0 ∷ 1 ∷ []) ∷ [],
      set 1 0 0 least ∷ set 2 1 0 minus_one ∷ gives 3 6 13 (0 ∷ []) ∷ set 3 0 0 least ∷ gives 4 7 13 (1 ∷ []) ∷ set 4 1 0 least ∷
          does 5 68 (6 ∷ 6 ∷ []) ∷ [],
    ) ∷
    -- a = -2^63; b = -1; x = div a b; y = id x: a const, since x is known
    (
      0,
      ints,
      set 1 0 0 least ∷ set 2 1 0 minus_one ∷ gives 3 3 4 (0 ∷ 1 ∷ []) ∷ gives 4 4 13 (3 ∷ []) ∷ [],
      set 1 0 0 least ∷ set 2 1 0 minus_one ∷ set 3 3 0 least ∷ set 4 4 0 least ∷ [],
    ) ∷
    -- a = -2^63; b = 0; x = div a b; y = div a b; z = div y a: y has the value of x, which is not known
    (
      0,
      ints,
      set 1 0 0 least ∷ set 2 1 0 0 ∷ gives 3 3 4 (0 ∷ 1 ∷ []) ∷ gives 4 4 4 (0 ∷ 1 ∷ []) ∷ gives 5 5 4 (4 ∷ 0 ∷ []) ∷ [],
      set 1 0 0 least ∷ set 2 1 0 0 ∷ gives 3 3 4 (0 ∷ 1 ∷ []) ∷ gives 4 4 13 (3 ∷ []) ∷ gives 5 5 4 (3 ∷ 0 ∷ []) ∷ [],
    ) ∷
    []

pub quotients_written :
    map (map (λ (r : Row). turned r.0 r.1 r.2)) (at_the_edge ∷ around ∷ []) ≡ map (map (λ (r : Row). r.3)) (at_the_edge ∷ around ∷ [])
unfolding all_of_numbering
quotients_written = refl

-- ---- one number: behind a = -2^63; b = -1; c = 1; x = div a b; y = div a c; z = -2^63 the numbers of all six
pub one_number :
    map
    (λ x. (behind 6 (type_in ints) (start 0 0)
    (set 1 0 0 least ∷ set 2 1 0 minus_one ∷ set 3 2 0 1 ∷ gives 4 3 4 (0 ∷ 1 ∷ []) ∷ gives 5 4 4 (0 ∷ 2 ∷ []) ∷ set 6 5 0 least ∷ [])).env (nm x))
    (0 ∷ 1 ∷ 2 ∷ 3 ∷ 4 ∷ 5 ∷ []) ≡
    some (vn 0) ∷ some (vn 1) ∷ some (vn 2) ∷ some (vn 0) ∷ some (vn 0) ∷ some (vn 0) ∷ []
unfolding all_of_numbering
one_number = refl
