-- Document 02, Point 2 by example, a block and what is written of it: gt and ge as lt and le of the exchanged operands.
use Rattle.std.specs.Prelude.{ℕ, ◌≡◌, refl, List, [], ◌∷◌, map}
use Rattle.std.proofs.Math.Option.{none, some}
use Rattle.record.specs.Record.{nm, Instr, type_in}
use Rattle.record.specs.Short.{gives, set}
use Rattle.numbering.specs.State.{vn, start}
use Rattle.numbering.specs.Shared.{behind}
use Rattle.numbering.specs.Turns.{Row, turned}
use Rattle.numbering.specs.Opened.{all_of_numbering}

-- ints a b x y, by index 0 to 3, and bools p q, 4 and 5; a made name has the index 6 and on. a and b are arguments
abbrev pub ints_and_bools : List ℕ
ints_and_bools = 0x00 ∷ 0x00 ∷ 0x00 ∷ 0x00 ∷ 0x01 ∷ 0x01 ∷ []

abbrev pub row : List Instr → List Instr → Row
row is js = (2, ints_and_bools, is, js)

-- p = c a b; q = c a b; q = id p
abbrev pub p_is : ℕ → ℕ → ℕ → Instr
p_is c a b = gives 1 4 c (a ∷ b ∷ [])

abbrev pub q_is : ℕ → ℕ → ℕ → Instr
q_is c a b = gives 2 5 c (a ∷ b ∷ [])

abbrev pub q_is_p : Instr
q_is_p = gives 2 5 13 (4 ∷ [])

-- i and j are written so, the second as a copy of the first
abbrev pub share : Instr → Instr → Instr → Row
share i j first = row (i ∷ j ∷ []) (first ∷ q_is_p ∷ [])

-- each as itself
abbrev pub apart : Instr → Instr → Instr → Instr → Row
apart i j first second = row (i ∷ j ∷ []) (first ∷ second ∷ [])

-- ---- two comparisons of a and b: the second is an id of the first's home, or stands for itself
abbrev pub pairs : List Row
pairs =
    -- gt a b and lt b a, in either order; ge a b and le b a
    share (p_is 7 0 1) (q_is 6 1 0) (p_is 6 1 0) ∷
    share (p_is 6 1 0) (q_is 7 0 1) (p_is 6 1 0) ∷
    share (p_is 9 0 1) (q_is 8 1 0) (p_is 8 1 0) ∷
    share (p_is 8 1 0) (q_is 9 0 1) (p_is 8 1 0) ∷
    -- the same comparison twice
    share (p_is 7 0 1) (q_is 7 0 1) (p_is 6 1 0) ∷
    share (p_is 9 0 1) (q_is 9 0 1) (p_is 8 1 0) ∷
    -- gt b a and lt a b: the smaller number stands first here, and second above
    share (p_is 7 1 0) (q_is 6 0 1) (p_is 6 0 1) ∷
    share (p_is 9 1 0) (q_is 8 0 1) (p_is 8 0 1) ∷
    -- gt a a and ge a a are no constants
    share (p_is 7 0 0) (q_is 6 0 0) (p_is 6 0 0) ∷
    share (p_is 8 0 0) (q_is 9 0 0) (p_is 8 0 0) ∷
    -- gt a b is neither lt a b nor gt b a, le b a or ge a b; ge a b is not le a b
    apart (p_is 7 0 1) (q_is 6 0 1) (p_is 6 1 0) (q_is 6 0 1) ∷
    apart (p_is 7 0 1) (q_is 7 1 0) (p_is 6 1 0) (q_is 6 0 1) ∷
    apart (p_is 7 0 1) (q_is 8 1 0) (p_is 6 1 0) (q_is 8 1 0) ∷
    apart (p_is 7 0 1) (q_is 9 0 1) (p_is 6 1 0) (q_is 8 1 0) ∷
    apart (p_is 9 0 1) (q_is 8 0 1) (p_is 8 1 0) (q_is 8 0 1) ∷
    []

-- ---- known operands: behind x = 5, and behind x = 5 and y = 3
abbrev pub behind_5 : Instr → Instr → Row
behind_5 i j = row (set 8 2 0 5 ∷ i ∷ []) (set 8 2 0 5 ∷ j ∷ [])

abbrev pub behind_5_3 : Instr → Instr → Row
behind_5_3 i j = row (set 8 2 0 5 ∷ set 9 3 0 3 ∷ i ∷ []) (set 8 2 0 5 ∷ set 9 3 0 3 ∷ j ∷ [])

abbrev pub with_known : List Row
with_known =
    -- one of them: gt a x, gt x a, ge a x, ge x a
    behind_5 (p_is 7 0 2) (p_is 6 2 0) ∷
    behind_5 (p_is 7 2 0) (p_is 6 0 2) ∷
    behind_5 (p_is 9 0 2) (p_is 8 2 0) ∷
    behind_5 (p_is 9 2 0) (p_is 8 0 2) ∷
    -- both: gt x y, gt y x, gt x x, ge x y, ge y x, ge x x fold
    behind_5_3 (p_is 7 2 3) (set 1 4 1 1) ∷
    behind_5_3 (p_is 7 3 2) (set 1 4 1 0) ∷
    behind_5_3 (p_is 7 2 2) (set 1 4 1 0) ∷
    behind_5_3 (p_is 9 2 3) (set 1 4 1 1) ∷
    behind_5_3 (p_is 9 3 2) (set 1 4 1 0) ∷
    behind_5_3 (p_is 9 2 2) (set 1 4 1 1) ∷
    []

-- ---- homes and saves
abbrev pub moved : List Row
moved =
    -- x = id a; a = 7; p = gt x b; q = ge b x: the number of x has moved to the made name 6
    row
    (gives 8 2 13 (0 ∷ []) ∷ set 9 0 0 7 ∷ p_is 7 2 1 ∷ q_is 9 1 2 ∷ [])
    (gives 8 2 13 (0 ∷ []) ∷ gives 9 6 13 (0 ∷ []) ∷ set 9 0 0 7 ∷ p_is 6 1 6 ∷ q_is 8 6 1 ∷ []) ∷
    -- x = id a; p = gt a b; a = 7; q = lt b x: a save between the two, which share a number
    row
    (gives 8 2 13 (0 ∷ []) ∷ p_is 7 0 1 ∷ set 9 0 0 7 ∷ q_is 6 1 2 ∷ [])
    (gives 8 2 13 (0 ∷ []) ∷ p_is 6 1 0 ∷ gives 9 6 13 (0 ∷ []) ∷ set 9 0 0 7 ∷ q_is_p ∷ []) ∷
    -- p = gt a b; p = true; q = lt b a: the home of the number has moved
    row
    (p_is 7 0 1 ∷ set 9 4 1 1 ∷ q_is 6 1 0 ∷ [])
    (p_is 6 1 0 ∷ gives 9 6 13 (4 ∷ []) ∷ set 9 4 1 1 ∷ gives 2 5 13 (6 ∷ []) ∷ []) ∷
    -- p = gt a b; p = lt b a: p is saved, and then a copy of the save
    row (p_is 7 0 1 ∷ gives 2 4 6 (1 ∷ 0 ∷ []) ∷ []) (p_is 6 1 0 ∷ gives 2 6 13 (4 ∷ []) ∷ gives 2 4 13 (6 ∷ []) ∷ []) ∷
    -- p = gt a b; a = 7; q = lt b a: another a, which is known
    row
    (p_is 7 0 1 ∷ set 9 0 0 7 ∷ q_is 6 1 0 ∷ [])
    (p_is 6 1 0 ∷ gives 9 6 13 (0 ∷ []) ∷ set 9 0 0 7 ∷ q_is 6 1 0 ∷ []) ∷
    -- unseen operands are numbered as they are read, x before y: p = gt x y; a = add y x, written add x y behind the save of a
    row
    (p_is 7 2 3 ∷ gives 2 0 1 (3 ∷ 2 ∷ []) ∷ [])
    (p_is 6 3 2 ∷ gives 2 6 13 (0 ∷ []) ∷ gives 2 0 1 (2 ∷ 3 ∷ []) ∷ []) ∷
    []

-- ---- all of them
pub swapped :
    map (map (λ (r : Row). turned r.0 r.1 r.2)) (pairs ∷ with_known ∷ moved ∷ []) ≡
    map (map (λ (r : Row). r.3)) (pairs ∷ with_known ∷ moved ∷ [])
unfolding all_of_numbering
swapped = refl

-- ---- the numbers of a, b, p and q behind p = gt a b, behind p = true, and behind q = lt b a, which takes the number that p had
pub numbers :
    map (λ is. map (λ x. (behind 6 (type_in ints_and_bools) (start 2 0) is).env (nm x)) (0 ∷ 1 ∷ 4 ∷ 5 ∷ []))
    ((p_is 7 0 1 ∷ []) ∷ (p_is 7 0 1 ∷ set 9 4 1 1 ∷ []) ∷ (p_is 7 0 1 ∷ set 9 4 1 1 ∷ q_is 6 1 0 ∷ []) ∷ []) ≡
    (some (vn 0) ∷ some (vn 1) ∷ some (vn 2) ∷ none ∷ []) ∷
    (some (vn 0) ∷ some (vn 1) ∷ some (vn 3) ∷ none ∷ []) ∷
    (some (vn 0) ∷ some (vn 1) ∷ some (vn 3) ∷ some (vn 2) ∷ []) ∷
    []
unfolding all_of_numbering
numbers = refl
