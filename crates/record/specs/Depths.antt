-- Pointers to bool, float and char, and of the greatest depth: every choice of types that the codes of memory, id and const take.
use Rattle.std.specs.Prelude.{ℕ, ◌≡◌, refl, List, [], ◌∷◌, ◌++◌, map}
use Rattle.record.specs.Record.{type_in}
use Rattle.record.specs.Typing.{obeys, well_typed}
use Rattle.record.specs.Text.{same_bytes}
use Rattle.record.specs.Tables.{count, numerals, each_first, choices, keep, values_over, effects_over, constants_over}

-- 0 int, 1 bool, 2 float, 3 char, 4 to 6 pointers to bool, float, char, 7 to an int at depth 14, 8 to an int at depth 15, 9 to a char there
abbrev pub depths : List ℕ
depths = 0x00 ∷ 0x01 ∷ 0x02 ∷ 0x03 ∷ 0x11 ∷ 0x12 ∷ 0x13 ∷ 0xE0 ∷ 0xF0 ∷ 0xF3 ∷ []

-- ptradd; id, alloc, load; store; free, ret, call, print; const (a literal's kind, then its dest); call, which gives any type
pub memory :
    values_over depths 2 14 ∷ map (values_over depths 1) (13 ∷ 37 ∷ 38 ∷ []) ++
    (effects_over depths 2 70 ∷ map (effects_over depths 1) (71 ∷ 66 ∷ 67 ∷ 68 ∷ []) ++ (constants_over depths 0 ∷ values_over depths 0 20 ∷ [])) ≡
    map (map numerals)
    (("440" ∷ "550" ∷ "660" ∷ "770" ∷ "880" ∷ "990" ∷ []) ∷
    ("00" ∷ "11" ∷ "22" ∷ "33" ∷ "44" ∷ "55" ∷ "66" ∷ "77" ∷ "88" ∷ "99" ∷ []) ∷
    ("40" ∷ "50" ∷ "60" ∷ "70" ∷ "80" ∷ "90" ∷ []) ∷
    ("14" ∷ "25" ∷ "36" ∷ "78" ∷ []) ∷
    ("41" ∷ "52" ∷ "63" ∷ "87" ∷ []) ∷
    ("4" ∷ "5" ∷ "6" ∷ "7" ∷ "8" ∷ "9" ∷ []) ∷
    ("0" ∷ "1" ∷ "2" ∷ "3" ∷ "4" ∷ "5" ∷ "6" ∷ "7" ∷ "8" ∷ "9" ∷ []) ∷
    ("0" ∷ "1" ∷ "2" ∷ "3" ∷ "4" ∷ "5" ∷ "6" ∷ "7" ∷ "8" ∷ "9" ∷ []) ∷
    ("0" ∷ "1" ∷ "2" ∷ "3" ∷ "4" ∷ "5" ∷ "6" ∷ "7" ∷ "8" ∷ "9" ∷ []) ∷
    ("00" ∷ "02" ∷ "11" ∷ "22" ∷ "33" ∷ []) ∷
    ("0" ∷ "1" ∷ "2" ∷ "3" ∷ "4" ∷ "5" ∷ "6" ∷ "7" ∷ "8" ∷ "9" ∷ []) ∷
    [])
unfolding count numerals each_first choices keep well_typed obeys same_bytes type_in
memory = refl
