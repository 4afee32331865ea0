-- The tables of codes a second time, by enumeration: what each code from 0 to 75 has, and every choice of types that it takes.
use Rattle.std.specs.Prelude.{ℕ, zero, suc, ◌-◌, ◌≡◌, refl, Bool, cond, List, [], ◌∷◌, ◌++◌, map, get_or, drop, length, eqb}
use Prim.Native.Char.{code}
use Prim.Native.String.{String, [] as []ˢ, ◌∷◌ as ◌∷ˢ◌}
use Rattle.record.specs.Record.{nm, Instr, type_in}
use Rattle.record.specs.Shape.{shape_of}
use Rattle.record.specs.Typing.{obeys, well_typed}
use Rattle.record.specs.Text.{same_bytes}

-- the numbers from k on, n of them
unfoldable pub count : ℕ → ℕ → List ℕ
count k zero = []
count k (suc n) = k ∷ count (suc k) n

-- the digits of a text, spaces skipped
unfoldable pub numerals : String → List ℕ
numerals []ˢ = []
numerals (c ∷ˢ s) = cond (eqb (code c) 0x20) (numerals s) ((code c - 0x30) ∷ numerals s)

abbrev pub bit : Bool → ℕ
bit b = cond b 1 0

-- ---- what stands behind each code, groups: const, 1 to 9, 10 to 14, 15 to 19, call, 21 to 34, 35 to 38, phi, 40 to 63, 64 to 71, 72 to 75
abbrev pub of_each : (ℕ → ℕ) → List ℕ
of_each f = map f (count 0 76)

pub known : of_each (λ c. bit (shape_of c).known) ≡ numerals "1 111111111 11111 00000 1 11111111111111 1111 1 000000000000000000000000 11111111 0000"
unfolding count numerals shape_of
known = refl

pub literal : of_each (λ c. bit (shape_of c).literal) ≡ numerals "1 000000000 00000 00000 0 00000000000000 0000 0 000000000000000000000000 00000000 0000"
unfolding count numerals shape_of
literal = refl

pub dest : of_each (λ c. bit (shape_of c).dest) ≡ numerals "1 111111111 11111 00000 1 11111111111111 1111 1 000000000000000000000000 00000000 0000"
unfolding count numerals shape_of
dest = refl

pub fewest_arguments : of_each (λ c. (shape_of c).few) ≡ numerals "0 222222222 12212 00000 0 22222222222222 1111 0 000000000000000000000000 01000021 0000"
unfolding count numerals shape_of
fewest_arguments = refl

pub most_arguments : of_each (λ c. (shape_of c).most) ≡ numerals "0 222222222 12212 00000 8 22222222222222 1111 8 000000000000000000000000 01188021 0000"
unfolding count numerals shape_of
most_arguments = refl

pub callee : of_each (λ c. bit (shape_of c).callee) ≡ numerals "0 000000000 00000 00000 1 00000000000000 0000 0 000000000000000000000000 00010000 0000"
unfolding count numerals shape_of
callee = refl

pub blocks : of_each (λ c. (shape_of c).blocks) ≡ numerals "0 000000000 00000 00000 0 00000000000000 0000 0 000000000000000000000000 12000000 0000"
unfolding count numerals shape_of
blocks = refl

pub each : of_each (λ c. bit (shape_of c).each) ≡ numerals "0 000000000 00000 00000 0 00000000000000 0000 1 000000000000000000000000 00000000 0000"
unfolding count numerals shape_of
each = refl

pub last : of_each (λ c. bit (shape_of c).last) ≡ numerals "0 000000000 00000 00000 0 00000000000000 0000 0 000000000000000000000000 11100000 0000"
unfolding count numerals shape_of
last = refl

-- ---- types: six names, 0 int, 1 bool, 2 float, 3 char, 4 ptr<int>, 5 ptr<ptr<int>>
abbrev pub types : List ℕ
types = 0x00 ∷ 0x01 ∷ 0x02 ∷ 0x03 ∷ 0x10 ∷ 0x20 ∷ []

-- every list of n of so many names
unfoldable pub each_first : List ℕ → List (List ℕ) → List (List ℕ)
each_first [] xss = []
each_first (x ∷ xs) xss = map (λ ys. x ∷ ys) xss ++ each_first xs xss

unfoldable pub choices : ℕ → ℕ → List (List ℕ)
choices names zero = [] ∷ []
choices names (suc n) = each_first (count 0 names) (choices names n)

-- those that pass
unfoldable pub keep : {A : Type 0} → (A → Bool) → List A → List A
keep p [] = []
keep p (x ∷ xs) = cond (p x) (x ∷ keep p xs) (keep p xs)

abbrev pub instruction : ℕ → ℕ → ℕ → List ℕ → Instr
instruction c d kind xs =
    record { id = 0; code = c; dest = nm d; lit = record { kind = kind; bits = 0 }; args = map nm xs; callee = 0; blocks = [] }

-- names of these types; the choices of a dest and n arguments, of n arguments alone, and of a literal's kind and a dest, that a code takes
abbrev pub values_over : List ℕ → ℕ → ℕ → List (List ℕ)
values_over ts n c = keep (λ xs. well_typed (type_in ts) (instruction c (get_or xs 0 0) 0 (drop 1 xs))) (choices (length ts) (suc n))

abbrev pub effects_over : List ℕ → ℕ → ℕ → List (List ℕ)
effects_over ts n c = keep (λ xs. well_typed (type_in ts) (instruction c 0 0 xs)) (choices (length ts) n)

abbrev pub constants_over : List ℕ → ℕ → List (List ℕ)
constants_over ts c = keep (λ xs. well_typed (type_in ts) (instruction c (get_or xs 1 0) (get_or xs 0 0) [])) (choices (length ts) 2)

-- add sub mul div; eq lt gt le ge; and or; ptradd
pub operators_of_two :
    map (values_over types 2) (1 ∷ 2 ∷ 3 ∷ 4 ∷ 5 ∷ 6 ∷ 7 ∷ 8 ∷ 9 ∷ 11 ∷ 12 ∷ 14 ∷ []) ≡
    map (map numerals)
    (("000" ∷ []) ∷ ("000" ∷ []) ∷ ("000" ∷ []) ∷ ("000" ∷ []) ∷
    ("100" ∷ []) ∷ ("100" ∷ []) ∷ ("100" ∷ []) ∷ ("100" ∷ []) ∷ ("100" ∷ []) ∷
    ("111" ∷ []) ∷ ("111" ∷ []) ∷
    ("440" ∷ "550" ∷ []) ∷
    [])
unfolding count numerals each_first choices keep well_typed obeys same_bytes type_in
operators_of_two = refl

-- fadd fsub fmul fdiv; feq flt fgt fle fge; ceq clt cgt cle cge
pub floats_and_chars :
    map (values_over types 2) (count 21 14) ≡
    map (map numerals)
    (("222" ∷ []) ∷ ("222" ∷ []) ∷ ("222" ∷ []) ∷ ("222" ∷ []) ∷
    ("122" ∷ []) ∷ ("122" ∷ []) ∷ ("122" ∷ []) ∷ ("122" ∷ []) ∷ ("122" ∷ []) ∷
    ("133" ∷ []) ∷ ("133" ∷ []) ∷ ("133" ∷ []) ∷ ("133" ∷ []) ∷ ("133" ∷ []) ∷
    [])
unfolding count numerals each_first choices keep well_typed obeys same_bytes type_in
floats_and_chars = refl

-- not; id; char2int int2char alloc load
pub operators_of_one :
    map (values_over types 1) (10 ∷ 13 ∷ 35 ∷ 36 ∷ 37 ∷ 38 ∷ []) ≡
    map (map numerals)
    (("11" ∷ []) ∷
    ("00" ∷ "11" ∷ "22" ∷ "33" ∷ "44" ∷ "55" ∷ []) ∷
    ("03" ∷ []) ∷ ("30" ∷ []) ∷ ("40" ∷ "50" ∷ []) ∷ ("04" ∷ "45" ∷ []) ∷
    [])
unfolding count numerals each_first choices keep well_typed obeys same_bytes type_in
operators_of_one = refl

-- br; free; store; ret, call and print take any type
pub effects :
    map (effects_over types 1) (65 ∷ 71 ∷ 66 ∷ 67 ∷ 68 ∷ []) ++ (effects_over types 2 70 ∷ []) ≡
    map (map numerals)
    (("1" ∷ []) ∷ ("4" ∷ "5" ∷ []) ∷
    ("0" ∷ "1" ∷ "2" ∷ "3" ∷ "4" ∷ "5" ∷ []) ∷
    ("0" ∷ "1" ∷ "2" ∷ "3" ∷ "4" ∷ "5" ∷ []) ∷
    ("0" ∷ "1" ∷ "2" ∷ "3" ∷ "4" ∷ "5" ∷ []) ∷
    ("40" ∷ "54" ∷ []) ∷
    [])
unfolding count numerals each_first choices keep well_typed obeys same_bytes type_in
effects = refl

-- const: the kinds 0 int, 1 bool, 2 float, 3 char, with the dests they fit; call gives any type
pub constants_and_calls :
    constants_over types 0 ∷ values_over types 0 20 ∷ [] ≡
    map (map numerals) (("00" ∷ "02" ∷ "11" ∷ "22" ∷ "33" ∷ []) ∷ ("0" ∷ "1" ∷ "2" ∷ "3" ∷ "4" ∷ "5" ∷ []) ∷ [])
unfolding count numerals each_first choices keep well_typed obeys same_bytes type_in
constants_and_calls = refl
