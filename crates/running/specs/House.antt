-- "our house form": values, stores and answers as bytes, read and written, and events as bytes.
use Rattle.std.specs.Prelude.{ℕ, zero, suc, ◌%◌, List, [], ◌∷◌, ◌++◌, map, Bool, true, false, cond, not, ◌&&◌, ◌||◌, length, get_or, ltb, leb, eqb}
use Rattle.std.proofs.Math.Option.{Option, none, some}
use Rattle.arith.specs.Value.{Val, int, float, literal, char, bool, pointer, tint, tbool, tfloat, tchar, is_pointer, has_type}
use Rattle.record.specs.Reader.{Test}
use Rattle.record.specs.declared.Refusal.TheVariants.{Version, Limit}
use Rattle.record.specs.Record.{nm}
use Rattle.record.specs.Reader.{Reader, give, ◌>>=◌, field, times}
use Rattle.record.specs.Read.{length_field, end}
use Rattle.record.specs.Write.{be, join}
use Rattle.record.specs.Tests.{need, any, literal_test}
use Rattle.machine.specs.Machine.{Store, Answer, value, go_on, halt, Event}

-- ---- bytes that stand for themselves
-- "type byte 04 is an int literal held by a float"
abbrev pub held : ℕ
held = 0x04

-- "and alone stand FF for nothing (store only), FE for go on and FD for halt (answers only)"
abbrev pub nothing_byte : ℕ
nothing_byte = 0xFF

abbrev pub go_on_byte : ℕ
go_on_byte = 0xFE

abbrev pub halt_byte : ℕ
halt_byte = 0xFD

-- ---- reading
-- the type bytes of values: 04, and the types of names
abbrev pub value_type : ℕ → Bool
value_type t = eqb t held || leb (t % 16) 3

-- "8 bytes as in a literal": tested as a literal of that kind
unfoldable pub word : ℕ → (ℕ → Val) → Reader Val
word kind f = do
  x ← field 8 (literal_test kind)
  give (f x)

-- "a pointer's base and offset 8 each"
unfoldable pub two_words : (ℕ → ℕ → Val) → Reader Val
two_words f = do
  x ← field 8 any
  y ← field 8 any
  give (f x y)

-- what stands behind the type byte of a value that is no pointer; of 04 and above only 04 passes the tests below
unfoldable pub plain_behind : ℕ → Reader Val
plain_behind zero = word tint int
plain_behind (suc zero) = word tbool (λ x. bool (not (eqb x 0)))
plain_behind (suc (suc zero)) = word tfloat float
plain_behind (suc (suc (suc zero))) = word tchar char
plain_behind (suc (suc (suc (suc t)))) = word tint literal

-- "A value is its type byte and 8 bytes as in a literal": what stands behind it
unfoldable pub value_behind : ℕ → Reader Val
value_behind t = cond (is_pointer t) (two_words (pointer t)) (plain_behind t)

-- a value of the store, or nothing
unfoldable pub stored_test : ℕ → Test
stored_test t = need (eqb t nothing_byte || value_type t) Limit

unfoldable pub set_behind : ℕ → Reader (Option Val)
set_behind t = do
  v ← value_behind t
  give (some v)

unfoldable pub stored_behind : ℕ → Reader (Option Val)
stored_behind t = cond (eqb t nothing_byte) (give none) (set_behind t)

unfoldable pub stored_value : Reader (Option Val)
stored_value = do
  t ← field 1 stored_test
  v ← stored_behind t
  give v

-- an answer
unfoldable pub answer_test : ℕ → Test
answer_test t = need (eqb t go_on_byte || (eqb t halt_byte || value_type t)) Limit

unfoldable pub value_answer : ℕ → Reader Answer
value_answer t = do
  v ← value_behind t
  give (value v)

unfoldable pub answer_behind : ℕ → Reader Answer
answer_behind t = cond (eqb t go_on_byte) (give go_on) (cond (eqb t halt_byte) (give halt) (value_answer t))

unfoldable pub house_answer : Reader Answer
house_answer = do
  t ← field 1 answer_test
  x ← answer_behind t
  give x

-- "length (4 bytes, of all that follows), version byte 01, then values": the form has its own version, whatever the record's is
unfoldable pub form_test : ℕ → Test
form_test v = need (eqb v 1) Version

unfoldable pub in_form : {A : Type 0} → Reader A → Reader A
in_form r = do
  l ← length_field
  v ← field 1 form_test
  x ← r
  e ← end
  give x

-- "The store has one value for each name"; N: how many names
unfoldable pub stored : ℕ → Reader (List (Option Val))
stored N = in_form (times N (λ left. stored_value))

-- items up to the end; n: at least as many as there are
unfoldable pub to_end : {A : Type 0} → ℕ → Reader A → Reader (List A)
to_end zero r s at = give [] s at
to_end (suc n) r s at = cond (ltb at (length s)) (r >>= λ x. to_end n r >>= λ xs. give (x ∷ xs)) (give []) s at

-- an item takes a byte or more
unfoldable pub answers : Reader (List Answer)
answers s = in_form (to_end (length s) house_answer) s

-- ---- "a stored value is not of its name's type": ts the types of the names
abbrev pub of_type : ℕ → Option Val → Bool
of_type t none = true
of_type t (some v) = has_type t v

unfoldable pub of_types : List ℕ → List (Option Val) → Bool
of_types [] [] = true
of_types [] (v ∷ vs) = false
of_types (t ∷ ts) [] = false
of_types (t ∷ ts) (v ∷ vs) = of_type t v && of_types ts vs

-- ---- stores and lists of values
-- a store with these values of the names in order, and nothing else set
abbrev pub holding : List (Option Val) → Store
holding vs x = get_or vs x.0 none

-- the values of n names, the first of them i
unfoldable pub values_from : Store → ℕ → ℕ → List (Option Val)
values_from σ i zero = []
values_from σ i (suc n) = σ (nm i) ∷ values_from σ (suc i) n

-- ---- writing
unfoldable pub type_byte : Val → ℕ
type_byte (int w) = tint
type_byte (float b) = tfloat
type_byte (literal w) = held
type_byte (char c) = tchar
type_byte (bool b) = tbool
type_byte (pointer t b o) = t

unfoldable pub words : Val → List ℕ
words (int w) = be 8 w
words (float b) = be 8 b
words (literal w) = be 8 w
words (char c) = be 8 c
words (bool b) = be 8 (cond b 1 0)
words (pointer t b o) = join (be 8 b ∷ be 8 o ∷ [])

unfoldable pub value_bytes : Val → List ℕ
value_bytes v = join (be 1 (type_byte v) ∷ words v ∷ [])

unfoldable pub stored_bytes : Option Val → List ℕ
stored_bytes none = be 1 nothing_byte
stored_bytes (some v) = value_bytes v

unfoldable pub answer_bytes : Answer → List ℕ
answer_bytes (value v) = value_bytes v
answer_bytes go_on = be 1 go_on_byte
answer_bytes halt = be 1 halt_byte

unfoldable pub form_bytes : List ℕ → List ℕ
form_bytes items = let rest = be 1 1 ++ items in be 4 (length rest) ++ rest

unfoldable pub store_bytes : List (Option Val) → List ℕ
store_bytes vs = form_bytes (join (map stored_bytes vs))

unfoldable pub answers_bytes : List Answer → List ℕ
answers_bytes xs = form_bytes (join (map answer_bytes xs))

-- "each as id (as wide as in the record), code, callee (2), argument count (1) and values"; w: the bytes of an id
unfoldable pub event_bytes : ℕ → Event → List ℕ
event_bytes w e =
    join
    (be w e.id ∷
    be 1 e.code ∷
    be 2 e.callee ∷
    be 1 (length e.args) ∷
    join (map value_bytes e.args) ∷
    [])

-- "Events follow one another without a header"
unfoldable pub events_bytes : ℕ → List Event → List ℕ
events_bytes w es = join (map (event_bytes w) es)
