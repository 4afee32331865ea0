-- "Function record", "Reading": the one definition of reading, field by field.
use Rattle.std.specs.Prelude.{ℕ, zero, suc, ◌-◌, List, [], ◌∷◌, ◌++◌, Bool, not, length, ltb, eqb}
use Rattle.record.specs.declared.NameIx.{NameIx}
use Rattle.record.specs.declared.Shape.{Shape}
use Rattle.record.specs.declared.Limits.{Limits}
use Rattle.record.specs.declared.Refusal.TheVariants.{Length}
use Rattle.record.specs.Record.{nm, Lit, no_lit, Instr, Placed, Block, Name, Record, most_args, most_blocks, id_bytes}
use Rattle.record.specs.Shape.{targets, shape_of}
use Rattle.record.specs.Reader.{got, Reader, refuse, give, ◌>>=◌, here, field, text, if_there, times}
use Rattle.record.specs.Tests.{any, at_most, below, length_test, version_test, names_test, type_test, text_length_test, text_test, saves_test, code_test, count_test, literal_test}

-- the index of one of N names
unfoldable pub name_index : ℕ → Reader NameIx
name_index N = do
  x ← field 2 (below N)
  give (nm x)

unfoldable pub literal : Reader Lit
literal = do
  kind ← field 1 (at_most 3)
  bits ← field 8 (literal_test kind)
  give (record { kind = kind; bits = bits })

unfoldable pub arguments : ℕ → Shape → Reader (List NameIx)
arguments N sh = do
  count ← field 1 (count_test sh)
  xs ← times count (λ left. name_index N)
  give xs

-- what stands behind an id and a code, in a record of N names and B blocks
unfoldable pub operands : ℕ → ℕ → Shape → ℕ → ℕ → Reader Instr
operands N B sh id code = do
  dest ← if_there sh.dest (nm 0) (name_index N)
  lit ← if_there sh.literal no_lit literal
  args ← if_there (not sh.literal) [] (arguments N sh)
  callee ← if_there sh.callee 0 (field 2 any)
  blocks ← times (targets sh (length args)) (λ left. field 2 (below B))
  give (record { id = id; code = code; dest = dest; lit = lit; args = args; callee = callee; blocks = blocks })

-- w: the bytes of an id; last: whether it stands in the last place of its block
unfoldable pub instr : ℕ → ℕ → ℕ → Bool → Reader Placed
instr w N B last = do
  at ← here
  id ← field w any
  code ← field 1 (code_test last)
  i ← operands N B (shape_of code) id code
  give (record { at = at; it = i })

unfoldable pub block : Limits → ℕ → ℕ → ℕ → Reader (Block Placed)
block lim w N B = do
  n ← field 2 (at_most lim.body)
  saves ← field 2 (saves_test lim.made)
  body ← times n (λ left. instr w N B (eqb left 0))
  give (record { saves = saves; body = body })

-- seen: the texts before
unfoldable pub name : Limits → List (List ℕ) → Reader Name
name lim seen = do
  type ← field 1 type_test
  n ← field 1 (text_length_test lim.text)
  t ← text n (text_test lim.made seen)
  give (record { type = type; text = t })

unfoldable pub names : Limits → List (List ℕ) → ℕ → Reader (List Name)
names lim seen zero = give []
names lim seen (suc n) = do
  x ← name lim seen
  xs ← names lim (seen ++ (x.text ∷ [])) n
  give (x ∷ xs)

-- L
unfoldable pub length_field : Reader ℕ
length_field s = field 4 (length_test (length s - 4)) s

-- "or bytes left over (at the first of them)"
unfoldable pub end : Reader (Unit {0})
end s at = refuse (ltb at (length s)) Length at (got tt at)

-- what stands between L and the end
unfoldable pub contents : Limits → Reader (Record Placed)
contents lim = do
  v ← field 1 version_test
  a ← field 1 (at_most most_args)
  n ← field 2 (names_test lim.names a)
  xs ← names lim [] n
  b ← field 2 (at_most most_blocks)
  bs ← times b (λ left. block lim (id_bytes v) n b)
  give (record { version = v; args = a; names = xs; blocks = bs })

unfoldable pub read : Limits → Reader (Record Placed)
read lim = do
  l ← length_field
  r ← contents lim
  e ← end
  give r
