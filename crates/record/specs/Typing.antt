-- "Types follow the pages; a name has one type." Refusal 7 comes after every other test: the first instruction that breaks its rule.
use Rattle.std.specs.Prelude.{ℕ, ◌+◌, List, [], ◌∷◌, map, Bool, true, not, ◌&&◌, ◌||◌, eqb}
use Rattle.arith.specs.Value.{tint, tbool, tfloat, tchar, is_pointer}
use Rattle.record.specs.declared.NameIx.{NameIx}
use Rattle.record.specs.declared.Limits.{Limits}
use Rattle.record.specs.declared.Refusal.TheVariants.{Types}
use Rattle.record.specs.Record.{Instr, Placed, Block, Record, function, plain, type_in, arg}
use Rattle.record.specs.Shape.{row_of}
use Rattle.record.specs.Text.{same_bytes}
use Rattle.record.specs.Reader.{Res, got, refuse, then}
use Rattle.record.specs.Read.{read}

-- what a code asks of the types of its dest and its arguments
pub data Rule : Type 0 where
  free fits_dest copies shifts allocates loads joins stores frees branches : Rule
  takes : List ℕ → ℕ → Rule

-- each row is for the codes above the row before it, up to its own
abbrev pub rules : List (ℕ × Rule)
rules =
    -- const
    (0, fits_dest) ∷
    -- "add to div take two ints and give an int, eq to ge two ints and give a bool"
    (4, takes (tint ∷ tint ∷ []) tint) ∷
    (9, takes (tint ∷ tint ∷ []) tbool) ∷
    -- "not, and, or are over bools"
    (10, takes (tbool ∷ []) tbool) ∷
    (12, takes (tbool ∷ tbool ∷ []) tbool) ∷
    -- id, ptradd, call
    (13, copies) ∷
    (14, shifts) ∷
    (20, free) ∷
    -- "fadd to fdiv are over floats; feq to fge take floats, ceq to cge chars, and give a bool"
    (24, takes (tfloat ∷ tfloat ∷ []) tfloat) ∷
    (29, takes (tfloat ∷ tfloat ∷ []) tbool) ∷
    (34, takes (tchar ∷ tchar ∷ []) tbool) ∷
    -- char2int, int2char, alloc, load, phi
    (35, takes (tchar ∷ []) tint) ∷
    (36, takes (tint ∷ []) tchar) ∷
    (37, allocates) ∷
    (38, loads) ∷
    (39, joins) ∷
    -- jmp; br; ret, call, print, nop; store; free
    (64, free) ∷
    (65, branches) ∷
    (69, free) ∷
    (70, stores) ∷
    (71, frees) ∷
    []

-- "Each literal fits its own type, an int literal also float; no literal fits a pointer": the types of the kinds are 0 to 3 as well
abbrev pub literal_fits : ℕ → ℕ → Bool
literal_fits kind t = eqb t kind || (eqb kind 0 && eqb t tfloat)

-- "load a pointer and gives what it points to": the pointer to t has one depth more
abbrev pub points_to : ℕ → ℕ → Bool
points_to p t = eqb p (t + 0x10)

-- phi: "Arguments have dest's type."
unfoldable pub each_is : ℕ → List ℕ → Bool
each_is t [] = true
each_is t (x ∷ xs) = eqb x t && each_is t xs

-- t: the type of each name
unfoldable pub obeys : Rule → (NameIx → ℕ) → Instr → Bool
obeys free t i = true
obeys fits_dest t i = literal_fits i.lit.kind (t i.dest)
obeys copies t i = eqb (t i.dest) (t (arg i 0))
obeys shifts t i = is_pointer (t (arg i 0)) && (eqb (t (arg i 1)) tint && eqb (t i.dest) (t (arg i 0)))
obeys allocates t i = eqb (t (arg i 0)) tint && is_pointer (t i.dest)
obeys loads t i = points_to (t (arg i 0)) (t i.dest)
obeys joins t i = each_is (t i.dest) (map t i.args)
obeys stores t i = points_to (t (arg i 0)) (t (arg i 1))
obeys frees t i = is_pointer (t (arg i 0))
obeys branches t i = eqb (t (arg i 0)) tbool
obeys (takes xs r) t i = same_bytes (map t i.args) xs && eqb (t i.dest) r

unfoldable pub well_typed : (NameIx → ℕ) → Instr → Bool
well_typed t i = obeys (row_of free rules i.code) t i

-- the instructions in order, the first that breaks its rule refused; next: what follows them
unfoldable pub body_types : {A : Type 0} → (NameIx → ℕ) → List Placed → Res A → Res A
body_types t [] next = next
body_types t (i ∷ is) next = refuse (not (well_typed t i.it)) Types i.at (body_types t is next)

unfoldable pub block_types : {A : Type 0} → (NameIx → ℕ) → List (Block Placed) → Res A → Res A
block_types t [] next = next
block_types t (b ∷ bs) next = body_types t b.body (block_types t bs next)

-- every test: the accepted record, or the first fault
unfoldable pub accept : Limits → List ℕ → Res (Record Placed)
accept lim s = then (read lim s 0) (λ r p. block_types (type_in (function (plain r)).types) r.blocks (got r p))
