-- "Function record": the bytes of a record.
use Rattle.std.specs.Prelude.{ℕ, zero, suc, ◌/◌, ◌%◌, ◌^◌, List, [], ◌∷◌, ◌++◌, map, Bool, true, false, not, length}
use Rattle.record.specs.declared.NameIx.{NameIx}
use Rattle.record.specs.declared.Shape.{Shape}
use Rattle.record.specs.Record.{Lit, Instr, Block, Name, Record, id_bytes}
use Rattle.record.specs.Shape.{shape_of}

-- "Big-endian": a number in w bytes, the first the greatest
unfoldable pub be : ℕ → ℕ → List ℕ
be zero x = []
be (suc zero) x = x ∷ []
be (suc (suc w)) x = x / 256 ^ suc w ∷ be (suc w) (x % 256 ^ suc w)

-- one after the other
unfoldable pub join : List (List ℕ) → List ℕ
join [] = []
join (b ∷ bs) = b ++ join bs

-- the bytes of a row of parts; one: those of a part, w: the bytes of an id
abbrev pub row_bytes : {A : Type 0} → (ℕ → A → List ℕ) → ℕ → List A → List ℕ
row_bytes one w xs = join (map (one w) xs)

unfoldable pub when : Bool → List ℕ → List ℕ
when true bs = bs
when false bs = []

unfoldable pub index_bytes : NameIx → List ℕ
index_bytes x = be 2 x.0

unfoldable pub literal_bytes : Lit → List ℕ
literal_bytes l = join (be 1 l.kind ∷ be 8 l.bits ∷ [])

unfoldable pub argument_bytes : List NameIx → List ℕ
argument_bytes xs = join (be 1 (length xs) ∷ join (map index_bytes xs) ∷ [])

unfoldable pub operand_bytes : Shape → Instr → List ℕ
operand_bytes sh i =
    join
    (when sh.dest (index_bytes i.dest) ∷
    when sh.literal (literal_bytes i.lit) ∷
    when (not sh.literal) (argument_bytes i.args) ∷
    when sh.callee (be 2 i.callee) ∷
    join (map (be 2) i.blocks) ∷
    [])

-- w: the bytes of an id
unfoldable pub instr_bytes : ℕ → Instr → List ℕ
instr_bytes w i = join (be w i.id ∷ be 1 i.code ∷ operand_bytes (shape_of i.code) i ∷ [])

unfoldable pub block_bytes : ℕ → Block Instr → List ℕ
block_bytes w b = join (be 2 (length b.body) ∷ be 2 b.saves ∷ join (map (instr_bytes w) b.body) ∷ [])

unfoldable pub name_bytes : Name → List ℕ
name_bytes x = join (be 1 x.type ∷ be 1 (length x.text) ∷ x.text ∷ [])

-- all that follows L
unfoldable pub content_bytes : Record Instr → List ℕ
content_bytes r =
    join
    (be 1 r.version ∷
    be 1 r.args ∷
    be 2 (length r.names) ∷
    join (map name_bytes r.names) ∷
    be 2 (length r.blocks) ∷
    join (map (block_bytes (id_bytes r.version)) r.blocks) ∷
    [])

unfoldable pub bytes : Record Instr → List ℕ
bytes r = let rest = content_bytes r in be 4 (length rest) ++ rest
