-- How many bytes are written of each part of a record.
use Prim.Native.Nat.{ℕ, ◌+◌, ◌*◌, ◌≤◌}
use mathlib.Core.Path.{◌≡◌, refl}
use mathlib.Core.List.{List, [], ◌∷◌, ◌++◌, map}
use mathlib.Core.Bool.{Bool, true, false, cond, not}
use native.Mathlib.Omega.{arith}
use lib.ListN.{length, length-append}
use lib.Dec.{eqb}
use Rattle.record.specs.declared.NameIx.{NameIx}
use Rattle.record.specs.declared.Shape.{Shape}
use Rattle.record.specs.Record.{Lit, Instr, Block, Name, Record, id_bytes}
use Rattle.record.specs.Shape.{shape_of}
use Rattle.record.specs.Write.{be, join, when, index_bytes, literal_bytes, argument_bytes, operand_bytes, instr_bytes, block_bytes, name_bytes, content_bytes, bytes}
use Rattle.record.proofs.Stands.{length_be}

-- ---- bytes put together
length_when : (b : Bool) (bs : List ℕ) (n : ℕ) → length bs ≡ n → length (when b bs) ≡ cond b n 0
unfolding when
length_when true bs n e = e
length_when false bs n e = refl

pub join_cons : (b : List ℕ) (bs : List (List ℕ)) → length (join (b ∷ bs)) ≡ length b + length (join bs)
unfolding join
join_cons b bs = length-append b (join bs)

pub join_nil : length (join []) ≡ 0
unfolding join
join_nil = refl

-- the bytes of each of a list
abbrev pub total : {A : Type 0} → (A → List ℕ) → List A → ℕ
total f xs = length (join (map f xs))

pub total_append : {A : Type 0} (f : A → List ℕ) (xs ys : List A) → total f (xs ++ ys) ≡ total f xs + total f ys
total_append f [] ys = rw join_nil (omega arith)
total_append f (x ∷ xs) ys =
    let e : total f (x ∷ (xs ++ ys)) ≡ length (f x) + total f (xs ++ ys) = join_cons (f x) (map f (xs ++ ys)) in
    let g : total f (x ∷ xs) ≡ length (f x) + total f xs = join_cons (f x) (map f xs) in
    let h : total f (xs ++ ys) ≡ total f xs + total f ys = total_append f xs ys in
    omega arith

-- two bytes for each
total_twos : {A : Type 0} (f : A → List ℕ) → ((x : A) → length (f x) ≡ 2) → (xs : List A) → total f xs ≡ 2 * length xs
total_twos f h [] = rw join_nil (omega arith)
total_twos f h (x ∷ xs) =
    let e : total f (x ∷ xs) ≡ length (f x) + total f xs = join_cons (f x) (map f xs) in
    let g : total f xs ≡ 2 * length xs = total_twos f h xs in
    let k : length (f x) ≡ 2 = h x in
    omega arith

-- ---- an instruction
index_size : (x : NameIx) → length (index_bytes x) ≡ 2
unfolding index_bytes
index_size x = length_be 2 x.0

literal_size : (l : Lit) → length (literal_bytes l) ≡ 9
unfolding literal_bytes
literal_size l = simp (join_cons, join_nil, length_be)

argument_size : (xs : List NameIx) → length (argument_bytes xs) ≡ 1 + 2 * length xs
unfolding argument_bytes
argument_size xs = simp (join_cons, join_nil, length_be, total_twos index_bytes index_size xs) (omega arith)

-- behind the code, of a shape with so many arguments and block numbers
abbrev pub operand_size : Shape → ℕ → ℕ → ℕ
operand_size sh args blocks =
    cond sh.dest 2 0 + (cond sh.literal 9 0 + (cond (not sh.literal) (1 + 2 * args) 0 + (cond sh.callee 2 0 + 2 * blocks)))

operands_size : (sh : Shape) (i : Instr) → length (operand_bytes sh i) ≡ operand_size sh (length i.args) (length i.blocks)
unfolding operand_bytes
operands_size sh i =
    simp (
      join_cons,
      join_nil,
      length_when sh.dest (index_bytes i.dest) 2 (index_size i.dest),
      length_when sh.literal (literal_bytes i.lit) 9 (literal_size i.lit),
      length_when (not sh.literal) (argument_bytes i.args) (1 + 2 * length i.args) (argument_size i.args),
      length_when sh.callee (be 2 i.callee) 2 (length_be 2 i.callee),
      total_twos (be 2) (length_be 2) i.blocks,
    )
    (omega arith)

-- an id has four bytes or eight
pub id_bytes_are : (v : ℕ) → (4 ≤ id_bytes v) × (id_bytes v ≤ 8)
unfolding id_bytes
id_bytes_are v = go (eqb v 2)
  where
    go : (b : Bool) → (4 ≤ cond b 8 4) × (cond b 8 4 ≤ 8)
    go true = (omega arith, omega arith)
    go false = (omega arith, omega arith)

-- w: the bytes of an id
pub instr_size :
    (w : ℕ) (i : Instr) → length (instr_bytes w i) ≡ w + (1 + operand_size (shape_of i.code) (length i.args) (length i.blocks))
unfolding instr_bytes
instr_size w i = simp (join_cons, join_nil, length_be, operands_size (shape_of i.code) i) (omega arith)

-- ---- blocks, names, records
pub block_size : (w : ℕ) (b : Block Instr) → length (block_bytes w b) ≡ 4 + total (instr_bytes w) b.body
unfolding block_bytes
block_size w b = simp (join_cons, join_nil, length_be) (omega arith)

pub name_size : (x : Name) → length (name_bytes x) ≡ 2 + length x.text
unfolding name_bytes
name_size x = simp (join_cons, join_nil, length_be) (omega arith)

pub content_size :
    (r : Record Instr) →
    length (content_bytes r) ≡ 6 + (total name_bytes r.names + total (block_bytes (id_bytes r.version)) r.blocks)
unfolding content_bytes
content_size r = simp (join_cons, join_nil, length_be) (omega arith)

pub record_size : (r : Record Instr) → length (bytes r) ≡ 4 + length (content_bytes r)
unfolding bytes
record_size r = simp (length-append, length_be)
