-- What is written reads back: the bytes of a good record are read as that record, whatever the limits it is good for.
-- Each part by the laws of readers in Stands.
use Prim.Native.Nat.{ℕ, suc, ◌+◌, ◌-◌}
use mathlib.Core.Path.{◌≡◌, refl, sym, ◌∙◌, subst}
use mathlib.Core.List.{List, [], ◌∷◌, ◌++◌, map, append-nil}
use mathlib.Core.Bool.{true, false, not}
use native.Mathlib.Omega.{arith}
use lib.ListN.{length, length-append}
use lib.Dec.{ltb, eqb}
use borrow.Author.Tests.{le-ltb, eq-eqb}
use Rattle.record.specs.declared.NameIx.{NameIx}
use Rattle.record.specs.declared.Shape.{Shape}
use Rattle.record.specs.declared.Limits.{Limits}
use Rattle.record.specs.Record.{nm, Lit, Instr, Placed, Block, Name, Record, plain_block, plain, most_args, most_blocks, id_bytes}
use Rattle.record.specs.Shape.{shape_of}
use Rattle.record.specs.Tests.{any, at_most, below, length_test, version_test, names_test, type_test, text_length_test, text_test, saves_test, code_test, count_test, literal_test}
use Rattle.record.specs.Reader.{got, give, ◌>>=◌}
use Rattle.record.specs.Read.{name_index, literal, arguments, operands, instr, block, name, names, length_field, end, contents, read}
use Rattle.record.specs.Write.{be, join, index_bytes, literal_bytes, argument_bytes, operand_bytes, instr_bytes, block_bytes, name_bytes, content_bytes, bytes}
use Rattle.record.specs.Good.{IndexOk, LitOk, ArgsOk, OperandsOk, InstrOk, BlockOk, NameOk, NamesOk, RecordOk}
use Rattle.record.proofs.Stands.{Reads, past, length_be, field_reads, text_reads, give_reads, bind_reads, last_reads, here_reads, there_reads, spread, times_reads, unspread, all_read}
use Rattle.record.proofs.Sizes.{id_bytes_are}

-- ---- an instruction
index_reads : (N at : ℕ) (x : NameIx) → IndexOk N x → Reads (name_index N) at x (index_bytes x)
unfolding name_index index_bytes
index_reads N at x h = last_reads nm (field_reads 1 at x.0 (below N) h)

literal_reads : (at : ℕ) (l : Lit) → LitOk l → Reads literal at l (literal_bytes l)
unfolding literal literal_bytes
literal_reads at l h =
    bind_reads _ _ (field_reads 0 _ l.kind (at_most 3) h.kind)
    (bind_reads _ _ (field_reads 7 _ l.bits (literal_test l.kind) h.bits) give_reads)

arguments_read : (N : ℕ) (sh : Shape) (at : ℕ) (xs : List NameIx) → ArgsOk N sh xs → Reads (arguments N sh) at xs (argument_bytes xs)
unfolding arguments argument_bytes
arguments_read N sh at xs h =
    bind_reads _ _ (field_reads 0 _ (length xs) (count_test sh) h.count)
    (bind_reads _ _ (all_read (name_index N) index_bytes (IndexOk N) (index_reads N) _ xs h.each) give_reads)

operands_read :
    (N B at : ℕ) (sh : Shape) (i : Instr) →
    OperandsOk N B sh i →
    Reads (operands N B sh i.id i.code) at i (operand_bytes sh i)
unfolding operands operand_bytes
operands_read N B at sh i h =
    bind_reads _ _ (there_reads sh.dest (IndexOk N) _ _ _ i.dest _ h.dest (index_reads N _ i.dest))
    (bind_reads _ _ (there_reads sh.literal LitOk _ _ _ i.lit _ h.lit (literal_reads _ i.lit))
    (bind_reads _ _ (there_reads (not sh.literal) (ArgsOk N sh) _ _ _ i.args _ h.args (arguments_read N sh _ i.args))
    (bind_reads _ _ (there_reads sh.callee _ _ _ _ i.callee _ h.callee (field_reads 1 _ i.callee any))
    (rw h.targets
    (bind_reads _ _ (all_read _ _ _ (λ at x. field_reads 1 at x (below B)) _ i.blocks h.blocks) give_reads)))))

abbrev place : ℕ → Instr → Placed
place at i = record { at = at; it = i }

instr_reads :
    (w N B left at : ℕ) (i : Instr) →
    InstrOk N B left i →
    Reads (instr (suc w) N B (eqb left 0)) at (place at i) (instr_bytes (suc w) i)
unfolding instr instr_bytes any
instr_reads w N B left at i h =
    here_reads _
    (bind_reads _ _ (field_reads w _ i.id any refl)
    (bind_reads _ _ (field_reads 0 _ i.code (code_test (eqb left 0)) h.code)
    (bind_reads _ _ (operands_read N B _ (shape_of i.code) i h.rest) give_reads)))

-- ---- blocks
-- where the body of a block begins that stands at `at`
abbrev body_at : ℕ → Block Instr → ℕ
body_at at b = at + length (be 2 (length b.body)) + length (be 2 b.saves)

abbrev settle : ℕ → ℕ → Block Instr → Block Placed
settle w at b = record { saves = b.saves; body = spread place (instr_bytes w) (body_at at b) b.body }

block_reads :
    (lim : Limits) (w N B at : ℕ) (b : Block Instr) →
    BlockOk lim N B b →
    Reads (block lim (suc w) N B) at (settle (suc w) at b) (block_bytes (suc w) b)
unfolding block block_bytes
block_reads lim w N B at b h =
    bind_reads _ _ (field_reads 1 _ (length b.body) (at_most lim.body) h.size)
    (bind_reads _ _ (field_reads 1 _ b.saves (saves_test lim.made) h.saves)
    (bind_reads _ _
    (times_reads (λ left. instr (suc w) N B (eqb left 0)) place (instr_bytes (suc w)) (InstrOk N B)
    (λ left at i k. instr_reads w N B left at i k) _ b.body h.body)
    give_reads))

plain_settle : (w at : ℕ) (b : Block Instr) → plain_block (settle w at b) ≡ b
plain_settle w at b =
    let it : Placed → Instr = λ j. j.it in
    λ i. record { saves = b.saves; body = unspread it place (instr_bytes w) (λ at x. refl) (body_at at b) b.body i }

-- ---- names
name_reads : (lim : Limits) (seen : List (List ℕ)) (at : ℕ) (x : Name) → NameOk lim seen x → Reads (name lim seen) at x (name_bytes x)
unfolding name name_bytes
name_reads lim seen at x h =
    bind_reads _ _ (field_reads 0 _ x.type type_test h.type)
    (bind_reads _ _ (field_reads 0 _ (length x.text) (text_length_test lim.text) h.size)
    (bind_reads _ _ (text_reads _ x.text (text_test lim.made seen) h.text) give_reads))

names_read :
    (lim : Limits) (seen : List (List ℕ)) (at : ℕ) (xs : List Name) →
    NamesOk lim seen xs →
    Reads (names lim seen (length xs)) at xs (join (map name_bytes xs))
unfolding names
names_read lim seen at [] h = give_reads
names_read lim seen at (x ∷ xs) h =
    bind_reads _ _ (name_reads lim seen at x h.0) (last_reads _ (names_read lim (seen ++ (x.text ∷ [])) _ xs h.1))

-- ---- the record
-- where the blocks begin of a record whose contents stand at `at`
abbrev blocks_at : ℕ → Record Instr → ℕ
blocks_at at r =
    at
    + length (be 1 r.version)
    + length (be 1 r.args)
    + length (be 2 (length r.names))
    + length (join (map name_bytes r.names))
    + length (be 2 (length r.blocks))

-- the record with its offsets
abbrev placed : ℕ → Record Instr → Record Placed
placed at r =
    record {
      version = r.version;
      args = r.args;
      names = r.names;
      blocks = spread (settle (id_bytes r.version)) (block_bytes (id_bytes r.version)) (blocks_at at r) r.blocks;
    }

contents_read : (lim : Limits) (at : ℕ) (r : Record Instr) → RecordOk lim r → Reads (contents lim) at (placed at r) (content_bytes r)
unfolding contents content_bytes
contents_read lim at r h =
    let N = length r.names in
    let B = length r.blocks in
    let w = id_bytes r.version in
    let some : suc (w - 1) ≡ w = omega (arith, id_bytes_are r.version) in
    bind_reads _ _ (field_reads 0 _ r.version version_test h.version)
    (bind_reads _ _ (field_reads 0 _ r.args (at_most most_args) h.args)
    (bind_reads _ _ (field_reads 1 _ (length r.names) (names_test lim.names r.args) h.size)
    (bind_reads _ _ (names_read lim [] _ r.names h.names)
    (bind_reads _ _ (field_reads 1 _ (length r.blocks) (at_most most_blocks) h.count)
    (bind_reads _ _
    (times_reads (λ left. block lim w N B) (settle w) (block_bytes w) (λ left b. BlockOk lim N B b)
    (λ left at b k. subst (λ (v : ℕ). Reads (block lim v N B) at (settle v at b) (block_bytes v b)) some (block_reads lim (w - 1) N B at b k))
    _ r.blocks h.blocks)
    give_reads)))))

-- what is written of r is read as r
pub record ReadsBack (lim : Limits) (r : Record Instr) : Type 0 where
  pub back : Record Placed
  pub reads : read lim (bytes r) 0 ≡ got back (length (bytes r))
  pub same : plain back ≡ r

plain_placed : (at : ℕ) (r : Record Instr) → plain (placed at r) ≡ r
plain_placed at r =
    let w = id_bytes r.version in
    λ i. record {
      version = r.version;
      args = r.args;
      names = r.names;
      blocks = unspread plain_block (settle w) (block_bytes w) (plain_settle w) (blocks_at at r) r.blocks i;
    }

pub reads_back : (lim : Limits) (r : Record Instr) → RecordOk lim r → ReadsBack lim r
unfolding read bytes length_field length_test end ◌>>=◌ give
reads_back lim r h =
    let c = content_bytes r in
    let l = be 4 (length c) in
    let s = l ++ c in
    let n : length l ≡ 4 = length_be 4 (length c) in
    let fits : eqb (length c) (length s - 4) ≡ true = eq-eqb (length c) (length s - 4) (omega (arith, length-append l c)) in
    let one : length_field s 0 ≡ got (length c) (0 + length l) =
    (field_reads 3 0 (length c) (length_test (length s - 4)) (rw fits)).reads s c refl in
    let two : contents lim s (0 + length l) ≡ got (placed (0 + length l) r) (0 + length l + length c) =
    (contents_read lim (0 + length l) r h).reads s [] (past s l c 0 refl ∙ sym (append-nil c)) in
    let three : ltb (length s) (length s) ≡ false = le-ltb (length s) (length s) (omega arith) in
    let four : 0 + length l + length c ≡ length s = omega (arith, length-append l c) in
    record { back = placed (0 + length l) r; reads = simp (one, two, four, three); same = plain_placed (0 + length l) r }
