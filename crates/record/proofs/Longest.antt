-- How long a record within the limits can be, part by part, so that L can count what is written of it and of its rewriting.
use Prim.Native.Nat.{ℕ, ◌+◌, ◌*◌, ◌≤◌}
use mathlib.Core.Path.{◌≡◌, refl}
use mathlib.Core.List.{List, [], ◌∷◌, ◌++◌, map}
use mathlib.Core.Bool.{Bool, true, false, cond, not, ◌&&◌, ◌||◌}
use native.Mathlib.Omega.{arith}
use lib.ListN.{length}
use lib.Dec.{leb, eqb}
use borrow.Author.Tests.{leb-true}
use Rattle.record.specs.declared.NameIx.{NameIx}
use Rattle.record.specs.declared.Shape.{Shape}
use Rattle.record.specs.declared.Refusal.TheVariants.{Limit}
use Rattle.record.specs.Record.{Instr, Block, Name, Record, limits, id_bytes}
use Rattle.record.specs.Shape.{targets, shape_of}
use Rattle.record.specs.Tests.{text_length_test}
use Rattle.record.specs.Good.{There, Each, ArgsOk, InstrOk, BlockOk, NamesOk, RecordOk}
use Rattle.record.specs.Write.{instr_bytes, block_bytes, name_bytes, bytes}
use Rattle.record.specs.Sizes.{longest_instr, longest_block, longest_record}
use Rattle.record.proofs.Tests.{and_left, and_right, need_passes, at_most_le, names_limit, count_most, code_known}
use Rattle.record.proofs.Form.{all_below, at_known}
use Rattle.record.proofs.Sizes.{join_cons, join_nil, total, instr_size, block_size, name_size, content_size, record_size, id_bytes_are}

-- ---- instructions and blocks
-- at most eight arguments, and two block numbers where there is not one for each
abbrev modest : ℕ → Bool
modest c = leb (shape_of c).most 8 && leb (shape_of c).blocks 2

codes_modest : all_below 72 (λ c. not (shape_of c).known || modest c) ≡ true
unfolding shape_of
codes_modest = refl

cond_most : (b : Bool) (n : ℕ) → cond b n 0 ≤ n
cond_most true n = omega arith
cond_most false n = omega arith

pub args_few : (N : ℕ) (sh : Shape) (xs : List NameIx) (b : Bool) → sh.most ≤ 8 → There b (ArgsOk N sh) [] xs → length xs ≤ 8
args_few N sh xs true m h = let l : length xs ≤ sh.most = count_most sh (length xs) h.count in omega arith
args_few N sh xs false m h = rw h (omega arith)

pub targets_most : (m n : ℕ) (sh : Shape) → sh.blocks ≤ m → n ≤ m → targets sh n ≤ m
targets_most m n sh b k = go sh.each
  where
    go : (e : Bool) → cond e n sh.blocks ≤ m
    go true = k
    go false = b

-- w: the bytes of an id
module _ (w : ℕ) (eight : w ≤ 8) where
  instr_most : (N B left : ℕ) (i : Instr) → InstrOk N B left i → length (instr_bytes w i) ≤ longest_instr
  instr_most N B left i h =
      let sh = shape_of i.code in
      let m = at_known modest codes_modest i.code (code_known (eqb left 0) i.code h.code) in
      let few : sh.most ≤ 8 = leb-true sh.most 8 (and_left (leb sh.most 8) _ m) in
      let two : sh.blocks ≤ 2 = leb-true sh.blocks 2 (and_right (leb sh.most 8) _ m) in
      let n : length i.args ≤ 8 = args_few N sh i.args (not sh.literal) few h.rest.args in
      let t : targets sh (length i.args) ≡ length i.blocks = h.rest.targets in
      let e : targets sh (length i.args) ≤ 8 = targets_most 8 (length i.args) sh (omega arith) n in
      let a : cond (not sh.literal) (1 + 2 * length i.args) 0 ≤ 1 + 2 * length i.args =
      cond_most (not sh.literal) (1 + 2 * length i.args) in
      let b : cond sh.dest 2 0 ≤ 2 = cond_most sh.dest 2 in
      let c : cond sh.literal 9 0 ≤ 9 = cond_most sh.literal 9 in
      let d : cond sh.callee 2 0 ≤ 2 = cond_most sh.callee 2 in
      rw (instr_size w i) (omega (arith, eight))

  body_most : (N B : ℕ) (is : List Instr) → Each (InstrOk N B) is → total (instr_bytes w) is ≤ longest_instr * length is
  body_most N B [] h = rw join_nil (omega arith)
  body_most N B (i ∷ is) h =
      let a : length (instr_bytes w i) ≤ longest_instr = instr_most N B (length is) i h.0 in
      let b : total (instr_bytes w) is ≤ longest_instr * length is = body_most N B is h.1 in
      rw (join_cons (instr_bytes w i) (map (instr_bytes w) is)) (omega arith)

  blocks_most :
      (N B : ℕ) (bs : List (Block Instr)) → Each (λ left b. BlockOk limits N B b) bs → total (block_bytes w) bs ≤ longest_block * length bs
  blocks_most N B [] h = rw join_nil (omega arith)
  blocks_most N B (b ∷ bs) h =
      let n : length b.body ≤ 256 = at_most_le 256 (length b.body) h.0.size in
      let a : total (instr_bytes w) b.body ≤ longest_instr * length b.body = body_most N B b.body h.0.body in
      let c : length (block_bytes w b) ≡ 4 + total (instr_bytes w) b.body = block_size w b in
      let d : total (block_bytes w) bs ≤ longest_block * length bs = blocks_most N B bs h.1 in
      rw (join_cons (block_bytes w b) (map (block_bytes w) bs)) (omega arith)

-- ---- names
names_most : (seen : List (List ℕ)) (xs : List Name) → NamesOk limits seen xs → total name_bytes xs ≤ 34 * length xs
unfolding text_length_test
names_most seen [] h = rw join_nil (omega arith)
names_most seen (x ∷ xs) h =
    let n : length x.text ≤ 32 =
    leb-true (length x.text) 32 (and_right (leb 1 (length x.text)) _ (need_passes _ Limit h.0.size)) in
    let a : length (name_bytes x) ≡ 2 + length x.text = name_size x in
    let d : total name_bytes xs ≤ 34 * length xs = names_most (seen ++ (x.text ∷ [])) xs h.1 in
    rw (join_cons (name_bytes x) (map name_bytes xs)) (omega arith)

-- ---- a record
pub record_most : (r : Record Instr) → RecordOk limits r → length (bytes r) ≤ longest_record
record_most r h =
    let w = id_bytes r.version in
    let n : length r.names ≤ 256 = names_limit 256 r.args (length r.names) h.size in
    let m : length r.blocks ≤ 64 = at_most_le 64 (length r.blocks) h.count in
    let a : total name_bytes r.names ≤ 34 * length r.names = names_most [] r.names h.names in
    let b : total (block_bytes w) r.blocks ≤ longest_block * length r.blocks =
    blocks_most w (id_bytes_are r.version).1 (length r.names) (length r.blocks) r.blocks h.blocks in
    omega (arith, content_size r, record_size r)
