-- Where the parts of a record end: behind as many bytes as are written of them. So an end is not before its start, and the blocks of a record
-- that is read end inside it, and not far.
use Prim.Native.Nat.{ℕ, zero, suc, ◌+◌, ◌*◌, ◌≤◌}
use mathlib.Core.Path.{◌≡◌, refl, sym, ap, ◌∙◌}
use mathlib.Core.List.{List, map}
use mathlib.Core.Bool.{Bool, true, false, cond, not}
use native.Mathlib.Omega.{arith}
use native.Mathlib.Nat.{add-zero}
use lib.ListN.{length, drop, length-drop}
use lib.Seq.{length-take-le}
use Rattle.record.specs.declared.Shape.{Shape}
use Rattle.record.specs.Record.{limits}
use Rattle.record.specs.Shape.{targets, shape_of}
use Rattle.record.specs.Reader.{got, num_at}
use Rattle.record.specs.Read.{read}
use Rattle.record.specs.Write.{instr_bytes, block_bytes, name_bytes, bytes}
use Rattle.record.specs.Decode.{items, behind, two_on, index_from, number_from, count_from, lit_at, count_at, callee_at, targets_at, operands_end, operands_from, instr_from, placed_from, instr_end, body_from, block_end, name_from, name_end, names_count, names_end, id_width, blocks_end, record_from}
use Rattle.record.specs.Again.{instrs_from, instrs_end, block_in, blocks_in, record_in}
use Rattle.record.specs.Sizes.{longest_record}
use Rattle.record.proofs.Decode.{length_items, length_there, behind_two, behind_args}
use Rattle.record.proofs.Rows.{behind_on, name_grows, map_items}
use Rattle.record.proofs.Sizes.{join_cons, join_nil, total, operand_size, instr_size, block_size, name_size, content_size, record_size}
use Rattle.record.proofs.Longest.{record_most}
use Rattle.record.proofs.Inside.{names_inside}
use Rattle.record.proofs.ReadSize.{read_size}
use Rattle.record.proofs.Again.{blocks_of, blocks_again, read_good}

-- ---- an instruction
past : (b : Bool) (p q d : ℕ) → q ≡ p + d → cond b q p ≡ p + cond b d 0
past true p q d e = e
past false p q d e = sym (add-zero p)

operands_past :
    (sh : Shape) (s : List ℕ) (at id code : ℕ) →
    let i = operands_from sh s at id code in
    operands_end sh s at ≡ at + operand_size sh (length i.args) (length i.blocks)
unfolding operands_end operands_from lit_at count_at callee_at targets_at
operands_past sh s at id code =
    let l = lit_at sh s at in
    let c = count_at sh s at in
    let a = callee_at sh s at in
    let t = targets_at sh s at in
    let b = not sh.literal in
    let n = length (operands_from sh s at id code).args in
    let m = length (operands_from sh s at id code).blocks in
    let hn : n ≡ cond b (num_at s c 1) 0 = length_there (index_from s) two_on b (num_at s c 1) (c + 1) in
    let hm : m ≡ targets sh (count_from sh s c) = length_items (number_from s) two_on (targets sh (count_from sh s c)) t in
    let hl : l ≡ at + cond sh.dest 2 0 = past sh.dest at (at + 2) 2 refl in
    let hc : c ≡ l + cond sh.literal 9 0 = past sh.literal l (l + 1 + 8) 9 (omega arith) in
    let ha : a ≡ c + cond b (1 + 2 * n) 0 = sym (behind_args b c (num_at s c 1) n hn) ∙ past b c (c + (1 + 2 * n)) (1 + 2 * n) refl in
    let ht : t ≡ a + cond sh.callee 2 0 = past sh.callee a (a + 2) 2 refl in
    let he : operands_end sh s at ≡ t + 2 * targets sh (count_from sh s c) = behind_two t (targets sh (count_from sh s c)) in
    omega (arith, hm, hl, hc, ha, ht, he)

-- the operands end not before they begin
pub operands_on : (sh : Shape) (s : List ℕ) (at : ℕ) → at ≤ operands_end sh s at
operands_on sh s at = omega (arith, operands_past sh s at 0 0)

module _ (w : ℕ) (s : List ℕ) where
  pub instr_past : (at : ℕ) → instr_end w s at ≡ at + length (instr_bytes w (instr_from w s at))
  unfolding instr_end instr_from operands_from
  instr_past at =
      let c = num_at s (at + w) 1 in
      let i = instr_from w s at in
      let e : instr_end w s at ≡ at + w + 1 + operand_size (shape_of c) (length i.args) (length i.blocks) =
      operands_past (shape_of c) s (at + w + 1) (num_at s at w) c in
      let f : length (instr_bytes w i) ≡ w + (1 + operand_size (shape_of c) (length i.args) (length i.blocks)) = instr_size w i in
      omega arith

  -- an instruction has its id and its code
  pub instr_on : (at : ℕ) → at + w + 1 ≤ instr_end w s at
  instr_on at = omega (arith, instr_past at, instr_size w (instr_from w s at))

  pub instr_grows : (at : ℕ) → at ≤ instr_end w s at
  instr_grows at = omega (arith, instr_on at)

  pub instrs_grow : (at n : ℕ) → at ≤ instrs_end w s at n
  unfolding instrs_end
  instrs_grow at n = behind_on (instr_end w s) instr_grows at n

  pub block_grows : (at : ℕ) → at ≤ block_end w s at
  unfolding block_end
  block_grows at = omega (arith, behind_on (instr_end w s) instr_grows (at + 2 + 2) (num_at s at 2))

-- ---- parts in a row; f: the bytes of one
pub row_past :
    {A : Type 0} (f : A → List ℕ) (one : ℕ → A) (next : ℕ → ℕ) → ((p : ℕ) → next p ≡ p + length (f (one p))) →
    (n p : ℕ) → behind next p n ≡ p + total f (items one next p n)
unfolding behind items
row_past f one next h zero p = omega (arith, join_nil)
row_past f one next h (suc n) p =
    let e : behind next (next p) n ≡ next p + total f (items one next (next p) n) = row_past f one next h n (next p) in
    omega (arith, e, h p, join_cons (f (one p)) (map f (items one next (next p) n)))

pub block_body : (w : ℕ) (s : List ℕ) (at : ℕ) → (block_in w s at).body ≡ instrs_from w s (at + 2 + 2) (num_at s at 2)
unfolding body_from instrs_from
block_body w s at = map_items (λ i. i.it) (placed_from w s) (instr_end w s) (num_at s at 2) (at + 2 + 2)

module _ (w : ℕ) (s : List ℕ) where
  pub block_past : (at : ℕ) → block_end w s at ≡ at + length (block_bytes w (block_in w s at))
  unfolding block_end instrs_from
  block_past at =
      let e : block_end w s at ≡ at + 2 + 2 + total (instr_bytes w) (instrs_from w s (at + 2 + 2) (num_at s at 2)) =
      row_past (instr_bytes w) (instr_from w s) (instr_end w s) (instr_past w s) (num_at s at 2) (at + 2 + 2) in
      let b : total (instr_bytes w) (block_in w s at).body ≡ total (instr_bytes w) (instrs_from w s (at + 2 + 2) (num_at s at 2)) =
      ap (total (instr_bytes w)) (block_body w s at) in
      omega (arith, e, b, block_size w (block_in w s at))

-- names inside the bytes
names_past :
    (s : List ℕ) (n p : ℕ) → behind (name_end s) p n ≤ length s →
    behind (name_end s) p n ≡ p + total name_bytes (items (name_from s) (name_end s) p n)
unfolding behind items name_end
names_past s zero p h = omega (arith, join_nil)
names_past s (suc n) p h =
    let q = name_end s p in
    let k = num_at s (p + 1) 1 in
    let x = name_from s p in
    let on : q ≤ length s = omega (arith, h, behind_on (name_end s) (name_grows s) q n) in
    let t : length x.text ≡ k = length-take-le k (drop (p + 1 + 1) s) (omega (arith, on, length-drop (p + 1 + 1) s)) in
    let e : behind (name_end s) q n ≡ q + total name_bytes (items (name_from s) (name_end s) q n) = names_past s n q h in
    omega (arith, e, t, name_size x, join_cons (name_bytes x) (map name_bytes (items (name_from s) (name_end s) q n)))

-- ---- the record
pub record_past : (s : List ℕ) → names_end s ≤ length s → blocks_end s ≡ length (bytes (record_in s))
unfolding blocks_end names_end blocks_in record_from
record_past s h =
    let w = id_width s in
    let r = record_in s in
    let n : names_end s ≡ 8 + total name_bytes r.names = names_past s (names_count s) 8 h in
    let b : blocks_end s ≡ names_end s + 2 + total (block_bytes w) (blocks_of s) =
    row_past (block_bytes w) (block_in w s) (block_end w s) (block_past w s) (num_at s (names_end s) 2) (names_end s + 2) in
    let same : total (block_bytes w) r.blocks ≡ total (block_bytes w) (blocks_of s) = ap (total (block_bytes w)) (blocks_again s) in
    let c : length (bytes r) ≡ 4 + (6 + (total name_bytes r.names + total (block_bytes w) r.blocks)) =
    record_size r ∙ ap (λ (k : ℕ). 4 + k) (content_size r) in
    omega (arith, n, b, same, c)

module _ (s : List ℕ) (p : ℕ) (e : read limits s 0 ≡ got (record_from s) p) where
  ends : blocks_end s ≡ length (bytes (record_in s))
  ends = record_past s (omega (arith, names_inside limits s (record_from s) p e))

  pub blocks_inside : blocks_end s ≤ length s
  blocks_inside = omega (arith, ends, read_size s (record_from s) p e)

  pub blocks_near : blocks_end s ≤ longest_record
  blocks_near = omega (arith, ends, record_most (record_in s) (read_good s (record_from s) p e))
