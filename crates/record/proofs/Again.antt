-- Laws of an accepted record that is read again: its instructions and blocks pass, and its counts are those of its fields.
use Prim.Native.Nat.{ℕ, ◌+◌, ◌-◌, ◌<◌, ◌≤◌}
use mathlib.Core.Path.{◌≡◌, refl, ap, ◌∙◌, subst}
use mathlib.Core.List.{List, [], ◌∷◌}
use native.Mathlib.Omega.{arith}
use lib.ListN.{length, length-map}
use Rattle.record.specs.Record.{Instr, Placed, Block, Record, plain_block, plain, limits, id_bytes}
use Rattle.record.specs.Reader.{got, num_at}
use Rattle.record.specs.Read.{read}
use Rattle.record.specs.Good.{Each, InstrOk, RecordOk}
use Rattle.record.specs.Decode.{items, behind, instr_from, instr_end, block_from, block_end, name_from, name_end, names_count, names_end, id_width, record_from}
use Rattle.record.specs.Again.{instrs_from, instrs_end, Passing, blocks_in, BlocksPass, record_in, Reads}
use Rattle.record.proofs.Tests.{at_most_le, names_limit, names_args}
use Rattle.record.proofs.Accepted.{read_ok}
use Rattle.record.proofs.Decode.{length_items, read_decodes}
use Rattle.record.proofs.Rows.{one_more, behind_on, name_grows, map_items}
use Rattle.record.proofs.Inside.{names_inside}

-- ---- instructions in a row
module _ (w : ℕ) (s : List ℕ) (p n : ℕ) (h : 0 < n) where
  pub instrs_more : instrs_from w s p n ≡ instr_from w s p ∷ instrs_from w s (instr_end w s p) (n - 1)
  unfolding instrs_from items
  instrs_more = ap (items (instr_from w s) (instr_end w s) p) (one_more n h)

  pub end_more : instrs_end w s p n ≡ instrs_end w s (instr_end w s p) (n - 1)
  unfolding instrs_end behind
  end_more = ap (behind (instr_end w s) p) (one_more n h)

pub passing_all : (N B : ℕ) (is : List Instr) → Each (InstrOk N B) is → Passing N is
passing_all N B [] h = tt
passing_all N B (i ∷ is) h = (record { blocks = B; left = length is; ok = h.0 }, passing_all N B is h.1)

-- ---- the blocks that were accepted
-- B stands behind the names, the blocks behind B
abbrev pub blocks_of : List ℕ → List (Block Instr)
blocks_of s = blocks_in (id_width s) s (names_end s + 2) (num_at s (names_end s) 2)

pub blocks_again : (s : List ℕ) → (plain (record_from s)).blocks ≡ blocks_of s
unfolding record_from blocks_in
blocks_again s =
    map_items plain_block (block_from (id_width s) s) (block_end (id_width s) s) (num_at s (names_end s) 2) (names_end s + 2)

module _ (s : List ℕ) (r : Record Placed) (p : ℕ) (e : read limits s 0 ≡ got r p) where
  pub record_again : r ≡ record_from s
  record_again = ((read_decodes limits s).told r p e).0

  pub accepted_blocks : (plain r).blocks ≡ blocks_of s
  accepted_blocks = ap (λ (x : Record Placed). (plain x).blocks) record_again ∙ blocks_again s

  pub accepted_pass : BlocksPass (length (plain r).names) (blocks_of s)
  accepted_pass =
      subst (BlocksPass (length (plain r).names)) accepted_blocks
      (record { blocks = length (plain r).blocks; each = (read_ok limits s r p e).blocks })

-- ---- its fields, by their places
pub version_in : (s : List ℕ) → (record_in s).version ≡ num_at s 4 1
unfolding record_from
version_in s = refl

pub args_in : (s : List ℕ) → (record_in s).args ≡ num_at s 5 1
unfolding record_from
args_in s = refl

pub names_in : (s : List ℕ) → length (record_in s).names ≡ names_count s
unfolding record_from
names_in s = length_items (name_from s) (name_end s) (names_count s) 8

pub blocks_number : (s : List ℕ) → length (record_in s).blocks ≡ num_at s (names_end s) 2
unfolding record_from
blocks_number s =
    let w = id_bytes (num_at s 4 1) in
    length-map (record_from s).blocks plain_block ∙
    length_items (block_from w s) (block_end w s) (num_at s (names_end s) 2) (names_end s + 2)

module _ (s : List ℕ) (r : Record Placed) (p : ℕ) (e : read limits s 0 ≡ got r p) where
  pub read_good : RecordOk limits (record_in s)
  read_good = subst (λ (r : Record Placed). RecordOk limits (plain r)) (record_again s r p e) (read_ok limits s r p e)

  pub few_names : names_count s ≤ 256
  few_names =
      let n : length (record_in s).names ≤ 256 = names_limit 256 (record_in s).args (length (record_in s).names) read_good.size in
      omega (arith, n, names_in s)

module _ {s : List ℕ} {end : ℕ} (h : Reads s end) where
  pub record_ok : RecordOk limits (record_in s)
  record_ok = read_good s h.it h.behind h.reads

  pub few_original : names_count s ≤ 256
  few_original = few_names s h.it h.behind h.reads

  pub few_blocks : num_at s end 2 ≤ 64
  few_blocks =
      let n : length (record_in s).blocks ≤ 64 = at_most_le 64 (length (record_in s).blocks) record_ok.count in
      rw h.names (omega (arith, n, blocks_number s))

  pub few_args : num_at s 5 1 ≤ 256
  few_args =
      let n : (record_in s).args ≤ length (record_in s).names =
      names_args 256 (record_in s).args (length (record_in s).names) record_ok.size in
      omega (arith, n, args_in s, names_in s, few_original)

  pub names_on : 8 ≤ end
  unfolding names_end
  names_on = rw h.names (behind_on (name_end s) (name_grows s) 8 (names_count s))

  pub names_lie : names_end s ≤ length s
  names_lie = omega (arith, names_inside limits s h.it h.behind h.reads)
