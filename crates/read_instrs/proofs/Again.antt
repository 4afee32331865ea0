-- An instruction read a second time, part by part, is the one that its bytes hold; and one of an accepted record can be read so.
use Prim.Native.Nat.{ℕ, ◌+◌, ◌*◌, ◌^◌, ◌<◌, ◌≤◌}
use mathlib.Core.Path.{◌≡◌, refl, sym, ap, ◌∙◌, subst}
use mathlib.Core.List.{List, [], map}
use mathlib.Core.Bool.{Bool, true, false, not, cond}
use native.Mathlib.Omega.{arith}
use lib.ListN.{length}
use Rattle.record.specs.declared.Shape.{Shape}
use Rattle.record.specs.declared.Instruction.{Instruction}
use Rattle.record.specs.Record.{nm, Lit, no_lit, Instr}
use Rattle.record.specs.Shape.{targets, shape_of}
use Rattle.record.specs.Reader.{num_at}
use Rattle.record.specs.Tests.{literal_test}
use Rattle.record.specs.Good.{There, LitOk, InstrOk}
use Rattle.record.specs.Answer.{literal_of}
use Rattle.record.specs.View.{code_of, row_of, instr_of}
use Rattle.record.specs.Decode.{items, behind, two_on, index_from, number_from, count_from, lit_at, count_at, callee_at, targets_at, operands_end, operands_from, instr_from, instr_end}
use Rattle.record.proofs.Tests.{le_at_most}
use Rattle.record.specs.Sizes.{longest_operands}
use Rattle.record.proofs.Decode.{length_items, behind_two, behind_args}
use Rattle.record.proofs.Longest.{args_few}
use Rattle.codes.specs.Op.{op_of}
use Rattle.codes.proofs.Op.{op_code}
use Rattle.read_instrs.specs.declared.Read.{Read}
use Rattle.read_instrs.specs.declared.Parts.{Parts}
use Rattle.read_instrs.specs.Again.{lit_from, Readable, PartsAt, OperandsAgain, ReadAgain}
use Rattle.read_shapes.proofs.Bounds.{shape_most}
use Rattle.read_instrs.proofs.Rows.{items_indexes}

-- ---- parts that are there or not
cond_then : {A : Type 0} (b : Bool) (x y z : A) → (b ≡ true → x ≡ y) → cond b x z ≡ cond b y z
cond_then true x y z h = h refl
cond_then false x y z h = refl

nm_cond : (b : Bool) (x : ℕ) → nm (cond b x 0) ≡ cond b (nm x) (nm 0)
nm_cond true x = refl
nm_cond false x = refl

module _ (s : List ℕ) (p : ℕ) where
  args_by :
      (b : Bool) (n k : ℕ) (xs : List ℕ) →
      n ≡ cond b k 0 →
      xs ≡ items (number_from s) two_on p n →
      map nm xs ≡ cond b (items (index_from s) two_on p k) []
  unfolding items
  args_by true n k xs e h = ap (map nm) h ∙ items_indexes s p n ∙ ap (items (index_from s) two_on p) e
  args_by false n k xs e h = ap (map nm) h ∙ ap (λ (j : ℕ). map nm (items (number_from s) two_on p j)) e

  count_by : (b : Bool) (k : ℕ) → length (cond b (items (index_from s) two_on p k) []) ≤ 8 → cond b k 0 ≤ 8
  count_by true k h = rw (length_items (index_from s) two_on k p) at h
  count_by false k h = omega arith

-- ---- the places of the parts, as the code finds them
module _ (sh : Shape) (s : List ℕ) (at : ℕ) where
  pub literal_there : {lit : ℕ} → lit ≡ cond sh.dest (at + 2) at → lit ≡ lit_at sh s at
  unfolding lit_at
  literal_there e = e

  pub count_there : {lit count : ℕ} → lit ≡ lit_at sh s at → count ≡ cond sh.literal (lit + 9) lit → count ≡ count_at sh s at
  unfolding count_at
  count_there {lit} l e =
      e ∙ cond_then sh.literal (lit + 9) (lit + 1 + 8) lit (λ f. omega arith) ∙ ap (λ (p : ℕ). cond sh.literal (p + 1 + 8) p) l

  pub callee_there :
      {count n callee : ℕ} → count ≡ count_at sh s at → n ≡ count_from sh s count →
      callee ≡ cond (not sh.literal) (count + (1 + 2 * n)) count → callee ≡ callee_at sh s at
  unfolding callee_at
  callee_there {count} {n} c f e =
      e ∙ behind_args (not sh.literal) count (num_at s count 1) n f ∙
      ap (λ (p : ℕ). cond (not sh.literal) (behind two_on (p + 1) (num_at s p 1)) p) c

  pub blocks_there : {callee blocks : ℕ} → callee ≡ callee_at sh s at → blocks ≡ cond sh.callee (callee + 2) callee → blocks ≡ targets_at sh s at
  unfolding targets_at
  blocks_there c e = e ∙ ap (λ (p : ℕ). cond sh.callee (p + 2) p) c

  pub few_arguments : (x code : ℕ) → Readable (operands_from sh s at x code) → count_from sh s (count_at sh s at) ≤ 8
  unfolding operands_from
  few_arguments x code h = count_by s (count_at sh s at + 1) (not sh.literal) (num_at s (count_at sh s at) 1) h.args

-- ---- the parts at their places
module _ {s : List ℕ} {at code : ℕ} {p : Parts} (there : PartsAt s at code p) where
  abbrev sh : Shape
  sh = p.shape

  many_there : p.targets ≡ targets sh (count_from sh s (count_at sh s at))
  many_there = there.targets ∙ ap (targets sh) (there.args ∙ ap (count_from sh s) there.count)

  pub end_there : p.blocks + 2 * p.targets ≡ operands_end (shape_of code) s at
  unfolding operands_end behind
  end_there =
      sym (behind_two p.blocks p.targets) ∙ (λ j. behind two_on (there.blocks j) (many_there j)) ∙
      ap (λ (t : Shape). operands_end t s at) there.shape

  pub literal_ok : (x : ℕ) → Readable (operands_from (shape_of code) s at x code) → LitOk (cond sh.literal (lit_from s p.literal) no_lit)
  unfolding operands_from
  literal_ok x h = rw (there.literal, there.shape) h.lit

  pub operands_again :
      (x : ℕ) (i : Instruction) →
      i.id ≡ x →
      i.op ≡ op_of code →
      i.dest ≡ nm (cond sh.dest (num_at s at 2) 0) →
      literal_of i.literal ≡ cond sh.literal (lit_from s p.literal) no_lit →
      row_of i.args ≡ items (number_from s) two_on (p.count + 1) p.args →
      i.callee ≡ cond sh.callee (num_at s p.callee 2) 0 →
      row_of i.blocks ≡ items (number_from s) two_on p.blocks p.targets →
      instr_of i ≡ operands_from (shape_of code) s at x code
  unfolding instr_of operands_from index_from
  operands_again x i f o d l a k b =
      let code_is : code_of i.op ≡ code = ap code_of o ∙ op_code code in
      let dest_is : i.dest ≡ cond sh.dest (index_from s at) (nm 0) = d ∙ nm_cond sh.dest (num_at s at 2) in
      let literal_is : literal_of i.literal ≡ cond sh.literal (lit_from s (lit_at sh s at)) no_lit =
      l ∙ ap (λ (q : ℕ). cond sh.literal (lit_from s q) no_lit) there.literal in
      let args_are : map nm (row_of i.args) ≡
      cond (not sh.literal) (items (index_from s) two_on (count_at sh s at + 1) (num_at s (count_at sh s at) 1)) [] =
      args_by s (p.count + 1) (not sh.literal) p.args (num_at s p.count 1) (row_of i.args) there.args a ∙
      ap (λ (q : ℕ). cond (not sh.literal) (items (index_from s) two_on (q + 1) (num_at s q 1)) []) there.count in
      let callee_is : i.callee ≡ cond sh.callee (num_at s (callee_at sh s at) 2) 0 =
      k ∙ ap (λ (q : ℕ). cond sh.callee (num_at s q 2) 0) there.callee in
      let blocks_are : row_of i.blocks ≡ items (number_from s) two_on (targets_at sh s at) (targets sh (count_from sh s (count_at sh s at))) =
      b ∙ (λ j. items (number_from s) two_on (there.blocks j) (many_there j)) in
      let whole : instr_of i ≡ operands_from sh s at x code =
      λ j. record {
        id = f j;
        code = code_is j;
        dest = dest_is j;
        lit = literal_is j;
        args = args_are j;
        callee = callee_is j;
        blocks = blocks_are j;
      } in
      whole ∙ ap (λ (t : Shape). operands_from t s at x code) there.shape

-- ---- an instruction by its id, its code and the rest
module _ (w : ℕ) (s : List ℕ) (at x code : ℕ) (id_is : x ≡ num_at s at w) (code_is : code ≡ num_at s (at + w) 1) where
  instr_parts : instr_from w s at ≡ operands_from (shape_of code) s (at + w + 1) x code
  unfolding instr_from
  instr_parts = rw (code_is, id_is)

  end_parts : operands_end (shape_of code) s (at + w + 1) ≡ instr_end w s at
  unfolding instr_end
  end_parts = rw code_is

  pub readable_parts : Readable (instr_from w s at) → Readable (operands_from (shape_of code) s (at + w + 1) x code)
  readable_parts h = rw instr_parts at h

  pub read_again : {r : Read} → w ≤ 8 → x < 256 ^ w → OperandsAgain (shape_of code) s (at + w + 1) x code r → ReadAgain w s at r
  read_again {r} h k o =
      record {
        instr = o.instr ∙ sym instr_parts;
        op = o.op ∙ ap op_of code_is;
        next = o.next ∙ end_parts;
        near = let n : r.next ≤ at + w + 1 + longest_operands = o.near in omega arith;
        id = subst (λ (y : ℕ). y < 256 ^ w) (sym o.id) k;
      }

-- ---- an instruction of an accepted record
no_lit_ok : LitOk no_lit
unfolding literal_test
no_lit_ok = record { kind = le_at_most 3 0 (omega arith); bits = refl }

lit_by : (b : Bool) (l : Lit) → There b LitOk no_lit l → LitOk l
lit_by true l h = h
lit_by false l h = rw h no_lit_ok

pub instr_readable : {N B left : ℕ} (i : Instr) → InstrOk N B left i → Readable i
instr_readable {N} i h =
    record {
      lit = lit_by (shape_of i.code).literal i.lit h.rest.lit;
      args = args_few N (shape_of i.code) i.args (not (shape_of i.code).literal) (shape_most i.code) h.rest.args;
    }
