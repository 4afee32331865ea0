-- Where an instruction, a block and a name end, part by part, and what the head of a record says.
use Prim.Native.Nat.{ℕ, ◌+◌, ◌*◌}
use mathlib.Core.Path.{◌≡◌, sym, ap, ◌∙◌}
use mathlib.Core.List.{List}
use mathlib.Core.Bool.{cond, not}
use native.Mathlib.Omega.{arith}
use lib.ListN.{get_or}
use Rattle.record.specs.declared.Shape.{Shape}
use Rattle.record.specs.Shape.{targets, shape_of}
use Rattle.record.specs.Reader.{num_at}
use Rattle.record.specs.Decode.{behind, two_on, count_from, lit_at, count_at, callee_at, targets_at, operands_end, instr_end, block_end, name_end, names_count, names_end, id_width}
use Rattle.record.proofs.Decode.{behind_two, behind_args}
use Rattle.read_layout.specs.declared.Layout.{Layout}
use Rattle.read_layout.specs.Layout.{layout_of}

-- ---- ends
-- the parts of the operands, each from where the one before it ends
pub operands_past :
    (sh : Shape) (s : List ℕ) (at l c n a t m r : ℕ) →
    l ≡ cond sh.dest (at + 2) at →
    c ≡ cond sh.literal (l + 9) l →
    n ≡ count_from sh s c →
    a ≡ cond (not sh.literal) (c + (1 + 2 * n)) c →
    t ≡ cond sh.callee (a + 2) a →
    m ≡ targets sh n →
    r ≡ t + 2 * m →
    r ≡ operands_end sh s at
unfolding operands_end lit_at count_at callee_at targets_at
operands_past sh s at l c n a t m r el ec en ea et em er =
    let c' : c ≡ count_at sh s at =
    ec ∙ ap (λ (k : ℕ). cond sh.literal k l) (omega arith) ∙ ap (λ (k : ℕ). cond sh.literal (k + 1 + 8) k) el in
    let a' : a ≡ callee_at sh s at =
    ea ∙ behind_args (not sh.literal) c (num_at s c 1) n en ∙
    ap (λ (k : ℕ). cond (not sh.literal) (behind two_on (k + 1) (num_at s k 1)) k) c' in
    let t' : t ≡ targets_at sh s at = et ∙ ap (λ (k : ℕ). cond sh.callee (k + 2) k) a' in
    let m' : m ≡ targets sh (count_from sh s (count_at sh s at)) = em ∙ ap (targets sh) (en ∙ ap (count_from sh s) c') in
    er ∙ (λ i. t' i + 2 * m' i) ∙ sym (behind_two (targets_at sh s at) (targets sh (count_from sh s (count_at sh s at))))

-- c: the code of the instruction
pub instr_past : (w : ℕ) (s : List ℕ) (at c r : ℕ) → c ≡ num_at s (at + w) 1 → r ≡ operands_end (shape_of c) s (at + w + 1) → r ≡ instr_end w s at
unfolding instr_end
instr_past w s at c r ec er = er ∙ ap (λ (z : ℕ). operands_end (shape_of z) s (at + w + 1)) ec

pub name_past : (s : List ℕ) (at n : ℕ) → n ≡ get_or s (at + 1) 0 → at + 1 + 1 + n ≡ name_end s at
unfolding name_end
name_past s at n e = ap (λ (k : ℕ). at + 1 + 1 + k) e

-- n: the count of the block's instructions
pub block_past :
    (w : ℕ) (s : List ℕ) (at n r : ℕ) → n ≡ num_at s at 2 → r ≡ behind (instr_end w s) (at + 2 + 2) n → r ≡ block_end w s at
unfolding block_end
block_past w s at n r e h = h ∙ ap (behind (instr_end w s) (at + 2 + 2)) e

-- ---- the head; e: where the names end
pub head_says :
    (s : List ℕ) (w a n e b : ℕ) →
    w ≡ id_width s → a ≡ num_at s 5 1 → n ≡ names_count s → b ≡ num_at s e 2 → e ≡ names_end s →
    ◌≡◌ {A = Layout} (record { width = w; args = a; names = n; end = e; blocks = b }) (layout_of s)
unfolding layout_of
head_says s w a n e b ew ea en eb ee =
    let b' : b ≡ num_at s (names_end s) 2 = eb ∙ ap (λ (k : ℕ). num_at s k 2) ee in
    λ i. record { width = ew i; args = ea i; names = en i; end = ee i; blocks = b' i }
