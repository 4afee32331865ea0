-- The numbers of a rewriting fit their fields where those of the input do: ids and callees are the input's, and constants are words.
use Prim.Native.Nat.{ℕ, zero, suc, ◌+◌, ◌<◌, ◌≤◌, ◌^◌}
use mathlib.Core.Path.{◌≡◌}
use mathlib.Core.Bool.{Bool, true, false, cond, not}
use mathlib.Core.List.{List, [], ◌∷◌, ◌++◌, map}
use native.Mathlib.Omega.{arith}
use Rattle.record.proofs.Gives.{each_append}
use Rattle.record.proofs.Written.{append_bytes}
use lib.ListN.{length, get_or, length-map}
use lib.Dec.{eqb}
use Rattle.arith.specs.Value.{tfloat, Val, int, literal, bool}
use Rattle.record.specs.declared.NameIx.{NameIx}
use Rattle.record.specs.Record.{nm, Bytes, Instr, Block, Name, Record, Function, function, texts, names_of, type_in, limits, id_bytes}
use Rattle.record.specs.Form.{Form, value_of, form}
use Rattle.record.specs.Good.{Each, InstrOk, RecordOk}
use Rattle.record.specs.Ranged.{RangedInstr, RangedBlock, RangedName, Ranged}
use Rattle.record.proofs.Tests.{at_most_le, names_args}
use Rattle.record.proofs.Form.{FormOf, of_constant, of_one, of_two, of_new, of_jump, of_branch, of_return, of_nop, of_effect, form_of}
use Rattle.numbering.specs.State.{State, start, gen_new_vals}
use Rattle.numbering.specs.Number.{reads, literal_for, rewrite_instr, instr_lvn, block_lvn, count_saves, blocks_lvn, lvn}
use Rattle.numbering.specs.Decimal.{Digits}
use Rattle.numbering.specs.Made.{digits, made_text, made_name, made_names, made, rewriting}
use Rattle.numbering.proofs.Digits.{digit_most, digits_are}
use Rattle.numbering.proofs.Codes.{instr_original, body_originals}
use Rattle.numbering.proofs.Saves.{Saves, no_saves, one_save, instr_emits, block_temps}
use Rattle.numbering.proofs.Simplified.{Closed}
use Rattle.numbering.proofs.Homes.{Homed, start_homed}
use Rattle.numbering.proofs.Written.{Written, itself, constant_of, over_one, over_two, ConstOk, instr_emitted}
use Rattle.numbering.proofs.Passes.{block_few}
use Rattle.numbering.proofs.Wide.{BlocksOk, input_blocks, made_original}

-- ---- constants
-- the literal of a constant has eight bytes
abbrev pub Small : Val → Type 0
Small v = (literal_for v).bits < 256 ^ 8

bool_small : (b : Bool) → Small (bool b)
bool_small true = omega arith
bool_small false = omega arith

pub smalls_closed : Closed Small
smalls_closed = record { ints = λ w l. l; bools = bool_small; pointers = λ t b o. omega arith }

-- an int literal, of type float or not
either_small : (b : Bool) (bits : ℕ) → bits < 256 ^ 8 → Small (cond b (literal bits) (int bits))
either_small true bits h = h
either_small false bits h = h

value_small : (t kind bits : ℕ) → bits < 256 ^ 8 → Small (value_of t kind bits)
unfolding value_of
value_small t zero bits h = either_small (eqb t tfloat) bits h
value_small t (suc zero) bits h = bool_small (not (eqb bits 0))
value_small t (suc (suc zero)) bits h = h
value_small t (suc (suc (suc kind))) bits h = h

const_small : (t : NameIx → ℕ) (i : Instr) (f : Form) → i.lit.bits < 256 ^ 8 → FormOf t i f → ConstOk Small f
const_small t i f h (of_constant e) = λ n. value_small (t i.dest) i.lit.kind i.lit.bits h
const_small t i f h (of_one o e) = tt
const_small t i f h (of_two o e) = tt
const_small t i f h of_new = tt
const_small t i f h (of_jump e) = tt
const_small t i f h (of_branch e) = tt
const_small t i f h (of_return e) = tt
const_small t i f h (of_nop e) = tt
const_small t i f h of_effect = tt

-- ---- instructions
written_ranged :
    (w M : ℕ) (s : State) (xs : List NameIx) (i k : Instr) → RangedInstr w i → Written Small M (rewrite_instr s xs i) k → RangedInstr w k
written_ranged w M s xs i k h itself = record { id = h.id; bits = h.bits; callee = h.callee }
written_ranged w M s xs i k h (constant_of v p) = record { id = h.id; bits = p; callee = omega arith }
written_ranged w M s xs i k h (over_one o p) = record { id = h.id; bits = omega arith; callee = omega arith }
written_ranged w M s xs i k h (over_two o p q) = record { id = h.id; bits = omega arith; callee = omega arith }

each_ranged :
    {N id : ℕ} {x : NameIx} {k k' : ℕ} {ss : List Instr} (w : ℕ) (i : Instr) (is : List Instr) →
    id < 256 ^ w →
    Saves N id x k ss k' →
    RangedInstr w i →
    Each (λ left i. RangedInstr w i) is →
    Each (λ left i. RangedInstr w i) (ss ++ (i ∷ is))
each_ranged w i is l no_saves p h = (p, h)
each_ranged w i is l (one_save b) p h = (record { id = l; bits = omega arith; callee = omega arith }, (p, h))

pub block_ranged :
    (w N B : ℕ) (t : NameIx → ℕ) (is : List Instr) (s : State) →
    Homed Small N s →
    Each (InstrOk N B) is →
    Each (λ left i. RangedInstr w i) is →
    Each (λ left i. RangedInstr w i) (block_lvn N t s is).body
unfolding block_lvn
block_ranged w N B t [] s h p g = tt
block_ranged w N B t (i ∷ is) s h p g =
    let e = instr_lvn N t s i in
    let c = const_small t i (form t i) g.0.bits (form_of t i) in
    let q = instr_emitted Small smalls_closed N B (length is) t s i h p.0 c in
    each_ranged w e.instr (block_lvn N t e.state is).body g.0.id
    (instr_emits N t s i (instr_original N B (length is) t i p.0)).saves
    (written_ranged w _ (gen_new_vals s (reads (form t i))) (reads (form t i)) i e.instr g.0 q.written)
    (block_ranged w N B t is e.state q.homed p.1 g.1)

-- ---- blocks
pub blocks_ranged :
    (w B : ℕ) (f : Function) (bs : List (Block Instr)) (k : ℕ) →
    f.args ≤ names_of f →
    BlocksOk limits (names_of f) B bs →
    Each (λ left b. RangedBlock w b) bs →
    Each (λ left b. RangedBlock w b) (blocks_lvn f k bs)
unfolding blocks_lvn
blocks_ranged w B f [] k a h g = tt
blocks_ranged w B f (b ∷ bs) k a h g =
    let N = names_of f in
    let t = type_in f.types in
    let s = start f.args k in
    let q = block_lvn N t s b.body in
    let few : q.temps ≤ s.temps + length b.body = (block_few N B t b.body s h.0.body).0 in
    let counted : q.temps ≡ s.temps + count_saves N q.body =
    block_temps N t b.body s (body_originals N B t b.body h.0.body) in
    let most : length b.body ≤ 256 = at_most_le 256 (length b.body) h.0.size in (
      record { saves = omega arith; body = block_ranged w N B t b.body s (start_homed Small N f.args k a) h.0.body g.0.body },
      blocks_ranged w B f bs q.temps a h.1 g.1,
    )

-- ---- names
digits_bytes : (ds : List ℕ) → Digits ds → Bytes ds
digits_bytes [] h = tt
digits_bytes (b ∷ ds) h =
    let l : b ≤ 0x39 = digit_most b h.0 in (omega arith, digits_bytes ds h.1)

made_bytes : (t : List ℕ) (k : ℕ) → Bytes t → Bytes (made_text t k)
unfolding made_text
made_bytes t k h =
    (omega arith, append_bytes t _ h (omega arith, (omega arith, (omega arith, (omega arith, digits_bytes (digits k) (digits_are k).each)))))

-- the type and the text of the name with index n
ranged_at :
    (xs : List Name) (n : ℕ) →
    Each (λ left x. RangedName x) xs →
    n < length xs →
    (get_or (map (λ x. x.type) xs) n 0 < 256) × Bytes (get_or (map (λ x. x.text) xs) n [])
ranged_at [] n h l = absurd (omega arith)
ranged_at (x ∷ xs) zero h l = (h.0.type, h.0.text)
ranged_at (x ∷ xs) (suc n) h l = ranged_at xs n h.1 (omega arith)

made_names_ranged :
    (r : Record Instr) →
    Each (λ left x. RangedName x) r.names →
    (xs : List NameIx) (k : ℕ) →
    ((j : ℕ) → j < length xs → (get_or xs j (nm 0)).0 < length r.names) →
    Each (λ left x. RangedName x) (made_names r k xs)
unfolding made_names made_name type_in
made_names_ranged r h [] k l = tt
made_names_ranged r h (x ∷ xs) k l =
    let q = ranged_at r.names x.0 h (l 0 (omega arith)) in (
      record { type = q.0; text = made_bytes (get_or (texts r) x.0 []) k q.1 },
      made_names_ranged r h xs (suc k) (λ j m. l (suc j) (omega arith)),
    )

-- ---- a record
pub rewriting_ranged : (r : Record Instr) → RecordOk limits r → Ranged r → Ranged (rewriting r)
unfolding rewriting lvn
rewriting_ranged r h g =
    let a : r.args ≤ length r.names = names_args 256 r.args (length r.names) h.size in
    let n : names_of (function r) ≡ length r.names = length-map r.names (λ x. x.type) in
    record {
      names = each_append RangedName r.names (made_names r 0 (made r)) g.names
          (made_names_ranged r g.names (made r) 0 (made_original r h));
      blocks = blocks_ranged (id_bytes r.version) (length r.blocks) (function r) r.blocks 0 (omega arith) (input_blocks r h)
          g.blocks;
    }
