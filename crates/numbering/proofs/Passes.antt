-- What is written of an instruction and of a block passes the tests of a record with the names made so far.
use Prim.Native.Nat.{ℕ, suc, ◌+◌, ◌*◌, ◌<◌, ◌≤◌}
use mathlib.Core.Path.{◌≡◌, refl, sym, ap, ◌∙◌, subst}
use mathlib.Core.Bool.{Bool, true, false, not, ◌||◌}
use mathlib.Core.List.{List, [], ◌∷◌, ◌++◌, map}
use native.Mathlib.Omega.{arith}
use Rattle.std.proofs.lemmas.List.{nil_from_length}
use lib.ListN.{length, length-append, length-map}
use lib.Dec.{eqb}
use borrow.Author.Tests.{eqb-true, eq-eqb}
use Rattle.arith.proofs.Clash.{clash}
use Rattle.arith.specs.declared.One.TheVariants.{Id}
use Rattle.arith.specs.Value.{Val, int, float, literal, char, bool, pointer}
use Rattle.arith.specs.Operation.{constant, one, two}
use Rattle.arith.specs.Code.{code1, code2}
use Rattle.record.specs.declared.NameIx.{NameIx}
use Rattle.record.specs.declared.Shape.{Shape}
use Rattle.record.specs.declared.Refusal.TheVariants.{Code, Place}
use Rattle.std.specs.Prelude.{Ok}
use Rattle.record.specs.Record.{nm, Instr}
use Rattle.record.specs.Shape.{targets, shape_of, const, value}
use Rattle.record.specs.Form.{Form, pure, new, effect, return, nop, jump, branch, form}
use Rattle.record.specs.Tests.{need, and_then, at_most, code_test, count_test, literal_test}
use Rattle.record.specs.Good.{There, Each, IndexOk, LitOk, ArgsOk, OperandsOk, InstrOk}
use Rattle.record.proofs.Tests.{below_lt, lt_below}
use Rattle.record.proofs.Form.{one_shape, two_shape}
use Rattle.numbering.specs.State.{State, gen_new_vals, home_of}
use Rattle.numbering.specs.Number.{reads, numbered, literal_for, make_const_instr, make_val_instr, rewrite_instr, instr_lvn, block_lvn}
use Rattle.numbering.proofs.Codes.{reads_args, reads_below, instr_original, dest_below, body_originals}
use Rattle.numbering.proofs.Saves.{Saves, no_saves, one_save, Emits, instr_emits, save_of, gen_new_vals_temps, block_temps}
use Rattle.numbering.proofs.Simplified.{Closed}
use Rattle.numbering.proofs.Given.{Seen, gen_seen}
use Rattle.numbering.proofs.Homes.{Homed, home_below, gen_homed}
use Rattle.numbering.proofs.Written.{Written, ConstOk, itself, constant_of, over_one, over_two, EmittedOk, instr_emitted}

-- ---- literals
-- the literal of a constant passes the tests
abbrev pub LiteralOk : Val → Type 0
LiteralOk v = LitOk (literal_for v)

int_passes : (w : ℕ) → LiteralOk (int w)
unfolding at_most literal_test
int_passes w = record { kind = refl; bits = refl }

literal_passes : (w : ℕ) → LiteralOk (literal w)
unfolding at_most literal_test
literal_passes w = record { kind = refl; bits = refl }

bool_passes : (b : Bool) → LiteralOk (bool b)
unfolding at_most literal_test
bool_passes true = record { kind = refl; bits = refl }
bool_passes false = record { kind = refl; bits = refl }

literals_closed : Closed LiteralOk
unfolding at_most literal_test
literals_closed =
    record { ints = λ w l. int_passes w; bools = bool_passes; pointers = λ t b o. record { kind = refl; bits = refl } }

-- a value that is numbered
numbered_passes : (v : Val) → numbered v ≡ true → LiteralOk v
unfolding numbered
numbered_passes (int w) e = int_passes w
numbered_passes (float b) e = clash (cc)
numbered_passes (literal w) e = literal_passes w
numbered_passes (char c) e = clash (cc)
numbered_passes (bool b) e = bool_passes b
numbered_passes (pointer t b o) e = clash (cc)

const_literal : (f : Form) → ConstOk LiteralOk f
const_literal (pure (constant v)) = numbered_passes v
const_literal (pure (one o a)) = tt
const_literal (pure (two o a b)) = tt
const_literal (new xs) = tt
const_literal (effect xs) = tt
const_literal (return xs) = tt
const_literal nop = tt
const_literal (jump b) = tt
const_literal (branch a b c) = tt

-- ---- codes
later_test :
    (k l b b' : Bool) →
    and_then (need k Code) (need (b || not l) Place) ≡ Ok tt →
    (b ≡ true → b' ≡ true) →
    and_then (need k Code) (need (b' || not l) Place) ≡ Ok tt
later_test true l true b' e f = rw (f refl)
later_test true l false true e f = refl
later_test true l false false e f = e
later_test false l b b' e f = clash (cc)

-- a code stays in its place where the last place stays the last
later_code : (c left left' : ℕ) → code_test (eqb left 0) c ≡ Ok tt → (left ≡ 0 → left' ≡ 0) → code_test (eqb left' 0) c ≡ Ok tt
unfolding code_test
later_code c left left' e f =
    later_test (shape_of c).known (shape_of c).last (eqb left 0) (eqb left' 0) e (λ q. eq-eqb left' 0 (f (eqb-true left 0 q)))

code_anywhere : (c : ℕ) (b : Bool) → (shape_of c).known ≡ true → (shape_of c).last ≡ false → code_test b c ≡ Ok tt
unfolding code_test
code_anywhere c true k l = rw k
code_anywhere c false k l = rw (k, l)

pub const_shape : shape_of 0 ≡ const
unfolding shape_of
const_shape = refl

-- ---- instructions that pass
const_passes : (M B left : ℕ) (i : Instr) (v : Val) → i.dest.0 < M → LiteralOk v → InstrOk M B left (make_const_instr i v)
const_passes M B left i v l h =
    record {
      code = code_anywhere 0 (eqb left 0) (ap (λ (sh : Shape). sh.known) const_shape) (ap (λ (sh : Shape). sh.last) const_shape);
      rest = subst (λ (sh : Shape). OperandsOk M B sh (make_const_instr i v)) (sym const_shape)
          (record { dest = lt_below M i.dest.0 l; lit = h; args = refl; callee = refl; targets = refl; blocks = tt });
    }

-- an operator of n arguments; every operator's id and dest come from some i
pub value_passes :
    (M B left n : ℕ) (i : Instr) (c : ℕ) (xs : List NameIx) →
    shape_of c ≡ value n →
    count_test (value n) (length xs) ≡ Ok tt →
    i.dest.0 < M →
    Each (λ left x. IndexOk M x) xs →
    InstrOk M B left (make_val_instr i c xs)
value_passes M B left n i c xs e k l h =
    record {
      code = code_anywhere c (eqb left 0) (ap (λ (sh : Shape). sh.known) e) (ap (λ (sh : Shape). sh.last) e);
      rest = subst (λ (sh : Shape). OperandsOk M B sh (make_val_instr i c xs)) (sym e)
          (record {
            dest = lt_below M i.dest.0 l;
            lit = refl;
            args = record { count = k; each = h };
            callee = refl;
            targets = refl;
            blocks = tt;
          });
    }

count_one : count_test (value 1) 1 ≡ Ok tt
unfolding count_test
count_one = refl

count_two : count_test (value 2) 2 ≡ Ok tt
unfolding count_test
count_two = refl

-- the save of an instruction
pub save_passes : (N M B left id : ℕ) (x : NameIx) (k : ℕ) → x.0 < M → N + k < M → InstrOk M B left (save_of N id x k)
save_passes N M B left id x k l h =
    value_passes M B left 1 (save_of N id x k) (code1 Id) (x ∷ []) (one_shape Id) count_one h (lt_below M x.0 l, tt)

-- ---- the instruction with its arguments replaced
there_index : (N M : ℕ) (x : NameIx) (b : Bool) → N ≤ M → There b (IndexOk N) (nm 0) x → There b (IndexOk M) (nm 0) x
there_index N M x true l h = let k : x.0 < N = below_lt N x.0 h in lt_below M x.0 (omega arith)
there_index N M x false l h = h

args_replaced :
    (N M : ℕ) (sh : Shape) (xs ys : List NameIx) (b : Bool) →
    length ys ≡ length xs →
    Each (λ left x. IndexOk M x) ys →
    There b (ArgsOk N sh) [] xs →
    There b (ArgsOk M sh) [] ys
args_replaced N M sh xs ys true e h p = record { count = rw e p.count; each = h }
args_replaced N M sh xs ys false e h p = nil_from_length ys (e ∙ ap length p)

homes_ok :
    (N M : ℕ) (s : State) (xs : List NameIx) →
    Homed LiteralOk N s →
    N + s.temps ≤ M →
    Each (λ left x. Seen s x) xs →
    Each (λ left x. IndexOk M x) (map (home_of s) xs)
homes_ok N M s [] h l p = tt
homes_ok N M s (x ∷ xs) h l p =
    let b : (home_of s x).0 < N + s.temps = home_below LiteralOk N s x h p.0 in
    (lt_below M (home_of s x).0 (omega arith), homes_ok N M s xs h l p.1)

abbrev pub with_args : Instr → List NameIx → Instr
with_args i ys =
    record { id = i.id; code = i.code; dest = i.dest; lit = i.lit; args = ys; callee = i.callee; blocks = i.blocks }

replaced_passes :
    (N M B left left' : ℕ) (i : Instr) (ys : List NameIx) →
    N ≤ M →
    (left ≡ 0 → left' ≡ 0) →
    length ys ≡ length i.args →
    Each (λ left x. IndexOk M x) ys →
    InstrOk N B left i →
    InstrOk M B left' (with_args i ys)
replaced_passes N M B left left' i ys l f e h p =
    let sh = shape_of i.code in
    record {
      code = later_code i.code left left' p.code f;
      rest = record {
        dest = there_index N M i.dest sh.dest l p.rest.dest;
        lit = p.rest.lit;
        args = args_replaced N M sh i.args ys (not sh.literal) e h p.rest.args;
        callee = p.rest.callee;
        targets = ap (targets sh) e ∙ p.rest.targets;
        blocks = p.rest.blocks;
      };
    }

written_wider : (L M : ℕ) (i k : Instr) → L ≤ M → Written LiteralOk L i k → Written LiteralOk M i k
written_wider L M i k l itself = itself
written_wider L M i k l (constant_of v w) = constant_of v w
written_wider L M i k l (over_one o {a = a} w) = over_one o {a = a} (omega arith)
written_wider L M i k l (over_two o {a = a} {b = b} w v) = over_two o {a = a} {b = b} (omega arith) (omega arith)

-- whatever is written of i, where dest is a name if it is there
written_passes :
    (N M B left left' : ℕ) (i : Instr) (ys : List NameIx) (k : Instr) →
    N ≤ M →
    (left ≡ 0 → left' ≡ 0) →
    length ys ≡ length i.args →
    Each (λ left x. IndexOk M x) ys →
    InstrOk N B left i →
    (shape_of k.code).dest ≡ (shape_of i.code).dest →
    Written LiteralOk M (with_args i ys) k →
    InstrOk M B left' k
written_passes N M B left left' i ys k l f e h p d itself = replaced_passes N M B left left' i ys l f e h p
written_passes N M B left left' i ys k l f e h p d (constant_of v w) =
    let b : i.dest.0 < N = dest_below N B left i p (sym d ∙ ap (λ (sh : Shape). sh.dest) const_shape) in
    const_passes M B left' (with_args i ys) v (omega arith) w
written_passes N M B left left' i ys k l f e h p d (over_one o {a = a} w) =
    let b : i.dest.0 < N = dest_below N B left i p (sym d ∙ ap (λ (sh : Shape). sh.dest) (one_shape o)) in
    value_passes M B left' 1 (with_args i ys) (code1 o) (a ∷ []) (one_shape o) count_one (omega arith) (lt_below M a.0 w, tt)
written_passes N M B left left' i ys k l f e h p d (over_two o {a = a} {b = c} w v) =
    let b : i.dest.0 < N = dest_below N B left i p (sym d ∙ ap (λ (sh : Shape). sh.dest) (two_shape o)) in
    value_passes M B left' 2 (with_args i ys) (code2 o) (a ∷ c ∷ []) (two_shape o) count_two (omega arith)
    (lt_below M a.0 w, (lt_below M c.0 v, tt))

-- ---- one instruction
pub saves_count : {N id : ℕ} {x : NameIx} {k k' : ℕ} {ss : List Instr} → Saves N id x k ss k' → k' ≡ k + length ss
saves_count no_saves = omega arith
saves_count (one_save l) = omega arith

pub saves_one : {N id : ℕ} {x : NameIx} {k k' : ℕ} {ss : List Instr} → Saves N id x k ss k' → length ss ≤ 1
saves_one no_saves = omega arith
saves_one (one_save l) = omega arith

module _ (N B left : ℕ) (t : NameIx → ℕ) (s : State) (i : Instr) (h : Homed LiteralOk N s) (p : InstrOk N B left i) where
  pub instr_literals :
      EmittedOk LiteralOk N (rewrite_instr (gen_new_vals s (reads (form t i))) (reads (form t i)) i) (instr_lvn N t s i)
  instr_literals = instr_emitted LiteralOk literals_closed N B left t s i h p (const_literal (form t i))

  emits : Emits N s.temps i (instr_lvn N t s i)
  emits = instr_emits N t s i (instr_original N B left t i p)

  pub instr_passes :
      (M left' : ℕ) → N + (instr_lvn N t s i).state.temps ≤ M → (left ≡ 0 → left' ≡ 0) → InstrOk M B left' (instr_lvn N t s i).instr
  instr_passes M left' l f =
      let xs = reads (form t i) in
      let seen = gen_new_vals s xs in
      let a : xs ≡ i.args = reads_args N B left t i p in
      let k : seen.temps ≡ s.temps = gen_new_vals_temps s xs in
      let c : (instr_lvn N t s i).state.temps ≡ s.temps + length (instr_lvn N t s i).saves = saves_count emits.saves in
      written_passes N M B left left' i (map (home_of seen) xs) (instr_lvn N t s i).instr (omega arith) f
      (length-map xs (home_of seen) ∙ ap length a)
      (homes_ok N M seen xs (gen_homed LiteralOk N s xs h (reads_below N B left t i p)) (omega arith) (gen_seen s xs))
      p
      emits.has_dest
      (written_wider _ M _ _ l instr_literals.written)

-- ---- a block
each_emitted :
    {N id : ℕ} {x : NameIx} {k k' : ℕ} {ss : List Instr} (M B : ℕ) (i : Instr) (is : List Instr) →
    N + k' ≤ M →
    Saves N id x k ss k' →
    InstrOk M B (length is) i →
    Each (InstrOk M B) is →
    Each (InstrOk M B) (ss ++ (i ∷ is))
each_emitted M B i is l no_saves p h = (p, h)
each_emitted {N = N} {id = id} {x = x} {k = k} M B i is l (one_save b) p h =
    (save_passes N M B (suc (length is)) id x k (omega arith) (omega arith), (p, h))

nothing_behind : (N : ℕ) (t : NameIx → ℕ) (s : State) (is : List Instr) → length is ≡ 0 → length (block_lvn N t s is).body ≡ 0
unfolding block_lvn
nothing_behind N t s [] e = refl
nothing_behind N t s (i ∷ is) e = absurd (omega arith)

pub block_passes :
    (N B M : ℕ) (t : NameIx → ℕ) (is : List Instr) (s : State) →
    Homed LiteralOk N s →
    Each (InstrOk N B) is →
    N + (block_lvn N t s is).temps ≤ M →
    Each (InstrOk M B) (block_lvn N t s is).body
unfolding block_lvn
block_passes N B M t [] s h p l = tt
block_passes N B M t (i ∷ is) s h p l =
    let e = instr_lvn N t s i in
    let rest = block_lvn N t e.state is in
    let c = block_temps N t is e.state (body_originals N B t is p.1) in
    let w = instr_emits N t s i (instr_original N B (length is) t i p.0) in
    each_emitted M B e.instr rest.body (omega arith) w.saves
    (instr_passes N B (length is) t s i h p.0 M (length rest.body) (omega arith) (nothing_behind N t e.state is))
    (block_passes N B M t is e.state (instr_literals N B (length is) t s i h p.0).homed p.1 l)

-- at most one save for each instruction, in K and in what is written
pub block_few :
    (N B : ℕ) (t : NameIx → ℕ) (is : List Instr) (s : State) →
    Each (InstrOk N B) is →
    ((block_lvn N t s is).temps ≤ s.temps + length is) × (length (block_lvn N t s is).body ≤ 2 * length is)
unfolding block_lvn
block_few N B t [] s p = (omega arith, omega arith)
block_few N B t (i ∷ is) s p =
    let e = instr_lvn N t s i in
    let w = instr_emits N t s i (instr_original N B (length is) t i p.0) in
    let c = saves_count w.saves in
    let o = saves_one w.saves in
    let h = block_few N B t is e.state p.1 in
    let a = length-append e.saves (e.instr ∷ (block_lvn N t e.state is).body) in
    (omega arith, omega arith)
