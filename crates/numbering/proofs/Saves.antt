-- What the rewriting of an instruction and of a block writes: at most one save before each instruction, and the instruction under its own
-- id and dest. The saves make the names N + K, N + K + 1, .. in order. Only the definitions of the rewriting are used.
use Prim.Native.Nat.{ℕ, suc, ◌+◌, ◌<◌}
use mathlib.Core.Path.{◌≡◌, refl, sym, ◌∙◌, subst, ap}
use mathlib.Core.Bool.{Bool, true, false, true≢false}
use mathlib.Core.List.{List, [], ◌∷◌, ◌++◌}
use mathlib.Core.Option.{Option, none, some}
use native.Mathlib.Omega.{arith}
use borrow.Author.Tests.{le-leb, lt-leb}
use Rattle.arith.specs.declared.One.{One}
use Rattle.arith.specs.declared.One.TheVariants.{Id}
use Rattle.arith.specs.declared.Two.{Two}
use Rattle.arith.specs.Code.{code1, code2}
use Rattle.arith.specs.Value.{Val}
use Rattle.arith.specs.Operation.{Expr, constant, one, two}
use Rattle.record.specs.declared.NameIx.{NameIx}
use Rattle.record.specs.Record.{nm, no_lit, Instr, arg}
use Rattle.record.specs.declared.Shape.{Shape}
use Rattle.record.specs.Shape.{shape_of}
use Rattle.record.specs.Form.{Form, pure, new, effect, return, nop, jump, branch, form}
use Rattle.record.proofs.Form.{one_shape, two_shape}
use Rattle.numbering.specs.declared.ValNum.{ValNum}
use Rattle.numbering.specs.State.{State, new_number, update_env, rehome, see_at, see, gen_new_vals, known}
use Rattle.numbering.specs.Number.{reads, make_val, make_const_instr, make_id_instr, val_to_instr, rewrite_instr, Saved, save, handle_overwrite, get_val_num, Emitted, unchanged, number_dest, place, by_form, instr_lvn, block_lvn, is_save, count_saves}
use Rattle.numbering.proofs.Overwritten.{Overwritten, kept, moved, overwritten}

-- ---- codes of what is written
code1_dest : (o : One) → (shape_of (code1 o)).dest ≡ true
code1_dest o = ap (λ (sh : Shape). sh.dest) (one_shape o)

code2_dest : (o : Two) → (shape_of (code2 o)).dest ≡ true
code2_dest o = ap (λ (sh : Shape). sh.dest) (two_shape o)

const_dest : (shape_of 0).dest ≡ true
unfolding shape_of
const_dest = refl

-- ---- the save of an instruction
-- `_x_lvnK = id x` under an id, K = k
abbrev pub save_of : ℕ → ℕ → NameIx → ℕ → Instr
save_of N id x k = record { id = id; code = code1 Id; dest = nm (N + k); lit = no_lit; args = x ∷ []; callee = 0; blocks = [] }

-- no save and the same K, or the save of an original name and the next K
pub data Saves (N id : ℕ) (x : NameIx) (k : ℕ) : List Instr → ℕ → Type 0 where
  no_saves : Saves N id x k [] k
  one_save : x.0 < N → Saves N id x k (save_of N id x k ∷ []) (suc k)

abbrev SavesOf : ℕ → Instr → ℕ → Saved → Type 0
SavesOf N i k q = Saves N i.id i.dest k q.saves q.state.temps

overwritten_saves : (N : ℕ) (s : State) (i : Instr) (q : Saved) → Overwritten N s i q → i.dest.0 < N → SavesOf N i s.temps q
unfolding save rehome
overwritten_saves N s i q kept l = no_saves
overwritten_saves N s i q (moved v) l = one_save l

overwrite_saves :
    (N : ℕ) (s : State) (i : Instr) (e : Option (Expr ValNum)) →
    i.dest.0 < N →
    SavesOf N i s.temps (handle_overwrite N s i e)
overwrite_saves N s i e l = overwritten_saves N s i (handle_overwrite N s i e) (overwritten N s i e) l

-- ---- what is written of an instruction
-- under i's id and dest, with a code that has a dest
record Valued (i k : Instr) : Type 0 where
  id : k.id ≡ i.id
  dest : k.dest ≡ i.dest
  code : (shape_of k.code).dest ≡ true

const_valued : (i : Instr) (v : Val) → Valued i (make_const_instr i v)
const_valued i v = record { id = refl; dest = refl; code = const_dest }

id_valued : (s : State) (i : Instr) (v : ValNum) (c : Option Val) → Valued i (make_id_instr c s i v)
id_valued s i v (some c) = const_valued i c
id_valued s i v none = record { id = refl; dest = refl; code = code1_dest Id }

expr_valued : (s : State) (i : Instr) (e : Expr ValNum) → Valued i (val_to_instr s i e)
unfolding val_to_instr
expr_valued s i (constant v) = const_valued i v
expr_valued s i (one o a) = record { id = refl; dest = refl; code = code1_dest o }
expr_valued s i (two o a b) = record { id = refl; dest = refl; code = code2_dest o }

-- k: K before it. An instruction without a dest has no save
pub record Emits (N k : ℕ) (i : Instr) (e : Emitted) : Type 0 where
  pub saves : Saves N i.id i.dest k e.saves e.state.temps
  pub id : e.instr.id ≡ i.id
  pub dest : e.instr.dest ≡ i.dest
  pub has_dest : (shape_of e.instr.code).dest ≡ (shape_of i.code).dest
  pub unsaved : (shape_of i.code).dest ≡ false → e.saves ≡ []

valued_emits :
    (N k : ℕ) (i : Instr) (e : Emitted) →
    (shape_of i.code).dest ≡ true →
    Saves N i.id i.dest k e.saves e.state.temps →
    Valued i e.instr →
    Emits N k i e
valued_emits N k i e h s w =
    record {
      saves = s;
      id = w.id;
      dest = w.dest;
      has_dest = w.code ∙ sym h;
      unsaved = λ n. absurd (true≢false (sym h ∙ n));
    }

number_emits :
    (N k : ℕ) (q : Saved) (i : Instr) (e : Expr ValNum) (written : Instr) (o : Option ValNum) →
    (shape_of i.code).dest ≡ true →
    SavesOf N i k q →
    Valued i written →
    Emits N k i (number_dest q i e written o)
unfolding number_dest new_number update_env
number_emits N k q i e written none h s w = valued_emits N k i (number_dest q i e written none) h s w
number_emits N k q i e written (some v) h s w =
    valued_emits N k i (number_dest q i e written (some v)) h s (id_valued q.state i v (known q.state v))

place_emits :
    (N : ℕ) (s : State) (i : Instr) (e : Option (Expr ValNum)) →
    (shape_of i.code).dest ≡ true →
    i.dest.0 < N →
    Emits N s.temps i (place N s i e)
unfolding place new_number
place_emits N s i none h l =
    valued_emits N s.temps i (place N s i none) h (overwrite_saves N s i none l) (record { id = refl; dest = refl; code = h })
place_emits N s i (some e) h l =
    let q = handle_overwrite N s i (some e) in
    number_emits N s.temps q i e (val_to_instr s i e) (get_val_num q.state e) h (overwrite_saves N s i (some e) l) (expr_valued s i e)

unchanged_emits : (N : ℕ) (s : State) (i : Instr) → Emits N s.temps i (unchanged s i)
unchanged_emits N s i = record { saves = no_saves; id = refl; dest = refl; has_dest = refl; unsaved = λ n. refl }

-- an instruction of an input: its code has a dest, d, where its form gives a value, and its dest x is an original name then
abbrev pub Dests : ℕ → Bool → NameIx → Form → Type 0
Dests N d x (pure e) = (d ≡ true) × (x.0 < N)
Dests N d x (new xs) = (d ≡ true) × (x.0 < N)
Dests N d x (effect xs) = d ≡ false
Dests N d x (return xs) = d ≡ false
Dests N d x nop = d ≡ false
Dests N d x (jump b) = d ≡ false
Dests N d x (branch a b c) = d ≡ false

abbrev pub Original : ℕ → (NameIx → ℕ) → Instr → Type 0
Original N t i = Dests N (shape_of i.code).dest i.dest (form t i)

abbrev pub Originals : ℕ → (NameIx → ℕ) → List Instr → Type 0
Originals N t [] = Unit {0}
Originals N t (i ∷ is) = Original N t i × Originals N t is

form_emits :
    (N : ℕ) (s : State) (i : Instr) (f : Form) →
    Dests N (shape_of i.code).dest i.dest f →
    Emits N s.temps i (by_form N s i f)
unfolding by_form
form_emits N s i (pure e) h = place_emits N s i (make_val s e) h.0 h.1
form_emits N s i (new xs) h = place_emits N s i none h.0 h.1
form_emits N s i (effect xs) h = unchanged_emits N s i
form_emits N s i (return xs) h = unchanged_emits N s i
form_emits N s i nop h = unchanged_emits N s i
form_emits N s i (jump b) h = unchanged_emits N s i
form_emits N s i (branch a b c) h = unchanged_emits N s i

-- ---- numbering unseen arguments leaves K
see_temps : (s : State) (x : NameIx) (o : Option ValNum) → (see_at s x o).temps ≡ s.temps
unfolding new_number
see_temps s x none = refl
see_temps s x (some v) = refl

pub gen_new_vals_temps : (s : State) (xs : List NameIx) → (gen_new_vals s xs).temps ≡ s.temps
unfolding gen_new_vals see
gen_new_vals_temps s [] = refl
gen_new_vals_temps s (x ∷ xs) = gen_new_vals_temps (see s x) xs ∙ see_temps s x (s.env x)

-- the same of i and of i with other arguments
emits_args : (N k : ℕ) (s : State) (xs : List NameIx) (i : Instr) (e : Emitted) → Emits N k (rewrite_instr s xs i) e → Emits N k i e
emits_args N k s xs i e w =
    record { saves = w.saves; id = w.id; dest = w.dest; has_dest = w.has_dest; unsaved = w.unsaved }

pub instr_emits : (N : ℕ) (t : NameIx → ℕ) (s : State) (i : Instr) → Original N t i → Emits N s.temps i (instr_lvn N t s i)
unfolding instr_lvn
instr_emits N t s i h =
    let xs = reads (form t i) in
    let seen = gen_new_vals s xs in
    subst (λ k. Emits N k i (instr_lvn N t s i)) (gen_new_vals_temps s xs)
    (emits_args N seen.temps seen xs i (instr_lvn N t s i) (form_emits N seen (rewrite_instr seen xs i) (form t i) h))

-- ---- saves and the others
pub save_is_save : (N id : ℕ) (x : NameIx) (k : ℕ) → is_save N (save_of N id x k) ≡ true
unfolding is_save
save_is_save N id x k = rw (code1_dest Id, le-leb N (N + k) (omega arith))

-- an instruction with no dest, or with an original one
no_save_where : (N : ℕ) (i : Instr) (d : Bool) → (shape_of i.code).dest ≡ d → (d ≡ true → i.dest.0 < N) → is_save N i ≡ false
unfolding is_save
no_save_where N i true e h = rw (e, lt-leb N i.dest.0 (h refl))
no_save_where N i false e h = rw e

dests_below : (N : ℕ) (d : Bool) (x : NameIx) (f : Form) → Dests N d x f → d ≡ true → x.0 < N
dests_below N d x (pure e) h y = h.1
dests_below N d x (new xs) h y = h.1
dests_below N d x (effect xs) h y = absurd (true≢false (sym y ∙ h))
dests_below N d x (return xs) h y = absurd (true≢false (sym y ∙ h))
dests_below N d x nop h y = absurd (true≢false (sym y ∙ h))
dests_below N d x (jump b) h y = absurd (true≢false (sym y ∙ h))
dests_below N d x (branch a b c) h y = absurd (true≢false (sym y ∙ h))

-- what is written of an instruction itself is no save
pub emitted_no_save : (N k : ℕ) (t : NameIx → ℕ) (i : Instr) (e : Emitted) → Original N t i → Emits N k i e → is_save N e.instr ≡ false
emitted_no_save N k t i e h w =
    no_save_where N e.instr (shape_of i.code).dest w.has_dest
    (λ y. subst (λ x. x.0 < N) (sym w.dest) (dests_below N (shape_of i.code).dest i.dest (form t i) h y))

-- ---- the names that a list makes
-- its saves make N + k, N + k + 1, .. in order, each of an original name
pub data Makes (N : ℕ) : ℕ → List Instr → Type 0 where
  no_more : {k : ℕ} → Makes N k []
  a_save :
      {k : ℕ} {i : Instr} {is : List Instr} →
      is_save N i ≡ true →
      i.dest ≡ nm (N + k) →
      (arg i 0).0 < N →
      Makes N (suc k) is →
      Makes N k (i ∷ is)
  another : {k : ℕ} {i : Instr} {is : List Instr} → is_save N i ≡ false → Makes N k is → Makes N k (i ∷ is)

emitted_makes :
    (N : ℕ) {id : ℕ} {x : NameIx} {k k' : ℕ} {ss : List Instr} (i : Instr) (is : List Instr) →
    Saves N id x k ss k' →
    is_save N i ≡ false →
    Makes N k' is →
    Makes N k (ss ++ (i ∷ is))
emitted_makes N i is no_saves h m = another h m
emitted_makes N {id = id} {x = x} {k = k} i is (one_save l) h m = a_save (save_is_save N id x k) refl l (another h m)

pub block_makes :
    (N : ℕ) (t : NameIx → ℕ) (is : List Instr) (s : State) → Originals N t is → Makes N s.temps (block_lvn N t s is).body
unfolding block_lvn
block_makes N t [] s h = no_more
block_makes N t (i ∷ is) s h =
    let e = instr_lvn N t s i in
    let w = instr_emits N t s i h.0 in
    emitted_makes N e.instr (block_lvn N t e.state is).body w.saves (emitted_no_save N s.temps t i e h.0 w)
    (block_makes N t is e.state h.1)

-- ---- K counts the saves
emitted_count :
    (N : ℕ) {id : ℕ} {x : NameIx} {k k' : ℕ} {ss : List Instr} (i : Instr) (is : List Instr) (n : ℕ) →
    Saves N id x k ss k' →
    is_save N i ≡ false →
    n ≡ k' + count_saves N is →
    n ≡ k + count_saves N (ss ++ (i ∷ is))
unfolding count_saves
emitted_count N {k = k} i is n no_saves h e = rw h (omega arith)
emitted_count N {id = id} {x = x} {k = k} i is n (one_save l) h e = rw (h, save_is_save N id x k) (omega arith)

pub block_temps :
    (N : ℕ) (t : NameIx → ℕ) (is : List Instr) (s : State) →
    Originals N t is →
    (block_lvn N t s is).temps ≡ s.temps + count_saves N (block_lvn N t s is).body
unfolding block_lvn count_saves
block_temps N t [] s h = omega arith
block_temps N t (i ∷ is) s h =
    let e = instr_lvn N t s i in
    let w = instr_emits N t s i h.0 in
    let rest = block_lvn N t e.state is in
    emitted_count N e.instr rest.body rest.temps w.saves (emitted_no_save N s.temps t i e h.0 w)
    (block_temps N t is e.state h.1)
