-- The numbers of names in a block are given ones, below the next, and so is what is found for a value over such numbers. Every step keeps
-- this, whatever the instructions are.
use Prim.Native.Nat.{ℕ, zero, suc, ◌+◌, ◌<◌, ◌≤◌}
use mathlib.Core.Path.{◌≡◌, refl, sym, ap, subst}
use mathlib.Core.Bool.{Bool, true, false, cond}
use mathlib.Core.List.{List, [], ◌∷◌}
use mathlib.Core.Option.{Option, none, some, get_or}
use native.Mathlib.Omega.{arith}
use lib.Dec.{ltb}
use borrow.Author.Tests.{ltb-true}
use Rattle.arith.proofs.Clash.{clash}
use Rattle.arith.specs.declared.One.TheVariants.{Not, Id}
use Rattle.arith.specs.Value.{Val}
use Rattle.arith.specs.Operation.{Expr, constant, one, two}
use Rattle.arith.proofs.Map.{upd_same, upd_ind}
use Rattle.record.specs.declared.NameIx.{NameIx}
use Rattle.record.specs.Record.{NameIx-discrete, Instr}
use Rattle.record.specs.Form.{Form, pure, new, effect, return, nop, jump, branch, form}
use Rattle.record.specs.Good.{Each}
use Rattle.numbering.specs.declared.ValNum.{ValNum}
use Rattle.numbering.specs.State.{vn, State, start, new_number, update_env, rehome, see_at, see, gen_new_vals, number_of, known}
use Rattle.numbering.specs.Number.{operands, reads, numbered, make_val, val_to_instr, rewrite_instr, Saved, save, handle_overwrite, same_expr, find, get_val_num, number_dest, place, by_form, instr_lvn}
use Rattle.numbering.specs.Shared.{behind}
use Rattle.numbering.proofs.Overwritten.{Overwritten, kept, moved, overwritten, overwritten_next}
use Rattle.numbering.proofs.Simplified.{Closed, OptionOk, ExprOk, MaybeOk, simplify_ok}

abbrev pub Numbers : State → Type 0
Numbers s = (x : NameIx) (v : ValNum) → s.env x ≡ some v → v.0 < s.next

-- ---- the start
start_number : (b : Bool) (w v : ValNum) → cond b (some w) none ≡ some v → (b ≡ true) × (w ≡ v)
start_number true w v e = (refl, cc)
start_number false w v e = clash (cc)

pub start_numbers : (A k : ℕ) → Numbers (start A k)
unfolding start
start_numbers A k x v e =
    let q = start_number (ltb x.0 A) (vn x.0) v e in
    let l : x.0 < A = ltb-true x.0 A q.0 in
    let m : x.0 ≡ v.0 = ap (λ (w : ValNum). w.0) q.1 in
    omega arith

-- ---- a number is given or taken
new_below : (n : ℕ) (v : ValNum) → some (vn n) ≡ some v → v.0 < suc n
new_below n v e =
    let q : vn n ≡ v = cc in
    let m : n ≡ v.0 = ap (λ (w : ValNum). w.0) q in
    omega arith

pub new_numbers : (s : State) (x : NameIx) (e : Option (Expr ValNum)) → Numbers s → Numbers (new_number s x e)
unfolding new_number
new_numbers s x e h y v =
    upd_ind NameIx-discrete s.env x (some (vn s.next)) y (λ (o : Option ValNum). o ≡ some v → v.0 < suc s.next)
    (λ p q. new_below s.next v q)
    (λ p q. let b : v.0 < s.next = h y v q in omega arith)

pub taken_numbers : (s : State) (x : NameIx) (v : ValNum) → Numbers s → v.0 < s.next → Numbers (update_env s x v)
unfolding update_env
taken_numbers s x v h l y w =
    upd_ind NameIx-discrete s.env x (some v) y (λ (o : Option ValNum). o ≡ some w → w.0 < s.next)
    (λ p q. let m : v.0 ≡ w.0 = ap (λ (u : ValNum). u.0) (same v w q) in omega arith)
    (λ p q. h y w q)
  where
    same : (v w : ValNum) → some v ≡ some w → v ≡ w
    same v w q = cc

-- ---- seen names
abbrev pub Given : Option ValNum → Type 0
Given none = ⊥
Given (some v) = Unit {0}

-- x has a number
abbrev pub Seen : State → NameIx → Type 0
Seen s x = Given (s.env x)

given_below : (n : ℕ) (o : Option ValNum) → Given o → ((v : ValNum) → o ≡ some v → v.0 < n) → (get_or o (vn 0)).0 < n
given_below n none p h = absurd p
given_below n (some v) p h = h v refl

pub number_below : (s : State) (x : NameIx) → Numbers s → Seen s x → (number_of s x).0 < s.next
unfolding number_of
number_below s x h p = given_below s.next (s.env x) p (h x)

see_at_seen : (s : State) (x : NameIx) (o : Option ValNum) → s.env x ≡ o → Seen (see_at s x o) x
unfolding new_number
see_at_seen s x none e = subst Given (sym (upd_same NameIx-discrete s.env x (some (vn s.next)) x refl)) tt
see_at_seen s x (some v) e = subst Given (sym e) tt

see_at_keeps : (s : State) (x y : NameIx) (o : Option ValNum) → Seen s x → Seen (see_at s y o) x
unfolding new_number
see_at_keeps s x y none p = upd_ind NameIx-discrete s.env y (some (vn s.next)) x Given (λ q. tt) (λ q. p)
see_at_keeps s x y (some v) p = p

pub gen_keeps : (s : State) (xs : List NameIx) (x : NameIx) → Seen s x → Seen (gen_new_vals s xs) x
unfolding gen_new_vals see
gen_keeps s [] x p = p
gen_keeps s (y ∷ xs) x p = gen_keeps (see s y) xs x (see_at_keeps s x y (s.env y) p)

pub gen_seen : (s : State) (xs : List NameIx) → Each (λ left x. Seen (gen_new_vals s xs) x) xs
unfolding gen_new_vals see
gen_seen s [] = tt
gen_seen s (x ∷ xs) = (gen_keeps (see s x) xs x (see_at_seen s x (s.env x) refl), gen_seen (see s x) xs)

see_at_numbers : (s : State) (x : NameIx) (o : Option ValNum) → Numbers s → Numbers (see_at s x o)
see_at_numbers s x none h = new_numbers s x none h
see_at_numbers s x (some v) h = h

pub gen_numbers : (s : State) (xs : List NameIx) → Numbers s → Numbers (gen_new_vals s xs)
unfolding gen_new_vals see
gen_numbers s [] h = h
gen_numbers s (x ∷ xs) h = gen_numbers (see s x) xs (see_at_numbers s x (s.env x) h)

-- ---- the number of a value
abbrev pub Below : ℕ → Option ValNum → Type 0
Below n none = Unit {0}
Below n (some v) = v.0 < n

cond_below : (n : ℕ) (b : Bool) (x y : Option ValNum) → Below n x → Below n y → Below n (cond b x y)
cond_below n true x y p q = p
cond_below n false x y p q = q

find_below : (vals : ValNum → Option (Expr ValNum)) (e : Expr ValNum) (i n m : ℕ) → i + n ≤ m → Below m (find vals e i n)
unfolding find
find_below vals e i zero m h = tt
find_below vals e i (suc n) m h =
    cond_below m (same_expr (vals (vn i)) (some e)) (some (vn i)) (find vals e (suc i) n)
    (omega arith)
    (find_below vals e (suc i) n m (omega arith))

pub get_val_num_below : (P : Val → Type 0) (s : State) (e : Expr ValNum) → ExprOk P s.next e → Below s.next (get_val_num s e)
unfolding get_val_num
get_val_num_below P s (constant v) h = find_below s.vals (constant v) 0 s.next s.next (omega arith)
get_val_num_below P s (one Not a) h = find_below s.vals (one Not a) 0 s.next s.next (omega arith)
get_val_num_below P s (one Id a) h = h
get_val_num_below P s (two o a b) h = find_below s.vals (two o a b) 0 s.next s.next (omega arith)

-- ---- one instruction
-- of constants nothing is asked
abbrev pub Any : Val → Type 0
Any v = Unit {0}

pub any_closed : Closed Any
any_closed = record { ints = λ w l. tt; bools = λ b. tt; pointers = λ t b o. tt }

pub any_known : (x : Option Val) → OptionOk Any x
any_known none = tt
any_known (some v) = tt

value_below : (s : State) (e : Expr NameIx) → Numbers s → Each (λ left x. Seen s x) (operands e) → MaybeOk Any s.next (make_val s e)
unfolding make_val
value_below s (constant v) h p = go (numbered v)
  where
    go : (b : Bool) → MaybeOk Any s.next (cond b (some (constant v)) none)
    go true = tt
    go false = tt
value_below s (one o a) h p =
    simplify_ok Any any_closed s.next (known s) (λ v. any_known (known s v)) (one o (number_of s a)) (number_below s a h p.0)
value_below s (two o a b) h p =
    simplify_ok Any any_closed s.next (known s) (λ v. any_known (known s v)) (two o (number_of s a) (number_of s b))
    (number_below s a h p.0, number_below s b h p.1.0)

overwritten_numbers : (N : ℕ) (s : State) (i : Instr) (q : Saved) → Overwritten N s i q → Numbers s → Numbers q.state
unfolding save rehome
overwritten_numbers N s i q kept h = h
overwritten_numbers N s i q (moved v) h = h

dest_numbers :
    (q : Saved) (i : Instr) (e : Expr ValNum) (w : Instr) (o : Option ValNum) →
    Numbers q.state →
    Below q.state.next o →
    Numbers (number_dest q i e w o).state
unfolding number_dest
dest_numbers q i e w none h b = new_numbers q.state i.dest (some e) h
dest_numbers q i e w (some v) h b = taken_numbers q.state i.dest v h b

place_numbers :
    (N : ℕ) (s : State) (i : Instr) (o : Option (Expr ValNum)) → Numbers s → MaybeOk Any s.next o → Numbers (place N s i o).state
unfolding place
place_numbers N s i none h m =
    let q = handle_overwrite N s i none in
    new_numbers q.state i.dest none (overwritten_numbers N s i q (overwritten N s i none) h)
place_numbers N s i (some e) h m =
    let q = handle_overwrite N s i (some e) in
    let w = overwritten N s i (some e) in
    let x : ExprOk Any q.state.next e = subst (λ (n : ℕ). ExprOk Any n e) (sym (overwritten_next N s i q w)) m in
    dest_numbers q i e (val_to_instr s i e) (get_val_num q.state e) (overwritten_numbers N s i q w h)
    (get_val_num_below Any q.state e x)

form_numbers :
    (N : ℕ) (s : State) (i : Instr) (f : Form) → Numbers s → Each (λ left x. Seen s x) (reads f) → Numbers (by_form N s i f).state
unfolding by_form reads
form_numbers N s i (pure e) h p = place_numbers N s i (make_val s e) h (value_below s e h p)
form_numbers N s i (new xs) h p = place_numbers N s i none h tt
form_numbers N s i (effect xs) h p = h
form_numbers N s i (return xs) h p = h
form_numbers N s i nop h p = h
form_numbers N s i (jump b) h p = h
form_numbers N s i (branch a b c) h p = h

instr_numbers : (N : ℕ) (t : NameIx → ℕ) (s : State) (i : Instr) → Numbers s → Numbers (instr_lvn N t s i).state
unfolding instr_lvn
instr_numbers N t s i h =
    let xs = reads (form t i) in
    let seen = gen_new_vals s xs in
    form_numbers N seen (rewrite_instr seen xs i) (form t i) (gen_numbers s xs h) (gen_seen s xs)

pub behind_numbers : (N : ℕ) (t : NameIx → ℕ) (s : State) (is : List Instr) → Numbers s → Numbers (behind N t s is)
behind_numbers N t s [] h = h
behind_numbers N t s (i ∷ is) h = behind_numbers N t (instr_lvn N t s i).state is (instr_numbers N t s i h)
