-- Document 02, Point 2: neither gt nor ge is ever written, whatever the function: a value that is not folded is put in order, and its order
-- is of lt or le; every other instruction that keeps its code has another one.
use Prim.Native.Nat.{ℕ}
use mathlib.Core.Path.{◌≡◌, refl, subst}
use mathlib.Core.Logic.{◌≢◌}
use mathlib.Core.Bool.{Bool, true, false, cond}
use mathlib.Core.List.{List, [], ◌∷◌}
use mathlib.Core.Option.{Option, none, some}
use lib.Dec.{ltb, eqb}
use borrow.Author.Tests.{eqb-false}
use Rattle.arith.specs.declared.One.TheVariants.{Not, Id}
use Rattle.arith.specs.declared.Two.{Two}
use Rattle.arith.specs.declared.Two.TheVariants.{Add, Sub, Mul, Div, Eq, Lt, Gt, Le, Ge, And, Or, PtrAdd}
use Rattle.arith.specs.Code.{code1, code2, with_code, one_of, two_of}
use Rattle.arith.specs.Value.{Val}
use Rattle.arith.specs.Operation.{Expr, constant, one, two}
use Rattle.record.specs.declared.NameIx.{NameIx}
use Rattle.record.specs.Record.{Instr, Block, Function, names_of, type_in, arg}
use Rattle.record.specs.Form.{Form, pure, new, effect, return, nop, jump, branch, form}
use Rattle.record.specs.Good.{Each}
use Rattle.numbering.specs.declared.ValNum.{ValNum}
use Rattle.numbering.specs.State.{State, start, gen_new_vals, number_of, known}
use Rattle.numbering.specs.Simplify.{ordered, simplify}
use Rattle.numbering.specs.Number.{reads, numbered, make_val, make_id_instr, val_to_instr, rewrite_instr, Saved, save, handle_overwrite, get_val_num, Emitted, number_dest, place, by_form, instr_lvn, block_lvn, blocks_lvn, lvn}
use Rattle.numbering.proofs.Overwritten.{Overwritten, kept, moved, overwritten}
use Rattle.numbering.proofs.Given.{any_closed, any_known}
use Rattle.record.proofs.Gives.{each_append}
use Rattle.numbering.proofs.Simplified.{OutcomesOf, simplified_ok}

-- ---- values
abbrev NotGreater : ℕ → Type 0
NotGreater c = (c ≢ 7) × (c ≢ 9)

other : (c : ℕ) → eqb c 7 ≡ false → eqb c 9 ≡ false → NotGreater c
other c h k = (eqb-false c 7 h, eqb-false c 9 k)

abbrev Others : List Instr → Type 0
Others is = Each (λ left i. NotGreater i.code) is

-- a value that is written as neither
abbrev ValueOther : Expr ValNum → Type 0
ValueOther (constant v) = Unit {0}
ValueOther (one o a) = Unit {0}
ValueOther (two o a b) = NotGreater (code2 o)

sorted_other : (o : Two) (c : Bool) (a b : ValNum) → NotGreater (code2 o) → ValueOther (cond c (two o b a) (two o a b))
sorted_other o true a b h = h
sorted_other o false a b h = h

ordered_other : (o : Two) (a b : ValNum) → ValueOther (ordered o a b)
unfolding ordered code2
ordered_other Add a b = sorted_other Add (ltb b.0 a.0) a b (other 1 refl refl)
ordered_other Sub a b = other 2 refl refl
ordered_other Mul a b = sorted_other Mul (ltb b.0 a.0) a b (other 3 refl refl)
ordered_other Div a b = other 4 refl refl
ordered_other Eq a b = sorted_other Eq (ltb b.0 a.0) a b (other 5 refl refl)
ordered_other Lt a b = other 6 refl refl
ordered_other Gt a b = other 6 refl refl
ordered_other Le a b = other 8 refl refl
ordered_other Ge a b = other 8 refl refl
ordered_other And a b = sorted_other And (ltb b.0 a.0) a b (other 11 refl refl)
ordered_other Or a b = sorted_other Or (ltb b.0 a.0) a b (other 12 refl refl)
ordered_other PtrAdd a b = other 14 refl refl

simplify_other : (f : ValNum → Option Val) (e : Expr ValNum) → ValueOther (simplify f e)
unfolding code2
simplify_other f e =
    simplified_ok ValueOther any_closed f (λ v. any_known (f v)) e (outcomes e)
  where
    outcomes : (e : Expr ValNum) → OutcomesOf ValueOther _ e
    outcomes (constant v) = tt
    outcomes (one o a) = tt
    outcomes (two o a b) =
        record { left = tt; right = tt; left_twice = other 1 refl refl; right_twice = other 1 refl refl; in_order = ordered_other o a b }

-- ---- what is written of a value
written_other : (s : State) (i : Instr) (e : Expr ValNum) → ValueOther e → NotGreater (val_to_instr s i e).code
unfolding val_to_instr code1
written_other s i (constant v) h = other 0 refl refl
written_other s i (one Not a) h = other 10 refl refl
written_other s i (one Id a) h = other 13 refl refl
written_other s i (two o a b) h = h

id_other : (c : Option Val) (s : State) (i : Instr) (v : ValNum) → NotGreater (make_id_instr c s i v).code
unfolding code1
id_other none s i v = other 13 refl refl
id_other (some c) s i v = other 0 refl refl

saves_other : (N : ℕ) (s : State) (i : Instr) (q : Saved) → Overwritten N s i q → Others q.saves
unfolding save code1
saves_other N s i q kept = tt
saves_other N s i q (moved v) = (other 13 refl refl, tt)

-- ---- what is written of an instruction: its saves and itself
record Emits (e : Emitted) : Type 0 where
  saves : Others e.saves
  instr : NotGreater e.instr.code

number_other :
    (q : Saved) (i : Instr) (e : Expr ValNum) (w : Instr) (o : Option ValNum) →
    Others q.saves →
    NotGreater w.code →
    Emits (number_dest q i e w o)
unfolding number_dest
number_other q i e w none h k = record { saves = h; instr = k }
number_other q i e w (some v) h k = record { saves = h; instr = id_other (known q.state v) q.state i v }

new_other : (N : ℕ) (s : State) (i : Instr) → NotGreater i.code → Emits (place N s i none)
unfolding place
new_other N s i h = record { saves = saves_other N s i _ (overwritten N s i none); instr = h }

value_other : (N : ℕ) (s : State) (i : Instr) (e : Expr ValNum) → ValueOther e → Emits (place N s i (some e))
unfolding place
value_other N s i e h =
    let q = handle_overwrite N s i (some e) in
    number_other q i e (val_to_instr s i e) (get_val_num q.state e) (saves_other N s i q (overwritten N s i (some e))) (written_other s i e h)

-- whether an instruction may be written with the code it has
abbrev KeepsCode : Form → Type 0
KeepsCode (pure (constant v)) = Unit {0}
KeepsCode (pure (one o a)) = ⊥
KeepsCode (pure (two o a b)) = ⊥
KeepsCode (new xs) = Unit {0}
KeepsCode (effect xs) = Unit {0}
KeepsCode (return xs) = Unit {0}
KeepsCode nop = Unit {0}
KeepsCode (jump b) = Unit {0}
KeepsCode (branch a b c) = Unit {0}

by_form_other : (N : ℕ) (s : State) (i : Instr) (f : Form) → (KeepsCode f → NotGreater i.code) → Emits (by_form N s i f)
unfolding by_form make_val
by_form_other N s i (pure (constant v)) h = go (numbered v)
  where
    go : (b : Bool) → Emits (place N s i (cond b (some (constant v)) none))
    go true = value_other N s i (constant v) tt
    go false = new_other N s i (h tt)
by_form_other N s i (pure (one o a)) h = value_other N s i _ (simplify_other (known s) (one o (number_of s a)))
by_form_other N s i (pure (two o a b)) h = value_other N s i _ (simplify_other (known s) (two o (number_of s a) (number_of s b)))
by_form_other N s i (new xs) h = new_other N s i (h tt)
by_form_other N s i (effect xs) h = record { saves = tt; instr = h tt }
by_form_other N s i (return xs) h = record { saves = tt; instr = h tt }
by_form_other N s i nop h = record { saves = tt; instr = h tt }
by_form_other N s i (jump b) h = record { saves = tt; instr = h tt }
by_form_other N s i (branch a b c) h = record { saves = tt; instr = h tt }

-- gt and ge do not keep theirs
gt_form : (t : NameIx → ℕ) (i : Instr) → i.code ≡ 7 → form t i ≡ pure (two Gt (arg i 0) (arg i 1))
unfolding form one_of two_of with_code code1 code2
gt_form t i e = rw e refl

ge_form : (t : NameIx → ℕ) (i : Instr) → i.code ≡ 9 → form t i ≡ pure (two Ge (arg i 0) (arg i 1))
unfolding form one_of two_of with_code code1 code2
ge_form t i e = rw e refl

instr_other : (N : ℕ) (t : NameIx → ℕ) (s : State) (i : Instr) → Emits (instr_lvn N t s i)
unfolding instr_lvn
instr_other N t s i =
    let seen = gen_new_vals s (reads (form t i)) in
    by_form_other N seen (rewrite_instr seen (reads (form t i)) i) (form t i)
    (λ h. (λ e. subst KeepsCode (gt_form t i e) h, λ e. subst KeepsCode (ge_form t i e) h))

-- ---- blocks
block_other : (N : ℕ) (t : NameIx → ℕ) (is : List Instr) (s : State) → Others (block_lvn N t s is).body
unfolding block_lvn
block_other N t [] s = tt
block_other N t (i ∷ is) s =
    let e = instr_lvn N t s i in
    let h = instr_other N t s i in
    each_append (λ i. NotGreater i.code) e.saves (e.instr ∷ (block_lvn N t e.state is).body) h.saves
    (h.instr, block_other N t is e.state)

blocks_other : (f : Function) (k : ℕ) (bs : List (Block Instr)) → Each (λ left b. Others b.body) (blocks_lvn f k bs)
unfolding blocks_lvn
blocks_other f k [] = tt
blocks_other f k (b ∷ bs) =
    let N = names_of f in
    let t = type_in f.types in
    let s = start f.args k in
    (block_other N t b.body s, blocks_other f (block_lvn N t s b.body).temps bs)

pub none_greater : (f : Function) → Each (λ left b. Each (λ left i. (i.code ≢ 7) × (i.code ≢ 9)) b.body) (lvn f).blocks
unfolding lvn
none_greater f = blocks_other f 0 f.blocks
