-- What the instructions that the rewriting writes do: the form of a rewritten instruction, of a value expression's and of a save,
-- and which of them are saves.
use Prim.Native.Nat.{ℕ, ◌<◌}
use mathlib.Core.Path.{◌≡◌, refl, ap, subst}
use mathlib.Core.Bool.{Bool, true, false, cond, and-false}
use mathlib.Core.List.{List, [], ◌∷◌, map}
use mathlib.Core.Option.{Option, none, some}
use lib.ListN.{get_or}
use lib.Dec.{leb, eqb}
use borrow.Author.Tests.{lt-leb}
use Rattle.arith.specs.declared.One.{One}
use Rattle.arith.specs.declared.One.TheVariants.{Not, Id}
use Rattle.arith.specs.declared.Two.{Two}
use Rattle.arith.specs.declared.Two.TheVariants.{Add, Sub, Mul, Div, Eq, Lt, Gt, Le, Ge, And, Or, PtrAdd}
use Rattle.arith.specs.Value.{tfloat, Val, int, float, literal, char, bool, pointer, type_of}
use Rattle.arith.specs.Operation.{Expr, constant, one, two}
use Rattle.arith.specs.Code.{code1, code2, with_code, one_of, two_of}
use Rattle.record.specs.declared.NameIx.{NameIx}
use Rattle.record.specs.Record.{nm, Instr}
use Rattle.record.specs.Shape.{shape_of}
use Rattle.record.specs.Form.{Form, pure, new, effect, return, nop, jump, branch, value_of, operation, form}
use Rattle.numbering.specs.declared.ValNum.{ValNum}
use Rattle.numbering.specs.State.{State, home_of}
use Rattle.numbering.specs.Number.{reads, numbered, literal_for, make_const_instr, make_val_instr, rewrite_instr, val_to_instr, is_save}
use Rattle.pairing.specs.Joint.{SameDest}
use Rattle.pairing.proofs.Typing.{type_is}
use Rattle.pairing.proofs.SimplifyTypes.{Constant, TypedBy}

-- ---- saves
pub original_not_save : (N : ℕ) (k : Instr) → k.dest.0 < N → is_save N k ≡ false
unfolding is_save
original_not_save N k l = rw (lt-leb N k.dest.0 l) (and-false (shape_of k.code).dest)

pub effect_not_save : (N : ℕ) (k : Instr) → (shape_of k.code).dest ≡ false → is_save N k ≡ false
unfolding is_save
effect_not_save N k e = rw e

-- ---- expressions over other operands
abbrev pub over : {A B : Type 0} → (A → B) → Expr A → Expr B
over f (constant v) = constant v
over f (one o a) = one o (f a)
over f (two o a b) = two o (f a) (f b)

-- a form over other names
abbrev pub renamed : (NameIx → NameIx) → Form → Form
renamed f (pure e) = pure (over f e)
renamed f (new xs) = new (map f xs)
renamed f (effect xs) = effect (map f xs)
renamed f (return xs) = return (map f xs)
renamed f nop = nop
renamed f (jump b) = jump b
renamed f (branch a b c) = branch (f a) b c

-- ---- a rewritten instruction: "replace arguments by their numbers' homes"
renamed_form :
    (t : NameIx → ℕ) (s : State) (i : Instr) → form t (rewrite_instr s (reads (form t i)) i) ≡ renamed (home_of s) (form t i)
unfolding form reads
renamed_form t s i = go (eqb c 0) (one_of c) (two_of c) (leb c 63) (eqb c 64) (eqb c 65) (eqb c 66) (eqb c 69)
  where
    c : ℕ
    c = i.code

    -- what the tests on the code make of these arguments
    by_tests : (z : Bool) → Option One → Option Two → (p q r u w : Bool) → List NameIx → Form
    by_tests z o o' p q r u w xs =
        cond z (pure (constant (value_of (t i.dest) i.lit.kind i.lit.bits)))
        (operation o o' (get_or xs 0 (nm 0)) (get_or xs 1 (nm 0))
        (cond p (new xs)
        (cond q (jump (get_or i.blocks 0 0))
        (cond r (branch (get_or xs 0 (nm 0)) (get_or i.blocks 0 0) (get_or i.blocks 1 0))
        (cond u (return xs)
        (cond w nop (effect xs)))))))

    go :
        (z : Bool) (o : Option One) (o' : Option Two) (p q r u w : Bool) →
        by_tests z o o' p q r u w (map (home_of s) (reads (by_tests z o o' p q r u w i.args))) ≡
        renamed (home_of s) (by_tests z o o' p q r u w i.args)
    go true o o' p q r u w = refl
    go false (some o) o' p q r u w = refl
    go false none (some o) p q r u w = refl
    go false none none true q r u w = refl
    go false none none false true r u w = refl
    go false none none false false true u w = refl
    go false none none false false false true w = refl
    go false none none false false false false true = refl
    go false none none false false false false false = refl

pub rewritten_form :
    (t : NameIx → ℕ) (s : State) (i : Instr) (f : Form) → form t i ≡ f → form t (rewrite_instr s (reads f) i) ≡ renamed (home_of s) f
rewritten_form t s i f e =
    subst (λ g. form t (rewrite_instr s (reads g) i) ≡ renamed (home_of s) g) e (renamed_form t s i)

-- ---- the instruction of a value expression
pub one_form : (t : NameIx → ℕ) (i : Instr) (o : One) (x : NameIx) → form t (make_val_instr i (code1 o) (x ∷ [])) ≡ pure (one o x)
unfolding form code1 one_of with_code
one_form t i Not x = refl
one_form t i Id x = refl

pub two_form :
    (t : NameIx → ℕ) (i : Instr) (o : Two) (x y : NameIx) → form t (make_val_instr i (code2 o) (x ∷ y ∷ [])) ≡ pure (two o x y)
unfolding form code1 code2 one_of two_of with_code
two_form t i Add x y = refl
two_form t i Sub x y = refl
two_form t i Mul x y = refl
two_form t i Div x y = refl
two_form t i Eq x y = refl
two_form t i Lt x y = refl
two_form t i Gt x y = refl
two_form t i Le x y = refl
two_form t i Ge x y = refl
two_form t i And x y = refl
two_form t i Or x y = refl
two_form t i PtrAdd x y = refl

-- the literal that is written for a constant means it in a name of its type
literal_value : (d : ℕ) (v : Val) → Constant d v → value_of d (literal_for v).kind (literal_for v).bits ≡ v
unfolding value_of type_of numbered
literal_value d (int w) h = subst (λ z. cond (eqb z tfloat) (literal w) (int w) ≡ int w) (type_is d (int w) h.0) refl
literal_value d (float b) h = absurd h.1
literal_value d (literal w) h = subst (λ z. cond (eqb z tfloat) (literal w) (int w) ≡ literal w) (type_is d (literal w) h.0) refl
literal_value d (char c) h = absurd h.1
literal_value d (bool true) h = refl
literal_value d (bool false) h = refl
literal_value d (pointer t b o) h = absurd h.1

pub constant_form : (t : NameIx → ℕ) (i : Instr) (v : Val) → Constant (t i.dest) v → form t (make_const_instr i v) ≡ pure (constant v)
unfolding form
constant_form t i v h = ap (λ z. pure (constant z)) (literal_value (t i.dest) v h)

pub value_form :
    (P : ValNum → ℕ → Type 0) (t : NameIx → ℕ) (s : State) (i : Instr) (e : Expr ValNum) → TypedBy P e (t i.dest) →
    form t (val_to_instr s i e) ≡ pure (over s.locs e)
unfolding val_to_instr
value_form P t s i (constant v) h = constant_form t i v h
value_form P t s i (one o a) h = one_form t i o (s.locs a)
value_form P t s i (two o a b) h = two_form t i o (s.locs a) (s.locs b)

pub value_dest : (s t : State) (xs : List NameIx) (i : Instr) (e : Expr ValNum) → SameDest i (val_to_instr s (rewrite_instr t xs i) e)
unfolding val_to_instr
value_dest s t xs i (constant v) = record { id = refl; dest = refl }
value_dest s t xs i (one o a) = record { id = refl; dest = refl }
value_dest s t xs i (two o a b) = record { id = refl; dest = refl }
