-- Document 02, Point 2: an instruction gt a b is rewritten as lt b a is, in every respect, folded or not; ge a b as le b a.
use Prim.Native.Nat.{ℕ}
use mathlib.Core.Path.{◌≡◌, refl, sym, ap}
use mathlib.Core.List.{[], ◌∷◌}
use mathlib.Core.Option.{Option, none, some, get_or}
use Rattle.arith.specs.declared.Two.{Two}
use Rattle.arith.specs.declared.Two.TheVariants.{Lt, Gt, Le, Ge}
use Rattle.arith.specs.Code.{code1, code2, with_code, one_of, two_of}
use Rattle.arith.specs.Value.{Val}
use Rattle.arith.specs.Operation.{two}
use Rattle.arith.proofs.Operation.{Swaps, less_swaps, less_equal_swaps}
use Rattle.record.specs.declared.NameIx.{NameIx}
use Rattle.record.specs.Record.{nm}
use Rattle.record.specs.Form.{form}
use Rattle.record.specs.Short.{gives}
use Rattle.numbering.specs.declared.ValNum.{ValNum}
use Rattle.numbering.specs.State.{State, number_of, known}
use Rattle.numbering.specs.Simplify.{folded, fold2, identity, ordered, first, simplify2, simplify}
use Rattle.numbering.specs.Number.{reads, make_val, instr_lvn}
use Rattle.numbering.proofs.Bare.{same_value, both_seen}

-- ---- one value
fold2_swap : (o p : Two) → Swaps o p → (x y : Option Val) → fold2 o x y ≡ fold2 p y x
unfolding fold2
fold2_swap o p h none none = refl
fold2_swap o p h none (some y) = refl
fold2_swap o p h (some x) none = refl
fold2_swap o p h (some x) (some y) = ap folded (h x y)

pub greater_simplified : (f : ValNum → Option Val) (a b : ValNum) → simplify f (two Gt a b) ≡ simplify f (two Lt b a)
unfolding simplify simplify2 identity ordered
greater_simplified f a b = ap (λ e. get_or (first e none) (two Lt b a)) (sym (fold2_swap Lt Gt less_swaps (f b) (f a)))

pub greater_equal_simplified : (f : ValNum → Option Val) (a b : ValNum) → simplify f (two Ge a b) ≡ simplify f (two Le b a)
unfolding simplify simplify2 identity ordered
greater_equal_simplified f a b = ap (λ e. get_or (first e none) (two Le b a)) (sym (fold2_swap Le Ge less_equal_swaps (f b) (f a)))

-- ---- one instruction
pub greater_is_less :
    (N : ℕ) (t : NameIx → ℕ) (s : State) (id x a b : ℕ) (v w : ValNum) → s.env (nm a) ≡ some v → s.env (nm b) ≡ some w →
    instr_lvn N t s (gives id x 7 (a ∷ b ∷ [])) ≡ instr_lvn N t s (gives id x 6 (b ∷ a ∷ []))
unfolding instr_lvn form one_of two_of with_code code1 code2 reads make_val
greater_is_less N t s id x a b v w h k =
    rw (both_seen s (nm a) (nm b) v w h k, both_seen s (nm b) (nm a) w v k h)
    (same_value N s _ _ (two Gt (nm a) (nm b)) (two Lt (nm b) (nm a)) _ refl
    (ap some (greater_simplified (known s) (number_of s (nm a)) (number_of s (nm b)))) refl)

pub greater_equal_is_less_equal :
    (N : ℕ) (t : NameIx → ℕ) (s : State) (id x a b : ℕ) (v w : ValNum) → s.env (nm a) ≡ some v → s.env (nm b) ≡ some w →
    instr_lvn N t s (gives id x 9 (a ∷ b ∷ [])) ≡ instr_lvn N t s (gives id x 8 (b ∷ a ∷ []))
unfolding instr_lvn form one_of two_of with_code code1 code2 reads make_val
greater_equal_is_less_equal N t s id x a b v w h k =
    rw (both_seen s (nm a) (nm b) v w h k, both_seen s (nm b) (nm a) w v k h)
    (same_value N s _ _ (two Ge (nm a) (nm b)) (two Le (nm b) (nm a)) _ refl
    (ap some (greater_equal_simplified (known s) (number_of s (nm a)) (number_of s (nm b)))) refl)
