-- Document 02, Point 4: a division of known ints is rewritten, in every respect, as the const of their quotient is, and stays if it is by 0.
use Prim.Native.Nat.{ℕ}
use mathlib.Core.Path.{◌≡◌, refl, sym, ap, ◌∙◌}
use mathlib.Core.Logic.{◌≢◌, ◌↔◌}
use mathlib.Core.List.{[], ◌∷◌}
use mathlib.Core.Option.{Option, some}
use native.Mathlib.Decide.{ℕ_discrete}
use Rattle.arith.specs.declared.Two.TheVariants.{Div}
use Rattle.arith.specs.Word.{div_w}
use Rattle.arith.specs.Value.{tint, Val, int}
use Rattle.arith.specs.Code.{code1, code2, with_code, one_of, two_of}
use Rattle.arith.specs.Operation.{as_int, with_both, by_zero, apply2, constant, two}
use Rattle.arith.proofs.Clash.{clash}
use Rattle.arith.proofs.Operation.{divide_others, divide_stops}
use Rattle.record.specs.declared.NameIx.{NameIx}
use Rattle.record.specs.Record.{nm}
use Rattle.record.specs.Form.{value_of, form}
use Rattle.record.specs.Short.{gives, set}
use Rattle.numbering.specs.declared.ValNum.{ValNum}
use Rattle.numbering.specs.State.{State, gen_new_vals, number_of, known}
use Rattle.numbering.specs.Simplify.{folded, fold2, identity, ordered, simplify2, simplify}
use Rattle.numbering.specs.Number.{reads, numbered, make_val, instr_lvn}
use Rattle.numbering.proofs.Bare.{same_value, both_seen}

-- ---- one value
module _ (f : ValNum → Option Val) (a b : ValNum) (m n : ℕ) (p : f a ≡ some (int m)) (q : f b ≡ some (int n)) where
  pub quotient_simplified : n ≢ 0 → simplify f (two Div a b) ≡ constant (int (div_w m n))
  unfolding simplify simplify2 fold2 folded apply2 with_both as_int
  quotient_simplified h = rw (p, q) (rw (divide_others m n h) refl)

  by_zero_stays : n ≡ 0 → simplify f (two Div a b) ≡ two Div a b
  unfolding simplify simplify2 fold2 folded apply2 with_both as_int identity ordered
  by_zero_stays e = rw (p, q) (rw ((divide_stops m n by_zero).1 e) refl)

  pub stays_by_zero : simplify f (two Div a b) ≡ two Div a b ↔ (n ≡ 0)
  stays_by_zero = (λ e. go e (ℕ_discrete n 0), by_zero_stays)
    where
      go : simplify f (two Div a b) ≡ two Div a b → Dec (n ≡ 0) → n ≡ 0
      go e (yes z) = z
      go e (no h) = clash (cc (sym (quotient_simplified h) ∙ e))

-- ---- one instruction
pub quotient_is_constant :
    (N : ℕ) (t : NameIx → ℕ) (s : State) (id x a b m n : ℕ) (v w : ValNum) → s.env (nm a) ≡ some v → s.env (nm b) ≡ some w →
    known s v ≡ some (int m) → known s w ≡ some (int n) → n ≢ 0 → t (nm x) ≡ tint →
    instr_lvn N t s (gives id x 4 (a ∷ b ∷ [])) ≡ instr_lvn N t s (set id x 0 (div_w m n))
unfolding instr_lvn form one_of two_of with_code code1 code2 reads make_val number_of gen_new_vals value_of numbered
quotient_is_constant N t s id x a b m n v w h k p q z e =
    rw (both_seen s (nm a) (nm b) v w h k, e)
    (same_value N s _ _ (two Div (nm a) (nm b)) (constant (int (div_w m n))) _ refl
    (rw (h, k) (ap some (quotient_simplified (known s) v w m n p q z))) refl)
