-- States with the same maps give the same values, homes and instructions.
use mathlib.Core.Path.{◌≡◌, refl, sym, ap}
use mathlib.Core.List.{[], ◌∷◌}
use mathlib.Core.Option.{Option, some}
use Rattle.std.proofs.Math.Option.{get_or}
use Rattle.arith.specs.declared.One.{One}
use Rattle.arith.specs.declared.Two.{Two}
use Rattle.arith.specs.Code.{code1, code2}
use Rattle.arith.specs.Operation.{Expr, constant, one, two}
use Rattle.record.specs.declared.NameIx.{NameIx}
use Rattle.record.specs.Record.{Instr}
use Rattle.numbering.specs.declared.ValNum.{ValNum}
use Rattle.numbering.specs.State.{vn, State, number_of, home_of, known_expr, known}
use Rattle.numbering.specs.Simplify.{simplify}
use Rattle.numbering.specs.Number.{make_val, make_val_instr, make_id_instr}
use Rattle.lvn_instr.specs.View.{Reads}

module _ (s t : State) where
  -- ---- the same numbers of names
  pub value_alike : Reads s t → (e : Expr NameIx) → make_val t e ≡ make_val s e
  unfolding make_val known number_of
  value_alike h (constant v) = refl
  value_alike h (one o a) =
      λ i. some (simplify (λ v. known_expr (sym h.1 i v)) (one o (get_or (sym h.0 i a) (vn 0))))
  value_alike h (two o a b) =
      λ i. some (simplify (λ v. known_expr (sym h.1 i v)) (two o (get_or (sym h.0 i a) (vn 0)) (get_or (sym h.0 i b) (vn 0))))

  pub home_alike : s.env ≡ t.env → s.locs ≡ t.locs → (x : NameIx) → home_of t x ≡ home_of s x
  unfolding home_of number_of
  home_alike e l x = λ i. sym l i (get_or (sym e i x) (vn 0))

  -- ---- the same homes
  module _ (l : s.locs ≡ t.locs) (i : Instr) where
    pub one_alike : (o : One) (a : ValNum) → make_val_instr i (code1 o) (t.locs a ∷ []) ≡ make_val_instr i (code1 o) (s.locs a ∷ [])
    one_alike o a = ap (λ (f : ValNum → NameIx). make_val_instr i (code1 o) (f a ∷ [])) (sym l)

    pub two_alike :
        (o : Two) (a b : ValNum) →
        make_val_instr i (code2 o) (t.locs a ∷ t.locs b ∷ []) ≡ make_val_instr i (code2 o) (s.locs a ∷ s.locs b ∷ [])
    two_alike o a b = ap (λ (f : ValNum → NameIx). make_val_instr i (code2 o) (f a ∷ f b ∷ [])) (sym l)

    pub known_alike : (v : ValNum) → s.vals ≡ t.vals → make_id_instr (known t v) s i v ≡ make_id_instr (known s v) s i v
    unfolding known
    known_alike v e = ap (λ (f : ValNum → Option (Expr ValNum)). make_id_instr (known_expr (f v)) s i v) (sym e)
