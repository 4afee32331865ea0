-- The number of a value: found in the table, but for an id and for what is new each time.
use mathlib.Core.Path.{◌≡◌, refl, sym, ap, ◌∙◌}
use mathlib.Core.List.{[], ◌∷◌}
use mathlib.Core.Option.{Option, some}
use types.Run.{OneOf, miss}
use denote.Enum.Declared.{tag_of}
use Rattle.arith.specs.declared.One.TheVariants.{Not}
use Rattle.arith.specs.Operation.{Expr, constant, one, two}
use Rattle.numbering.specs.declared.ValNum.{ValNum}
use Rattle.numbering.specs.declared.Value.{Value}
use Rattle.numbering.specs.declared.Value.TheVariants.{Unique, Constant, One, Two}
use Rattle.numbering.specs.State.{State}
use Rattle.numbering.specs.Number.{find, get_val_num}
use Rattle.numbering.specs.View.{val_of, expr_of}
use Rattle.numbering.specs.contracts.Value as values
use Rattle.lvn_values.specs.Table.{val_num_of}

module _ (s : State) (o : Option ValNum) where
  -- what looking up the entry of a value gives
  abbrev pub Found : Value → Type 0
  Found v = (e : Expr ValNum) → expr_of v ≡ some e → o ≡ find s.vals e 0 s.next

  pub looked_up : (v : Value) → OneOf (1 ∷ 3 ∷ []) (tag_of values.the_type v) → Found v → o ≡ val_num_of s (expr_of v)
  unfolding get_val_num
  looked_up Unique h f = absurd (miss (1 ∷ 3 ∷ []) 0 tt h)
  looked_up (Constant c) h f = f (constant (val_of c)) refl
  looked_up (One p a) h f = absurd (miss (1 ∷ 3 ∷ []) 2 tt h)
  looked_up (Two p a b) h f = f (two p a b) refl

  pub looked_not : (v : Value) (a : ValNum) → v ≡ One Not a → Found v → o ≡ val_num_of s (expr_of v)
  unfolding get_val_num
  looked_not v a p f = f (one Not a) (ap expr_of p) ∙ sym (ap (λ (u : Value). val_num_of s (expr_of u)) p)
