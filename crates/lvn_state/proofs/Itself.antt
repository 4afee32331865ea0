-- Whether a value's instruction is `x = id x`: only that of an id can be.
use mathlib.Core.Path.{◌≡◌, refl}
use mathlib.Core.Bool.{false}
use mathlib.Core.List.{[], ◌∷◌}
use types.Run.{OneOf, miss}
use denote.Enum.Declared.{tag_of}
use Rattle.record.specs.declared.NameIx.{NameIx}
use Rattle.numbering.specs.declared.ValNum.{ValNum}
use Rattle.numbering.specs.declared.Value.{Value}
use Rattle.numbering.specs.declared.Value.TheVariants.{Unique, Constant, One, Two}
use Rattle.numbering.specs.View.{expr_of}
use Rattle.numbering.specs.contracts.Value as values
use Rattle.lvn_state.specs.View.{itself}

pub not_itself :
    (locs : ValNum → NameIx) (x : NameIx) (v : Value) → OneOf (0 ∷ 1 ∷ 3 ∷ []) (tag_of values.the_type v) →
    false ≡ itself locs x (expr_of v)
unfolding itself
not_itself locs x Unique h = refl
not_itself locs x (Constant c) h = refl
not_itself locs x (One o a) h = absurd (miss (0 ∷ 1 ∷ 3 ∷ []) 2 tt h)
not_itself locs x (Two o a b) h = refl
