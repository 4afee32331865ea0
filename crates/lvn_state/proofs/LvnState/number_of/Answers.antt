-- `lvn_state::LvnState::number_of` meets its contract.
use Prim.Native.Nat.{◌<◌}
use mathlib.Core.Path.{◌≡◌, refl, sym, ap, ◌∙◌, subst}
use mathlib.Core.Option
use mathlib.Core.Option.{Option}
use native.Mathlib.Omega.{arith}
use Rattle.std.specs.Prelude.{Option as Maybe, None, Some, IfSome, unwrap_or}
use Rattle.numbering.specs.State.{vn, number_of}
use Rattle.numbering.specs.declared.ValNum.{ValNum}
use Rattle.lvn_values.specs.Table.{numbered_of}
use Rattle.lvn_state.proofs.LvnState.number_of.Goals as goal

same : (o : Maybe ValNum) → unwrap_or o (vn 0) ≡ Option.get_or (numbered_of o) (vn 0)
same None = refl
same (Some v) = refl

small : (o : Maybe ValNum) → IfSome o (λ v. v.0 < 65535) → (unwrap_or o (vn 0)).0 < 65535
small None h = omega arith
small (Some v) h = h

pub returns : goal.returns
unfolding number_of
returns _ c = let n = c.number in (
  c.unwrap_or.ensures ∙ same n.result ∙ ap (λ (o : Option ValNum). Option.get_or o (vn 0)) n.ensures.0,
  subst (λ (v : ValNum). v.0 < 65535) (sym c.unwrap_or.ensures) (small n.result n.ensures.1),
)
