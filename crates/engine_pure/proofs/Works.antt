-- What the code tells of a result: that of an operand that was read, and of a known result; and what became of the cells.
use Prim.Native.Nat.{ℕ}
use mathlib.Core.Path.{◌≡◌, refl, sym, ap, ◌∙◌}
use mathlib.Core.Option.{Option, some}
use Rattle.std.proofs.Common.{Option as CodeOption, None, Some, Ok, Err}
use Rattle.std.specs.Option.{ok_or}
use Rattle.std.proofs.lemmas.Result.{err_from_is_err_and}
use Rattle.arith.specs.Map.{upd}
use Rattle.arith.specs.Value.{Val}
use Rattle.arith.specs.Operation.{Result, ok, stops, unset}
use Rattle.record.specs.declared.NameIx.{NameIx}
use Rattle.record.specs.Record.{NameIx-discrete}
use Rattle.engine_cells.specs.declared.Cells.{Cells}
use Rattle.engine_cells.specs.Cells.{store_in}
use Rattle.engine_pure.specs.declared.Stop.{Stop}
use Rattle.engine_pure.specs.declared.Stop.TheVariants.{Division, Unset}
use Rattle.engine_pure.specs.Works.{Works, told}

-- ---- an operand that was read, or was not; e: the reason that stands for none
module _ {A E : Type 0} (o : CodeOption A) (e : E) where
  pub read_some : (a : A) → Ok a ≡ ok_or o e → Some a ≡ o
  read_some a h = elim o as (λ p. Ok a ≡ ok_or p e → Some a ≡ p) [ None ↦ (λ q. absurd (cc q)) | Some b ↦ (λ q. cc q) ] h

  pub read_none : (k : E) → Err k ≡ ok_or o e → (None ≡ o) × (k ≡ e)
  read_none k h =
      elim o as (λ p. Err k ≡ ok_or p e → (None ≡ p) × (k ≡ e))
      [ None ↦ (λ q. (refl, cc q)) | Some b ↦ (λ q. absurd (cc q)) ] h

-- ---- a result that is known
pub told_ok : {p : Result} {v : Val} → p ≡ ok v → Ok (some v) ≡ told p
unfolding told
told_ok e = sym (ap told e)

pub told_unset : {p : Result} {k : Stop} → k ≡ Unset → p ≡ unset → Err k ≡ told p
unfolding told
told_unset f e = ap Err f ∙ sym (ap told e)

-- ---- what became of the cells
pub works_none : {N : ℕ} (cells : Cells N) (d : NameIx) (p : Result) (k : Stop) → Err k ≡ told p → Works cells cells d p (Err k)
unfolding Works told
works_none cells d (ok v) k e = absurd (cc e)
works_none cells d (stops c) k e = let f : k ≡ Division = cc e in (ap Err f, refl)
works_none cells d unset k e = let f : k ≡ Unset = cc e in (ap Err f, refl)

-- u: what the cell holds that was put into dest's place
pub works_some :
    {N : ℕ} (before after : Cells N) (d : NameIx) (p : Result) (u : Option Val) →
    Ok u ≡ told p →
    store_in after ≡ upd NameIx-discrete (store_in before) d u →
    Works before after d p (Ok tt)
unfolding Works told
works_some before after d (ok v) u e h = let f : u ≡ some v = cc e in (refl, h ∙ ap (upd NameIx-discrete (store_in before) d) f)
works_some before after d (stops c) u e h = absurd (cc e)
works_some before after d unset u e h = absurd (cc e)

-- for the check: a cell that was set, or the reason why none was
pub ruleset worked = (works_none, works_some, err_from_is_err_and)
