-- `name_text::both` meets its contract: a record whose names run past its end is a mismatch.
use Rattle.std.proofs.Common.{◌≡◌, ◌∙◌, sym, true, false, rules}
use Rattle.std.specs.Prelude.{Err}
use Rattle.std.specs.Result.{result_and}
use Rattle.record.specs.declared.Fault.{Fault}
use Rattle.numbering.specs.declared.NameError.TheVariants.{Mismatch}
use Rattle.name_text.proofs.Laws.{not_both}
use Rattle.name_text.proofs.both.Goals as goal

pub returns-in_err-map_err : goal.returns-in_err-map_err
returns-in_err-map_err c =
    let (f, e, r) : (f : Fault) × (c.and.result ≡ Err f) × (c.from_residual.result ≡ Err Mismatch) = search rules in
    not_both _ _ _ _ _ _ f r (sym e ∙ c.and.ensures ∙ (λ i. result_and (c.names_within.ensures false i) (c.names_within-2.ensures true i)))
