-- `check_record::contents_at` meets its contract: field after field, as the definition reads them.
use mathlib.Core.Path.{sym, ap, ◌∙◌}
use Rattle.record.specs.Read.{contents}
use Rattle.record.proofs.Following.{handed_on, read_no, read_is}
use Rattle.read_fields.specs.Answer.{res}
use Rattle.check_record.proofs.Laws.{contents_rest}
use Rattle.check_record.proofs.contents_at.Goals as goal

pub returns-in_err-version : goal.returns-in_err-version
unfolding contents
returns-in_err-version c =
    handed_on c.from_residual.result c.in_err-version.field-0.0 c.from_residual.ensures.1
    ∙ read_no _ _ _ _ _ (sym c.version_at.ensures ∙ ap res c.in_err-version.was)

pub returns-in_err-args : goal.returns-in_err-args
unfolding contents
returns-in_err-args c =
    handed_on c.from_residual-in_err-args.result c.in_err-args.field-0.0 c.from_residual-in_err-args.ensures.1
    ∙ read_is _ _ _ _ _ _ _ (sym c.version_at.ensures ∙ ap res c.in_ok-version.was)
    (read_no _ _ _ _ _ (sym c.limited.ensures ∙ ap res c.in_err-args.was))

pub returns-in_err-names : goal.returns-in_err-names
unfolding contents
returns-in_err-names c =
    handed_on c.from_residual-in_err-names.result c.in_err-names.field-0.0 c.from_residual-in_err-names.ensures.1
    ∙ read_is _ _ _ _ _ _ _ (sym c.version_at.ensures ∙ ap res c.in_ok-version.was)
    (read_is _ _ _ _ _ _ _ (sym c.limited.ensures ∙ ap res c.in_ok-args.was)
    (read_no _ _ _ _ _ (sym c.name_count_at.ensures ∙ ap res c.in_err-names.was)))

pub returns : goal.returns
unfolding contents
returns c = read_is _ _ _ _ _ _ _ (sym c.version_at.ensures ∙ ap res c.in_ok-version.was)
    (read_is _ _ _ _ _ _ _ (sym c.limited.ensures ∙ ap res c.in_ok-args.was)
    (read_is _ _ _ _ _ _ _ (sym c.name_count_at.ensures ∙ ap res c.in_ok-names.was)
    (c.names_and_blocks_at.ensures ∙ contents_rest _ _ _ _ _ c.id_bytes.ensures.0 _ _)))
