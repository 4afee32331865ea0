-- One name for the definitions that examples of rewritings compute with: `unfolding all_of_numbering` unfolds each of them.
use Rattle.record.specs.Opened.{all_of_record}
use Rattle.numbering.specs.State.{start, new_number, update_env, rehome, see, gen_new_vals, number_of, home_of, known_value, known_expr, known}
use Rattle.numbering.specs.Simplify.{folded, fold1, fold2, is_int, is_bool, identity, ordered, simplify1, simplify2, simplify}
use Rattle.numbering.specs.Number.{reads, numbered, make_val, val_to_instr, save, save_at, handle_overwrite, find, get_val_num, number_dest, place, by_form, instr_lvn, block_lvn, is_save, count_saves, blocks_lvn, saved_in, made_from, lvn}
use Rattle.numbering.specs.Made.{digits_of, digits, made_text, made_name, made_names, rewriting}
use Rattle.numbering.specs.Rewrite.{rewrite_answer, rewritten_bytes, rewrite_result, rewrite_output, rewrite, rewrite_leaves}
use Rattle.numbering.specs.Figures.{figures_answer, block_figures, figures_result, figures_places, figures, figures_leaves}
use Rattle.numbering.specs.NameText.{name_answer, name_part, choose, from_parts, with_input, name_text}
use Rattle.numbering.specs.Program.{refused_line, shown, output_with, program_output}

unfoldable pub all_of_numbering : Type 0
unfolding all_of_record start new_number update_env rehome see gen_new_vals number_of home_of known_value known_expr known folded fold1 fold2 is_int is_bool identity ordered simplify1 simplify2 simplify reads numbered make_val val_to_instr save save_at handle_overwrite find get_val_num number_dest place by_form instr_lvn block_lvn is_save count_saves blocks_lvn saved_in made_from lvn digits_of digits made_text made_name made_names rewriting rewrite_answer rewritten_bytes rewrite_result rewrite_output rewrite rewrite_leaves figures_answer block_figures figures_result figures_places figures figures_leaves name_answer name_part choose from_parts with_input name_text refused_line shown output_with program_output
all_of_numbering = Unit
