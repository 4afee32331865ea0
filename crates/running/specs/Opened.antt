-- One name for the definitions that examples of calls compute with: `unfolding all_of_running` unfolds each of them.
use Rattle.machine.specs.Opened.{all_of_machine}
use Rattle.running.specs.Steps.{land_in, land, take_step, steps, start}
use Rattle.running.specs.House.{word, two_words, plain_behind, value_behind, stored_test, set_behind, stored_behind, stored_value, answer_test, value_answer, answer_behind, house_answer, form_test, in_form, stored, to_end, answers, of_types, values_from, type_byte, words, value_bytes, stored_bytes, answer_bytes, form_bytes, store_bytes, answers_bytes, event_bytes, events_bytes}
use Rattle.running.specs.Engine.{fits_value, fits_effect, fits_new, fits_told, fits_form, fits, unfit_within, with_inputs, with_read, with_record, outcome, stop_ending, events_left, store_left, result, events_out, store_out, engine, engine_events, engine_store, ending_values, engine_answer}
use Rattle.running.specs.Program.{part_end, returned_bytes, bytes_left, when_done, output_of, output_with, run_output}

unfoldable pub all_of_running : Type 0
unfolding all_of_machine land_in land take_step steps start word two_words plain_behind value_behind stored_test set_behind stored_behind stored_value answer_test value_answer answer_behind house_answer form_test in_form stored to_end answers of_types values_from type_byte words value_bytes stored_bytes answer_bytes form_bytes store_bytes answers_bytes event_bytes events_bytes fits_value fits_effect fits_new fits_told fits_form fits unfit_within with_inputs with_read with_record outcome stop_ending events_left store_left result events_out store_out engine engine_events engine_store ending_values engine_answer part_end returned_bytes bytes_left when_done output_of output_with run_output
all_of_running = Unit
