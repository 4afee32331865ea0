-- One name for the definitions that examples of records compute with: `unfolding all_of_record` unfolds each of them.
use Rattle.arith.specs.Opened.{all_of_arith}
use Rattle.record.specs.Hex.{digit_value, bytes_from, hex}
use Rattle.record.specs.Record.{type_in, id_bytes}
use Rattle.record.specs.Text.{all_text, well_formed, undigited, reserved, same_bytes, among}
use Rattle.record.specs.Tests.{any, at_most, below, length_test, version_test, names_test, type_test, text_length_test, text_test, saves_test, code_test, count_test, literal_test}
use Rattle.record.specs.Reader.{give, ◌>>=◌, here, field, text, if_there, times}
use Rattle.record.specs.Shape.{shape_of}
use Rattle.record.specs.Read.{name_index, literal, arguments, operands, instr, block, name, names, length_field, end, contents, read}
use Rattle.record.specs.Form.{value_of, form}
use Rattle.record.specs.Typing.{each_is, obeys, well_typed, body_types, block_types, accept}
use Rattle.record.specs.Answer.{number, check_answer, checked, literal_of}
use Rattle.record.specs.Write.{be, join, when, index_bytes, literal_bytes, argument_bytes, operand_bytes, instr_bytes, block_bytes, name_bytes, content_bytes, bytes}
use Rattle.record.specs.Versions.{converted_bytes, first_wide, convert_answer, converted_as, convert_result, written_as, convert_output, convert, convert_leaves}

unfoldable pub all_of_record : Type 0
unfolding all_of_arith digit_value bytes_from hex type_in id_bytes all_text well_formed undigited reserved same_bytes among any at_most below length_test version_test names_test type_test text_length_test text_test saves_test code_test count_test literal_test give ◌>>=◌ here field text if_there times shape_of name_index literal arguments operands instr block name names length_field end contents read value_of form each_is obeys well_typed body_types block_types accept number check_answer checked literal_of be join when index_bytes literal_bytes argument_bytes operand_bytes instr_bytes block_bytes name_bytes content_bytes bytes converted_bytes first_wide convert_answer converted_as convert_result written_as convert_output convert convert_leaves
all_of_record = Unit
