-- One name for the definitions that examples of operations compute with: `unfolding all_of_arith` unfolds each of them.
use Rattle.std.proofs.Math.Bool.{xor}
use Rattle.std.proofs.Math.Decide.{ℕ_discrete}
use Rattle.arith.specs.Map.{upd}
use Rattle.arith.specs.Word.{add_w, sub_w, mul_w, div_w, lt_w}
use Rattle.arith.specs.Value.{type_of, in_range}
use Rattle.arith.specs.Operation.{as_int, as_bool, with_both, with_one, divide, shift, apply1, apply2, eval}
use Rattle.arith.specs.Code.{code1, code2, with_code, one_of, two_of}

unfoldable pub all_of_arith : Type 0
unfolding xor ℕ_discrete upd add_w sub_w mul_w div_w lt_w type_of in_range as_int as_bool with_both with_one divide shift apply1 apply2 eval code1 code2 with_code one_of two_of
all_of_arith = Unit
