-- What each code does and what each literal is worth, by enumeration.
use Rattle.std.specs.Prelude.{ℕ, ◌≡◌, refl, true, false, [], ◌∷◌, map}
use Rattle.arith.specs.declared.One.TheVariants.{Not, Id}
use Rattle.arith.specs.declared.Two.TheVariants.{Add, Sub, Mul, Div, Eq, Lt, Gt, Le, Ge, And, Or, PtrAdd}
use Rattle.arith.specs.Value.{tint, tfloat, int, float, literal, char, bool}
use Rattle.arith.specs.Operation.{constant, one, two}
use Rattle.arith.specs.Code.{code1, code2, with_code, one_of, two_of}
use Rattle.record.specs.Record.{nm}
use Rattle.record.specs.Form.{Form, pure, new, effect, return, nop, jump, branch, value_of, form}
use Rattle.record.specs.Tables.{count}

-- arguments 1 and 2, blocks 3 and 4, the literal 5
abbrev pub form_of : ℕ → Form
form_of c =
    form (λ x. tint)
    (record {
      id = 0;
      code = c;
      dest = nm 0;
      lit = record { kind = 0; bits = 5 };
      args = nm 1 ∷ nm 2 ∷ [];
      callee = 0;
      blocks = 3 ∷ 4 ∷ [];
    })

pub operations :
    map form_of (count 0 15) ≡
    map pure
    (constant (int 5) ∷
    two Add (nm 1) (nm 2) ∷
    two Sub (nm 1) (nm 2) ∷
    two Mul (nm 1) (nm 2) ∷
    two Div (nm 1) (nm 2) ∷
    two Eq (nm 1) (nm 2) ∷
    two Lt (nm 1) (nm 2) ∷
    two Gt (nm 1) (nm 2) ∷
    two Le (nm 1) (nm 2) ∷
    two Ge (nm 1) (nm 2) ∷
    one Not (nm 1) ∷
    two And (nm 1) (nm 2) ∷
    two Or (nm 1) (nm 2) ∷
    one Id (nm 1) ∷
    two PtrAdd (nm 1) (nm 2) ∷
    [])
unfolding count form value_of one_of two_of with_code code1 code2
operations = refl

pub new_each_time : map form_of (count 20 20) ≡ map (λ c. new (nm 1 ∷ nm 2 ∷ [])) (count 20 20)
unfolding count form value_of one_of two_of with_code code1 code2
new_each_time = refl

pub effects :
    map form_of (count 64 8) ≡
    jump 3 ∷
    branch (nm 1) 3 4 ∷
    return (nm 1 ∷ nm 2 ∷ []) ∷
    effect (nm 1 ∷ nm 2 ∷ []) ∷
    effect (nm 1 ∷ nm 2 ∷ []) ∷
    nop ∷
    effect (nm 1 ∷ nm 2 ∷ []) ∷
    effect (nm 1 ∷ nm 2 ∷ []) ∷
    []
unfolding count form value_of one_of two_of with_code code1 code2
effects = refl

-- an int literal in a float is a value apart from the int
pub literals :
    value_of tint 0 5 ∷ value_of tfloat 0 5 ∷ value_of 1 1 0 ∷ value_of 1 1 1 ∷ value_of tfloat 2 5 ∷ value_of 3 3 97 ∷ [] ≡
    int 5 ∷ literal 5 ∷ bool false ∷ bool true ∷ float 5 ∷ char 97 ∷ []
unfolding value_of
literals = refl
