-- What an instruction does, by its code: the view of it that numbering and machine share.
use Rattle.std.specs.Prelude.{ℕ, zero, suc, List, cond, not, get_or, leb, eqb}
use Rattle.std.proofs.Math.Option.{Option, none, some}
use Rattle.arith.specs.declared.One.{One}
use Rattle.arith.specs.declared.Two.{Two}
use Rattle.arith.specs.Value.{tfloat, Val, int, float, literal, char, bool}
use Rattle.arith.specs.Operation.{Expr, constant, one, two}
use Rattle.arith.specs.Code.{one_of, two_of}
use Rattle.record.specs.declared.NameIx.{NameIx}
use Rattle.record.specs.Record.{Instr, arg}

-- an operation on values; a value that is new each time (20 to 39); an effect that asks the world (67, 68, 70, 71); nop, jmp, br, ret
pub data Form : Type 0 where
  pure : Expr NameIx → Form
  new effect return : List NameIx → Form
  nop : Form
  jump : ℕ → Form
  branch : NameIx → ℕ → ℕ → Form

-- the value of a literal in a name of type t: "An int literal in a float is the value 'that literal'"
unfoldable pub value_of : ℕ → ℕ → ℕ → Val
value_of t zero bits = cond (eqb t tfloat) (literal bits) (int bits)
value_of t (suc zero) bits = bool (not (eqb bits 0))
value_of t (suc (suc zero)) bits = float bits
value_of t (suc (suc (suc kind))) bits = char bits

abbrev pub operation : Option One → Option Two → NameIx → NameIx → Form → Form
operation (some o) p a b other = pure (one o a)
operation none (some o) a b other = pure (two o a b)
operation none none a b other = other

-- t: the type of each name, of which dest's decides what an int literal is
unfoldable pub form : (NameIx → ℕ) → Instr → Form
form t i =
    let c = i.code in
    cond (eqb c 0) (pure (constant (value_of (t i.dest) i.lit.kind i.lit.bits)))
    (operation (one_of c) (two_of c) (arg i 0) (arg i 1)
    (cond (leb c 63) (new i.args)
    (cond (eqb c 64) (jump (get_or i.blocks 0 0))
    (cond (eqb c 65) (branch (arg i 0) (get_or i.blocks 0 0) (get_or i.blocks 1 0))
    (cond (eqb c 66) (return i.args)
    (cond (eqb c 69) nop (effect i.args)))))))
