-- The operation of a code, by the same tests as its form (record's specs/Form.antt), and the form of an operation.
use Rattle.std.specs.Prelude.{ℕ, cond, get_or, leb, eqb}
use Rattle.std.proofs.Math.Option.{Option, none, some}
use Rattle.arith.specs.declared.One.{One}
use Rattle.arith.specs.declared.Two.{Two}
use Rattle.arith.specs.Operation.{constant, one, two}
use Rattle.arith.specs.Code.{one_of, two_of}
use Rattle.record.specs.declared.NameIx.{NameIx}
use Rattle.record.specs.declared.Op.{Op}
use Rattle.record.specs.Record.{Instr, arg}
use Rattle.record.specs.Form.{Form, pure, new, effect, return, nop, jump, branch, value_of}
use Rattle.record.specs.declared.Op.TheVariants as op

abbrev pub operator : Option One → Option Two → Op → Op
operator (some o) p other = op.One o
operator none (some o) other = op.Two o
operator none none other = other

unfoldable pub op_of : ℕ → Op
op_of c =
    cond (eqb c 0) op.Const
    (operator (one_of c) (two_of c)
    (cond (leb c 63) (op.New c)
    (cond (eqb c 64) op.Jmp
    (cond (eqb c 65) op.Br
    (cond (eqb c 66) op.Ret
    (cond (eqb c 69) op.Nop (op.Effect c)))))))

-- the form of an instruction whose operation this is
abbrev pub form_as : Op → (NameIx → ℕ) → Instr → Form
form_as op.Const t i = pure (constant (value_of (t i.dest) i.lit.kind i.lit.bits))
form_as (op.One o) t i = pure (one o (arg i 0))
form_as (op.Two o) t i = pure (two o (arg i 0) (arg i 1))
form_as (op.New c) t i = new i.args
form_as (op.Effect c) t i = effect i.args
form_as op.Nop t i = nop
form_as op.Jmp t i = jump (get_or i.blocks 0 0)
form_as op.Br t i = branch (arg i 0) (get_or i.blocks 0 0) (get_or i.blocks 1 0)
form_as op.Ret t i = return i.args
