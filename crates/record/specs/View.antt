-- The instructions of the code as those of a record: what its contracts say of them.
use Rattle.std.specs.Prelude.{ℕ, List, map, take}
use Rattle.arith.specs.Code.{code1, code2}
use Rattle.record.specs.declared.Op.{Op}
use Rattle.record.specs.declared.Op.TheVariants.{Const, One, Two, New, Effect, Nop, Jmp, Br, Ret}
use Rattle.record.specs.declared.Row.{Row}
use Rattle.record.specs.declared.Instruction.{Instruction}
use Rattle.record.specs.Record.{nm, Instr}
use Rattle.record.specs.Answer.{literal_of}

unfoldable pub code_of : Op → ℕ
code_of Const = 0
code_of (One o) = code1 o
code_of (Two o) = code2 o
code_of (New c) = c
code_of (Effect c) = c
code_of Nop = 69
code_of Jmp = 64
code_of Br = 65
code_of Ret = 66

abbrev pub row_of : Row → List ℕ
row_of r = take r.count r.items

unfoldable pub instr_of : Instruction → Instr
instr_of i =
    record {
      id = i.id;
      code = code_of i.op;
      dest = i.dest;
      lit = literal_of i.literal;
      args = map nm (row_of i.args);
      callee = i.callee;
      blocks = row_of i.blocks;
    }
