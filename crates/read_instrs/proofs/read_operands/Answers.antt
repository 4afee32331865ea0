-- `read_instrs::read_operands` meets its contract: each part is read at its place.
use Rattle.std.proofs.Common.{ap, refl, arith}
use Rattle.record.specs.Record.{nm}
use Rattle.read_instrs.proofs.Again.{few_arguments, literal_ok, end_there, operands_again}
use Rattle.read_instrs.proofs.read_operands.Goals as goal

pub parts_at-p-requires : goal.parts_at-p-requires
parts_at-p-requires c = (c.requires.0, few_arguments _ _ _ c.args.id c.args.code c.requires.1)

pub read_literal-requires : goal.read_literal-requires
read_literal-requires c = let p = c.parts_at-p.ensures in
    (omega (arith, c.requires.0, p.literal_near), literal_ok p c.args.id c.requires.1)

pub returns : goal.returns
returns c = let p = c.parts_at-p.ensures in
    record {
      instr =
          operands_again p c.args.id _ refl c.op_of.ensures (ap nm c.two_if.ensures) c.read_literal.ensures
          c.read_row.ensures c.two_if-2.ensures c.read_row-2.ensures;
      op = c.op_of.ensures;
      next = end_there p;
      near = omega (arith, p.few_targets, p.blocks_near);
      id = refl;
    }
