-- `lvn_blocks::put_save` meets its contract.
use Prim.Native.Nat.{ℕ, ◌^◌, ◌<◌}
use mathlib.Core.Path.{sym, subst}
use native.Mathlib.Omega.{arith}
use Rattle.record.specs.View.{instr_of}
use Rattle.lvn_blocks.proofs.Lines.{no_line, one_line}
use Rattle.lvn_blocks.proofs.put_save.Goals as goal

pub put_instr-requires : goal.put_instr-requires
put_instr-requires c = let e = c.save_instr.ensures in
    (omega (arith, c.requires.0), (c.requires.1.0, (subst (λ (n : ℕ). n < 256 ^ c.args.w) (sym e.1) c.requires.1.1)))

pub returns-in-Some : goal.returns-in-Some
returns-in-Some c = let a = c.args in
    let e = c.put_instr.ensures in
    (one_line a.w a.e.now.made _ (instr_of a.e.now.instr) c.in-Some.is c.save_instr.ensures.0 e.0, e.1)

pub returns-in-None : goal.returns-in-None
returns-in-None c = let a = c.args in (no_line a.w a.e.now.made (instr_of a.e.now.instr) c.in-None.is, omega arith)
