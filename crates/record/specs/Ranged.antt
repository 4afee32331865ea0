-- Records whose numbers fit their fields, as far as no test says so: what is read from bytes is one, and bytes are written of one.
use Rattle.std.specs.Prelude.{ℕ, ◌<◌, ◌^◌}
use Rattle.record.specs.Record.{Bytes, Instr, Block, Name, Record, id_bytes}
use Rattle.record.specs.Good.{Each}

-- w: the bytes of an id
pub record RangedInstr (w : ℕ) (i : Instr) : Type 0 where
  pub id : i.id < 256 ^ w
  pub bits : i.lit.bits < 256 ^ 8
  pub callee : i.callee < 256 ^ 2

pub record RangedBlock (w : ℕ) (b : Block Instr) : Type 0 where
  pub saves : b.saves < 256 ^ 2
  pub body : Each (λ left i. RangedInstr w i) b.body

pub record RangedName (x : Name) : Type 0 where
  pub type : x.type < 256
  pub text : Bytes x.text

pub record Ranged (r : Record Instr) : Type 0 where
  pub names : Each (λ left x. RangedName x) r.names
  pub blocks : Each (λ left b. RangedBlock (id_bytes r.version) b) r.blocks
