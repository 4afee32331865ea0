-- "Function record": what a record holds. Texts stand beside the function, so that numbering and machine cannot look at them.
use Rattle.std.specs.Prelude.{ℕ, ◌<◌, List, [], ◌∷◌, map, true, false, get_or, length, cond, eqb}
use mathlib.Core.HLevel.{Discrete}
use Rattle.std.proofs.Math.Decide.{ℕ_discrete}
use Rattle.arith.specs.Equal.{map_dec}
use Rattle.record.specs.declared.NameIx.{NameIx}
use Rattle.record.specs.declared.Limits.{Limits}

abbrev pub nm : ℕ → NameIx
nm i = record { 0 = i }

abbrev pub NameIx-discrete : Discrete NameIx
NameIx-discrete x y = map_dec (λ p i. nm (p i)) (λ p i. (p i).0) (ℕ_discrete x.0 y.0)

-- a list of bytes
abbrev pub Bytes : List ℕ → Type 0
Bytes [] = Unit {0}
Bytes (b ∷ s) = (b < 256) × Bytes s

-- a literal as it stands in a record: "Kind 0 is a signed int, 1 a bool (0 or 1), 2 float bits, 3 a Unicode scalar value"
pub record Lit : Type 0 where
  pub kind : ℕ
  pub bits : ℕ

abbrev pub no_lit : Lit
no_lit = record { kind = 0; bits = 0 }

-- a part that its code does not have is 0 or empty. The width of an id belongs to reading and writing alone
pub record Instr : Type 0 where
  pub id : ℕ
  pub code : ℕ
  pub dest : NameIx
  pub lit : Lit
  pub args : List NameIx
  pub callee : ℕ
  pub blocks : List ℕ

-- an instruction with its offset in the record
pub record Placed : Type 0 where
  pub at : ℕ
  pub it : Instr

-- over instructions, or over instructions with their offsets
pub record Block (I : Type 0) : Type 0 where
  pub saves : ℕ
  pub body : List I

-- a type is its byte
pub record Name : Type 0 where
  pub type : ℕ
  pub text : List ℕ

pub record Record (I : Type 0) : Type 0 where
  pub version : ℕ
  pub args : ℕ
  pub names : List Name
  pub blocks : List (Block I)

-- the function of a record: arguments A, the type of each name, the blocks
pub record Function : Type 0 where
  pub args : ℕ
  pub types : List ℕ
  pub blocks : List (Block Instr)

-- the offsets forgotten
abbrev pub plain_block : Block Placed → Block Instr
plain_block b = record { saves = b.saves; body = map (λ i. i.it) b.body }

abbrev pub plain : Record Placed → Record Instr
plain r = record { version = r.version; args = r.args; names = r.names; blocks = map plain_block r.blocks }

abbrev pub function : Record Instr → Function
function r = record { args = r.args; types = map (λ x. x.type) r.names; blocks = r.blocks }

abbrev pub texts : Record Instr → List (List ℕ)
texts r = map (λ x. x.text) r.names

-- N
abbrev pub names_of : Function → ℕ
names_of f = length f.types

-- the type of a name
unfoldable pub type_in : List ℕ → NameIx → ℕ
type_in ts x = get_or ts x.0 0

-- an argument of an instruction that has it
abbrev pub arg : Instr → ℕ → NameIx
arg i k = get_or i.args k (nm 0)

-- "Limits: A 16, N 256, text 1 to 32, B 64, n 256"; A and B are the same for every record
abbrev pub most_args : ℕ
most_args = 16

abbrev pub most_blocks : ℕ
most_blocks = 64

abbrev pub limits : Limits
limits = record { names = 256; text = 32; body = 256; made = false }

-- "A rewriting may pass N, n and the text limit": what a rewriting can reach
abbrev pub wide : Limits
wide = record { names = 16640; text = 42; body = 512; made = true }

-- the bytes of an id in a record of this version: "id (4)"; "Version 2 of the record has 8-byte ids and is otherwise the same"
unfoldable pub id_bytes : ℕ → ℕ
id_bytes version = cond (eqb version 2) 8 4
