-- Records whose fields all pass their tests: what an accepted record is, and what reads back.
use Rattle.std.specs.Prelude.{ℕ, ◌<◌, ◌≤◌, List, [], ◌∷◌, ◌++◌, Bool, true, false, not, ◌≡◌, length, eqb}
use Rattle.record.specs.declared.NameIx.{NameIx}
use Rattle.record.specs.declared.Shape.{Shape}
use Rattle.record.specs.declared.Limits.{Limits}
use Rattle.std.specs.Prelude.{Ok}
use Rattle.record.specs.Record.{nm, Lit, no_lit, Instr, Block, Name, Record, most_args, most_blocks}
use Rattle.record.specs.Shape.{targets, shape_of}
use Rattle.record.specs.Tests.{any, at_most, below, version_test, names_test, type_test, text_length_test, text_test, saves_test, code_test, count_test, literal_test}

-- a part that is there satisfies P, one that is not is d
abbrev pub There : {A : Type 0} → Bool → (A → Type 0) → A → A → Type 0
There true P d x = P x
There false P d x = x ≡ d

-- of each item, told how many stand behind it
abbrev pub Each : {A : Type 0} → (ℕ → A → Type 0) → List A → Type 0
Each P [] = Unit {0}
Each P (x ∷ xs) = P (length xs) x × Each P xs

abbrev pub IndexOk : ℕ → NameIx → Type 0
IndexOk N x = below N x.0 ≡ Ok tt

pub record LitOk (l : Lit) : Type 0 where
  pub kind : at_most 3 l.kind ≡ Ok tt
  pub bits : literal_test l.kind l.bits ≡ Ok tt

pub record ArgsOk (N : ℕ) (sh : Shape) (xs : List NameIx) : Type 0 where
  pub count : count_test sh (length xs) ≡ Ok tt
  pub each : Each (λ left x. IndexOk N x) xs

-- what stands behind the code of an instruction, in a record of N names and B blocks
pub record OperandsOk (N B : ℕ) (sh : Shape) (i : Instr) : Type 0 where
  pub dest : There sh.dest (IndexOk N) (nm 0) i.dest
  pub lit : There sh.literal LitOk no_lit i.lit
  pub args : There (not sh.literal) (ArgsOk N sh) [] i.args
  pub callee : There sh.callee (λ x. any x ≡ Ok tt) 0 i.callee
  pub targets : targets sh (length i.args) ≡ length i.blocks
  pub blocks : Each (λ left x. below B x ≡ Ok tt) i.blocks

-- "argument count 0 to 8, arguments, then one block number per argument. Arguments have dest's type": a phi of a record of B blocks; t: the type
-- of each name
pub record PhiOk (B : ℕ) (t : NameIx → ℕ) (i : Instr) : Type 0 where
  pub few : length i.args ≤ 8
  pub one_each : length i.blocks ≡ length i.args
  pub blocks : Each (λ left b. b < B) i.blocks
  pub callee : i.callee ≡ 0
  pub types : Each (λ left x. t x ≡ t i.dest) i.args

-- left: how many instructions stand behind it
pub record InstrOk (N B left : ℕ) (i : Instr) : Type 0 where
  pub code : code_test (eqb left 0) i.code ≡ Ok tt
  pub rest : OperandsOk N B (shape_of i.code) i

pub record BlockOk (lim : Limits) (N B : ℕ) (b : Block Instr) : Type 0 where
  pub size : at_most lim.body (length b.body) ≡ Ok tt
  pub saves : saves_test lim.made b.saves ≡ Ok tt
  pub body : Each (InstrOk N B) b.body

-- seen: the texts before
pub record NameOk (lim : Limits) (seen : List (List ℕ)) (x : Name) : Type 0 where
  pub type : type_test x.type ≡ Ok tt
  pub size : text_length_test lim.text (length x.text) ≡ Ok tt
  pub text : text_test lim.made seen x.text ≡ Ok tt

abbrev pub NamesOk : Limits → List (List ℕ) → List Name → Type 0
NamesOk lim seen [] = Unit {0}
NamesOk lim seen (x ∷ xs) = NameOk lim seen x × NamesOk lim (seen ++ (x.text ∷ [])) xs

pub record RecordOk (lim : Limits) (r : Record Instr) : Type 0 where
  pub version : version_test r.version ≡ Ok tt
  pub args : at_most most_args r.args ≡ Ok tt
  pub size : names_test lim.names r.args (length r.names) ≡ Ok tt
  pub names : NamesOk lim [] r.names
  pub count : at_most most_blocks (length r.blocks) ≡ Ok tt
  pub blocks : Each (λ left b. BlockOk lim (length r.names) (length r.blocks) b) r.blocks
