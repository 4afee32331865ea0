-- What an accepted function satisfies, as far as its runs need it.
use Prim.Native.Nat.{ℕ, ◌<◌, ◌≤◌}
use mathlib.Core.Path.{◌≡◌}
use mathlib.Core.Bool.{Bool, true, false}
use mathlib.Core.List.{List, [], ◌∷◌}
use lib.Dec.{T}
use Rattle.arith.specs.Value.{tbool}
use Rattle.arith.specs.Operation.{Expr}
use Rattle.record.specs.declared.NameIx.{NameIx}
use Rattle.record.specs.Record.{Instr, Block, Function, names_of, type_in}
use Rattle.record.specs.Form.{Form, pure, new, effect, return, nop, jump, branch, form}
use Rattle.numbering.specs.Number.{reads}
use Rattle.numbering.proofs.Saves.{Original}
use Rattle.pairing.specs.Joint.{Typed}
use Rattle.pairing.specs.Demand.{All}

-- jmp, br and ret
unfoldable pub terminates : Form → Bool
terminates (pure e) = false
terminates (new xs) = false
terminates (effect xs) = false
terminates (return xs) = true
terminates nop = false
terminates (jump b) = true
terminates (branch a b c) = true

-- N: how many names there are; t: the type of each
pub record FitInstr (N : ℕ) (t : NameIx → ℕ) (i : Instr) : Type 0 where
  pub args : All (λ x. x.0 < N) (reads (form t i))
  -- what it reads is what it has as arguments
  pub all_read : reads (form t i) ≡ i.args
  -- its dest is one of them, and its code has one where its form gives a value
  pub original : Original N t i
  pub typed : (e : Expr NameIx) → form t i ≡ pure e → Typed t e (t i.dest)
  pub tested : (x : NameIx) (b c : ℕ) → form t i ≡ branch x b c → t x ≡ tbool

abbrev pub FitBody : ℕ → (NameIx → ℕ) → List Instr → Type 0
FitBody N t [] = Unit {0}
FitBody N t (i ∷ is) = FitInstr N t i × ((T (terminates (form t i)) → is ≡ []) × FitBody N t is)

pub record FitFunction (f : Function) : Type 0 where
  pub few : f.args ≤ names_of f
  pub blocks : All (λ (b : Block Instr). FitBody (names_of f) (type_in f.types) b.body) f.blocks
