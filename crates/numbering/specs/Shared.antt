-- "gt a b and lt b a to share a number" (document 02, Point 2), said of any two places of a block, and "a new number" (Point 5). That it is
-- so is proved in proofs/Shared.antt and proofs/Phi.antt.
use Rattle.std.specs.Prelude.{ℕ, suc, ◌≡◌, List, [], ◌∷◌}
use Rattle.std.proofs.Math.Option.{none, some}
use Rattle.record.specs.declared.NameIx.{NameIx}
use Rattle.record.specs.Record.{nm, Instr}
use Rattle.record.specs.Short.{gives}
use Rattle.numbering.specs.declared.ValNum.{ValNum}
use Rattle.numbering.specs.State.{vn, State}
use Rattle.numbering.specs.Number.{instr_lvn}

-- the state behind some instructions of a block, from the state s before them
abbrev pub behind : ℕ → (NameIx → ℕ) → State → List Instr → State
behind N t s [] = s
behind N t s (i ∷ is) = behind N t (instr_lvn N t s i).state is

-- the codes of two comparisons of which the one says of a and b what the other says of b and a
pub data Exchanged : ℕ → ℕ → Type 0 where
  gt_lt : Exchanged 7 6
  lt_gt : Exchanged 6 7
  ge_le : Exchanged 9 8
  le_ge : Exchanged 8 9

-- the names a and b have the numbers v and w
pub record Have (s : State) (a b : ℕ) (v w : ValNum) : Type 0 where
  pub left : s.env (nm a) ≡ some v
  pub right : s.env (nm b) ≡ some w

-- from the state s: x = c a b under the id i, the instructions is, then y = d b a under the id j. Where a and b have the same numbers at both,
-- y gets the number that x got
abbrev pub SharesNumber : ℕ → ℕ → ℕ → (NameIx → ℕ) → State → List Instr → (i j x y a b : ℕ) → Type 0
SharesNumber c d N t s is i j x y a b =
    let first = (instr_lvn N t s (gives i x c (a ∷ b ∷ []))).state in
    let between = behind N t first is in
    (v w : ValNum) → Have s a b v w → Have between a b v w →
    (instr_lvn N t between (gives j y d (b ∷ a ∷ []))).state.env (nm y) ≡ first.env (nm x)

-- x has got the number n, the next one before s, with x as its home and no value by which another could be found to be the same
pub record NewNumber (n : ℕ) (x : NameIx) (s : State) : Type 0 where
  pub number : s.env x ≡ some (vn n)
  pub home : s.locs (vn n) ≡ x
  pub value : s.vals (vn n) ≡ none
  pub next : s.next ≡ suc n
