-- What stands behind an instruction's id and code, by the shape of the code: dest, literal, the row of arguments, callee, block numbers,
-- and where the next instruction stands; and what check's tests say of them.
use Prim.Native.Nat.{ℕ, ◌+◌, ◌*◌, ◌<◌, ◌≤◌}
use mathlib.Core.Path.{◌≡◌, refl, ap, ◌∙◌, subst}
use mathlib.Core.List.{List, []}
use mathlib.Core.Bool.{Bool, true, false, cond, not}
use native.Mathlib.Omega.{arith}
use lib.ListN.{length, get_or}
use lib.Dec.{eqb}
use Rattle.record.specs.declared.NameIx.{NameIx}
use Rattle.record.specs.declared.Shape.{Shape}
use Rattle.record.specs.Record.{nm, Instr}
use Rattle.record.specs.Shape.{targets, shape_of}
use Rattle.record.specs.Reader.{num_at}
use Rattle.record.specs.Decode.{items, behind, two_on, index_from, number_from, operands_end, operands_from, instr_from, instr_end}
use Rattle.record.specs.Good.{There, IndexOk, LitOk, ArgsOk, OperandsOk}
use Rattle.record.specs.Again.{Passes}
use Rattle.record.proofs.Tests.{at_most_le, below_lt, count_few, count_most, code_known}
use Rattle.record.proofs.Decode.{item_at, length_items, behind_two}
use Rattle.engine_cells.specs.Cells.{row_from}

-- ---- behind a code; at: the place there
-- where the count of the arguments stands
abbrev pub count_place : Shape → ℕ → ℕ
count_place sh at = cond sh.dest (at + 2) at

-- how many there are
abbrev pub count_there : Shape → List ℕ → ℕ → ℕ
count_there sh s at = num_at s (count_place sh at) 1

-- the place behind them, and behind the callee
abbrev pub row_end : Shape → List ℕ → ℕ → ℕ
row_end sh s at = count_place sh at + 1 + 2 * count_there sh s at

abbrev pub callee_end : Shape → List ℕ → ℕ → ℕ
callee_end sh s at = cond sh.callee (row_end sh s at + 2) (row_end sh s at)

module _ (sh : Shape) (s : List ℕ) (at id code : ℕ) where
  abbrev it : Instr
  it = operands_from sh s at id code

  dest_there : sh.dest ≡ true → it.dest ≡ index_from s at
  unfolding operands_from
  dest_there d = rw d

  lit_there : sh.dest ≡ true → sh.literal ≡ true → it.lit ≡ record { kind = num_at s (at + 2) 1; bits = num_at s (at + 2 + 1) 8 }
  unfolding operands_from
  lit_there d l = rw (d, l)

  lit_end : sh.dest ≡ true → sh.literal ≡ true → sh.callee ≡ false → targets sh 0 ≡ 0 → operands_end sh s at ≡ at + 2 + 1 + 8
  unfolding operands_end behind
  lit_end d l c t = rw (d, l, c, t)

  module _ (l : sh.literal ≡ false) where
    args_there : it.args ≡ row_from s (count_place sh at + 1) (count_there sh s at)
    unfolding operands_from
    args_there = rw l

    callee_there : sh.callee ≡ true → it.callee ≡ num_at s (row_end sh s at) 2
    unfolding operands_from
    callee_there c = rw (l, c, ← behind_two (count_place sh at + 1) (count_there sh s at))

    callee_none : sh.callee ≡ false → it.callee ≡ 0
    unfolding operands_from
    callee_none c = rw c

    blocks_there : it.blocks ≡ items (number_from s) two_on (callee_end sh s at) (targets sh (count_there sh s at))
    unfolding operands_from
    blocks_there = rw (l, ← behind_two (count_place sh at + 1) (count_there sh s at))

    end_there : operands_end sh s at ≡ callee_end sh s at + 2 * targets sh (count_there sh s at)
    unfolding operands_end
    end_there =
        rw (l, ← behind_two (count_place sh at + 1) (count_there sh s at))
        (behind_two _ _)

-- ---- an instruction, in a record of N names that it passes; w: the bytes of an id
module _ (w : ℕ) (s : List ℕ) (at : ℕ) where
  abbrev pub code_of : ℕ
  code_of = num_at s (at + w) 1

  abbrev shape : Shape
  shape = shape_of code_of

  abbrev behind_code : ℕ
  behind_code = at + w + 1

  pub id_is : (instr_from w s at).id ≡ num_at s at w
  unfolding instr_from operands_from
  id_is = refl

  pub code_is : (instr_from w s at).code ≡ code_of
  unfolding instr_from operands_from
  code_is = refl

  pub dest_is : shape.dest ≡ true → (instr_from w s at).dest ≡ index_from s behind_code
  unfolding instr_from
  dest_is d = dest_there shape s behind_code (num_at s at w) code_of d

  -- a literal
  module _ (d : shape.dest ≡ true) (l : shape.literal ≡ true) where
    pub lit_is : (instr_from w s at).lit ≡ record { kind = num_at s (behind_code + 2) 1; bits = num_at s (behind_code + 2 + 1) 8 }
    unfolding instr_from
    lit_is = lit_there shape s behind_code (num_at s at w) code_of d l

    pub lit_ends : shape.callee ≡ false → targets shape 0 ≡ 0 → instr_end w s at ≡ behind_code + 11
    unfolding instr_end
    lit_ends c t = lit_end shape s behind_code (num_at s at w) code_of d l c t ∙ omega arith

  -- a row of arguments
  module _ (l : shape.literal ≡ false) where
    pub args_are : (instr_from w s at).args ≡ row_from s (count_place shape behind_code + 1) (count_there shape s behind_code)
    unfolding instr_from
    args_are = args_there shape s behind_code (num_at s at w) code_of l

    pub arg_is :
        (k : ℕ) → k < count_there shape s behind_code →
        get_or (instr_from w s at).args k (nm 0) ≡ index_from s (count_place shape behind_code + 1 + 2 * k)
    arg_is k h =
        ap (λ (xs : List NameIx). get_or xs k (nm 0)) args_are ∙
        item_at (index_from s) two_on (nm 0) k (count_there shape s behind_code) (count_place shape behind_code + 1) h ∙
        ap (index_from s) (behind_two (count_place shape behind_code + 1) k)

    pub callee_is : shape.callee ≡ true → (instr_from w s at).callee ≡ num_at s (row_end shape s behind_code) 2
    unfolding instr_from
    callee_is c = callee_there shape s behind_code (num_at s at w) code_of l c

    pub no_callee : shape.callee ≡ false → (instr_from w s at).callee ≡ 0
    unfolding instr_from
    no_callee c = callee_none shape s behind_code (num_at s at w) code_of l c

    pub block_is :
        (k : ℕ) → k < targets shape (count_there shape s behind_code) →
        get_or (instr_from w s at).blocks k 0 ≡ num_at s (callee_end shape s behind_code + 2 * k) 2
    unfolding instr_from number_from
    block_is k h =
        ap (λ (xs : List ℕ). get_or xs k 0) (blocks_there shape s behind_code (num_at s at w) code_of l) ∙
        item_at (number_from s) two_on 0 k (targets shape (count_there shape s behind_code)) (callee_end shape s behind_code) h ∙
        ap (number_from s) (behind_two (callee_end shape s behind_code) k)

    pub ends_at : instr_end w s at ≡ callee_end shape s behind_code + 2 * targets shape (count_there shape s behind_code)
    unfolding instr_end
    ends_at = end_there shape s behind_code (num_at s at w) code_of l

  module _ (N : ℕ) (ok : Passes N (instr_from w s at)) where
    passed : OperandsOk N ok.blocks shape (instr_from w s at)
    unfolding instr_from operands_from
    passed = ok.ok.rest

    pub known_code : shape.known ≡ true
    unfolding instr_from operands_from
    known_code = code_known (eqb ok.left 0) code_of ok.ok.code

    pub dest_below : shape.dest ≡ true → num_at s behind_code 2 < N
    unfolding index_from
    dest_below d =
        let h : IndexOk N (instr_from w s at).dest = rw d at passed.dest in
        below_lt N (num_at s behind_code 2) (rw (dest_is d) at h)

    pub kind_most : shape.dest ≡ true → shape.literal ≡ true → num_at s (behind_code + 2) 1 ≤ 3
    kind_most d l =
        let h : LitOk (instr_from w s at).lit = rw l at passed.lit in
        at_most_le 3 (num_at s (behind_code + 2) 1) (rw (lit_is d l) at h.kind)

    module _ (l : shape.literal ≡ false) where
      args_pass : ArgsOk N shape (instr_from w s at).args
      args_pass = subst (λ (b : Bool). There (not b) (ArgsOk N shape) [] (instr_from w s at).args) l passed.args

      args_number : length (instr_from w s at).args ≡ count_there shape s behind_code
      args_number =
          ap length (args_are l) ∙
          length_items (index_from s) two_on (count_there shape s behind_code) (count_place shape behind_code + 1)

      pub count_least : shape.few ≤ count_there shape s behind_code
      count_least = rw args_number at (count_few shape (length (instr_from w s at).args) args_pass.count)

      pub count_greatest : count_there shape s behind_code ≤ shape.most
      count_greatest = rw args_number at (count_most shape (length (instr_from w s at).args) args_pass.count)
