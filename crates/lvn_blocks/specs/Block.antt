-- A block read again, numbered and written: what the code asks of it and what it then has.
use Rattle.std.specs.Prelude.{ℕ, ◌+◌, ◌*◌, ◌<◌, ◌≤◌, List, [], ◌∷◌, ◌++◌, map, ◌≡◌}
use Rattle.record.specs.declared.NameIx.{NameIx}
use Rattle.record.specs.Record.{Instr, arg}
use Rattle.record.specs.Write.{row_bytes, instr_bytes}
use Rattle.record.specs.Decode.{instr_from, instr_end}
use Rattle.record.specs.Again.{instrs_from, instrs_end, Passing}
use Rattle.record.specs.Sizes.{longest_instr, longest_lines, places_end}
use Rattle.numbering.specs.State.{State}
use Rattle.numbering.specs.Number.{Emitted, instr_lvn, block_lvn, saved_in}
use Rattle.write_bytes.specs.Put.{Wrote, IdWidth}
use Rattle.lvn_state.specs.Room.{room, Maps}
use Rattle.read_layout.specs.declared.Layout.{Layout}
use Rattle.read_layout.specs.declared.Spot.{Spot}

-- ---- writing
unfoldable pub body_bytes : ℕ → List Instr → List ℕ
body_bytes w is = row_bytes instr_bytes w is

-- what saves save
abbrev pub saved_by : List Instr → List ℕ
saved_by is = map (λ i. (arg i 0).0) is

abbrev pub indexes : List NameIx → List ℕ
indexes xs = map (λ x. x.0) xs

-- what is written of an instruction
abbrev pub lines : Emitted → List Instr
lines e = e.saves ++ (e.instr ∷ [])

-- ---- what is asked where n instructions are left, in the state st over M names and N numbers: that they pass their tests, and that the
-- names of the input, the numbers and made names that they can need, and the places that they reach all have room
pub record Asks (M N : ℕ) (F : Layout) (s : List ℕ) (st : State) (at : Spot) (n : ℕ) : Type 0 where
  pub width : IdWidth F.width
  pub some : 0 < M
  pub maps : Maps M N
  pub names : F.names ≤ M
  pub numbers : room M st + n ≤ N
  pub made : F.names + st.temps + n < 65535
  pub reads : at.p + longest_instr * n < places_end
  pub writes : at.q + longest_lines * n < places_end
  pub passing : Passing F.names (instrs_from F.width s at.p n)

-- ---- one instruction done: st is the state before it and st' behind it; made: the table of what each K saved
abbrev pub emitted_from : Layout → List ℕ → (NameIx → ℕ) → State → ℕ → Emitted
emitted_from F s ty st p = instr_lvn F.names ty st (instr_from F.width s p)

pub record Turned
    (F : Layout) (s : List ℕ) (ty : NameIx → ℕ) (at r : Spot) (st st' : State) (made made' out out' : List ℕ) : Type 0 where
  pub state : st' ≡ (emitted_from F s ty st at.p).state
  pub written : Wrote out out' at.q r.q (body_bytes F.width (lines (emitted_from F s ty st at.p)))
  pub noted : Wrote made made' st.temps st'.temps (indexes (saved_in F.names (lines (emitted_from F s ty st at.p))))
  pub next : r.p ≡ instr_end F.width s at.p
  pub near : r.p ≤ at.p + longest_instr
  pub close : r.q ≤ at.q + longest_lines

-- ---- n instructions done
module _ (F : Layout) (s : List ℕ) (ty : NameIx → ℕ) where
  abbrev pub body_of : State → ℕ → ℕ → List Instr
  body_of st p n = (block_lvn F.names ty st (instrs_from F.width s p n)).body

  abbrev pub temps_of : State → ℕ → ℕ → ℕ
  temps_of st p n = (block_lvn F.names ty st (instrs_from F.width s p n)).temps

pub record Done
    (F : Layout) (s : List ℕ) (ty : NameIx → ℕ) (at r : Spot) (st st' : State) (n : ℕ) (made made' out out' : List ℕ) : Type 0 where
  pub written : Wrote out out' at.q r.q (body_bytes F.width (body_of F s ty st at.p n))
  pub noted : Wrote made made' st.temps st'.temps (indexes (saved_in F.names (body_of F s ty st at.p n)))
  pub temps : st'.temps ≡ temps_of F s ty st at.p n
  pub next : r.p ≡ instrs_end F.width s at.p n
  pub near : r.p ≤ at.p + longest_instr * n
  pub close : r.q ≤ at.q + longest_lines * n
