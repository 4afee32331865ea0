-- The instructions of a block one by one: the first passes its tests and lies in the record, and so do the others behind it.
use Prim.Native.Nat.{ℕ, ◌+◌, ◌-◌, ◌<◌, ◌≤◌}
use mathlib.Core.Path.{subst}
use mathlib.Core.List.{List}
use native.Mathlib.Omega.{arith}
use lib.ListN.{length}
use Rattle.record.specs.Decode.{id_width, names_count, instr_from, instr_end}
use Rattle.record.specs.Again.{Passes, Passing}
use Rattle.record.proofs.Again.{instrs_more, end_more}
use Rattle.record.proofs.Ends.{instr_on, instrs_grow}
use Rattle.engine_quiet.specs.declared.Ground.{Ground}
use Rattle.engine_quiet.specs.declared.Spot.{Spot}
use Rattle.engine_quiet.specs.Spot.{body_at, Sound, Facing}

-- ---- the first of some instructions, and the rest
module _ (s : List ℕ) (at n : ℕ) (sound : Sound s at n) (h : 0 < n) where
  abbrev next : ℕ
  next = instr_end (id_width s) s at

  parted : Passes (names_count s) (instr_from (id_width s) s at) × Passing (names_count s) (body_at s next (n - 1))
  parted = subst (Passing (names_count s)) (instrs_more (id_width s) s at n h) sound.passing

  pub first_passes : Passes (names_count s) (instr_from (id_width s) s at)
  first_passes = parted.0

  pub rest_sound : Sound s next (n - 1)
  rest_sound =
      record {
        passing = parted.1;
        inside = subst (λ (e : ℕ). e ≤ length s) (end_more (id_width s) s at n h) sound.inside;
      }

  pub first_inside : next ≤ length s
  first_inside = omega (arith, instrs_grow (id_width s) s next (n - 1), rest_sound.inside)

  pub head_inside : at + id_width s + 1 ≤ length s
  head_inside = omega (arith, instr_on (id_width s) s at, first_inside)

-- ---- a spot with instructions left
pub code_inside : {g : Ground} {p : Spot} → Facing g p → p.at + g.w + 1 ≤ length g.s.now
code_inside {g} {p} f = omega (arith, head_inside g.s.now p.at p.left f.standing.sound f.standing.some, f.grounded.width)
