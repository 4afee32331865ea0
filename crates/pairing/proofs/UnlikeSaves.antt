-- The bound on saves refuses a rewriting with one save too many in any block, and what the counts of demand 3 count, by rows.
use Prim.Native.Nat.{ℕ, zero, suc, ◌≤◌}
use mathlib.Core.Path.{◌≡◌, refl}
use mathlib.Core.List.{List, [], ◌∷◌, map}
use native.Mathlib.Omega.{arith}
use lib.ListN.{length}
use Rattle.arith.specs.Operation.{by_zero}
use Rattle.arith.specs.Value.{tint}
use Rattle.record.specs.Record.{Instr, Block, Function}
use Rattle.record.specs.Shape.{shape_of}
use Rattle.machine.specs.Machine.{at_end, at_ret, at_halt, at_division, before, stopped, nth}
use Rattle.record.specs.Short.{gives, goes}
use Rattle.pairing.specs.Demand.{saves_field, body_of, saves_passed, saves_before, count_dests, SavesBounded}
use Rattle.pairing.specs.Wrong.{const, print, nop, ret, id, saving, body, fn}
use Rattle.pairing.specs.Opened.{all_of_pairing}

-- ---- "No block has more saves than the same block of the input has instructions with a destination."
-- three blocks: two instructions with a dest among four; none among three; one
abbrev bounded : Function
bounded =
    fn 1 (tint ∷ [])
    (body (const 1 0 7 ∷ print 2 0 ∷ id 3 0 0 ∷ nop 4 ∷ []) ∷ body (print 5 0 ∷ nop 6 ∷ goes 7 2 ∷ []) ∷ body (const 8 0 7 ∷ ret 9 0 ∷ []) ∷ [])

-- a rewriting with these saves filed for its blocks
abbrev filing : List ℕ → Function
filing ks = fn 1 (tint ∷ []) (map (λ k. saving k []) ks)

pub record Bound : Type 0 where
  -- as many as there are destinations, in each block
  pub all : SavesBounded bounded (filing (2 ∷ 0 ∷ 1 ∷ []))
  -- one more: in the first block, in one without a destination, in the last, in one that the input does not have
  pub first : SavesBounded bounded (filing (3 ∷ 0 ∷ 1 ∷ [])) → ⊥
  pub middle : SavesBounded bounded (filing (2 ∷ 1 ∷ 1 ∷ [])) → ⊥
  pub last : SavesBounded bounded (filing (2 ∷ 0 ∷ 2 ∷ [])) → ⊥
  pub beyond : SavesBounded bounded (filing (2 ∷ 0 ∷ 1 ∷ 1 ∷ [])) → ⊥

within : SavesBounded bounded (filing (2 ∷ 0 ∷ 1 ∷ []))
unfolding nth shape_of count_dests
within zero = omega arith
within (suc zero) = omega arith
within (suc (suc zero)) = omega arith
within (suc (suc (suc b))) = omega arith

pub bound_refuses : Bound
unfolding nth shape_of count_dests
bound_refuses =
    record {
      all = within;
      first = λ h. let l : 3 ≤ 2 = h 0 in omega arith;
      middle = λ h. let l : 1 ≤ 0 = h 1 in omega arith;
      last = λ h. let l : 2 ≤ 1 = h 2 in omega arith;
      beyond = λ h. let l : 1 ≤ 0 = h 3 in omega arith;
    }

-- ---- rows
-- which instructions have a destination, by their codes
abbrev dests_of : ℕ → ℕ
dests_of c = count_dests (gives 1 0 c [] ∷ [])

pub destinations_by_code :
    map dests_of (0 ∷ 1 ∷ 9 ∷ 10 ∷ 13 ∷ 14 ∷ 20 ∷ 21 ∷ 34 ∷ 35 ∷ 38 ∷ 39 ∷ 64 ∷ 65 ∷ 66 ∷ 67 ∷ 68 ∷ 69 ∷ 70 ∷ 71 ∷ []) ≡
    1 ∷ 1 ∷ 1 ∷ 1 ∷ 1 ∷ 1 ∷ 1 ∷ 1 ∷ 1 ∷ 1 ∷ 1 ∷ 1 ∷ 0 ∷ 0 ∷ 0 ∷ 0 ∷ 0 ∷ 0 ∷ 0 ∷ 0 ∷ []
unfolding shape_of count_dests
destinations_by_code = refl

-- names 0 and 1 are original; block 0 has saves in the places 1 and 3, and files 5, block 1 has none and files 7
abbrev counted_blocks : List (Block Instr)
counted_blocks = saving 5 (const 1 0 7 ∷ id 2 2 0 ∷ print 3 2 ∷ id 4 3 1 ∷ id 5 1 0 ∷ []) ∷ saving 7 (nop 6 ∷ []) ∷ []

pub counts :
    map count_dests (map (λ (b : Block Instr). b.body) counted_blocks) ∷
    map saves_field (nth counted_blocks 0 ∷ nth counted_blocks 1 ∷ nth counted_blocks 2 ∷ []) ∷
    map length (body_of (nth counted_blocks 0) ∷ body_of (nth counted_blocks 1) ∷ body_of (nth counted_blocks 2) ∷ []) ∷
    map (saves_passed counted_blocks) ([] ∷ (0 ∷ []) ∷ (1 ∷ 0 ∷ []) ∷ (0 ∷ 1 ∷ []) ∷ (0 ∷ 0 ∷ 0 ∷ []) ∷ (2 ∷ []) ∷ []) ∷
    map (saves_before 2 counted_blocks)
    (before 0 ∷ stopped at_halt 0 0 ∷ stopped at_halt 0 1 ∷ stopped at_halt 0 2 ∷ stopped (at_division 3 by_zero) 0 3 ∷
    stopped at_ret 0 4 ∷ stopped at_ret 1 1 ∷ stopped at_end 2 0 ∷ []) ∷
    map (λ n. saves_before n counted_blocks (stopped at_ret 0 5)) (1 ∷ 2 ∷ 3 ∷ 4 ∷ []) ∷
    [] ≡
    (4 ∷ 0 ∷ []) ∷
    (5 ∷ 7 ∷ 0 ∷ []) ∷
    (5 ∷ 1 ∷ 0 ∷ []) ∷
    (0 ∷ 5 ∷ 12 ∷ 12 ∷ 15 ∷ 0 ∷ []) ∷
    (0 ∷ 0 ∷ 0 ∷ 1 ∷ 1 ∷ 2 ∷ 0 ∷ 0 ∷ []) ∷
    (3 ∷ 2 ∷ 1 ∷ 0 ∷ []) ∷
    []
unfolding all_of_pairing
counts = refl
