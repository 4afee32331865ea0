-- The turns of the second pass: one instruction and one block of those left.
use Prim.Native.Nat.{ℕ, suc, ◌+◌, ◌-◌, ◌*◌, ◌<◌, ◌≤◌}
use mathlib.Core.Path.{◌≡◌, refl, sym, ap, ◌∙◌}
use mathlib.Core.List.{List, [], ◌∷◌}
use mathlib.Core.Bool.{Bool, true, false, not}
use native.Mathlib.Omega.{arith}
use Rattle.arith.proofs.Clash.{clash}
use Rattle.record.specs.declared.NameIx.{NameIx}
use Rattle.record.specs.declared.Refusal.TheVariants.{Types}
use Rattle.std.specs.Prelude.{Result, Ok, Err, IfOk}
use Rattle.record.specs.declared.Fault.{Fault}
use Rattle.record.specs.Record.{Placed, type_in}
use Rattle.record.specs.Reader.{Res, got, refuse, num_at}
use Rattle.record.specs.Typing.{well_typed, body_types, block_types}
use Rattle.record.specs.Answer.{fault_at, verdict}
use Rattle.record.specs.Decode.{items, behind, instr_from, placed_from, instr_end, body_from, block_from, block_end}
use Rattle.read_layout.specs.Bounds.{instr_reach, block_reach}
use Rattle.check_types.specs.Passes.{body_verdict, block_verdict, blocks_verdict}

-- ---- what follows a body
module _ (t : NameIx → ℕ) where
  -- a body that passes changes nothing of what follows it
  body_passes :
      {A B : Type 0} (is : List Placed) (x : A) (e q : ℕ) (next : Res B) → verdict (body_types t is (got x e)) ≡ Ok q →
      (q ≡ e) × (body_types t is next ≡ next)
  unfolding body_types
  body_passes [] x e q next h = (cc, refl)
  body_passes {A} {B} (i ∷ is) x e q next h = go (body_passes is x e q next) (well_typed t i.it) h
    where
      go :
          (verdict (body_types t is (got x e)) ≡ Ok q → (q ≡ e) × (body_types t is next ≡ next)) →
          (b : Bool) → verdict (refuse (not b) Types i.at (body_types t is (got x e))) ≡ Ok q →
          (q ≡ e) × (refuse (not b) Types i.at (body_types t is next) ≡ next)
      go rest true h = rest h
      go rest false h = clash (cc)

  -- one that stops, stops whatever follows it
  body_stops :
      {A B : Type 0} (is : List Placed) (x : A) (e : ℕ) (f : Fault) (next : Res B) →
      verdict (body_types t is (got x e)) ≡ Err f →
      verdict (body_types t is next) ≡ Err f
  unfolding body_types
  body_stops [] x e f next h = clash (cc)
  body_stops {A} {B} (i ∷ is) x e f next h = go (body_stops is x e f next) (well_typed t i.it) h
    where
      go :
          (verdict (body_types t is (got x e)) ≡ Err f → verdict (body_types t is next) ≡ Err f) →
          (b : Bool) → verdict (refuse (not b) Types i.at (body_types t is (got x e))) ≡ Err f →
          verdict (refuse (not b) Types i.at (body_types t is next)) ≡ Err f
      go rest true h = rest h
      go rest false h = h

-- ---- one of those left
module _ (w : ℕ) (types s : List ℕ) (p left : ℕ) (h : 0 < left) where
  one_more : left ≡ suc (left - 1)
  one_more = omega arith

  -- the instructions behind the first, and the blocks behind the first
  abbrev body_rest : Res (Unit {0})
  body_rest =
      let q = instr_end w s p in
      body_types (type_in types) (items (placed_from w s) (instr_end w s) q (left - 1)) (got tt (behind (instr_end w s) q (left - 1)))

  abbrev blocks_rest : Res (Unit {0})
  blocks_rest =
      let q = block_end w s p in
      block_types (type_in types) (items (block_from w s) (block_end w s) q (left - 1)) (got tt (behind (block_end w s) q (left - 1)))

  body_first :
      (b : Bool) → b ≡ well_typed (type_in types) (instr_from w s p) →
      body_verdict w types s p left ≡ verdict (refuse (not b) Types p body_rest)
  unfolding body_verdict body_types items behind
  body_first b e =
      ap (body_verdict w types s p) one_more ∙ ap (λ (z : Bool). verdict (refuse (not z) Types p body_rest)) (sym e)

  pub body_went :
      (b : Bool) (q : ℕ) → b ≡ well_typed (type_in types) (instr_from w s p) → b ≡ true → q ≡ instr_end w s p →
      body_verdict w types s q (left - 1) ≡ body_verdict w types s p left
  unfolding body_verdict
  body_went b q e y f = ap (λ (k : ℕ). body_verdict w types s k (left - 1)) f ∙ sym (body_first true (sym y ∙ e))

  pub body_broke :
      (b : Bool) → b ≡ well_typed (type_in types) (instr_from w s p) → b ≡ false →
      Err (fault_at Types p) ≡ body_verdict w types s p left
  body_broke b e y = sym (body_first false (sym y ∙ e))

  blocks_first : blocks_verdict w types s p left ≡ verdict (body_types (type_in types) (body_from w s p) blocks_rest)
  unfolding blocks_verdict block_types items behind
  blocks_first = ap (blocks_verdict w types s p) one_more

  pub blocks_went : (q : ℕ) → block_verdict w types s p ≡ Ok q → blocks_verdict w types s q (left - 1) ≡ blocks_verdict w types s p left
  unfolding block_verdict blocks_verdict
  blocks_went q e =
      let f = body_passes (type_in types) (body_from w s p) tt (block_end w s p) q blocks_rest e in
      ap (λ (k : ℕ). blocks_verdict w types s k (left - 1)) f.0 ∙ sym (blocks_first ∙ ap verdict f.1)

  pub blocks_stopped : (f : Fault) → block_verdict w types s p ≡ Err f → Err f ≡ blocks_verdict w types s p left
  unfolding block_verdict
  blocks_stopped f e = sym (blocks_first ∙ body_stops (type_in types) (body_from w s p) tt (block_end w s p) f blocks_rest e)

pub body_done : (w : ℕ) (types s : List ℕ) (p left : ℕ) → left ≡ 0 → Ok p ≡ body_verdict w types s p left
unfolding body_verdict body_types items behind
body_done w types s p left z = sym (ap (body_verdict w types s p) z)

pub blocks_done : (w : ℕ) (types s : List ℕ) (p left : ℕ) → left ≡ 0 → Ok p ≡ blocks_verdict w types s p left
unfolding blocks_verdict block_types items behind
blocks_done w types s p left z = sym (ap (blocks_verdict w types s p) z)

-- n: the count of the body's instructions
pub block_is :
    (w : ℕ) (types s : List ℕ) (at n : ℕ) (r : Result ℕ Fault) → n ≡ num_at s at 2 → r ≡ body_verdict w types s (at + 2 + 2) n →
    r ≡ block_verdict w types s at
unfolding body_verdict block_verdict body_from block_end
block_is w types s at n r e h = h ∙ ap (body_verdict w types s (at + 2 + 2)) e

-- where a body of fewer than 65,536 instructions ends
pub block_within :
    (r : Result ℕ Fault) (at n : ℕ) → n < 65536 → IfOk r (λ q. q ≤ at + 2 + 2 + instr_reach * n) → IfOk r (λ q. q ≤ at + block_reach)
block_within (Ok q) at n h e = omega (arith, h, e)
block_within (Err f) at n h e = tt
