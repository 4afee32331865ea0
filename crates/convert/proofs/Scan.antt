-- The search for an id that has no room: what is found from a place on, instruction by instruction and block by block.
use Prim.Native.Nat.{ℕ, suc, ◌+◌, ◌-◌, ◌^◌, ◌<◌, ◌≤◌}
use mathlib.Core.Path.{◌≡◌, refl, sym, ap, ◌∙◌}
use mathlib.Core.List.{List, [], ◌∷◌, ◌++◌, flat_map}
use mathlib.Core.Bool.{Bool, true, false, cond}
use native.Mathlib.Omega.{arith}
use lib.ListN.{length, length-append}
use lib.Dec.{ltb}
use Rattle.std.specs.Prelude.{Ok, Err, Option, Some, None}
use Rattle.record.specs.declared.ConvertError.{ConvertError}
use Rattle.record.specs.declared.ConvertError.TheVariants.{Wide}
use Rattle.arith.proofs.Clash.{clash}
use Rattle.record.specs.Record.{Placed}
use Rattle.record.specs.Reader.{num_at}
use Rattle.record.specs.Decode.{body_placed, items, behind, operands_from, instr_from, instr_end, body_from, block_end}
use Rattle.record.specs.Versions.{Converted, first_wide}
use Rattle.record.proofs.Rows.{one_more, behind_on}
use Rattle.record.proofs.Ends.{block_grows}
use Rattle.record.proofs.Decode.{length_items}
use Rattle.convert.specs.Parts.{blocks_placed, scanned}

-- ---- what is found in two rows
module _ (to : ℕ) where
  wide_first : (xs ys : List Placed) (o : ℕ) → first_wide to xs ≡ Some o → first_wide to (xs ++ ys) ≡ Some o
  unfolding first_wide
  wide_first [] ys o e = clash (cc)
  wide_first (x ∷ xs) ys o e = go (ltb x.it.id (256 ^ to)) (wide_first xs ys o) e
    where
      go :
          (b : Bool) → (first_wide to xs ≡ Some o → first_wide to (xs ++ ys) ≡ Some o) → cond b (first_wide to xs) (Some x.at) ≡ Some o →
          cond b (first_wide to (xs ++ ys)) (Some x.at) ≡ Some o
      go true h e = h e
      go false h e = e

  wide_second : (xs ys : List Placed) → first_wide to xs ≡ None → first_wide to (xs ++ ys) ≡ first_wide to ys
  unfolding first_wide
  wide_second [] ys e = refl
  wide_second (x ∷ xs) ys e = go (ltb x.it.id (256 ^ to)) (wide_second xs ys) e
    where
      go :
          (b : Bool) → (first_wide to xs ≡ None → first_wide to (xs ++ ys) ≡ first_wide to ys) →
          cond b (first_wide to xs) (Some x.at) ≡ None → cond b (first_wide to (xs ++ ys)) (Some x.at) ≡ first_wide to ys
      go true h e = h e
      go false h e = clash (cc)

-- ---- what an answer tells
pub found_ok : (f : Option ℕ) (n r : ℕ) → Ok r ≡ scanned f n → (f ≡ None) × (r ≡ n)
unfolding scanned
found_ok None n r e = (refl, cc)
found_ok (Some o) n r e = clash (cc)

pub found_err : (f : Option ℕ) (n : ℕ) (e : ConvertError) → Err e ≡ scanned f n → (o : ℕ) × (e ≡ Wide o) × (f ≡ Some o)
unfolding scanned
found_err None n k e = clash (cc)
found_err (Some p) n k e = (p, cc, refl)

module _ (w to : ℕ) (s : List ℕ) where
  -- ---- of the instructions of a body, n from p on
  abbrev pub in_body : ℕ → ℕ → Converted
  in_body p n = scanned (first_wide to (body_placed w s p n)) (behind (instr_end w s) p n)

  body_more :
      (p n : ℕ) → in_body p (suc n) ≡
      scanned (cond (ltb (num_at s p w) (256 ^ to)) (first_wide to (body_placed w s (instr_end w s p) n)) (Some p)) (behind (instr_end w s) (instr_end w s p) n)
  unfolding items behind first_wide instr_from operands_from
  body_more p n = refl

  pub body_wide : (p n : ℕ) → 0 < n → ltb (num_at s p w) (256 ^ to) ≡ false → Err (Wide p) ≡ in_body p n
  unfolding scanned
  body_wide p n h e =
      sym (ap (in_body p) (one_more n h) ∙ body_more p (n - 1) ∙
      (λ i. scanned (cond (e i) (first_wide to (body_placed w s (instr_end w s p) (n - 1))) (Some p)) (behind (instr_end w s) (instr_end w s p) (n - 1))))

  -- m: one less than n
  pub body_on : (p q n m : ℕ) → 0 < n → m ≡ n - 1 → q ≡ instr_end w s p → ltb (num_at s p w) (256 ^ to) ≡ true → in_body q m ≡ in_body p n
  body_on p q n m h em eq e =
      (λ i. in_body (eq i) (em i)) ∙
      sym (ap (in_body p) (one_more n h) ∙ body_more p (n - 1) ∙
      (λ i. scanned (cond (e i) (first_wide to (body_placed w s (instr_end w s p) (n - 1))) (Some p)) (behind (instr_end w s) (instr_end w s p) (n - 1))))

  pub body_done : (p n : ℕ) → n ≡ 0 → Ok p ≡ in_body p n
  unfolding items behind first_wide scanned
  body_done p n z = sym (ap (in_body p) z)

  -- ---- of n blocks from p on, with so many instructions before them
  abbrev pub in_blocks : ℕ → ℕ → ℕ → Converted
  in_blocks count p n = scanned (first_wide to (blocks_placed w s p n)) (length (blocks_placed w s p n) + count)

  abbrev body_at : ℕ → List Placed
  body_at p = body_placed w s (p + 2 + 2) (num_at s p 2)

  blocks_more : (p n : ℕ) → blocks_placed w s p (suc n) ≡ body_at p ++ blocks_placed w s (block_end w s p) n
  unfolding items flat_map body_from
  blocks_more p n = refl

  split : (p n : ℕ) → 0 < n → blocks_placed w s p n ≡ body_at p ++ blocks_placed w s (block_end w s p) (n - 1)
  split p n h = ap (blocks_placed w s p) (one_more n h) ∙ blocks_more p (n - 1)

  -- the instructions of a block end with it, and so not behind the last block
  pub body_inside :
      (p n size at : ℕ) → 0 < n → size ≡ num_at s p 2 → at ≡ p + 2 + 2 → behind (instr_end w s) at size ≤ behind (block_end w s) p n
  unfolding behind block_end
  body_inside p n size at h es ea =
      let e : behind (instr_end w s) at size ≡ block_end w s p = λ i. behind (instr_end w s) (ea i) (es i) in
      let f : behind (block_end w s) p n ≡ behind (block_end w s) (block_end w s p) (n - 1) = ap (behind (block_end w s) p) (one_more n h) in
      omega (arith, e, f, behind_on (block_end w s) (block_grows w s) (block_end w s p) (n - 1))

  -- the block at p, whose instructions are found to be so
  pub blocks_wide :
      (count p n size at : ℕ) (k : ConvertError) → 0 < n → size ≡ num_at s p 2 → at ≡ p + 2 + 2 → Err k ≡ in_body at size →
      Err k ≡ in_blocks count p n
  unfolding scanned
  blocks_wide count p n size at k h es ea e =
      let f = found_err _ _ k (e ∙ λ i. in_body (ea i) (es i)) in
      let g : first_wide to (blocks_placed w s p n) ≡ Some f.0 =
      ap (first_wide to) (split p n h) ∙ wide_first to (body_at p) (blocks_placed w s (block_end w s p) (n - 1)) f.0 f.2 in
      ap (λ (x : ConvertError). Err x) f.1 ∙ sym (ap (λ (x : Option ℕ). scanned x (length (blocks_placed w s p n) + count)) g)

  pub blocks_on :
      (count p n m size at q : ℕ) → 0 < n → m ≡ n - 1 → size ≡ num_at s p 2 → at ≡ p + 2 + 2 → Ok q ≡ in_body at size →
      (q ≡ block_end w s p) × (in_blocks (count + size) q m ≡ in_blocks count p n)
  unfolding block_end
  blocks_on count p n m size at q h em es ea e =
      let both = found_ok _ _ q (e ∙ λ i. in_body (ea i) (es i)) in
      let rest = blocks_placed w s (block_end w s p) (n - 1) in
      let g : first_wide to (blocks_placed w s p n) ≡ first_wide to rest = ap (first_wide to) (split p n h) ∙ wide_second to (body_at p) rest both.0 in
      let l : length (blocks_placed w s p n) ≡ length (body_at p) + length rest = ap length (split p n h) ∙ length-append (body_at p) rest in
      let k : length (body_at p) ≡ size = length_items _ _ (num_at s p 2) (p + 2 + 2) ∙ sym es in
      let sum : length rest + (count + size) ≡ length (blocks_placed w s p n) + count = omega arith in
      (both.1, (λ i. in_blocks (count + size) (both.1 i) (em i)) ∙ (λ i. scanned (sym g i) (sum i)))

  pub all_blocks : (p n : ℕ) → in_blocks 0 p n ≡ scanned (first_wide to (blocks_placed w s p n)) (length (blocks_placed w s p n))
  all_blocks p n =
      let none : length (blocks_placed w s p n) + 0 ≡ length (blocks_placed w s p n) = omega arith in
      ap (scanned (first_wide to (blocks_placed w s p n))) none

  pub blocks_done : (count p n : ℕ) → n ≡ 0 → Ok count ≡ in_blocks count p n
  unfolding items flat_map first_wide scanned
  blocks_done count p n z =
      let none : 0 + count ≡ count = omega arith in
      sym (ap (in_blocks count p) z ∙ ap (λ (k : ℕ). scanned None k) none)
