-- Bytes written at a place are those that stand there afterwards, all others being as they were; and the other way round.
use Prim.Native.Nat.{ℕ, ◌+◌, ◌-◌, ◌<◌, ◌≤◌}
use mathlib.Core.Path.{◌≡◌, refl, sym, ap, ◌∙◌}
use mathlib.Core.List.{List}
use mathlib.Core.Bool.{Bool, true, false}
use mathlib.Core.Logic.{inl, inr, ⊎_elim}
use native.Mathlib.Omega.{arith}
use lib.ListN.{length, get_or}
use lib.Seq.{ext_get_or}
use lib.Dec.{ltb}
use borrow.Author.Tests.{ltb-true, ltb-false}
use Rattle.write_bytes.specs.Put.{put, Wrote}
use Rattle.write_bytes.specs.Stand.{Stand}
use Rattle.write_bytes.proofs.Put.{length_put, before_put, behind_put, put_at}

module _ {l m : List ℕ} {i p : ℕ} (bs : List ℕ) where
  pub wrote_stand : Wrote l m i p bs → Stand l m i p bs
  wrote_stand w =
      let e : p ≡ i + length bs = w.end in
      record {
        behind = e;
        same_length = ap length w.out ∙ length_put l i bs;
        there = λ n h r. ap (λ (k : List ℕ). get_or k (i + n) 0) w.out ∙ put_at l i bs n h r;
        others = λ j h.
            ap (λ (k : List ℕ). get_or k j 0) w.out ∙
            ⊎_elim (λ b. before_put l i j bs b) (λ b. behind_put l i j bs (omega (arith, b, e))) h;
      }

  -- before them, among them, behind them
  stand_place :
      Stand l m i p bs → (j : ℕ) → j < length m →
      (a b : Bool) → ltb j i ≡ a → ltb j p ≡ b → get_or m j 0 ≡ get_or (put l i bs) j 0
  stand_place s j h true b e f = let k : j < i = ltb-true j i e in s.others j (inl k) ∙ sym (before_put l i j bs k)
  stand_place s j h false true e f =
      let k : i ≤ j = ltb-false j i e in
      let n = j - i in
      let d : j ≡ i + n = omega arith in
      let inside : n < length bs = omega (arith, ltb-true j p f, s.behind) in
      let room : i + n < length l = omega (arith, h, s.same_length) in
      ap (λ (z : ℕ). get_or m z 0) d ∙ s.there n inside room ∙ sym (put_at l i bs n inside room) ∙ ap (λ (z : ℕ). get_or (put l i bs) z 0) (sym d)
  stand_place s j h false false e f =
      let k : p ≤ j = ltb-false j p f in s.others j (inr k) ∙ sym (behind_put l i j bs (omega (arith, k, s.behind)))

  pub stand_wrote : Stand l m i p bs → Wrote l m i p bs
  stand_wrote s =
      record {
        out = ext_get_or 0 m (put l i bs) (s.same_length ∙ sym (length_put l i bs)) (λ j h. stand_place s j h (ltb j i) (ltb j p) refl refl);
        end = s.behind;
      }
