-- The table read at a number, a step of the search, and the next number's entry.
use Prim.Native.Nat.{ℕ, suc, ◌+◌, ◌-◌, ◌<◌, ◌≤◌}
use mathlib.Core.Path.{◌≡◌, refl, sym, ap, ◌∙◌, fun_ext}
use mathlib.Core.Logic.{◌≢◌}
use mathlib.Core.Bool.{Bool, true, false, cond, ◌&&◌}
use mathlib.Core.List.{List}
use mathlib.Core.Option.{Option, none, some}
use native.Mathlib.Numerals.{add-one}
use native.Mathlib.Omega.{arith}
use Rattle.std.specs.Cmp.{first_so as and_left, second_so as and_right}
use lib.Dec.{eqb, ltb}
use lib.ListN.{length, get_or, set}
use lib.Seq.{get_or-set_same, get_or-set_other}
use borrow.Author.Tests.{eqb-true, eq-eqb, lt-ltb, le-ltb, ltb-true, ltb-false}
use Rattle.arith.proofs.Clash.{clash}
use Rattle.arith.specs.Map.{upd}
use Rattle.arith.proofs.Map.{upd_same, upd_other}
use Rattle.arith.specs.Operation.{Expr}
use Rattle.numbering.specs.declared.ValNum.{ValNum}
use Rattle.numbering.specs.State.{vn, ValNum-discrete}
use Rattle.numbering.specs.Number.{same_expr, find}
use Rattle.lvn_values.specs.Table.{expr_at, vals_of}
use Rattle.lvn_values.proofs.Entries.{same_entry, other_entry}

module _ (hs ns : List ℕ) (count : ℕ) (v : ValNum) where
  pub vals_in : v.0 < count → vals_of hs ns count v ≡ expr_at (get_or hs v.0 0) (get_or ns v.0 0)
  unfolding vals_of
  vals_in h = rw (lt-ltb v.0 count h)

  pub vals_past : count ≤ v.0 → vals_of hs ns count v ≡ none
  unfolding vals_of
  vals_past h = rw (le-ltb v.0 count h)

left_step : (n i : ℕ) → i < n → n - i ≡ suc (n - (i + 1))
left_step n i h = omega arith

module _ (hs ns : List ℕ) (h k n i : ℕ) (e : Expr ValNum) (here : expr_at h k ≡ some e) where
  pub search_none : n ≤ i → none ≡ find (vals_of hs ns n) e i (n - i)
  unfolding find
  search_none l = let z : n - i ≡ 0 = omega arith in rw z

  module _ (l : i < n) where
    step :
        find (vals_of hs ns n) e i (n - i) ≡
        cond (same_expr (expr_at (get_or hs i 0) (get_or ns i 0)) (some e)) (some (vn i)) (find (vals_of hs ns n) e (i + 1) (n - (i + 1)))
    unfolding find
    step = rw (left_step n i l, vals_in hs ns n (vn i) l, ← add-one i)

    -- whether the entry at i is the one that is sought
    abbrev same : Bool
    same = eqb (get_or hs i 0) h && eqb (get_or ns i 0) k

    pub here_it_is : same ≡ true → some (vn i) ≡ find (vals_of hs ns n) e i (n - i)
    here_it_is t =
        let p = eqb-true (get_or hs i 0) h (and_left (eqb (get_or hs i 0) h) (eqb (get_or ns i 0) k) t) in
        let q = eqb-true (get_or ns i 0) k (and_right (eqb (get_or hs i 0) h) (eqb (get_or ns i 0) k) t) in
        sym (step ∙ rw (same_entry h k e here (get_or hs i 0) (get_or ns i 0) p q))

    differs : same ≡ false → (get_or hs i 0 ≡ h) × (get_or ns i 0 ≡ k) → ⊥
    differs t p = let z = rw (eq-eqb (get_or hs i 0) h p.0, eq-eqb (get_or ns i 0) k p.1) at t in clash (cc)

    pub not_here : same ≡ false → find (vals_of hs ns n) e (i + 1) (n - (i + 1)) ≡ find (vals_of hs ns n) e i (n - i)
    not_here t = sym (step ∙ rw (other_entry h k e here (get_or hs i 0) (get_or ns i 0) (differs t)))

-- the next number's entry: what stands at the numbers before it stays
module _ (hs ns ks ms : List ℕ) (c : ℕ) where
  pub vals_next :
      ((u : ℕ) → u ≢ c → get_or ks u 0 ≡ get_or hs u 0) →
      ((u : ℕ) → u ≢ c → get_or ms u 0 ≡ get_or ns u 0) →
      vals_of ks ms (suc c) ≡ upd ValNum-discrete (vals_of hs ns c) (vn c) (expr_at (get_or ks c 0) (get_or ms c 0))
  vals_next same_heads same_nums = fun_ext (λ u. by u (ValNum-discrete u (vn c)))
    where
      e : Option (Expr ValNum)
      e = expr_at (get_or ks c 0) (get_or ms c 0)

      old : (u : ValNum) → u.0 ≢ c → (b : Bool) → ltb u.0 c ≡ b → vals_of ks ms (suc c) u ≡ vals_of hs ns c u
      old u n true t =
          let l : u.0 < c = ltb-true u.0 c t in
          vals_in ks ms (suc c) u (omega arith) ∙
          ap (λ (k : ℕ). expr_at k (get_or ms u.0 0)) (same_heads u.0 n) ∙
          ap (expr_at (get_or hs u.0 0)) (same_nums u.0 n) ∙
          sym (vals_in hs ns c u l)
      old u n false t =
          let l : c ≤ u.0 = ltb-false u.0 c t in
          vals_past ks ms (suc c) u (omega arith) ∙ sym (vals_past hs ns c u l)

      by : (u : ValNum) → Dec (u ≡ vn c) → vals_of ks ms (suc c) u ≡ upd ValNum-discrete (vals_of hs ns c) (vn c) e u
      by u (yes p) =
          ap (vals_of ks ms (suc c)) p ∙ vals_in ks ms (suc c) (vn c) (omega arith) ∙
          sym (upd_same ValNum-discrete (vals_of hs ns c) (vn c) e u p)
      by u (no q) =
          old u (λ r. q (λ i. vn (r i))) (ltb u.0 c) refl ∙
          sym (upd_other ValNum-discrete (vals_of hs ns c) (vn c) e u q)

module _ (hs ns : List ℕ) (c : ℕ) (kh : c < length hs) where
  pub vals_set :
      (h n : ℕ) → c < length ns →
      vals_of (set hs c h) (set ns c n) (suc c) ≡ upd ValNum-discrete (vals_of hs ns c) (vn c) (expr_at h n)
  vals_set h n kn =
      vals_next hs ns (set hs c h) (set ns c n) c (λ u q. get_or-set_other hs c u h 0 q) (λ u q. get_or-set_other ns c u n 0 q) ∙
      ap (λ (k : ℕ). upd ValNum-discrete (vals_of hs ns c) (vn c) (expr_at k (get_or (set ns c n) c 0))) (get_or-set_same hs c h 0 kh) ∙
      ap (λ (k : ℕ). upd ValNum-discrete (vals_of hs ns c) (vn c) (expr_at h k)) (get_or-set_same ns c n 0 kn)
