-- The state at a block's start: nothing is numbered, then one argument after another.
use Prim.Native.Nat.{ℕ, zero, suc}
use mathlib.Core.Path.{◌≡◌, refl, sym, ap, ◌∙◌, fun_ext}
use mathlib.Core.Logic.{◌≢◌}
use mathlib.Core.Bool.{Bool, true, false, cond}
use mathlib.Core.List.{List}
use mathlib.Core.Option.{Option, none, some}
use native.Mathlib.Omega.{arith}
use lib.Dec.{ltb}
use lib.ListN.{get_or, replicate}
use borrow.Author.Tests.{lt-ltb, le-ltb, ltb-true, ltb-false}
use Rattle.arith.specs.Map.{upd}
use Rattle.arith.specs.Operation.{Expr}
use Rattle.arith.proofs.Map.{upd_same, upd_other}
use Rattle.record.specs.declared.NameIx.{NameIx}
use Rattle.record.specs.Record.{nm, NameIx-discrete}
use Rattle.numbering.specs.declared.ValNum.{ValNum}
use Rattle.numbering.specs.State.{vn, ValNum-discrete, nobody, start_env, start, new_number}
use Rattle.lvn_values.proofs.Search.{vals_past}
use Rattle.lvn_state.specs.View.{slot, env_of, locs_of, state_with}

same_all : (n i a : ℕ) → get_or (replicate n a) i a ≡ a
same_all zero i a = refl
same_all (suc n) zero a = refl
same_all (suc n) (suc i) a = same_all n i a

none_below : {X : Type 0} (x : ℕ) (a b : X) → b ≡ cond (ltb x 0) a b
none_below x a b = rw (le-ltb x 0 (omega arith))

-- nothing stands in the maps
module _ (m n : ℕ) (hs ns : List ℕ) (k : ℕ) where
  pub none_numbered : state_with (replicate m 65535) (replicate n 65535) hs ns 0 k ≡ start 0 k
  unfolding start env_of locs_of
  none_numbered =
      λ i. record {
        env = fun_ext (λ x. ap slot (same_all m x.0 65535) ∙ none_below x.0 (some (vn x.0)) none) i;
        locs = fun_ext (λ v. ap nm (same_all n v.0 65535) ∙ none_below v.0 (nm v.0) nobody) i;
        vals = fun_ext (λ v. vals_past hs ns 0 v (omega arith)) i;
        next = 0;
        temps = k;
      }

-- one more is below i + 1 than below i
others_below : {X : Type 0} (i x : ℕ) (a b : X) → x ≢ i → cond (ltb x i) a b ≡ cond (ltb x (suc i)) a b
others_below i x a b n = by (ltb x i) refl
  where
    by : (c : Bool) → ltb x i ≡ c → cond c a b ≡ cond (ltb x (suc i)) a b
    by true e = let h = ltb-true x i e in rw (lt-ltb x (suc i) (omega arith))
    by false e = let h = ltb-false x i e in rw (le-ltb x (suc i) (omega arith))

itself_below : {X : Type 0} (i : ℕ) (a b : X) → a ≡ cond (ltb i (suc i)) a b
itself_below i a b = rw (lt-ltb i (suc i) (omega arith))

module _ (i k : ℕ) where
  env_more : (x : NameIx) → Dec (x ≡ nm i) → upd NameIx-discrete (start_env i) (nm i) (some (vn i)) x ≡ start_env (suc i) x
  env_more x (yes p) =
      upd_same NameIx-discrete (start_env i) (nm i) (some (vn i)) x p ∙ itself_below i (some (vn i)) none ∙
      ap (start_env (suc i)) (sym p)
  env_more x (no q) =
      upd_other NameIx-discrete (start_env i) (nm i) (some (vn i)) x q ∙
      others_below i x.0 (some (vn x.0)) none (λ e. q (λ j. nm (e j)))

  unfoldable home_below : ℕ → ValNum → NameIx
  home_below m v = cond (ltb v.0 m) (nm v.0) nobody

  locs_more : (v : ValNum) → Dec (v ≡ vn i) → upd ValNum-discrete (home_below i) (vn i) (nm i) v ≡ home_below (suc i) v
  unfolding home_below
  locs_more v (yes p) =
      upd_same ValNum-discrete (home_below i) (vn i) (nm i) v p ∙ itself_below i (nm i) nobody ∙ ap (home_below (suc i)) (sym p)
  locs_more v (no q) =
      upd_other ValNum-discrete (home_below i) (vn i) (nm i) v q ∙
      others_below i v.0 (nm v.0) nobody (λ e. q (λ j. vn (e j)))

  unfoldable unknown : ValNum → Option (Expr ValNum)
  unknown v = none

  vals_more : (v : ValNum) → Dec (v ≡ vn i) → upd ValNum-discrete unknown (vn i) none v ≡ none
  unfolding unknown
  vals_more v (yes p) = upd_same ValNum-discrete unknown (vn i) none v p
  vals_more v (no q) = upd_other ValNum-discrete unknown (vn i) none v q

  -- one more argument
  pub start_more : new_number (start i k) (nm i) none ≡ start (suc i) k
  unfolding new_number start home_below unknown
  start_more =
      λ j. record {
        env = fun_ext (λ x. env_more x (NameIx-discrete x (nm i))) j;
        locs = fun_ext (λ v. locs_more v (ValNum-discrete v (vn i))) j;
        vals = fun_ext (λ v. vals_more v (ValNum-discrete v (vn i))) j;
        next = suc i;
        temps = k;
      }
