-- The views of the maps: what a read gives, and that a store is an update.
use Prim.Native.Nat.{ℕ, zero, suc, ◌<◌, ◌≤◌}
use mathlib.Core.Path.{◌≡◌, refl, sym, ap, ◌∙◌, fun_ext}
use mathlib.Core.Logic.{◌≢◌}
use mathlib.Core.Bool.{Bool, true, false}
use mathlib.Core.List.{List, [], ◌∷◌}
use mathlib.Core.Option.{some}
use native.Mathlib.Omega.{arith}
use lib.Dec.{ltb}
use lib.ListN.{length, get_or, set}
use lib.Seq.{get_or-set_same, get_or-set_other}
use borrow.Author.Tests.{ne_eqb, ltb-true, ltb-false}
use Rattle.arith.specs.Map.{upd}
use Rattle.arith.proofs.Map.{upd_same, upd_other}
use Rattle.record.specs.declared.NameIx.{NameIx}
use Rattle.record.specs.Record.{nm, NameIx-discrete}
use Rattle.numbering.specs.declared.ValNum.{ValNum}
use Rattle.numbering.specs.State.{vn, ValNum-discrete}
use Rattle.lvn_state.specs.View.{slot, env_of, locs_of}

-- ---- reads
-- past its end a list reads as the default
past : (l : List ℕ) (i d : ℕ) → length l ≤ i → get_or l i d ≡ d
past [] i d h = refl
past (x ∷ l) zero d h = absurd (omega arith)
past (x ∷ l) (suc i) d h = past l i d (omega arith)

slot_some : (v : ℕ) → v ≢ 65535 → slot v ≡ some (vn v)
slot_some v h = rw (ne_eqb v 65535 h)

module _ (l : List ℕ) (v : ValNum) where
  locs_past : length l ≤ v.0 → locs_of l v ≡ nm 65535
  unfolding locs_of
  locs_past h = ap nm (past l v.0 65535 h)

  -- a home that is a name is one of the map
  pub home_inside : (x : NameIx) → locs_of l v ≡ x → x.0 < 65535 → v.0 < length l
  home_inside x e h = by (ltb v.0 (length l)) refl
    where
      by : (b : Bool) → ltb v.0 (length l) ≡ b → v.0 < length l
      by true t = ltb-true v.0 (length l) t
      by false t =
          let p : length l ≤ v.0 = ltb-false v.0 (length l) t in
          let z : 65535 ≡ x.0 = ap (λ (y : NameIx). y.0) (sym (locs_past p) ∙ e) in
          absurd (omega arith)

-- ---- stores
module _ (l : List ℕ) (x : NameIx) (v : ValNum) (h : x.0 < length l) (n : v.0 ≢ 65535) where
  pub env_set : env_of (set l x.0 v.0) ≡ upd NameIx-discrete (env_of l) x (some v)
  unfolding env_of
  env_set = fun_ext (λ y. by y (NameIx-discrete y x))
    where
      by : (y : NameIx) → Dec (y ≡ x) → env_of (set l x.0 v.0) y ≡ upd NameIx-discrete (env_of l) x (some v) y
      by y (yes p) =
          ap (λ (z : NameIx). slot (get_or (set l x.0 v.0) z.0 65535)) p ∙
          ap slot (get_or-set_same l x.0 v.0 65535 h) ∙
          slot_some v.0 n ∙
          sym (upd_same NameIx-discrete (env_of l) x (some v) y p)
      by y (no q) =
          ap slot (get_or-set_other l x.0 y.0 v.0 65535 (λ e. q (λ i. nm (e i)))) ∙
          sym (upd_other NameIx-discrete (env_of l) x (some v) y q)

module _ (l : List ℕ) (v : ValNum) (x : NameIx) (h : v.0 < length l) where
  pub locs_set : locs_of (set l v.0 x.0) ≡ upd ValNum-discrete (locs_of l) v x
  unfolding locs_of
  locs_set = fun_ext (λ u. by u (ValNum-discrete u v))
    where
      by : (u : ValNum) → Dec (u ≡ v) → locs_of (set l v.0 x.0) u ≡ upd ValNum-discrete (locs_of l) v x u
      by u (yes p) =
          ap (λ (z : ValNum). nm (get_or (set l v.0 x.0) z.0 65535)) p ∙
          ap nm (get_or-set_same l v.0 x.0 65535 h) ∙
          sym (upd_same ValNum-discrete (locs_of l) v x u p)
      by u (no q) =
          ap nm (get_or-set_other l v.0 u.0 x.0 65535 (λ e. q (λ i. vn (e i)))) ∙
          sym (upd_other ValNum-discrete (locs_of l) v x u q)
