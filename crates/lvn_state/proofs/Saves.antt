-- The save before an instruction: the cases of the definition, and the stores as its step.
use Prim.Native.Nat.{ℕ, ◌+◌, ◌<◌}
use mathlib.Core.Path.{◌≡◌, refl, sym, ap, ◌∙◌}
use mathlib.Core.Logic.{◌≢◌}
use mathlib.Core.Bool.{true, false}
use mathlib.Core.List.{List}
use mathlib.Core.Option.{Option, none, some}
use Rattle.std.specs.Prelude.{Option as Maybe, None, Some}
use native.Mathlib.Numerals.{add-one}
use lib.ListN.{length, set}
use borrow.Author.Tests.{eqb-true, eqb-false}
use Rattle.arith.proofs.Clash.{clash}
use Rattle.arith.specs.declared.One.TheVariants.{Not, Id}
use Rattle.arith.specs.Operation.{Expr, constant, one, two}
use Rattle.arith.proofs.Map.{pick_yes, pick_no}
use Rattle.record.specs.declared.NameIx.{NameIx}
use Rattle.record.specs.Record.{nm, NameIx-discrete, Instr}
use Rattle.numbering.specs.declared.ValNum.{ValNum}
use Rattle.numbering.specs.State.{State, rehome}
use Rattle.numbering.specs.Number.{no_save, save, save_at, handle_overwrite}
use Rattle.lvn_values.specs.Table.{vals_of}
use Rattle.lvn_state.specs.View.{env_of, locs_of, state_with, saves_of, itself}
use Rattle.lvn_state.proofs.Views.{locs_set}

-- ---- "unless that reads exactly `x = id x`"
module _ (N : ℕ) (s : State) (i : Instr) where
  pub overwrite_itself : (e : Option (Expr ValNum)) → itself s.locs i.dest e ≡ true → handle_overwrite N s i e ≡ no_save s
  unfolding itself handle_overwrite
  overwrite_itself none t = clash (cc)
  overwrite_itself (some (constant v)) t = clash (cc)
  overwrite_itself (some (one Not a)) t = clash (cc)
  overwrite_itself (some (one Id a)) t =
      pick_yes (NameIx-discrete (s.locs a) i.dest) (no_save s) (save_at N s i (s.env i.dest))
      (λ j. nm (eqb-true (s.locs a).0 i.dest.0 t j))
  overwrite_itself (some (two o a b)) t = clash (cc)

  pub overwrite_other :
      (e : Option (Expr ValNum)) → itself s.locs i.dest e ≡ false → handle_overwrite N s i e ≡ save_at N s i (s.env i.dest)
  unfolding itself handle_overwrite
  overwrite_other none t = refl
  overwrite_other (some (constant v)) t = refl
  overwrite_other (some (one Not a)) t = refl
  overwrite_other (some (one Id a)) t =
      pick_no (NameIx-discrete (s.locs a) i.dest) (no_save s) (save_at N s i (s.env i.dest))
      (λ p. eqb-false (s.locs a).0 i.dest.0 t (ap (λ (x : NameIx). x.0) p))
  overwrite_other (some (two o a b)) t = refl

  -- ---- "if dest is the home of its present number"
  pub save_none : s.env i.dest ≡ none → save_at N s i (s.env i.dest) ≡ no_save s
  unfolding save_at
  save_none e = ap (save_at N s i) e

  module _ (v : ValNum) (e : s.env i.dest ≡ some v) where
    pub save_home : s.locs v ≡ i.dest → save_at N s i (s.env i.dest) ≡ save N s i v
    unfolding save_at
    save_home h = ap (save_at N s i) e ∙ pick_yes (NameIx-discrete (s.locs v) i.dest) (save N s i v) (no_save s) h

    pub save_away : s.locs v ≢ i.dest → save_at N s i (s.env i.dest) ≡ no_save s
    unfolding save_at
    save_away h = ap (save_at N s i) e ∙ pick_no (NameIx-discrete (s.locs v) i.dest) (save N s i v) (no_save s) h

-- ---- the code's cases
module _ (env homes hs ns : List ℕ) (count made n : ℕ) (x : NameIx) (e : Option (Expr ValNum)) where
  abbrev before : State
  before = state_with env homes hs ns count made

  -- what a call leaves is the definition's, for every instruction that writes x
  abbrev Overwritten : State → Maybe NameIx → Type 0
  Overwritten t m = (i : Instr) → i.dest ≡ x → record { state = t; saves = saves_of m i } ≡ handle_overwrite n before i e

  abbrev pub Stays : Type 0
  Stays = Overwritten before None

  pub kept_itself : itself (locs_of homes) x e ≡ true → Stays
  kept_itself t i q = sym (overwrite_itself n before i e (ap (λ (y : NameIx). itself (locs_of homes) y e) q ∙ t))

  module _ (t : itself (locs_of homes) x e ≡ false) where
    other : (i : Instr) → i.dest ≡ x → handle_overwrite n before i e ≡ save_at n before i (env_of env i.dest)
    other i q = overwrite_other n before i e (ap (λ (y : NameIx). itself (locs_of homes) y e) q ∙ t)

    pub kept_unnumbered : env_of env x ≡ none → Stays
    kept_unnumbered p i q = sym (other i q ∙ save_none n before i (ap (env_of env) q ∙ p))

    module _ (v : ValNum) (number : env_of env x ≡ some v) where
      pub kept_away : locs_of homes v ≢ x → Stays
      kept_away h i q = sym (other i q ∙ save_away n before i v (ap (env_of env) q ∙ number) (λ r. h (r ∙ q)))

      -- the made name becomes the home
      abbrev moved : State
      moved = state_with env (set homes v.0 (n + made)) hs ns count (made + 1)

      rehomed : v.0 < length homes → moved ≡ rehome before v (nm (n + made))
      unfolding rehome
      rehomed l =
          λ j. record {
            env = env_of env;
            locs = locs_set homes v (nm (n + made)) l j;
            vals = vals_of hs ns count;
            next = count;
            temps = add-one made j;
          }

      pub save_made : locs_of homes v ≡ x → v.0 < length homes → Overwritten moved (Some (nm (n + made)))
      unfolding save
      save_made h l i q =
          ap (λ (t : State). record { state = t; saves = (save n before i v).saves }) (rehomed l) ∙
          sym (other i q ∙ save_home n before i v (ap (env_of env) q ∙ number) (h ∙ sym q))
