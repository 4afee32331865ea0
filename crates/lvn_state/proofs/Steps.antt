-- The stores of each method are a step of the definitions.
use Prim.Native.Nat.{ℕ, ◌+◌, ◌<◌}
use mathlib.Core.Path.{◌≡◌, sym, ap, ◌∙◌}
use mathlib.Core.Logic.{◌≢◌}
use mathlib.Core.List.{List}
use mathlib.Core.Bool.{true, false}
use mathlib.Core.Option.{Option, none, some}
use Rattle.std.specs.Prelude.{Option as Maybe, None, Some, is_some}
use native.Mathlib.Numerals.{add-one}
use lib.ListN.{length, set}
use Rattle.arith.specs.Map.{upd}
use Rattle.arith.specs.Operation.{Expr}
use Rattle.record.specs.declared.NameIx.{NameIx}
use Rattle.numbering.specs.declared.ValNum.{ValNum}
use Rattle.numbering.specs.State.{vn, State, ValNum-discrete, new_number, update_env, see, see_at}
use Rattle.lvn_values.specs.Table.{vals_of, numbered_of}
use Rattle.lvn_state.specs.View.{locs_of, state_with}
use Rattle.lvn_state.proofs.Views.{env_set, locs_set}

module _ (env homes hs ns : List ℕ) (count made : ℕ) (x : NameIx) (hx : x.0 < length env) where
  -- x has the next number k and is its home; ks, ms, d: the table, with the value e of the number
  pub give_view :
      (ks ms : List ℕ) (k d : ℕ) (e : Option (Expr ValNum)) →
      count < length homes → count ≢ 65535 →
      k ≡ count → d ≡ count + 1 →
      vals_of ks ms d ≡ upd ValNum-discrete (vals_of hs ns count) (vn count) e →
      state_with (set env x.0 k) (set homes k x.0) ks ms d made ≡ new_number (state_with env homes hs ns count made) x e
  unfolding new_number
  give_view ks ms k d e hc n p q v =
      (λ i. state_with (set env x.0 (p i)) (set homes (p i) x.0) ks ms d made) ∙
      (λ i. record {
        env = env_set env x (vn count) hx n i;
        locs = locs_set homes (vn count) x hc i;
        vals = v i;
        next = (q ∙ add-one count) i;
        temps = made;
      })

  pub take_view :
      (v : ValNum) → v.0 ≢ 65535 →
      state_with (set env x.0 v.0) homes hs ns count made ≡ update_env (state_with env homes hs ns count made) x v
  unfolding update_env
  take_view v n =
      λ i. record {
        env = env_set env x v hx n i;
        locs = locs_of homes;
        vals = vals_of hs ns count;
        next = count;
        temps = made;
      }

-- ---- an argument is seen
module _ (s : State) (x : NameIx) where
  see_unseen : s.env x ≡ none → new_number s x none ≡ see s x
  unfolding see
  see_unseen e = sym (ap (see_at s x) e)

  see_seen : (v : ValNum) → s.env x ≡ some v → s ≡ see s x
  unfolding see
  see_seen v e = sym (ap (see_at s x) e)

  pub unseen : (o : Maybe ValNum) → numbered_of o ≡ s.env x → is_some o ≡ false → new_number s x none ≡ see s x
  unseen None e t = see_unseen (sym e)
  unseen (Some v) e t = absurd (cc)

  pub seen : (o : Maybe ValNum) → numbered_of o ≡ s.env x → is_some o ≡ true → s ≡ see s x
  seen None e t = absurd (cc)
  seen (Some v) e t = see_seen v (sym e)
