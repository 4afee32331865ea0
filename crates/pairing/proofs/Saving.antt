-- The save before an overwrite is accepted, and behind it no number that is needed lives in the dest.
-- Rests on the invariant of the homes.
use Prim.Native.Nat.{ℕ, suc, ◌+◌, ◌<◌}
use mathlib.Core.Path.{◌≡◌, refl, sym, ap, ◌∙◌, subst}
use mathlib.Core.Logic.{◌≢◌}
use mathlib.Core.Bool.{true}
use mathlib.Core.List.{List, [], ◌∷◌, ◌++◌}
use mathlib.Core.Option.{Option, none, some, none-ne-some, some-injective}
use native.Mathlib.Omega.{arith}
use borrow.Author.Tests.{le-leb}
use Rattle.arith.specs.declared.One.TheVariants.{Not, Id}
use Rattle.arith.specs.Code.{code1, with_code, one_of}
use Rattle.arith.specs.Map.{pick, upd}
use Rattle.arith.proofs.Map.{upd_other, upd_ind}
use Rattle.arith.specs.Operation.{Expr, constant, one, two}
use Rattle.record.specs.declared.NameIx.{NameIx}
use Rattle.record.specs.Record.{nm, NameIx-discrete, no_lit, Instr, arg}
use Rattle.record.specs.Shape.{shape_of}
use Rattle.record.specs.Form.{pure, form}
use Rattle.numbering.specs.declared.ValNum.{ValNum}
use Rattle.numbering.specs.State.{ValNum-discrete, State, rehome}
use Rattle.numbering.specs.Number.{Saved, no_save, save, save_at, handle_overwrite, is_save}
use Rattle.pairing.specs.Joint.{Setting, Joint, Paired, made}
use Rattle.pairing.proofs.Homes.{Housed, home_number, housed_save}

-- of each save in a list: the made name has the type of the name that is saved
abbrev pub MadeTypes : Setting → List Instr → Type 0
MadeTypes Γ [] = Unit {0}
MadeTypes Γ (k ∷ ks) = (is_save Γ.names k ≡ true → Γ.ctx.types k.dest ≡ Γ.ctx.types (arg k 0)) × MadeTypes Γ ks

-- the state of the numbering, with the numbers of the names on the rewriting's side
abbrev pub joint_of : State → (NameIx → Option ValNum) → Joint
joint_of s env₂ = record { vals = s.vals; next = s.next; env₁ = s.env; env₂ = env₂ }

-- with other homes, and another K
abbrev pub moved : State → (ValNum → NameIx) → ℕ → State
moved s locs k = record { env = s.env; locs = locs; vals = s.vals; next = s.next; temps = k }

-- the decision on the save of d is taken: the homes from before it still hold, and a number that lives in d is one of P
pub record Ready
    (Γ : Setting) (s : State) (d : NameIx) (P : ValNum → Type 0) (locs : ValNum → NameIx) (k : ℕ) (env₂ : NameIx → Option ValNum)
    : Type 0 where
  pub housed : Housed Γ (moved s locs k) env₂
  pub before : (v : ValNum) → v.0 < s.next → env₂ (s.locs v) ≡ some v
  pub sole : (v : ValNum) → v.0 < s.next → locs v ≡ d → P v

-- no save, where each number that lives in dest is one of P; or the save of dest's number
pub data Overwrites (N : ℕ) (s : State) (i : Instr) (P : ValNum → Type 0) : Saved → Type 0 where
  kept : ((v : ValNum) → v.0 < s.next → s.locs v ≡ i.dest → P v) → Overwrites N s i P (no_save s)
  saved : (v : ValNum) → s.env i.dest ≡ some v → Overwrites N s i P (save N s i v)

-- `_x_lvnK = id x`
abbrev save_of : ℕ → State → Instr → Instr
save_of N s i =
    record { id = i.id; code = code1 Id; dest = nm (N + s.temps); lit = no_lit; args = i.dest ∷ []; callee = 0; blocks = [] }

save_form : (t : NameIx → ℕ) (N : ℕ) (s : State) (i : Instr) → form t (save_of N s i) ≡ pure (one Id i.dest)
unfolding form code1 one_of with_code
save_form t N s i = refl

save_is_save : (N : ℕ) (s : State) (i : Instr) → is_save N (save_of N s i) ≡ true
unfolding is_save code1 shape_of
save_is_save N s i = le-leb N (N + s.temps) (omega arith)

module _
    (Γ : Setting) (s : State) (env₂ : NameIx → Option ValNum) (g : Housed Γ s env₂) (i : Instr) (l : i.dest.0 < Γ.names)
  where
    -- the number that lives in dest is dest's
    lives : (v : ValNum) → v.0 < s.next → s.locs v ≡ i.dest → s.env i.dest ≡ some v
    lives v b p = home_number Γ s env₂ g i.dest l v b p

    -- ---- the decision
    save_decision : (P : ValNum → Type 0) (o : Option ValNum) → s.env i.dest ≡ o → Overwrites Γ.names s i P (save_at Γ.names s i o)
    unfolding save_at
    save_decision P none e = kept (λ v b p. absurd (none-ne-some v (sym e ∙ lives v b p)))
    save_decision P (some n) e = go (NameIx-discrete (s.locs n) i.dest)
      where
        go : (d : Dec (s.locs n ≡ i.dest)) → Overwrites Γ.names s i P (pick d (save Γ.names s i n) (no_save s))
        go (yes p) = saved n e
        go (no h) =
            kept
            (λ v b p. let same : v ≡ n = some-injective v n (sym (lives v b p) ∙ e) in
            absurd (h (subst (λ z. s.locs z ≡ i.dest) same p)))

    -- "unless that reads exactly `x = id x`"
    pub overwrite_decision :
        (o : Option (Expr ValNum)) → ((a : ValNum) → o ≡ some (one Id a) → a.0 < s.next) →
        Overwrites Γ.names s i (λ v. o ≡ some (one Id v)) (handle_overwrite Γ.names s i o)
    unfolding handle_overwrite
    overwrite_decision none below = save_decision _ (s.env i.dest) refl
    overwrite_decision (some (constant c)) below = save_decision _ (s.env i.dest) refl
    overwrite_decision (some (one Not a)) below = save_decision _ (s.env i.dest) refl
    overwrite_decision (some (one Id a)) below = go (NameIx-discrete (s.locs a) i.dest)
      where
        go :
            (d : Dec (s.locs a ≡ i.dest)) →
            Overwrites Γ.names s i (λ v. some (one Id a) ≡ some (one Id v))
            (pick d (no_save s) (save_at Γ.names s i (s.env i.dest)))
        go (yes p) =
            kept (λ v b q. ap (λ z. some (one Id z)) (some-injective a v (sym (lives a (below a refl) p) ∙ lives v b q)))
        go (no h) = save_decision _ (s.env i.dest) refl
    overwrite_decision (some (two o a b)) below = save_decision _ (s.env i.dest) refl

    -- ---- the save
    abbrev made_name : NameIx
    made_name = nm (Γ.names + s.temps)

    ready_saved :
        (P : ValNum → Type 0) (n : ValNum) → s.env i.dest ≡ some n →
        Ready Γ s i.dest P (upd ValNum-discrete s.locs n made_name) (suc s.temps) (upd NameIx-discrete env₂ made_name (some n))
    unfolding rehome
    ready_saved P n e =
        record {
          housed = housed_save Γ s env₂ n g;
          before = λ v b. upd_other NameIx-discrete env₂ made_name (some n) (s.locs v) (original v b) ∙ g.homes v b;
          sole = λ v b. upd_ind ValNum-discrete s.locs n made_name v (λ x. x ≡ i.dest → P v)
              (λ p q. let z : Γ.names + s.temps ≡ i.dest.0 = ap (λ y. y.0) q in absurd (omega arith))
              (λ h q. absurd (h (some-injective v n (sym (lives v b q) ∙ e))));
        }
      where
        original : (v : ValNum) → v.0 < s.next → s.locs v ≢ made_name
        original v b p =
            let u = g.bound v b in
            let z : (s.locs v).0 ≡ Γ.names + s.temps = ap (λ y. y.0) p in
            omega arith

    -- rest: what is written behind the decision, by the state that it leaves
    pub saved_paired :
        (is : List Instr) (P : ValNum → Type 0) (q : Saved) (rest : State → List Instr) →
        Overwrites Γ.names s i P q →
        MadeTypes Γ (q.saves ++ rest q.state) →
        ((locs : ValNum → NameIx) (k : ℕ) (env₂' : NameIx → Option ValNum) →
        Ready Γ s i.dest P locs k env₂' →
        MadeTypes Γ (rest (moved s locs k)) →
        Paired Γ (joint_of (moved s locs k) env₂') is (rest (moved s locs k))) →
        Paired Γ (joint_of s env₂) is (q.saves ++ rest q.state)
    unfolding save rehome
    saved_paired is P q rest (kept free) types next =
        next s.locs s.temps env₂ (record { housed = g; before = g.homes; sole = free }) types
    saved_paired is P q rest (saved n e) types next =
        let k : Instr = save_of Γ.names s i in
        let is_made : is_save Γ.names k ≡ true = save_is_save Γ.names s i in
        made {k = k} i.dest n (save_form Γ.ctx.types Γ.names s i) is_made (types.0 is_made) (g.agree i.dest l ∙ e)
        (next (upd ValNum-discrete s.locs n made_name) (suc s.temps) (upd NameIx-discrete env₂ made_name (some n))
        (ready_saved P n e) types.1)
