-- The value of a literal by the type byte under which its cell holds it.
use Prim.Native.Nat.{ℕ, zero, suc, ◌+◌, ◌≤◌}
use mathlib.Core.Path.{◌≡◌, refl, ap, ◌∙◌}
use mathlib.Core.Logic.{◌≢◌, ◌⊎◌, inl, inr}
use mathlib.Core.List.{List}
use mathlib.Core.Option.{some}
use native.Mathlib.Omega.{arith}
use borrow.Author.Tests.{eq-eqb, ne_eqb}
use Rattle.arith.specs.Value.{Val, tfloat}
use Rattle.arith.specs.Map.{upd}
use Rattle.record.specs.Record.{nm, NameIx-discrete, type_in}
use Rattle.record.specs.Reader.{num_at}
use Rattle.record.specs.Decode.{index_from}
use Rattle.record.specs.Form.{value_of}
use Rattle.running.specs.House.{held}
use Rattle.running.specs.Items.{plain_from}
use Rattle.engine_cells.specs.declared.Cells.{Cells}
use Rattle.engine_cells.specs.Cells.{store_in}

module _ (t : ℕ) where
  -- an int literal in a float
  pub in_float : (kind x : ℕ) → kind ≡ 0 → t ≡ tfloat → plain_from held x ≡ value_of t kind x
  unfolding plain_from value_of
  in_float kind x e f = rw (e, eq-eqb t tfloat f)

  -- any other, held as it is
  pub by_kind : (kind x : ℕ) → ((kind ≡ 0) × (t ≢ tfloat)) ⊎ (kind ≢ 0) → kind ≤ 3 → plain_from kind x ≡ value_of t kind x
  unfolding plain_from value_of
  by_kind zero x (inl n) h = rw (ne_eqb t tfloat n.1) refl
  by_kind zero x (inr n) h = absurd (n refl)
  by_kind (suc zero) x n h = refl
  by_kind (suc (suc zero)) x n h = refl
  by_kind (suc (suc (suc zero))) x n h = refl
  by_kind (suc (suc (suc (suc k)))) x n h = absurd (omega arith)

-- ---- the literal of an instruction, set
-- d: its name, t: the type of that, n: the literal's kind, w: its word, k: the type byte of its cell
pub literal_set :
    {N : ℕ} (before after : Cells N) (s types : List ℕ) (at d t n w k : ℕ) →
    d ≡ num_at s at 2 →
    t ≡ type_in types (nm d) →
    n ≡ num_at s (at + 2) 1 →
    w ≡ num_at s (at + 3) 8 →
    ((x : ℕ) → plain_from k x ≡ value_of t n x) →
    store_in after ≡ upd NameIx-discrete (store_in before) (nm d) (some (plain_from k w)) →
    store_in after ≡
    upd NameIx-discrete (store_in before) (index_from s at)
    (some (value_of (type_in types (index_from s at)) (num_at s (at + 2) 1) (num_at s (at + 3) 8)))
unfolding index_from type_in
literal_set before after s types at d t n w k ed et en ew v h =
    h ∙
    ap (λ (u : Val). upd NameIx-discrete (store_in before) (nm d) (some u)) (v w) ∙
    (λ i. upd NameIx-discrete (store_in before) (nm (ed i)) (some (value_of ((et ∙ (λ j. type_in types (nm (ed j)))) i) (en i) (ew i))))
