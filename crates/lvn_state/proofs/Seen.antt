-- The arguments of an instruction seen one after another, as a loop over them has it.
use Prim.Native.Nat.{ℕ, suc, ◌+◌, ◌<◌, ◌≤◌}
use mathlib.Core.Path.{◌≡◌, sym, ap, ◌∙◌, subst}
use mathlib.Core.List.{List, [], ◌∷◌, ◌++◌, map}
use native.Mathlib.Omega.{arith}
use Rattle.std.proofs.lemmas.List.{map_push}
use native.Mathlib.Numerals.{add-one}
use lib.ListN.{length, get_or, set, take, drop, drop_of_length-le}
use lib.Seq.{drop-cons, take-suc, take-suc-set}
use Rattle.record.specs.declared.NameIx.{NameIx}
use Rattle.record.specs.Record.{nm}
use Rattle.numbering.specs.State.{State, see, gen_new_vals}
use Rattle.lvn_state.specs.View.{names_in}
use Rattle.lvn_state.specs.Room.{Low, room}
use Rattle.lvn_state.proofs.Room.{next_room, see_room}

module _ (l : List ℕ) (i : ℕ) (h : i < length l) where
  -- the arguments from i on
  rest_step : map nm (drop i l) ≡ nm (get_or l i 0) ∷ map nm (drop (i + 1) l)
  rest_step = let d : drop i l ≡ get_or l i 0 ∷ drop (suc i) l = drop-cons l i 0 h in rw (d, add-one i)

  pub low_first : (m : ℕ) → Low m (map nm (drop i l)) → get_or l i 0 < m
  low_first m a = let p : Low m (nm (get_or l i 0) ∷ map nm (drop (i + 1) l)) = subst (Low m) rest_step a in p.0

  pub low_rest : (m : ℕ) → Low m (map nm (drop i l)) → Low m (map nm (drop (i + 1) l))
  low_rest m a = let p : Low m (nm (get_or l i 0) ∷ map nm (drop (i + 1) l)) = subst (Low m) rest_step a in p.1

  pub seen_first : (s : State) → gen_new_vals (see s (nm (get_or l i 0))) (map nm (drop (i + 1) l)) ≡ gen_new_vals s (map nm (drop i l))
  unfolding gen_new_vals
  seen_first s = sym (ap (gen_new_vals s) rest_step)

pub seen_all : (s : State) (l : List ℕ) (i : ℕ) → length l ≤ i → gen_new_vals s (map nm (drop i l)) ≡ s
unfolding gen_new_vals
seen_all s l i h = let z : drop i l ≡ [] = drop_of_length-le l h in rw z

-- ---- the loop over the arguments l, whose rest from i on is seen in the state s; m: how many names there can be, n: how many numbers
pub record Seeing (m n : ℕ) (s₀ : State) (l : List ℕ) (s : State) (i : ℕ) : Type 0 where
  pub low : Low m (map nm (drop i l))
  pub fits : (room m s < n) × (room m s < 65535)
  pub seen : gen_new_vals s (map nm (drop i l)) ≡ gen_new_vals s₀ (map nm l)

module _ {m n : ℕ} {s₀ : State} {l : List ℕ} {s : State} {i : ℕ} (a : Seeing m n s₀ l s i) (h : i < length l) where
  pub name_low : get_or l i 0 < m
  name_low = low_first l i h m a.low

  pub next_low : (s.next < n) × (s.next < 65535)
  next_low = (omega (arith, next_room m s, a.fits.0), omega (arith, next_room m s, a.fits.1))

  pub seeing_more : (t : State) → t ≡ see s (nm (get_or l i 0)) → Seeing m n s₀ l t (i + 1)
  seeing_more t e =
      let r : room m t ≡ room m s = ap (room m) e ∙ see_room m s (nm (get_or l i 0)) name_low in
      record {
        low = low_rest l i h m a.low;
        fits = subst (λ (k : ℕ). (k < n) × (k < 65535)) (sym r) a.fits;
        seen = ap (λ (u : State). gen_new_vals u (map nm (drop (i + 1) l))) e ∙ seen_first l i h s ∙ a.seen;
      }

-- ---- arguments replaced
-- one more argument replaced
pub replaced_next :
    (f : NameIx → NameIx) (out l : List ℕ) (i : ℕ) (y : NameIx) →
    i < length out → i < length l →
    y ≡ f (nm (get_or l i 0)) →
    names_in i out ≡ map f (names_in i l) →
    names_in (i + 1) (set out i y.0) ≡ map f (names_in (i + 1) l)
replaced_next f out l i y a b e q =
    let p : take (suc i) (set out i y.0) ≡ take i out ++ (y.0 ∷ []) = take-suc-set out i y.0 a in
    let r : take (suc i) l ≡ take i l ++ (get_or l i 0 ∷ []) = take-suc l i 0 b in
    rw (
      add-one i,
      p,
      r,
      map_push nm (take i out) y.0,
      map_push nm (take i l) (get_or l i 0),
      map_push f (map nm (take i l)) (nm (get_or l i 0)),
      q,
      ← e,
    )
