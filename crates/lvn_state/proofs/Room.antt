-- Room: seeing keeps it, an instruction takes at most one number more, and a block starts with one for each name.
use Prim.Native.Nat.{ℕ, zero, suc, ◌+◌, ◌<◌, ◌≤◌}
use mathlib.Core.Path.{◌≡◌, refl, sym, ap, ◌∙◌, subst}
use mathlib.Core.List.{List, [], ◌∷◌}
use mathlib.Core.Option.{Option, none, some}
use native.Mathlib.Omega.{arith}
use borrow.Author.Tests.{le-ltb}
use Rattle.arith.specs.Map.{upd}
use Rattle.arith.specs.Operation.{Expr}
use Rattle.arith.proofs.Map.{upd_same, upd_other}
use Rattle.record.specs.declared.NameIx.{NameIx}
use Rattle.record.specs.Record.{nm, NameIx-discrete, Instr}
use Rattle.record.specs.Form.{Form, pure, new, effect, return, nop, jump, branch, form}
use Rattle.numbering.specs.declared.ValNum.{ValNum}
use Rattle.numbering.specs.State.{vn, State, start_env, start, new_number, update_env, rehome, see, see_at, gen_new_vals}
use Rattle.numbering.specs.Number.{
  Saved,
  save,
  handle_overwrite,
  get_val_num,
  number_dest,
  val_to_instr,
  make_val,
  place,
  by_form,
  reads,
  rewrite_instr,
  instr_lvn,
}
use Rattle.numbering.proofs.Overwritten.{Overwritten, kept, moved, overwritten}
use Rattle.numbering.proofs.Saves.{gen_new_vals_temps}
use Rattle.lvn_state.specs.Room.{Low, free, room}
use Rattle.lvn_state.proofs.Arguments.{start_more}

pub next_room : (m : ℕ) (s : State) → s.next ≤ room m s
unfolding room
next_room m s = omega arith

module _ (f : NameIx → Option ValNum) (x : NameIx) (v : ValNum) where
  above : (m : ℕ) → m ≤ x.0 → free m (upd NameIx-discrete f x (some v)) ≡ free m f
  unfolding free
  above zero h = refl
  above (suc m) h =
      let e : upd NameIx-discrete f x (some v) (nm m) ≡ f (nm m) =
      upd_other NameIx-discrete f x (some v) (nm m) (λ p. let q : m ≡ x.0 = ap (λ (y : NameIx). y.0) p in omega arith) in
      rw (e, above m (omega arith))

  -- a name that gets a number is one less without
  pub fewer : (m : ℕ) → x.0 < m → f x ≡ none → suc (free m (upd NameIx-discrete f x (some v))) ≡ free m f
  unfolding free
  fewer zero h e = absurd (omega arith)
  fewer (suc m) h e = by (fewer m) (NameIx-discrete (nm m) x)
    where
      by :
          (x.0 < m → f x ≡ none → suc (free m (upd NameIx-discrete f x (some v))) ≡ free m f) → Dec (nm m ≡ x) →
          suc (free (suc m) (upd NameIx-discrete f x (some v))) ≡ free (suc m) f
      by ih (yes p) =
          let q : m ≡ x.0 = ap (λ (y : NameIx). y.0) p in
          let a : upd NameIx-discrete f x (some v) (nm m) ≡ some v = upd_same NameIx-discrete f x (some v) (nm m) p in
          let b : f (nm m) ≡ none = ap f p ∙ e in
          let k : free m (upd NameIx-discrete f x (some v)) ≡ free m f = above m (omega arith) in
          rw (a, b, k) (let z : suc (0 + free m f) ≡ 1 + free m f = omega arith in z)
      by ih (no n) =
          let a : upd NameIx-discrete f x (some v) (nm m) ≡ f (nm m) = upd_other NameIx-discrete f x (some v) (nm m) n in
          let k : suc (free m (upd NameIx-discrete f x (some v))) ≡ free m f =
          ih (let q : x.0 ≡ m → ⊥ = λ r. n (λ i. nm (sym r i)) in omega arith) e in
          rw a (let k' = k in omega arith)

  pub no_more : (m : ℕ) → free m (upd NameIx-discrete f x (some v)) ≤ free m f
  unfolding free
  no_more zero = omega arith
  no_more (suc m) = by (no_more m) (NameIx-discrete (nm m) x)
    where
      by :
          free m (upd NameIx-discrete f x (some v)) ≤ free m f → Dec (nm m ≡ x) →
          free (suc m) (upd NameIx-discrete f x (some v)) ≤ free (suc m) f
      by ih (yes p) =
          let a : upd NameIx-discrete f x (some v) (nm m) ≡ some v = upd_same NameIx-discrete f x (some v) (nm m) p in
          rw a (omega arith)
      by ih (no n) =
          let a : upd NameIx-discrete f x (some v) (nm m) ≡ f (nm m) = upd_other NameIx-discrete f x (some v) (nm m) n in
          rw a (omega arith)

-- ---- seeing
-- giving a number to a name that has none keeps the room
unseen_room :
    (m : ℕ) (s : State) (x : NameIx) (e : Option (Expr ValNum)) → x.0 < m → s.env x ≡ none → room m (new_number s x e) ≡ room m s
unfolding new_number room
unseen_room m s x e h n =
    let k : suc (free m (upd NameIx-discrete s.env x (some (vn s.next)))) ≡ free m s.env =
    fewer s.env x (vn s.next) m h n in
    omega arith

pub see_room : (m : ℕ) (s : State) (x : NameIx) → x.0 < m → room m (see s x) ≡ room m s
unfolding see
see_room m s x h = by (s.env x) refl
  where
    by : (o : Option ValNum) → s.env x ≡ o → room m (see_at s x o) ≡ room m s
    by none e = unseen_room m s x none h e
    by (some v) e = refl

pub gen_room : (m : ℕ) (s : State) (xs : List NameIx) → Low m xs → room m (gen_new_vals s xs) ≡ room m s
unfolding gen_new_vals
gen_room m s [] h = refl
gen_room m s (x ∷ xs) h = gen_room m (see s x) xs h.1 ∙ see_room m s x h.0

-- ---- a number is given or taken
pub new_room : (m : ℕ) (s : State) (x : NameIx) (e : Option (Expr ValNum)) → room m (new_number s x e) ≤ suc (room m s)
unfolding new_number room
new_room m s x e = let k = no_more s.env x (vn s.next) m in omega arith

pub take_room : (m : ℕ) (s : State) (x : NameIx) (v : ValNum) → room m (update_env s x v) ≤ room m s
unfolding update_env room
take_room m s x v = let k = no_more s.env x v m in omega arith

-- ---- a save
-- a save keeps the numbers of the names and adds at most one made name
pub record Saves (m : ℕ) (s t : State) : Type 0 where
  pub next : t.next ≡ s.next
  pub room : room m t ≡ room m s
  pub temps : t.temps ≤ suc s.temps

overwritten_room : (m N : ℕ) (s : State) (i : Instr) (q : Saved) → Overwritten N s i q → Saves m s q.state
unfolding save rehome room
overwritten_room m N s i q kept = record { next = refl; room = refl; temps = omega arith }
overwritten_room m N s i q (moved v) = record { next = refl; room = refl; temps = omega arith }

pub saved_room : (m N : ℕ) (s : State) (i : Instr) (e : Option (Expr ValNum)) → Saves m s (handle_overwrite N s i e).state
saved_room m N s i e = overwritten_room m N s i (handle_overwrite N s i e) (overwritten N s i e)

-- ---- one instruction
-- it takes at most one number and one made name more
pub record Grows (m : ℕ) (s t : State) : Type 0 where
  pub room : room m t ≤ suc (room m s)
  pub temps : t.temps ≤ suc s.temps

grows_new : (m : ℕ) (s t : State) → Saves m s t → (x : NameIx) (e : Option (Expr ValNum)) → Grows m s (new_number t x e)
unfolding new_number
grows_new m s t h x e =
    let k = new_room m t x e in
    record { room = subst (λ (n : ℕ). room m (new_number t x e) ≤ suc n) h.room k; temps = h.temps }

grows_take : (m : ℕ) (s t : State) → Saves m s t → (x : NameIx) (v : ValNum) → Grows m s (update_env t x v)
unfolding update_env
grows_take m s t h x v =
    let k = take_room m t x v in
    let r = h.room in
    record { room = omega (arith, k, r); temps = h.temps }

module _ (m N : ℕ) (s : State) (i : Instr) where
  numbered_grows :
      (q : Saved) → Saves m s q.state → (e : Expr ValNum) (written : Instr) (o : Option ValNum) →
      Grows m s (number_dest q i e written o).state
  unfolding number_dest
  numbered_grows q h e written none = grows_new m s q.state h i.dest (some e)
  numbered_grows q h e written (some v) = grows_take m s q.state h i.dest v

  pub place_grows : (e : Option (Expr ValNum)) → Grows m s (place N s i e).state
  unfolding place
  place_grows none = grows_new m s (handle_overwrite N s i none).state (saved_room m N s i none) i.dest none
  place_grows (some e) =
      numbered_grows (handle_overwrite N s i (some e)) (saved_room m N s i (some e)) e (val_to_instr s i e)
      (get_val_num (handle_overwrite N s i (some e)).state e)

  same_grows : Grows m s s
  same_grows = record { room = omega arith; temps = omega arith }

  form_grows : (f : Form) → Grows m s (by_form N s i f).state
  unfolding by_form
  form_grows (pure e) = place_grows (make_val s e)
  form_grows (new xs) = place_grows none
  form_grows (effect xs) = same_grows
  form_grows (return xs) = same_grows
  form_grows nop = same_grows
  form_grows (jump b) = same_grows
  form_grows (branch a b c) = same_grows

pub instr_grows :
    (m N : ℕ) (t : NameIx → ℕ) (s : State) (i : Instr) → Low m (reads (form t i)) → Grows m s (instr_lvn N t s i).state
unfolding instr_lvn
instr_grows m N t s i low =
    let xs = reads (form t i) in
    let seen = gen_new_vals s xs in
    let g = form_grows m N seen (rewrite_instr seen xs i) (form t i) in
    record {
      room = subst (λ (n : ℕ). room m (instr_lvn N t s i).state ≤ suc n) (gen_room m s xs low) g.room;
      temps = subst (λ (n : ℕ). (instr_lvn N t s i).state.temps ≤ suc n) (gen_new_vals_temps s xs) g.temps;
    }

-- ---- a block's start
all_free : (m : ℕ) (f : NameIx → Option ValNum) → ((x : NameIx) → f x ≡ none) → free m f ≡ m
unfolding free
all_free zero f h = refl
all_free (suc m) f h =
    let k : free m f ≡ m = all_free m f h in
    rw (h (nm m)) (let k' = k in omega arith)

none_below : (A : ℕ) (x : NameIx) → A ≤ x.0 → start_env A x ≡ none
none_below A x h = rw (le-ltb x.0 A h)

pub start_room : (m A k : ℕ) → A ≤ m → room m (start A k) ≡ m
unfolding start room
start_room m zero k h = let e : free m (start_env 0) ≡ m = all_free m (start_env 0) (λ x. none_below 0 x (omega arith)) in omega arith
start_room m (suc A) k h =
    sym (ap (room m) (start_more A k)) ∙ unseen_room m (start A k) (nm A) none (omega arith) (none_below A (nm A) (omega arith)) ∙
    start_room m A k (omega arith)
