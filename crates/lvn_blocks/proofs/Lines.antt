-- What is written of one instruction: the save that it owes and itself, as bytes, and what the save saves.
use Prim.Native.Nat.{ℕ, ◌+◌}
use mathlib.Core.Path.{◌≡◌, refl, sym, ap, ◌∙◌, subst}
use mathlib.Core.List.{List, [], ◌∷◌, ◌++◌, append_assoc}
use mathlib.Core.Bool.{Bool, true, false, cond}
use native.Mathlib.Omega.{arith}
use lib.ListN.{length, set}
use Rattle.std.specs.Prelude.{Option as Maybe, None, Some, is_some}
use Rattle.record.specs.declared.NameIx.{NameIx}
use Rattle.record.specs.Record.{Instr, arg}
use Rattle.record.specs.Write.{join, instr_bytes}
use Rattle.numbering.specs.Number.{save_before, Emitted, is_save, saved_in}
use Rattle.numbering.proofs.Saves.{Saves, no_saves, one_save, Emits, Original, save_is_save, emitted_no_save}
use Rattle.write_bytes.specs.Put.{put, Wrote}
use Rattle.write_bytes.proofs.Wrote.{wrote_nothing, wrote_append, wrote_last}
use Rattle.lvn_state.specs.View.{saves_of}
use Rattle.lvn_blocks.specs.Block.{body_bytes, saved_by, indexes, lines}

-- ---- bytes
pub body_append : (w : ℕ) (is js : List Instr) → body_bytes w (is ++ js) ≡ body_bytes w is ++ body_bytes w js
unfolding body_bytes join
body_append w [] js = refl
body_append w (i ∷ is) js =
    ap (λ (l : List ℕ). instr_bytes w i ++ l) (body_append w is js) ∙ sym (append_assoc (instr_bytes w i) (body_bytes w is) (body_bytes w js))

module _ {l m : List ℕ} {i p : ℕ} (w : ℕ) where
  pub body_one : (x : Instr) → Wrote l m i p (instr_bytes w x) → Wrote l m i p (body_bytes w (x ∷ []))
  unfolding body_bytes
  body_one x a = wrote_last (instr_bytes w x) a

  pub body_then :
      {r : List ℕ} {q : ℕ} (is js : List Instr) →
      Wrote l m i p (body_bytes w is) →
      Wrote m r p q (body_bytes w js) →
      Wrote l r i q (body_bytes w (is ++ js))
  body_then is js a b = rw (body_append w is js) (wrote_append (body_bytes w is) (body_bytes w js) a b)

-- m: the made name of the save that is owed before x, where one is
pub no_line : {l : List ℕ} {i : ℕ} (w : ℕ) (m : Maybe NameIx) (x : Instr) → m ≡ None → Wrote l l i i (body_bytes w (saves_of m x))
unfolding body_bytes join
no_line w m x e = rw e wrote_nothing

pub one_line :
    {l r : List ℕ} {i p : ℕ} {y : Instr} (w : ℕ) (m : Maybe NameIx) (made : NameIx) (x : Instr) →
    m ≡ Some made →
    y ≡ save_before x made →
    Wrote l r i p (instr_bytes w y) →
    Wrote l r i p (body_bytes w (saves_of m x))
one_line {l} {r} {i} {p} w m made x e d a =
    rw e (body_one w (save_before x made) (subst (λ (z : Instr). Wrote l r i p (instr_bytes w z)) d a))

-- ---- the table of what each K saved
module _ (l : List ℕ) (k : ℕ) (x : Instr) where
  pub noted_one : (m : Maybe NameIx) → is_some m ≡ true → set l k x.dest.0 ≡ put l k (saved_by (saves_of m x))
  unfolding put
  noted_one None e = absurd (cc)
  noted_one (Some made) e = refl

  pub noted_none : (m : Maybe NameIx) → is_some m ≡ false → l ≡ put l k (saved_by (saves_of m x))
  unfolding put
  noted_none None e = refl
  noted_none (Some made) e = absurd (cc)

-- ---- what is saved
module _ (N : ℕ) where
  pub saved_append : (is js : List Instr) → saved_in N (is ++ js) ≡ saved_in N is ++ saved_in N js
  unfolding saved_in
  saved_append [] js = refl
  saved_append (i ∷ is) js = by (is_save N i) (saved_append is js)
    where
      by :
          (b : Bool) → saved_in N (is ++ js) ≡ saved_in N is ++ saved_in N js →
          cond b (arg i 0 ∷ saved_in N (is ++ js)) (saved_in N (is ++ js)) ≡ cond b (arg i 0 ∷ saved_in N is) (saved_in N is) ++ saved_in N js
      by true e = ap (λ (l : List NameIx). arg i 0 ∷ l) e
      by false e = e

  saved_by_saves :
      {id : ℕ} {x : NameIx} {k k' : ℕ} {ss : List Instr} (i : Instr) →
      Saves N id x k ss k' →
      is_save N i ≡ false →
      indexes (saved_in N (ss ++ (i ∷ []))) ≡ saved_by ss
  unfolding saved_in
  saved_by_saves i no_saves h = rw h
  saved_by_saves {id = id} {x = x} {k = k} i (one_save l) h = rw (h, save_is_save N id x k)

  saves_temps : {id : ℕ} {x : NameIx} {k k' : ℕ} {ss : List Instr} → Saves N id x k ss k' → k' ≡ k + length (saved_by ss)
  saves_temps no_saves = omega arith
  saves_temps (one_save l) = omega arith

  -- the table of what each K saved, behind an instruction
  pub emitted_noted :
      {made made' : List ℕ} {k : ℕ} (t : NameIx → ℕ) (i : Instr) (e : Emitted) →
      Original N t i →
      Emits N k i e →
      made' ≡ put made k (saved_by e.saves) →
      Wrote made made' k e.state.temps (indexes (saved_in N (lines e)))
  emitted_noted {made} {made'} {k} t i e o h p =
      rw (saved_by_saves e.instr h.saves (emitted_no_save N k t i e o h))
      (record { out = p; end = saves_temps h.saves })
