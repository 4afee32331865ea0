-- What is written of an instruction: itself with other arguments, a const, or an operator over homes. Rests on the invariant of the state.
-- P: a property of the constants that are written.
use Prim.Native.Nat.{ℕ, ◌+◌, ◌<◌, ◌≤◌}
use mathlib.Core.Path.{◌≡◌, refl, sym, subst}
use mathlib.Core.Bool.{Bool, true, false, cond}
use mathlib.Core.List.{[], ◌∷◌}
use mathlib.Core.Option.{Option, none, some}
use native.Mathlib.Omega.{arith}
use Rattle.arith.specs.declared.One.{One}
use Rattle.arith.specs.declared.One.TheVariants.{Id}
use Rattle.arith.specs.declared.Two.{Two}
use Rattle.arith.specs.Value.{Val}
use Rattle.arith.specs.Operation.{Expr, constant, one, two}
use Rattle.arith.specs.Code.{code1, code2}
use Rattle.record.specs.declared.NameIx.{NameIx}
use Rattle.record.specs.Record.{Instr}
use Rattle.record.specs.Shape.{shape_of}
use Rattle.record.specs.Form.{Form, pure, new, effect, return, nop, jump, branch, form}
use Rattle.record.specs.Good.{Each, InstrOk}
use Rattle.numbering.specs.declared.ValNum.{ValNum}
use Rattle.numbering.specs.State.{State, new_number, update_env, gen_new_vals, number_of, known}
use Rattle.numbering.specs.Number.{reads, numbered, make_val, make_const_instr, make_id_instr, make_val_instr, val_to_instr, rewrite_instr, Saved, handle_overwrite, get_val_num, Emitted, unchanged, number_dest, place, by_form, instr_lvn, operands}
use Rattle.numbering.proofs.Codes.{reads_below, instr_original}
use Rattle.numbering.proofs.Overwritten.{overwritten, overwritten_next, overwritten_temps}
use Rattle.numbering.proofs.Given.{Seen, number_below, gen_seen, Below, get_val_num_below}
use Rattle.numbering.proofs.Saves.{Dests}
use Rattle.numbering.proofs.Simplified.{Closed, OptionOk, ExprOk, MaybeOk, maybe_value, known_ok, simplify_ok}
use Rattle.numbering.proofs.Homes.{Homed, gen_homed, new_number_homed, update_env_homed, overwritten_homed}

-- ---- what may be written of i, over the names below M
pub data Written (P : Val → Type 0) (M : ℕ) (i : Instr) : Instr → Type 0 where
  itself : Written P M i i
  constant_of : (v : Val) → P v → Written P M i (make_const_instr i v)
  over_one : (o : One) {a : NameIx} → a.0 < M → Written P M i (make_val_instr i (code1 o) (a ∷ []))
  over_two : (o : Two) {a b : NameIx} → a.0 < M → b.0 < M → Written P M i (make_val_instr i (code2 o) (a ∷ b ∷ []))

-- the state behind an instruction, and what is written
pub record EmittedOk (P : Val → Type 0) (N : ℕ) (i : Instr) (e : Emitted) : Type 0 where
  pub homed : Homed P N e.state
  pub written : Written P (N + e.state.temps) i e.instr

-- the constant of a const that is numbered satisfies P
abbrev pub ConstOk : (Val → Type 0) → Form → Type 0
ConstOk P (pure (constant v)) = numbered v ≡ true → P v
ConstOk P (pure (one o a)) = Unit {0}
ConstOk P (pure (two o a b)) = Unit {0}
ConstOk P (new xs) = Unit {0}
ConstOk P (effect xs) = Unit {0}
ConstOk P (return xs) = Unit {0}
ConstOk P nop = Unit {0}
ConstOk P (jump b) = Unit {0}
ConstOk P (branch a b c) = Unit {0}

module _ (P : Val → Type 0) (closed : Closed P) where
  expr_written :
      (n M : ℕ) (s : State) (i : Instr) (e : Expr ValNum) →
      ExprOk P n e →
      ((v : ValNum) → v.0 < n → (s.locs v).0 < M) →
      Written P M i (val_to_instr s i e)
  unfolding val_to_instr
  expr_written n M s i (constant v) h f = constant_of v h
  expr_written n M s i (one o a) h f = over_one o (f a h)
  expr_written n M s i (two o a b) h f = over_two o (f a h.0) (f b h.1)

  id_written :
      (M : ℕ) (s : State) (i : Instr) (v : ValNum) (c : Option Val) →
      OptionOk P c →
      (s.locs v).0 < M →
      Written P M i (make_id_instr c s i v)
  id_written M s i v (some c) h l = constant_of c h
  id_written M s i v none h l = over_one Id l

  number_dest_ok :
      (N : ℕ) (q : Saved) (i : Instr) (e : Expr ValNum) (w : Instr) (o : Option ValNum) →
      Homed P N q.state →
      i.dest.0 < N →
      ExprOk P q.state.next e →
      Written P (N + q.state.temps) i w →
      Below q.state.next o →
      EmittedOk P N i (number_dest q i e w o)
  unfolding number_dest new_number update_env
  number_dest_ok N q i e w none h l k p b =
      let v = maybe_value P q.state.next (some e) k in
      record { homed = new_number_homed P N q.state i.dest (some e) h l v; written = p }
  number_dest_ok N q i e w (some v) h l k p b =
      record {
        homed = update_env_homed P N q.state i.dest v h b;
        written = id_written (N + q.state.temps) q.state i v (known q.state v) (known_ok P q.state v (h.values v)) (h.homes v b);
      }

  place_ok :
      (N : ℕ) (s : State) (i : Instr) (e : Option (Expr ValNum)) →
      Homed P N s →
      i.dest.0 < N →
      MaybeOk P s.next e →
      EmittedOk P N i (place N s i e)
  unfolding place new_number
  place_ok N s i none h l m =
      let q = handle_overwrite N s i none in
      let g = overwritten_homed P N s i q (overwritten N s i none) h in
      record { homed = new_number_homed P N q.state i.dest none g l tt; written = itself }
  place_ok N s i (some e) h l m =
      let q = handle_overwrite N s i (some e) in
      let w = overwritten N s i (some e) in
      let n : q.state.next ≡ s.next = overwritten_next N s i q w in
      let k : s.temps ≤ q.state.temps = overwritten_temps N s i q w in
      let x : ExprOk P q.state.next e = subst (λ (j : ℕ). ExprOk P j e) (sym n) m in
      number_dest_ok N q i e (val_to_instr s i e) (get_val_num q.state e)
      (overwritten_homed P N s i q w h)
      l
      x
      (expr_written s.next (N + q.state.temps) s i e m (λ v b. let g : (s.locs v).0 < N + s.temps = h.homes v b in omega arith))
      (get_val_num_below P q.state e x)

  numbered_maybe :
      (n : ℕ) (v : Val) (b : Bool) → numbered v ≡ b → (numbered v ≡ true → P v) → MaybeOk P n (cond b (some (constant v)) none)
  numbered_maybe n v true e h = h e
  numbered_maybe n v false e h = tt

  make_val_ok :
      (N : ℕ) (s : State) (e : Expr NameIx) →
      Homed P N s →
      Each (λ left x. Seen s x) (operands e) →
      ConstOk P (pure e) →
      MaybeOk P s.next (make_val s e)
  unfolding make_val
  make_val_ok N s (constant v) h p c = numbered_maybe s.next v (numbered v) refl c
  make_val_ok N s (one o a) h p c =
      simplify_ok P closed s.next (known s) (λ v. known_ok P s v (h.values v)) (one o (number_of s a)) (number_below s a h.numbers p.0)
  make_val_ok N s (two o a b) h p c =
      simplify_ok P closed s.next (known s) (λ v. known_ok P s v (h.values v)) (two o (number_of s a) (number_of s b))
      (number_below s a h.numbers p.0, number_below s b h.numbers p.1.0)

  unchanged_ok : (N : ℕ) (s : State) (i : Instr) → Homed P N s → EmittedOk P N i (unchanged s i)
  unchanged_ok N s i h = record { homed = h; written = itself }

  by_form_ok :
      (N : ℕ) (s : State) (i : Instr) (d : Bool) (f : Form) →
      Homed P N s →
      Dests N d i.dest f →
      Each (λ left x. Seen s x) (reads f) →
      ConstOk P f →
      EmittedOk P N i (by_form N s i f)
  unfolding by_form reads
  by_form_ok N s i d (pure e) h l p c = place_ok N s i (make_val s e) h l.1 (make_val_ok N s e h p c)
  by_form_ok N s i d (new xs) h l p c = place_ok N s i none h l.1 tt
  by_form_ok N s i d (effect xs) h l p c = unchanged_ok N s i h
  by_form_ok N s i d (return xs) h l p c = unchanged_ok N s i h
  by_form_ok N s i d nop h l p c = unchanged_ok N s i h
  by_form_ok N s i d (jump b) h l p c = unchanged_ok N s i h
  by_form_ok N s i d (branch a b k) h l p c = unchanged_ok N s i h

  -- ---- one instruction
  -- what is written of i from the state s
  pub instr_emitted :
      (N B left : ℕ) (t : NameIx → ℕ) (s : State) (i : Instr) →
      Homed P N s →
      InstrOk N B left i →
      ConstOk P (form t i) →
      EmittedOk P N (rewrite_instr (gen_new_vals s (reads (form t i))) (reads (form t i)) i) (instr_lvn N t s i)
  unfolding instr_lvn
  instr_emitted N B left t s i h p c =
      let f = form t i in
      let seen = gen_new_vals s (reads f) in
      by_form_ok N seen (rewrite_instr seen (reads f) i) (shape_of i.code).dest f
      (gen_homed P N s (reads f) h (reads_below N B left t i p))
      (instr_original N B left t i p)
      (gen_seen s (reads f))
      c
