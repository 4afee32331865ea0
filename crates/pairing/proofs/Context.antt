-- A function under two tables of types that agree on the original names: its forms, its rewriting and its runs are the same.
-- Types matter only at the dest of a const or of a value that is new each time.
use Prim.Native.Nat.{ℕ, zero, suc, ◌<◌}
use mathlib.Core.Path.{◌≡◌, refl, sym, ap, ◌∙◌, subst, fun_ext}
use mathlib.Core.Bool.{Bool, true, false, cond}
use mathlib.Core.List.{List, [], ◌∷◌}
use mathlib.Core.Option.{Option, none, some, none-ne-some, some-injective}
use lib.Dec.{T, eqb}
use Rattle.arith.specs.declared.One.TheVariants.{Not, Id}
use Rattle.arith.specs.Value.{Val, tbool}
use Rattle.arith.specs.Operation.{Expr, constant, one, two}
use Rattle.record.specs.declared.NameIx.{NameIx}
use Rattle.record.specs.Record.{Instr, Block}
use Rattle.record.specs.Shape.{shape_of}
use Rattle.record.specs.Form.{Form, pure, new, effect, return, nop, jump, branch, value_of, form}
use Rattle.numbering.specs.State.{State}
use Rattle.numbering.specs.Number.{operands, reads, instr_lvn, prepend, block_lvn}
use Rattle.numbering.proofs.Saves.{Dests}
use Rattle.machine.specs.Machine.{Store, Context, Answer, Mach, tick, ask, perform, act, step, after, run_block, Place, before, stopped, nth, passes, through, advance_from, advance, begin, iterate, run_with}
use Rattle.pairing.specs.Joint.{Typed}
use Rattle.pairing.specs.Demand.{All}
use Rattle.pairing.proofs.Fit.{terminates, FitInstr, FitBody}

abbrev pub FitBlocks : ℕ → (NameIx → ℕ) → List (Block Instr) → Type 0
FitBlocks N t bs = All (λ (b : Block Instr). FitBody N t b.body) bs

-- a block that is found fits
pub fit_nth :
    (N : ℕ) (t : NameIx → ℕ) (bs : List (Block Instr)) → FitBlocks N t bs →
    (n : ℕ) (b : Block Instr) → nth bs n ≡ some b → FitBody N t b.body
unfolding nth
fit_nth N t [] h n b e = absurd (none-ne-some b e)
fit_nth N t (x ∷ bs) h zero b e = subst (λ (z : Block Instr). FitBody N t z.body) (some-injective x b e) h.0
fit_nth N t (x ∷ bs) h (suc n) b e = fit_nth N t bs h.1 n b e

-- ---- forms
-- the form of an instruction over whether it is a const
const_cong :
    (N : ℕ) (s : Bool) (x : NameIx) (b : Bool) (d d' kind bits : ℕ) (other : Form) →
    (x.0 < N → d' ≡ d) →
    Dests N s x (cond b (pure (constant (value_of d kind bits))) other) →
    cond b (pure (constant (value_of d' kind bits))) other ≡ cond b (pure (constant (value_of d kind bits))) other
const_cong N s x true d d' kind bits other e h = ap (λ z. pure (constant (value_of z kind bits))) (e h.1)
const_cong N s x false d d' kind bits other e h = refl

module _ (N : ℕ) (t t' : NameIx → ℕ) (same : (x : NameIx) → x.0 < N → t' x ≡ t x) where
  pub fit_form : (i : Instr) → FitInstr N t i → form t' i ≡ form t i
  unfolding form
  fit_form i h =
      const_cong N (shape_of i.code).dest i.dest (eqb i.code 0) (t i.dest) (t' i.dest) i.lit.kind i.lit.bits _
      (same i.dest) h.original

  -- ---- what fits under t fits under t'
  typed_cong : (e : Expr NameIx) (d : ℕ) → All (λ x. x.0 < N) (operands e) → Typed t e d → Typed t' e d
  typed_cong (constant v) d l h = h
  typed_cong (one Not a) d l h = (same a l.0 ∙ h.0, h.1)
  typed_cong (one Id a) d l h = h ∙ sym (same a l.0)
  typed_cong (two o a b) d l h = rw (same a l.0, same b l.1.0) h

  fit_typed : (i : Instr) → FitInstr N t i → (e : Expr NameIx) → form t i ≡ pure e → Typed t' e (t' i.dest)
  unfolding reads
  fit_typed i h e p =
      subst (Typed t' e) (sym (same i.dest (subst (Dests N (shape_of i.code).dest i.dest) p h.original).1))
      (typed_cong e (t i.dest) (subst (λ f. All (λ x. x.0 < N) (reads f)) p h.args) (h.typed e p))

  fit_tested : (i : Instr) → FitInstr N t i → (x : NameIx) (b c : ℕ) → form t i ≡ branch x b c → t' x ≡ tbool
  unfolding reads
  fit_tested i h x b c p =
      same x (subst (λ f. All (λ x. x.0 < N) (reads f)) p h.args).0 ∙ h.tested x b c p

  pub fit_instr : (i : Instr) → FitInstr N t i → FitInstr N t' i
  fit_instr i h =
      let q = sym (fit_form i h) in
      record {
        args = subst (λ f. All (λ x. x.0 < N) (reads f)) q h.args;
        all_read = subst (λ f. reads f ≡ i.args) q h.all_read;
        original = subst (Dests N (shape_of i.code).dest i.dest) q h.original;
        typed = λ e p. fit_typed i h e (q ∙ p);
        tested = λ x b c p. fit_tested i h x b c (q ∙ p);
      }

  pub fit_body : (is : List Instr) → FitBody N t is → FitBody N t' is
  fit_body [] h = tt
  fit_body (i ∷ is) h =
      (fit_instr i h.0, (subst (λ f. T (terminates f) → is ≡ []) (sym (fit_form i h.0)) h.1.0, fit_body is h.1.1))

  -- ---- the rewriting
  pub instr_lvn_cong : (s : State) (i : Instr) → FitInstr N t i → instr_lvn N t' s i ≡ instr_lvn N t s i
  unfolding instr_lvn
  instr_lvn_cong s i h = rw (fit_form i h)

  pub block_lvn_cong : (is : List Instr) (s : State) → FitBody N t is → block_lvn N t' s is ≡ block_lvn N t s is
  unfolding block_lvn
  block_lvn_cong [] s h = refl
  block_lvn_cong (i ∷ is) s h =
      rw (instr_lvn_cong s i h.0) (ap (prepend (instr_lvn N t s i)) (block_lvn_cong is (instr_lvn N t s i).state h.1.1))

-- ---- runs
-- a context with another table of types
abbrev pub retyped : Context → (NameIx → ℕ) → Context
retyped c t = record { types = t; performs = c.performs }

ask_cong :
    (c : Context) (t : NameIx → ℕ) (i : Instr) (m : Mach) (o : Option (List Val)) →
    t i.dest ≡ c.types i.dest →
    ask (retyped c t) i m o ≡ ask c i m o
unfolding ask
ask_cong c t i m none e = refl
ask_cong c t i m (some vs) e = ap (λ d. perform d i m vs (c.performs i.code vs)) e

act_cong :
    (N : ℕ) (s : Bool) (c : Context) (t : NameIx → ℕ) (i : Instr) (m : Mach) (f : Form) →
    (i.dest.0 < N → t i.dest ≡ c.types i.dest) →
    Dests N s i.dest f →
    act (retyped c t) i m f ≡ act c i m f
unfolding act
act_cong N s c t i m (pure e) same h = refl
act_cong N s c t i m (new xs) same h = ask_cong c t i m _ (same h.1)
act_cong N s c t i m (effect xs) same h = refl
act_cong N s c t i m (return xs) same h = refl
act_cong N s c t i m nop same h = refl
act_cong N s c t i m (jump b) same h = refl
act_cong N s c t i m (branch a b d) same h = refl

module _ (N : ℕ) (c : Context) (t : NameIx → ℕ) (same : (x : NameIx) → x.0 < N → t x ≡ c.types x) where
  pub step_cong : (i : Instr) → FitInstr N c.types i → (m : Mach) → step (retyped c t) i m ≡ step c i m
  unfolding step
  step_cong i h m =
      ap (act (retyped c t) i (tick m)) (fit_form N c.types t same i h) ∙
      act_cong N (shape_of i.code).dest c t i (tick m) (form c.types i) (same i.dest) h.original

  pub run_block_cong :
      (is : List Instr) → FitBody N c.types is → (p : ℕ) (m : Mach) → run_block (retyped c t) is p m ≡ run_block c is p m
  unfolding run_block
  run_block_cong [] h p m = refl
  run_block_cong (i ∷ is) h p m =
      let q = step_cong i h.0 m in
      let rest : run_block (retyped c t) is (suc p) ≡ run_block c is (suc p) = fun_ext (run_block_cong is h.1.1 (suc p)) in
      λ k. after (q k) p (rest k)

  through_cong :
      (bs : List (Block Instr)) (b : ℕ) (l : List ℕ) (m : Mach) (o : Option (Block Instr)) →
      ((x : Block Instr) → o ≡ some x → FitBody N c.types x.body) →
      through (retyped c t) bs b l m o ≡ through c bs b l m o
  unfolding through
  through_cong bs b l m none h = refl
  through_cong bs b l m (some x) h = ap (passes bs b l) (run_block_cong x.body (h x refl) 0 m)

  advance_cong :
      (bs : List (Block Instr)) → FitBlocks N c.types bs →
      (p : Place) (l : List ℕ) (m : Mach) → advance_from (retyped c t) bs p l m ≡ advance_from c bs p l m
  unfolding advance_from
  advance_cong bs h (before b) l m = through_cong bs b l m (nth bs b) (fit_nth N c.types bs h b)
  advance_cong bs h (stopped s b p) l m = refl

  pub run_with_cong :
      (bs : List (Block Instr)) → FitBlocks N c.types bs →
      (σ : Store) (answers : List Answer) (n : ℕ) → run_with (retyped c t) bs σ answers n ≡ run_with c bs σ answers n
  unfolding run_with advance
  run_with_cong bs h σ answers n =
      let q : advance (retyped c t) bs ≡ advance c bs = fun_ext (λ r. advance_cong bs h r.place r.passed r.mach) in
      ap (λ go. iterate n go (begin bs σ answers)) q
