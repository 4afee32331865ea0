-- One step of each run, over each kind of pair: the relation of the stores is kept, or the runs leave the block or stop alike.
use Prim.Native.Nat.{ℕ, ◌+◌}
use mathlib.Core.Path.{◌≡◌, refl, sym, ap, ap₂, ◌∙◌, subst}
use mathlib.Core.Bool.{Bool, true, false}
use mathlib.Core.Option.{Option, none, some}
use mathlib.Core.List.{List, [], ◌∷◌, ◌++◌}
use native.Mathlib.Omega.{arith}
use lib.Dec.{T}
use Rattle.arith.specs.Value.{Val, has_type, HasType}
use Rattle.arith.specs.Operation.{Result, ok, Expr, constant, eval}
use Rattle.record.specs.declared.NameIx.{NameIx}
use Rattle.record.specs.Record.{Instr}
use Rattle.record.specs.Form.{Form, pure, new, effect, return, nop, jump, branch, form}
use Rattle.numbering.specs.declared.ValNum.{ValNum}
use Rattle.numbering.specs.State.{vn}
use Rattle.machine.specs.Machine.{Answer, value, go_on, halt, Event, Stop, at_ret, at_halt, at_unset, Mach, Step, goes, jumps, ends, tick, assign, happens, read_all, event_of, finish, take_value, answered, perform, ask, acknowledged, tell, leave, choose, bool_in, act, step}
use Rattle.pairing.specs.Joint.{Setting, Joint, push, set_both, fresh, Has, Numbers, number, number_all, Stands, Typed, SameDest, SameCode, Performed}
use Rattle.pairing.proofs.Valuation.{Valuation, number_read}
use Rattle.pairing.proofs.Relation.{StartsIn, Related, typed_ranged, Valued, new_valued, store_related}
use Rattle.pairing.proofs.Pairs.{Results, one_value, one_stop, no_value, pair_results}

-- ---- two machines
-- the second has done e steps more than the first, with the same events and answers left
pub record Ahead (e : ℕ) (m₁ m₂ : Mach) : Type 0 where
  pub answers : m₂.answers ≡ m₁.answers
  pub events : m₂.events ≡ m₁.events
  pub steps : m₂.steps ≡ m₁.steps + e

pub record Alike (Γ : Setting) (e : ℕ) (m₁ m₂ : Mach) : Type 0 where
  pub stores : StartsIn Γ m₁.store m₂.store
  pub ahead : Ahead e m₁ m₂

pub alike_by : {Γ : Setting} {e e' : ℕ} {m₁ m₂ : Mach} → e ≡ e' → Alike Γ e m₁ m₂ → Alike Γ e' m₁ m₂
alike_by {Γ} {m₁ = m₁} {m₂ = m₂} p a = subst (λ (n : ℕ). Alike Γ n m₁ m₂) p a

tick_ahead : {e : ℕ} {m₁ m₂ : Mach} → Ahead e m₁ m₂ → Ahead e (tick m₁) (tick m₂)
unfolding tick
tick_ahead a = record { answers = a.answers; events = a.events; steps = omega (arith, a.steps) }

assign_ahead : {e : ℕ} {m₁ m₂ : Mach} (d : NameIx) (v : Val) → Ahead e m₁ m₂ → Ahead e (assign m₁ d v) (assign m₂ d v)
unfolding assign
assign_ahead d v a = record { answers = a.answers; events = a.events; steps = a.steps }

happens_ahead :
    {e : ℕ} {m₁ m₂ : Mach} (ev : Event) (xs : List Answer) → Ahead e m₁ m₂ → Ahead e (happens m₁ ev xs) (happens m₂ ev xs)
unfolding happens
happens_ahead ev xs a =
    record { answers = refl; events = ap (λ (es : List Event). es ++ (ev ∷ [])) a.events; steps = a.steps }

-- ---- what two steps leave, where the joint numbering goes on as j; ks: what the candidate has behind its instruction
pub data Stepped (Γ : Setting) (j : Joint) (e : ℕ) (ks : List Instr) : Step → Step → Type 0 where
  both_go :
      {m₁ m₂ : Mach} (ρ : Valuation) →
      Related Γ j ρ m₁.store m₂.store →
      Ahead e m₁ m₂ →
      Stepped Γ j e ks (goes m₁) (goes m₂)
  both_jump : {m₁ m₂ : Mach} {b : ℕ} → ks ≡ [] → Alike Γ e m₁ m₂ → Stepped Γ j e ks (jumps b m₁) (jumps b m₂)
  both_end : {m₁ m₂ : Mach} {s : Stop} → Alike Γ e m₁ m₂ → Stepped Γ j e ks (ends s m₁) (ends s m₂)
  first_unset : {m₁ : Mach} {s : Step} → Stepped Γ j e ks (ends at_unset m₁) s

-- another form of the second step
stepped_by :
    {Γ : Setting} {j : Joint} {e : ℕ} {ks : List Instr} {s₁ s₂ s₃ : Step} →
    s₃ ≡ s₂ →
    Stepped Γ j e ks s₁ s₂ →
    Stepped Γ j e ks s₁ s₃
stepped_by {Γ} {j} {e} {ks} {s₁} p h = subst (Stepped Γ j e ks s₁) (sym p) h

-- both write a value
valued_stepped :
    (Γ : Setting) (j : Joint) (ρ : Valuation) (e : ℕ) (ks : List Instr) (m₁ m₂ : Mach) (d₁ d₂ : NameIx) (n : ValNum) (v : Val) →
    d₂ ≡ d₁ →
    HasType (Γ.ctx.types d₁) v →
    Valued Γ j ρ m₁.store m₂.store n v →
    Ahead e m₁ m₂ →
    Stepped Γ (set_both j d₁ n) e ks (goes (assign m₁ d₁ v)) (goes (assign m₂ d₂ v))
unfolding assign
valued_stepped Γ j ρ e ks m₁ m₂ d₁ d₂ n v q h u a =
    rw q (both_go u.ρ' (store_related Γ j u.ρ' m₁.store m₂.store u.related d₁ n v u.valued h) (assign_ahead d₁ v a))

finish_stepped :
    (Γ : Setting) (j : Joint) (ρ : Valuation) (e : ℕ) (i k : Instr) (ks : List Instr) (m₁ m₂ : Mach) (n : ValNum) (r₁ r₂ : Result) →
    SameDest i k →
    StartsIn Γ m₁.store m₂.store →
    Ahead e m₁ m₂ →
    Results Γ j ρ m₁.store m₂.store (Γ.ctx.types i.dest) n r₁ r₂ →
    Stepped Γ (set_both j i.dest n) e ks (finish i m₁ r₁) (finish k m₂ r₂)
unfolding finish
finish_stepped Γ j ρ e i k ks m₁ m₂ n r₁ r₂ s b a (one_value {v = v} h u) =
    valued_stepped Γ j ρ e ks m₁ m₂ i.dest k.dest n v s.dest h u a
finish_stepped Γ j ρ e i k ks m₁ m₂ n r₁ r₂ s b a one_stop = rw s.id (both_end (record { stores = b; ahead = a }))
finish_stepped Γ j ρ e i k ks m₁ m₂ n r₁ r₂ s b a no_value = first_unset

-- ---- values that are new each time
module _
    (Γ : Setting) (j : Joint) (ρ : Valuation) (e : ℕ) (i k : Instr) (ks : List Instr) (m₁ m₂ : Mach) (s : SameCode i k)
    (R : Related Γ j ρ m₁.store m₂.store) (a : Ahead e m₁ m₂)
  where
    new_stepped :
        (v : Val) →
        HasType (Γ.ctx.types i.dest) v →
        Stepped Γ (fresh j i.dest) e ks (goes (assign m₁ i.dest v)) (goes (assign m₂ k.dest v))
    new_stepped v h =
        valued_stepped Γ (push j none) ρ e ks m₁ m₂ i.dest k.dest (vn j.next) v s.dest h
        (new_valued Γ j ρ m₁.store m₂.store R v (typed_ranged (Γ.ctx.types i.dest) v h)) a

    take_value_stepped :
        (b : Bool) (v : Val) →
        (T b → HasType (Γ.ctx.types i.dest) v) →
        Stepped Γ (fresh j i.dest) e ks (take_value b i m₁ v) (take_value b k m₂ v)
    unfolding take_value
    take_value_stepped true v h = new_stepped v (h tt)
    take_value_stepped false v h = both_end (record { stores = R.base; ahead = a })

module _
    (Γ : Setting) (j : Joint) (ρ : Valuation) (e : ℕ) (i k : Instr) (ks : List Instr) (m₁ m₂ : Mach) (s : SameCode i k)
    (R : Related Γ j ρ m₁.store m₂.store) (a : Ahead e m₁ m₂)
  where
    -- both halt, behind an event
    halts_stepped :
        (ev : Event) (xs : List Answer) (d : Joint) → Stepped Γ d e ks (ends at_halt (happens m₁ ev xs)) (ends at_halt (happens m₂ ev xs))
    unfolding happens
    halts_stepped ev xs d = both_end (record { stores = R.base; ahead = happens_ahead ev xs a })

    answered_stepped :
        (ev : Event) (xs : List Answer) →
        Stepped Γ (fresh j i.dest) e ks (answered (Γ.ctx.types i.dest) i m₁ ev xs)
        (answered (Γ.ctx.types i.dest) k m₂ ev xs)
    unfolding answered happens
    answered_stepped ev [] = halts_stepped ev [] (fresh j i.dest)
    answered_stepped ev (value v ∷ xs) =
        take_value_stepped Γ j ρ e i k ks (happens m₁ ev xs) (happens m₂ ev xs) s R (happens_ahead ev xs a)
        (has_type (Γ.ctx.types i.dest) v) v (λ h. h)
    answered_stepped ev (go_on ∷ xs) = halts_stepped ev xs (fresh j i.dest)
    answered_stepped ev (halt ∷ xs) = halts_stepped ev xs (fresh j i.dest)

    same_event : (vs : List Val) → event_of k vs ≡ event_of i vs
    same_event vs = rw (s.id, s.code, s.callee)

    perform_stepped :
        (vs : List Val) (o : Option Val) →
        ((v : Val) → o ≡ some v → HasType (Γ.ctx.types i.dest) v) →
        Stepped Γ (fresh j i.dest) e ks (perform (Γ.ctx.types i.dest) i m₁ vs o)
        (perform (Γ.ctx.types i.dest) k m₂ vs o)
    unfolding perform
    perform_stepped vs (some v) h = new_stepped Γ j ρ e i k ks m₁ m₂ s R a v (h v refl)
    perform_stepped vs none h =
        stepped_by (ap₂ (answered (Γ.ctx.types i.dest) k m₂) (same_event vs) a.answers)
        (answered_stepped (event_of i vs) m₁.answers)

    ask_stepped :
        Performed Γ.ctx i →
        (o : Option (List Val)) →
        Stepped Γ (fresh j i.dest) e ks (ask Γ.ctx i m₁ o) (ask Γ.ctx k m₂ o)
    unfolding ask
    ask_stepped h none = first_unset
    ask_stepped h (some vs) =
        stepped_by
        (ap₂ (λ t o. perform t k m₂ vs o) (ap Γ.ctx.types s.dest) (ap (λ c. Γ.ctx.performs c vs) s.code))
        (perform_stepped vs (Γ.ctx.performs i.code vs) (h vs))

    -- ---- effects
    acknowledged_stepped :
        (ev : Event) (xs : List Answer) → Stepped Γ j e ks (acknowledged m₁ ev xs) (acknowledged m₂ ev xs)
    unfolding acknowledged happens
    acknowledged_stepped ev [] = halts_stepped ev [] j
    acknowledged_stepped ev (value v ∷ xs) = halts_stepped ev xs j
    acknowledged_stepped ev (go_on ∷ xs) = both_go ρ R (happens_ahead ev xs a)
    acknowledged_stepped ev (halt ∷ xs) = halts_stepped ev xs j

    tell_stepped : (o : Option (List Val)) → Stepped Γ j e ks (tell i m₁ o) (tell k m₂ o)
    unfolding tell
    tell_stepped none = first_unset
    tell_stepped (some vs) =
        stepped_by (ap₂ (acknowledged m₂) (same_event vs) a.answers) (acknowledged_stepped (event_of i vs) m₁.answers)

    leave_stepped : (o : Option (List Val)) → Stepped Γ j e ks (leave i m₁ o) (leave k m₂ o)
    unfolding leave happens
    leave_stepped none = first_unset
    leave_stepped (some vs) =
        stepped_by (ap₂ (λ ev xs. ends at_ret (happens m₂ ev xs)) (same_event vs) a.answers)
        (both_end (record { stores = R.base; ahead = happens_ahead (event_of i vs) m₁.answers a }))

-- ---- a branch
choose_stepped :
    (Γ : Setting) (j : Joint) (e b c : ℕ) (m₁ m₂ : Mach) →
    Alike Γ e m₁ m₂ →
    (o : Option Bool) →
    Stepped Γ j e [] (choose b c m₁ o) (choose b c m₂ o)
unfolding choose
choose_stepped Γ j e b c m₁ m₂ a none = first_unset
choose_stepped Γ j e b c m₁ m₂ a (some true) = both_jump refl a
choose_stepped Γ j e b c m₁ m₂ a (some false) = both_jump refl a

-- ---- each kind of pair
module _
    (Γ : Setting) (j : Joint) (ρ : Valuation) (e : ℕ) (i k : Instr) (m₁ m₂ : Mach) (R : Related Γ j ρ m₁.store m₂.store)
    (a : Ahead e m₁ m₂)
  where
    step_forms :
        (ks : List Instr) (j' : Joint) (f g : Form) →
        form Γ.ctx.types i ≡ f →
        form Γ.ctx.types k ≡ g →
        Stepped Γ j' e ks (act Γ.ctx i (tick m₁) f) (act Γ.ctx k (tick m₂) g) →
        Stepped Γ j' e ks (step Γ.ctx i m₁) (step Γ.ctx k m₂)
    unfolding step
    step_forms ks j' f g p q h = rw (p, q) h

    -- names with the same numbers hold the same values
    same_reads :
        (xs ys : List NameIx) (ns : List ValNum) →
        number_all j.env₁ xs ≡ some ns →
        number_all j.env₂ ys ≡ some ns →
        read_all m₂.store ys ≡ read_all m₁.store xs
    same_reads xs ys ns p q =
        number_read Γ.ctx.types j.env₂ m₂.store ρ R.second ys ns q ∙
        sym (number_read Γ.ctx.types j.env₁ m₁.store ρ R.first xs ns p)

    same_read : (x y : NameIx) (n : ValNum) → j.env₁ x ≡ some n → j.env₂ y ≡ some n → m₂.store y ≡ m₁.store x
    same_read x y n p q =
        let c = R.first x n p in
        let d = R.second y n q in
        d.stored ∙ sym d.valued ∙ c.valued ∙ sym c.stored

    pub step_pure :
        (j' : Joint) (ks : List Instr) (e₁ e₂ : Expr NameIx) (v₁ v₂ w : Expr ValNum) (n : ValNum) →
        form Γ.ctx.types i ≡ pure e₁ →
        form Γ.ctx.types k ≡ pure e₂ →
        SameDest i k →
        Typed Γ.ctx.types e₁ (Γ.ctx.types i.dest) →
        number j.env₁ e₁ ≡ some v₁ →
        Stands j.vals v₁ w →
        Numbers j w n j' →
        number j.env₂ e₂ ≡ some v₂ →
        Has j'.vals v₂ n →
        Stepped Γ (set_both j' i.dest n) e ks (step Γ.ctx i m₁) (step Γ.ctx k m₂)
    unfolding act tick
    step_pure j' ks e₁ e₂ v₁ v₂ w n p q s ty p₁ st nb p₂ hs =
        step_forms ks (set_both j' i.dest n) (pure e₁) (pure e₂) p q
        (finish_stepped Γ j' ρ e i k ks (tick m₁) (tick m₂) n (eval m₁.store e₁) (eval m₂.store e₂) s R.base (tick_ahead a)
        (pair_results Γ j j' ρ m₁.store m₂.store (Γ.ctx.types i.dest) e₁ e₂ v₁ v₂ w n ty p₁ st nb p₂ hs R))

    pub step_constant :
        (ks : List Instr) (v : Val) →
        form Γ.ctx.types i ≡ pure (constant v) →
        form Γ.ctx.types k ≡ pure (constant v) →
        SameDest i k →
        HasType (Γ.ctx.types i.dest) v →
        Stepped Γ (fresh j i.dest) e ks (step Γ.ctx i m₁) (step Γ.ctx k m₂)
    unfolding act tick eval
    step_constant ks v p q s h =
        step_forms ks (fresh j i.dest) (pure (constant v)) (pure (constant v)) p q
        (finish_stepped Γ (push j none) ρ e i k ks (tick m₁) (tick m₂) (vn j.next) (ok v) (ok v) s R.base (tick_ahead a)
        (one_value h (new_valued Γ j ρ m₁.store m₂.store R v (typed_ranged (Γ.ctx.types i.dest) v h))))

    pub step_new :
        (ks : List Instr) (xs ys : List NameIx) (ns : List ValNum) →
        form Γ.ctx.types i ≡ new xs →
        form Γ.ctx.types k ≡ new ys →
        SameCode i k →
        Performed Γ.ctx i →
        number_all j.env₁ xs ≡ some ns →
        number_all j.env₂ ys ≡ some ns →
        Stepped Γ (fresh j i.dest) e ks (step Γ.ctx i m₁) (step Γ.ctx k m₂)
    unfolding act tick
    step_new ks xs ys ns p q s h p₁ p₂ =
        step_forms ks (fresh j i.dest) (new xs) (new ys) p q
        (stepped_by (ap (ask Γ.ctx k (tick m₂)) (same_reads xs ys ns p₁ p₂))
        (ask_stepped Γ j ρ e i k ks (tick m₁) (tick m₂) s R (tick_ahead a) h (read_all m₁.store xs)))

    pub step_effect :
        (ks : List Instr) (xs ys : List NameIx) (ns : List ValNum) →
        form Γ.ctx.types i ≡ effect xs →
        form Γ.ctx.types k ≡ effect ys →
        SameCode i k →
        number_all j.env₁ xs ≡ some ns →
        number_all j.env₂ ys ≡ some ns →
        Stepped Γ j e ks (step Γ.ctx i m₁) (step Γ.ctx k m₂)
    unfolding act tick
    step_effect ks xs ys ns p q s p₁ p₂ =
        step_forms ks j (effect xs) (effect ys) p q
        (stepped_by (ap (tell k (tick m₂)) (same_reads xs ys ns p₁ p₂))
        (tell_stepped Γ j ρ e i k ks (tick m₁) (tick m₂) s R (tick_ahead a) (read_all m₁.store xs)))

    pub step_return :
        (ks : List Instr) (xs ys : List NameIx) (ns : List ValNum) →
        form Γ.ctx.types i ≡ return xs →
        form Γ.ctx.types k ≡ return ys →
        SameCode i k →
        number_all j.env₁ xs ≡ some ns →
        number_all j.env₂ ys ≡ some ns →
        Stepped Γ j e ks (step Γ.ctx i m₁) (step Γ.ctx k m₂)
    unfolding act tick
    step_return ks xs ys ns p q s p₁ p₂ =
        step_forms ks j (return xs) (return ys) p q
        (stepped_by (ap (leave k (tick m₂)) (same_reads xs ys ns p₁ p₂))
        (leave_stepped Γ j ρ e i k ks (tick m₁) (tick m₂) s R (tick_ahead a) (read_all m₁.store xs)))

    pub step_nop :
        (ks : List Instr) →
        form Γ.ctx.types i ≡ nop →
        form Γ.ctx.types k ≡ nop →
        Stepped Γ j e ks (step Γ.ctx i m₁) (step Γ.ctx k m₂)
    unfolding act tick
    step_nop ks p q = step_forms ks j nop nop p q (both_go ρ R (tick_ahead a))

    pub step_jump :
        (b : ℕ) →
        form Γ.ctx.types i ≡ jump b →
        form Γ.ctx.types k ≡ jump b →
        Stepped Γ j e [] (step Γ.ctx i m₁) (step Γ.ctx k m₂)
    unfolding act tick
    step_jump b p q =
        step_forms [] j (jump b) (jump b) p q (both_jump refl (record { stores = R.base; ahead = tick_ahead a }))

    pub step_branch :
        (x y : NameIx) (n : ValNum) (b c : ℕ) →
        form Γ.ctx.types i ≡ branch x b c →
        form Γ.ctx.types k ≡ branch y b c →
        j.env₁ x ≡ some n →
        j.env₂ y ≡ some n →
        Stepped Γ j e [] (step Γ.ctx i m₁) (step Γ.ctx k m₂)
    unfolding act tick
    step_branch x y n b c p q p₁ p₂ =
        step_forms [] j (branch x b c) (branch y b c) p q
        (stepped_by (ap (λ (o : Option Val). choose b c (tick m₂) (bool_in o)) (same_read x y n p₁ p₂))
        (choose_stepped Γ j e b c (tick m₁) (tick m₂) (record { stores = R.base; ahead = tick_ahead a }) (bool_in (m₁.store x))))
