-- Two paired blocks run alike, and the second takes as many steps more as it has saves: before its stop, or in all where it is passed.
-- Rests on the steps of each kind of pair.
use Prim.Native.Nat.{ℕ, suc, ◌+◌, ◌≤◌, ◌<◌}
use mathlib.Core.Path.{◌≡◌, refl, sym, ap, ◌∙◌, subst}
use mathlib.Core.Bool.{true, false, cond}
use mathlib.Core.Option.{Option, none, some}
use mathlib.Core.List.{List, [], ◌∷◌}
use native.Mathlib.Omega.{arith}
use lib.Dec.{leb}
use borrow.Author.Tests.{leb-true}
use Rattle.record.proofs.Tests.{and_right}
use lib.ListN.{take}
use Rattle.arith.specs.declared.One.TheVariants.{Id}
use Rattle.arith.specs.Value.{Val}
use Rattle.arith.specs.Operation.{with_one, apply1, one, eval}
use Rattle.record.specs.declared.NameIx.{NameIx}
use Rattle.record.specs.Record.{Instr}
use Rattle.record.specs.Shape.{shape_of}
use Rattle.record.specs.Form.{pure, form}
use Rattle.numbering.specs.declared.ValNum.{ValNum}
use Rattle.numbering.specs.Number.{reads, is_save, count_saves}
use Rattle.machine.specs.Machine.{Context, Stop, at_unset, Mach, Step, goes, tick, assign, finish, act, step, Out, falls, leaps, breaks, after, run_block}
use Rattle.pairing.specs.Joint.{Setting, Joint, set_both, set_second, fresh, Elem, Paired, done, see, made, pair_pure, pair_constant, pair_new, pair_effect, pair_nop, pair_jump, pair_branch, pair_return}
use Rattle.pairing.proofs.Valuation.{Valuation}
use Rattle.pairing.proofs.Relation.{Related, made_related, seen_valued}
use Rattle.pairing.proofs.Unset.{step_unset}
use Rattle.pairing.proofs.Steps.{Ahead, Alike, alike_by, Stepped, both_go, both_jump, both_end, first_unset, step_pure, step_constant, step_new, step_effect, step_return, step_nop, step_jump, step_branch}

-- ---- what two runs of blocks leave, if the second began e steps ahead; q: the place in its block of the first of ks
pub data Left (Γ : Setting) (e : ℕ) (ks : List Instr) (q : ℕ) : Out → Out → Type 0 where
  both_fall : {m₁ m₂ : Mach} → Alike Γ (e + count_saves Γ.names ks) m₁ m₂ → Left Γ e ks q (falls m₁) (falls m₂)
  both_leap :
      {m₁ m₂ : Mach} {b : ℕ} → Alike Γ (e + count_saves Γ.names ks) m₁ m₂ → Left Γ e ks q (leaps b m₁) (leaps b m₂)
  both_break :
      {m₁ m₂ : Mach} {s : Stop} {p r : ℕ} (d : ℕ) →
      r ≡ q + d →
      Alike Γ (e + count_saves Γ.names (take d ks)) m₁ m₂ →
      Left Γ e ks q (breaks s p m₁) (breaks s r m₂)
  breaks_unset : {m₁ : Mach} {p : ℕ} {o : Out} → Left Γ e ks q (breaks at_unset p m₁) o

-- with an instruction of the candidate put in front
left_behind :
    (Γ : Setting) (e : ℕ) (k : Instr) (ks : List Instr) (q : ℕ) (o₁ o₂ : Out) →
    Left Γ (e + cond (is_save Γ.names k) 1 0) ks (suc q) o₁ o₂ →
    Left Γ e (k ∷ ks) q o₁ o₂
unfolding count_saves
left_behind Γ e k ks q o₁ o₂ (both_fall a) = both_fall (alike_by (omega arith) a)
left_behind Γ e k ks q o₁ o₂ (both_leap a) = both_leap (alike_by (omega arith) a)
left_behind Γ e k ks q o₁ o₂ (both_break {r = r} d p a) =
    both_break {r = r} (suc d) (omega (arith, p)) (alike_by (omega arith) a)
left_behind Γ e k ks q o₁ o₂ breaks_unset = breaks_unset

-- ---- the statement about what is left of two blocks
abbrev pub Holds : Setting → Joint → List Instr → List Instr → Type 0
Holds Γ j is ks =
    (ρ : Valuation) (m₁ m₂ : Mach) (e p q : ℕ) →
    Related Γ j ρ m₁.store m₂.store →
    Ahead e m₁ m₂ →
    Left Γ e ks q (run_block Γ.ctx is p m₁) (run_block Γ.ctx ks q m₂)

-- a pair in front, by its two steps
steps_left :
    (Γ : Setting) (j : Joint) (e : ℕ) (k : Instr) (is ks : List Instr) (p q : ℕ) (s₁ s₂ : Step) →
    is_save Γ.names k ≡ false →
    Stepped Γ j e ks s₁ s₂ →
    Holds Γ j is ks →
    Left Γ e (k ∷ ks) q (after s₁ p (run_block Γ.ctx is (suc p))) (after s₂ q (run_block Γ.ctx ks (suc q)))
unfolding count_saves
steps_left Γ j e k is ks p q s₁ s₂ n (both_go {m₁ = m₁} {m₂ = m₂} ρ R a) h =
    left_behind Γ e k ks q (run_block Γ.ctx is (suc p) m₁) (run_block Γ.ctx ks (suc q) m₂)
    (subst (λ (x : ℕ). Left Γ x ks (suc q) (run_block Γ.ctx is (suc p) m₁) (run_block Γ.ctx ks (suc q) m₂))
    (rw n (omega arith)) (h ρ m₁ m₂ e (suc p) (suc q) R a))
steps_left Γ j e k is ks p q s₁ s₂ n (both_jump z a) h = both_leap (alike_by (rw (z, n) (omega arith)) a)
steps_left Γ j e k is ks p q s₁ s₂ n (both_end a) h = both_break {r = q} 0 (omega arith) (alike_by (omega arith) a)
steps_left Γ j e k is ks p q s₁ s₂ n first_unset h = breaks_unset

pair_left :
    (Γ : Setting) (j j' : Joint) (i k : Instr) (is ks : List Instr) →
    is_save Γ.names k ≡ false →
    ((ρ : Valuation) (e : ℕ) (m₁ m₂ : Mach) →
    Related Γ j ρ m₁.store m₂.store →
    Ahead e m₁ m₂ →
    Stepped Γ j' e ks (step Γ.ctx i m₁) (step Γ.ctx k m₂)) →
    Holds Γ j' is ks →
    Holds Γ j (i ∷ is) (k ∷ ks)
unfolding run_block
pair_left Γ j j' i k is ks n h ih ρ m₁ m₂ e p q R a =
    steps_left Γ j' e k is ks p q (step Γ.ctx i m₁) (step Γ.ctx k m₂) n (h ρ e m₁ m₂ R a) ih

-- ---- a copy to a made name
save_made : (N : ℕ) (k : Instr) → is_save N k ≡ true → N ≤ k.dest.0
unfolding is_save
save_made N k p = leb-true N k.dest.0 (and_right (shape_of k.code).dest (leb N k.dest.0) p)

made_step :
    (ctx : Context) (k : Instr) (m : Mach) (x : NameIx) (v : Val) →
    form ctx.types k ≡ pure (one Id x) →
    m.store x ≡ some v →
    step ctx k m ≡ goes (assign (tick m) k.dest v)
unfolding step act tick eval with_one apply1 finish
made_step ctx k m x v p q =
    ap (act ctx k (tick m)) p ∙ ap (λ (o : Option Val). finish k (tick m) (with_one o (apply1 Id))) q

made_ahead :
    (e : ℕ) (m₁ m₂ : Mach) (d : NameIx) (v : Val) → Ahead e m₁ m₂ → Ahead (e + 1) m₁ (assign (tick m₂) d v)
unfolding assign tick
made_ahead e m₁ m₂ d v a = record { answers = a.answers; events = a.events; steps = omega (arith, a.steps) }

made_left :
    (Γ : Setting) (j : Joint) (k : Instr) (is ks : List Instr) (x : NameIx) (v : ValNum) →
    form Γ.ctx.types k ≡ pure (one Id x) →
    is_save Γ.names k ≡ true →
    Γ.ctx.types k.dest ≡ Γ.ctx.types x →
    j.env₂ x ≡ some v →
    Holds Γ (set_second j k.dest v) is ks →
    Holds Γ j is (k ∷ ks)
unfolding run_block assign tick
made_left Γ j k is ks x v f n t h ih ρ m₁ m₂ e p q R a =
    let c = R.second x v h in
    let m : Mach = assign (tick m₂) k.dest c.value in
    let l = save_made Γ.names k n in
    let M = made_related Γ j ρ m₁.store m₂.store R k.dest v c.value l c.valued (rw t c.typed) in
    left_behind Γ e k ks q (run_block Γ.ctx is p m₁) (run_block Γ.ctx (k ∷ ks) q m₂)
    (rw n
    (subst (λ (s : Step). Left Γ (e + 1) ks (suc q) (run_block Γ.ctx is p m₁) (after s q (run_block Γ.ctx ks (suc q))))
    (sym (made_step Γ.ctx k m₂ x c.value f c.stored))
    (ih ρ m₁ m (e + 1) p (suc q) M (made_ahead e m₁ m₂ k.dest c.value a))))

-- ---- a name that the next instruction of the first reads: it holds a value, or that instruction stops as unset
see_left :
    (Γ : Setting) (j : Joint) (i : Instr) (is ks : List Instr) (x : NameIx) →
    Elem x (reads (form Γ.ctx.types i)) →
    x.0 < Γ.names →
    Holds Γ (fresh j x) (i ∷ is) ks →
    Holds Γ j (i ∷ is) ks
unfolding run_block
see_left Γ j i is ks x h l ih ρ m₁ m₂ e p q R a = go (m₁.store x) refl
  where
    go : (o : Option Val) → m₁.store x ≡ o → Left Γ e ks q (run_block Γ.ctx (i ∷ is) p m₁) (run_block Γ.ctx ks q m₂)
    go none z =
        subst (λ (s : Step). Left Γ e ks q (after s p (run_block Γ.ctx is (suc p))) (run_block Γ.ctx ks q m₂))
        (sym (step_unset Γ.ctx i m₁ x h z)) breaks_unset
    go (some v) z =
        let u = seen_valued Γ j ρ m₁.store m₂.store R x v l z in
        ih u.ρ' m₁ m₂ e p q u.related a

-- ---- the block
-- its end
end_left : (Γ : Setting) (j : Joint) → Holds Γ j [] []
unfolding run_block count_saves
end_left Γ j ρ m₁ m₂ e p q R a = both_fall (alike_by (omega arith) (record { stores = R.base; ahead = a }))

pub block_left : {Γ : Setting} {j : Joint} {is ks : List Instr} → Paired Γ j is ks → Holds Γ j is ks
block_left {Γ} {j} done = end_left Γ j
block_left {Γ} {j} (see {i = i} {is = is} {ks = ks} x h l r) = see_left Γ j i is ks x h l (block_left r)
block_left {Γ} {j} {is} (made {k = k} {ks = ks} x v f n t h r) = made_left Γ j k is ks x v f n t h (block_left r)
block_left {Γ} {j} (pair_pure {j' = j'} {i = i} {k = k} {is = is} {ks = ks} e₁ e₂ v₁ v₂ w v f g s n l t p₁ st nb p₂ hs r) =
    pair_left Γ j (set_both j' i.dest v) i k is ks n
    (λ ρ e m₁ m₂ R a. step_pure Γ j ρ e i k m₁ m₂ R a j' ks e₁ e₂ v₁ v₂ w v f g s t p₁ st nb p₂ hs) (block_left r)
block_left {Γ} {j} (pair_constant {i = i} {k = k} {is = is} {ks = ks} v f g s n l t r) =
    pair_left Γ j (fresh j i.dest) i k is ks n (λ ρ e m₁ m₂ R a. step_constant Γ j ρ e i k m₁ m₂ R a ks v f g s t)
    (block_left r)
block_left {Γ} {j} (pair_new {i = i} {k = k} {is = is} {ks = ks} xs ys ns f g s n l t p₁ p₂ r) =
    pair_left Γ j (fresh j i.dest) i k is ks n
    (λ ρ e m₁ m₂ R a. step_new Γ j ρ e i k m₁ m₂ R a ks xs ys ns f g s t p₁ p₂) (block_left r)
block_left {Γ} {j} (pair_effect {i = i} {k = k} {is = is} {ks = ks} xs ys ns f g s n p₁ p₂ r) =
    pair_left Γ j j i k is ks n (λ ρ e m₁ m₂ R a. step_effect Γ j ρ e i k m₁ m₂ R a ks xs ys ns f g s p₁ p₂)
    (block_left r)
block_left {Γ} {j} (pair_nop {i = i} {k = k} {is = is} {ks = ks} f g n r) =
    pair_left Γ j j i k is ks n (λ ρ e m₁ m₂ R a. step_nop Γ j ρ e i k m₁ m₂ R a ks f g) (block_left r)
block_left {Γ} {j} (pair_jump {i = i} {k = k} b f g n) =
    pair_left Γ j j i k [] [] n (λ ρ e m₁ m₂ R a. step_jump Γ j ρ e i k m₁ m₂ R a b f g) (end_left Γ j)
block_left {Γ} {j} (pair_branch {i = i} {k = k} x y v b c f g n p₁ p₂) =
    pair_left Γ j j i k [] [] n (λ ρ e m₁ m₂ R a. step_branch Γ j ρ e i k m₁ m₂ R a x y v b c f g p₁ p₂) (end_left Γ j)
block_left {Γ} {j} (pair_return {i = i} {k = k} xs ys ns f g s n p₁ p₂) =
    pair_left Γ j j i k [] [] n (λ ρ e m₁ m₂ R a. step_return Γ j ρ e i k m₁ m₂ R a [] xs ys ns f g s p₁ p₂) (end_left Γ j)
