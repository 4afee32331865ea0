-- An instruction that reads a name which holds nothing stops as unset.
use mathlib.Core.Path.{◌≡◌, refl, ap, ◌∙◌}
use mathlib.Core.Option.{Option, none, some}
use mathlib.Core.List.{List}
use Rattle.arith.specs.Value.{Val}
use Rattle.arith.specs.Operation.{unset, with_one, with_both, apply2, Expr, constant, one, two, eval}
use Rattle.record.specs.declared.NameIx.{NameIx}
use Rattle.record.specs.Record.{Instr}
use Rattle.record.specs.Form.{Form, pure, new, effect, return, nop, jump, branch, form}
use Rattle.numbering.specs.Number.{operands, reads}
use Rattle.machine.specs.Machine.{Store, Context, at_unset, Mach, ends, tick, read_cons, read_all, finish, ask, tell, leave, choose, bool_in, act, step}
use Rattle.pairing.specs.Joint.{Elem, first, later}
use Rattle.pairing.proofs.Valuation.{elem_one, elem_two}

read_unset : (σ : Store) (x : NameIx) (xs : List NameIx) → Elem x xs → σ x ≡ none → read_all σ xs ≡ none
unfolding read_all
read_unset σ x xs first p = rw p
read_unset σ x xs (later {y = y} {xs = ys} h) p = rw (read_unset σ x ys h p) (go (σ y))
  where
    go : (o : Option Val) → read_cons o none ≡ none
    go none = refl
    go (some v) = refl

eval_unset : (σ : Store) (x : NameIx) (e : Expr NameIx) → Elem x (operands e) → σ x ≡ none → eval σ e ≡ unset
unfolding eval with_one with_both
eval_unset σ x (constant v) h p = elim h [ ]
eval_unset σ x (one o a) h p = elem_one h (λ q. rw (q, p))
eval_unset σ x (two o a b) h p = elem_two h (λ q. rw (q, p)) (λ q. rw (q, p) (go (σ a)))
  where
    go : (y : Option Val) → with_both y none (apply2 o) ≡ unset
    go none = refl
    go (some v) = refl

act_unset :
    (ctx : Context) (i : Instr) (m : Mach) (f : Form) (x : NameIx) →
    Elem x (reads f) →
    m.store x ≡ none →
    act ctx i m f ≡ ends at_unset m
unfolding act reads finish ask tell leave choose
act_unset ctx i m (pure e) x h p = ap (finish i m) (eval_unset m.store x e h p)
act_unset ctx i m (new xs) x h p = ap (ask ctx i m) (read_unset m.store x xs h p)
act_unset ctx i m (effect xs) x h p = ap (tell i m) (read_unset m.store x xs h p)
act_unset ctx i m (return xs) x h p = ap (leave i m) (read_unset m.store x xs h p)
act_unset ctx i m nop x h p = elim h [ ]
act_unset ctx i m (jump b) x h p = elim h [ ]
act_unset ctx i m (branch a b c) x h p =
    elem_one h (λ q. ap (λ (o : Option Val). choose b c m (bool_in o)) (ap m.store q ∙ p))

pub step_unset :
    (ctx : Context) (i : Instr) (m : Mach) (x : NameIx) →
    Elem x (reads (form ctx.types i)) →
    m.store x ≡ none →
    step ctx i m ≡ ends at_unset (tick m)
unfolding step tick
step_unset ctx i m x h p = act_unset ctx i (tick m) (form ctx.types i) x h p
