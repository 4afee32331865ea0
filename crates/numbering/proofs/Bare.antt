-- What is written of a value, and the state behind it, rest on the instruction's id and dest alone; names that have numbers get no others.
use Prim.Native.Nat.{ℕ}
use mathlib.Core.Path.{◌≡◌, refl, sym, ap, ◌∙◌}
use mathlib.Core.List.{[], ◌∷◌}
use mathlib.Core.Option.{Option, none, some}
use Rattle.arith.specs.declared.One.TheVariants.{Not, Id}
use Rattle.arith.specs.Map.{pick}
use Rattle.arith.specs.Value.{Val}
use Rattle.arith.specs.Operation.{Expr, constant, one, two}
use Rattle.record.specs.declared.NameIx.{NameIx}
use Rattle.record.specs.Record.{NameIx-discrete, no_lit, Instr}
use Rattle.record.specs.Form.{pure}
use Rattle.numbering.specs.declared.ValNum.{ValNum}
use Rattle.numbering.specs.State.{State, update_env, see, gen_new_vals, known}
use Rattle.numbering.specs.Number.{make_val, make_id_instr, val_to_instr, Saved, no_save, save, save_at, handle_overwrite, get_val_num, number_dest, place, by_form}

-- an instruction's id and dest
abbrev bare : Instr → Instr
bare i = record { id = i.id; code = 0; dest = i.dest; lit = no_lit; args = []; callee = 0; blocks = [] }

save_at_bare : (N : ℕ) (s : State) (i : Instr) (o : Option ValNum) → save_at N s i o ≡ save_at N s (bare i) o
unfolding save_at save
save_at_bare N s i none = refl
save_at_bare N s i (some v) = refl

overwrite_bare :
    (N : ℕ) (s : State) (i : Instr) (e : Expr ValNum) → handle_overwrite N s i (some e) ≡ handle_overwrite N s (bare i) (some e)
unfolding handle_overwrite
overwrite_bare N s i (constant v) = save_at_bare N s i (s.env i.dest)
overwrite_bare N s i (one Not a) = save_at_bare N s i (s.env i.dest)
overwrite_bare N s i (one Id a) =
    ap (λ q. pick (NameIx-discrete (s.locs a) i.dest) (no_save s) q) (save_at_bare N s i (s.env i.dest))
overwrite_bare N s i (two o a b) = save_at_bare N s i (s.env i.dest)

written_bare : (s : State) (i : Instr) (e : Expr ValNum) → val_to_instr s i e ≡ val_to_instr s (bare i) e
unfolding val_to_instr
written_bare s i (constant v) = refl
written_bare s i (one o a) = refl
written_bare s i (two o a b) = refl

id_bare : (c : Option Val) (s : State) (i : Instr) (v : ValNum) → make_id_instr c s i v ≡ make_id_instr c s (bare i) v
id_bare none s i v = refl
id_bare (some c) s i v = refl

number_bare :
    (q : Saved) (i : Instr) (e : Expr ValNum) (w : Instr) (o : Option ValNum) → number_dest q i e w o ≡ number_dest q (bare i) e w o
unfolding number_dest
number_bare q i e w none = refl
number_bare q i e w (some v) =
    ap (λ k. record { state = update_env q.state i.dest v; saves = q.saves; instr = k }) (id_bare (known q.state v) q.state i v)

place_bare : (N : ℕ) (s : State) (i : Instr) (e : Expr ValNum) → place N s i (some e) ≡ place N s (bare i) (some e)
unfolding place
place_bare N s i e =
    let q = handle_overwrite N s i (some e) in
    number_bare q i e (val_to_instr s i e) (get_val_num q.state e) ∙
    ap (λ w. number_dest q (bare i) e w (get_val_num q.state e)) (written_bare s i e) ∙
    ap (λ p. number_dest p (bare i) e (val_to_instr s (bare i) e) (get_val_num p.state e)) (overwrite_bare N s i e)

-- two instructions of one id and dest that have one value
pub same_value :
    (N : ℕ) (s : State) (i k : Instr) (e f : Expr NameIx) (u : Expr ValNum) → bare i ≡ bare k → make_val s e ≡ some u → make_val s f ≡ some u →
    by_form N s i (pure e) ≡ by_form N s k (pure f)
unfolding by_form
same_value N s i k e f u h p q = rw (p, q) (place_bare N s i u ∙ ap (λ j. place N s j (some u)) h ∙ sym (place_bare N s k u))

-- names that have numbers get no others
pub both_seen : (s : State) (a b : NameIx) (v w : ValNum) → s.env a ≡ some v → s.env b ≡ some w → gen_new_vals s (a ∷ b ∷ []) ≡ s
unfolding gen_new_vals see
both_seen s a b v w p q = rw (p, q) refl
