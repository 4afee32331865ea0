-- What is written, and the state behind an instruction: the code's parts together are the definitions' steps.
use Prim.Native.Nat.{ℕ, suc, ◌<◌, ◌≤◌}
use mathlib.Core.Path.{◌≡◌, refl, sym, ap, ◌∙◌, subst}
use mathlib.Core.Logic.{◌≢◌}
use mathlib.Core.List.{List, [], ◌∷◌}
use mathlib.Core.Bool.{Bool, cond}
use mathlib.Core.Option.{Option, none, some}
use Rattle.std.specs.Prelude.{Option as Maybe, None, Some}
use native.Mathlib.Omega.{arith}
use Rattle.arith.specs.declared.One.TheVariants.{Id}
use Rattle.arith.specs.Code.{code1}
use Rattle.arith.specs.Value.{Val}
use Rattle.arith.specs.Operation.{Expr, constant, one, two}
use Rattle.record.specs.declared.NameIx.{NameIx}
use Rattle.record.specs.declared.Op.{Op}
use Rattle.record.specs.declared.Op.TheVariants as ops
use Rattle.record.specs.declared.Instruction.{Instruction}
use Rattle.record.specs.Record.{no_lit, Instr}
use Rattle.record.specs.Form.{form}
use Rattle.record.specs.View.{instr_of}
use Rattle.numbering.specs.declared.ValNum.{ValNum}
use Rattle.numbering.specs.State.{State, new_number, update_env, gen_new_vals, known}
use Rattle.numbering.specs.Number.{reads, make_id_instr, val_to_instr, rewrite_instr, Saved, handle_overwrite}
use Rattle.numbering.specs.Number.{get_val_num, Emitted, unchanged, number_dest, place, by_form, instr_lvn}
use Rattle.numbering.proofs.Saves.{gen_new_vals_temps}
use Rattle.numbering.proofs.Overwritten.{overwritten, overwritten_next}
use Rattle.numbering.proofs.Simplified.{MaybeOk}
use Rattle.codes.specs.Op.{form_as}
use Rattle.lvn_values.specs.Table.{val_num_of}
use Rattle.lvn_state.specs.View.{saves_of, settled_at, settled}
use Rattle.lvn_state.specs.Room.{Low, room}
use Rattle.lvn_state.proofs.Room.{next_room, gen_room}
use Rattle.lvn_instr.specs.View.{Ready, value_by, Any, has_dest, written_as, chosen, by_op}
use Rattle.lvn_instr.proofs.Forms.{instr_form}

-- ---- an instruction with a dest
copy_alike : (k : Option Val) (s t : State) (i : Instr) (v : ValNum) → s.locs v ≡ t.locs v → make_id_instr k s i v ≡ make_id_instr k t i v
copy_alike none s t i v e =
    λ z. record { id = i.id; code = code1 Id; dest = i.dest; lit = no_lit; args = e z ∷ []; callee = 0; blocks = [] }
copy_alike (some c) s t i v e = refl

-- the copy is the same over the state in which dest has the number
copy_after : (s : State) (x : NameIx) (i w : Instr) (v : ValNum) → make_id_instr (known s v) s i v ≡ chosen (update_env s x v) i w (some v)
unfolding update_env known
copy_after s x i w v = copy_alike (known s v) s (update_env s x v) i v refl

abbrev placed_as : Saved → Instr → Instr → Option (Expr ValNum) → Emitted
placed_as q i w e =
    let t = settled q.state i.dest e in
    record { state = t; saves = q.saves; instr = chosen t i w (val_num_of q.state e) }

number_settled :
    (q : Saved) (i w : Instr) (e : Expr ValNum) (o : Option ValNum) →
    number_dest q i e w o ≡
    record {
      state = settled_at q.state i.dest e o;
      saves = q.saves;
      instr = chosen (settled_at q.state i.dest e o) i w o;
    }
unfolding number_dest settled_at
number_settled q i w e none = refl
number_settled q i w e (some v) =
    λ z. record { state = update_env q.state i.dest v; saves = q.saves; instr = copy_after q.state i.dest i w v z }

place_settled :
    (N : ℕ) (s : State) (i : Instr) (e : Option (Expr ValNum)) →
    place N s i e ≡ placed_as (handle_overwrite N s i e) i (written_as s i e) e
unfolding place settled
place_settled N s i none = refl
place_settled N s i (some e) =
    let q = handle_overwrite N s i (some e) in number_settled q i (val_to_instr s i e) e (get_val_num q.state e)

-- id and dest stay
record Under (i j : Instr) : Type 0 where
  pub id : j.id ≡ i.id
  pub dest : j.dest ≡ i.dest

written_under : (s : State) (i : Instr) (e : Option (Expr ValNum)) → Under i (written_as s i e)
unfolding val_to_instr
written_under s i none = record { id = refl; dest = refl }
written_under s i (some (constant v)) = record { id = refl; dest = refl }
written_under s i (some (one o a)) = record { id = refl; dest = refl }
written_under s i (some (two o a b)) = record { id = refl; dest = refl }

copied_under : (k : Option Val) (s : State) (i : Instr) (v : ValNum) → Under i (make_id_instr k s i v)
copied_under none s i v = record { id = refl; dest = refl }
copied_under (some c) s i v = record { id = refl; dest = refl }

chosen_under : (s : State) (i w : Instr) (o : Option ValNum) → Under i w → Under i (chosen s i w o)
chosen_under s i w none h = h
chosen_under s i w (some v) h = copied_under (known s v) s i v

saves_under : (m : Maybe NameIx) (i j : Instr) → Under i j → saves_of m j ≡ saves_of m i
saves_under None i j h = refl
saves_under (Some m) i j h =
    λ z. record { id = h.id z; code = code1 Id; dest = m; lit = no_lit; args = h.dest z ∷ []; callee = 0; blocks = [] } ∷ []

-- the parts that the code gives are those of the definition
module _
    (N : ℕ) (s : State) (i : Instr) (e : Option (Expr ValNum)) (q : Saved) (t : State) (w j : Instr) (m : Maybe NameIx) (o : Option ValNum)
    (overwrote : record { state = q.state; saves = saves_of m i } ≡ handle_overwrite N s i e)
    (wrote : w ≡ written_as s i e)
    (found : o ≡ val_num_of q.state e)
    (settling : t ≡ settled q.state i.dest e)
    (chose : j ≡ chosen t i w o) where
  j_under : Under i j
  j_under =
      subst (Under i) (sym chose) (chosen_under t i w o (subst (Under i) (sym wrote) (written_under s i e)))

  pub placed : record { state = t; saves = saves_of m j; instr = j } ≡ place N s i e
  placed =
      (λ z. record { state = settling z; saves = saves_under m i j j_under z; instr = chose z }) ∙
      (λ z. record { state = settled q.state i.dest e; saves = saves_of m i; instr = chosen (settling z) i (wrote z) (found z) }) ∙
      ap (λ (p : Saved). placed_as p i (written_as s i e) e) overwrote ∙ sym (place_settled N s i e)

-- the numbers of operands, where an id is the value
pub id_there : (e : Option (Expr ValNum)) → MaybeOk Any 65535 e → (a : ValNum) → e ≡ some (one Id a) → a.0 ≢ 65535
id_there e h a p = let b : a.0 < 65535 = subst (MaybeOk Any 65535) p h in λ z. omega arith

-- ---- numbers that are given
pub overwrite_next : (N : ℕ) (s : State) (i : Instr) (e : Option (Expr ValNum)) → (handle_overwrite N s i e).state.next ≡ s.next
overwrite_next N s i e = overwritten_next N s i (handle_overwrite N s i e) (overwritten N s i e)

settled_at_next : (s : State) (x : NameIx) (e : Expr ValNum) (o : Option ValNum) → (settled_at s x e o).next ≤ suc s.next
unfolding settled_at new_number update_env
settled_at_next s x e none = omega arith
settled_at_next s x e (some v) = omega arith

pub settled_next : (s : State) (x : NameIx) (e : Option (Expr ValNum)) → (settled s x e).next ≤ suc s.next
unfolding settled new_number
settled_next s x none = omega arith
settled_next s x (some e) = settled_at_next s x e (get_val_num s e)

-- seeing arguments asks for no more room
pub seen_next :
    (m n : ℕ) (s : State) (xs : List NameIx) (t : State) → t ≡ gen_new_vals s xs → Low m xs → room m s < n → t.next < n
seen_next m n s xs t e low h =
    let g = gen_new_vals s xs in
    let j : t.next ≡ g.next = ap (λ (u : State). u.next) e in
    let a : g.next ≤ room m g = next_room m g in
    let b : room m g ≡ room m s = gen_room m s xs low in
    omega arith

pub seen_temps : (s : State) (xs : List NameIx) (t : State) → t ≡ gen_new_vals s xs → t.temps ≡ s.temps
seen_temps s xs t e = ap (λ (u : State). u.temps) e ∙ gen_new_vals_temps s xs

-- ---- by the operation
pub by_dest :
    (N : ℕ) (s : State) (i : Instr) (o : Op) (e : Option (Expr ValNum)) (b : Bool) →
    has_dest o ≡ b →
    cond b (place N s i e) (unchanged s i) ≡ by_op N s i o e
by_dest N s i o e b p = ap (λ (d : Bool). cond d (place N s i e) (unchanged s i)) (sym p)

by_op_form :
    (N : ℕ) (s : State) (i j : Instr) (t : NameIx → ℕ) (o : Op) →
    by_op N s i o (value_by s (form_as o t j)) ≡ by_form N s i (form_as o t j)
unfolding by_form
by_op_form N s i j t ops.Const = refl
by_op_form N s i j t (ops.One o) = refl
by_op_form N s i j t (ops.Two o) = refl
by_op_form N s i j t (ops.New c) = refl
by_op_form N s i j t (ops.Effect c) = refl
by_op_form N s i j t ops.Nop = refl
by_op_form N s i j t ops.Jmp = refl
by_op_form N s i j t ops.Br = refl
by_op_form N s i j t ops.Ret = refl

-- ---- one instruction
module _
    (N : ℕ) (t : NameIx → ℕ) (s : State) (i : Instruction) (ready : Ready i)
    (seen : State) (j : Instr) (e : Option (Expr ValNum)) where
  pub instr_by_op :
      seen ≡ gen_new_vals s (instr_of i).args →
      j ≡ rewrite_instr seen (instr_of i).args (instr_of i) →
      e ≡ value_by seen (form t (instr_of i)) →
      by_op N seen j i.op e ≡ instr_lvn N t s (instr_of i)
  unfolding instr_lvn
  instr_by_op a b c =
      let f = form t (instr_of i) in
      let g : f ≡ form_as i.op t (instr_of i) = instr_form i ready t i.op refl in
      let xs : (instr_of i).args ≡ reads f = sym (ready.reading t) in
      ap (by_op N seen j i.op) (c ∙ ap (value_by seen) g) ∙ by_op_form N seen j (instr_of i) t i.op ∙
      ap (by_form N seen j) (sym g) ∙
      ap (λ (k : Instr). by_form N seen k f) (b ∙ ap (λ (ys : List NameIx). rewrite_instr seen ys (instr_of i)) xs) ∙
      ap (λ (z : State). by_form N z (rewrite_instr z (reads f) (instr_of i)) f) (a ∙ ap (gen_new_vals s) xs)
