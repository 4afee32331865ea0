-- The rewriting of a block is accepted by the relation of paired blocks: a derivation along the numbering, instruction by instruction.
-- Rests on the invariant of the homes, the forms of what is written, and the law of simplify. No store is looked at.
use Prim.Native.Nat.{ℕ, ◌≤◌, ◌<◌}
use mathlib.Core.Path.{◌≡◌, refl, sym, ap, ◌∙◌, subst}
use mathlib.Core.Bool.{Bool, true, false, cond}
use mathlib.Core.List.{List, [], ◌∷◌, ◌++◌, map}
use mathlib.Core.Option.{Option, none, some, none-ne-some, some-injective}
use lib.Dec.{T}
use Rattle.arith.proofs.Clash.{clash}
use Rattle.arith.specs.declared.One.TheVariants.{Id}
use Rattle.arith.specs.Map.{upd}
use Rattle.arith.proofs.Map.{upd_same}
use Rattle.arith.specs.Value.{Val}
use Rattle.arith.specs.Operation.{Expr, constant, one, two}
use Rattle.record.specs.declared.NameIx.{NameIx}
use Rattle.record.specs.Record.{NameIx-discrete, Instr}
use Rattle.record.specs.Shape.{shape_of}
use Rattle.record.specs.Form.{Form, pure, new, effect, return, nop, jump, branch, form}
use Rattle.numbering.specs.declared.ValNum.{ValNum}
use Rattle.numbering.specs.State.{vn, ValNum-discrete, State, start_env, start, new_number, update_env, see_at, see as see_name, gen_new_vals, number_of, home_of, known}
use Rattle.numbering.specs.Simplify.{simplify}
use Rattle.numbering.specs.Number.{reads, operands, numbered, make_val, make_id_instr, rewrite_instr, val_to_instr, Saved, no_save, handle_overwrite, get_val_num, Emitted, number_dest, place, by_form, instr_lvn, block_lvn}
use Rattle.numbering.proofs.Saves.{Dests}
use Rattle.pairing.specs.Joint.{Setting, Joint, fresh, Has, by_id, by_value, old, fresh_value, number, Stands, Typed, Elem, first, later, SameDest, Performed, Paired, done, see, pair_pure, pair_constant, pair_new, pair_effect, pair_nop, pair_jump, pair_branch, pair_return, start_joint}
use Rattle.pairing.specs.Demand.{All}
use Rattle.pairing.proofs.Fit.{terminates, FitInstr, FitBody}
use Rattle.pairing.proofs.Simplify.{known_expr_is, simplify_stands}
use Rattle.pairing.proofs.SimplifyTypes.{TypedBy, simplify_typed}
use Rattle.pairing.proofs.Homes.{TypedNumber, Housed, home_number, housed_new, housed_set, housed_start, seen_all}
use Rattle.pairing.proofs.Written.{original_not_save, effect_not_save, over, rewritten_form, one_form, constant_form, value_form, value_dest}
use Rattle.pairing.proofs.Numbers.{Given, seen_given, number_is, number_seen, number_all_seen, typed_one, typed_two, number_homes, home_number_of, number_all_homes, known_typed, found_has}
use Rattle.pairing.proofs.Saving.{MadeTypes, joint_of, moved, Ready, overwrite_decision, saved_paired}

-- what is written of an instruction and of those behind it
abbrev emitted : (State → List Instr) → Emitted → List Instr
emitted rest e = e.saves ++ (e.instr ∷ rest e.state)

-- ks is accepted for is in the state s
abbrev Accepts : Setting → State → List Instr → List Instr → Type 0
Accepts Γ s is ks = (env₂ : NameIx → Option ValNum) → Housed Γ s env₂ → Paired Γ (joint_of s env₂) is ks

-- the rewriting of the instructions behind is accepted in every state
abbrev Follows : Setting → List Instr → (State → List Instr) → Type 0
Follows Γ is rest = (s : State) → MadeTypes Γ (rest s) → Accepts Γ s is (rest s)

-- ---- "number unseen arguments left to right"
see_paired :
    (Γ : Setting) (i : Instr) (is ks : List Instr) (xs : List NameIx) →
    ((x : NameIx) → Elem x xs → Elem x (reads (form Γ.ctx.types i))) →
    All (λ x. x.0 < Γ.names) xs →
    (s : State) →
    Accepts Γ (gen_new_vals s xs) (i ∷ is) ks →
    Accepts Γ s (i ∷ is) ks
unfolding gen_new_vals see_name new_number
see_paired Γ i is ks [] among low s next = next
see_paired Γ i is ks (x ∷ xs) among low s next =
    go (see_paired Γ i is ks xs (λ y h. among y (later h)) low.1) (s.env x) refl next
  where
    go :
        ((s : State) → Accepts Γ (gen_new_vals s xs) (i ∷ is) ks → Accepts Γ s (i ∷ is) ks) →
        (o : Option ValNum) →
        s.env x ≡ o →
        Accepts Γ (gen_new_vals (see_at s x o) xs) (i ∷ is) ks →
        Accepts Γ s (i ∷ is) ks
    go rec none e next = λ env₂ g.
        see x (among x first) low.0
        (rec (new_number s x none) next (upd NameIx-discrete env₂ x (some (vn s.next)))
        (housed_new Γ s env₂ x none g low.0
        (λ v b p. none-ne-some v (sym e ∙ home_number Γ s env₂ g x low.0 v b p))
        (λ c p. absurd (none-ne-some (constant c) p))))
    go rec (some n) e next = rec s next

-- ---- an instruction with a value
-- what is known of it: its expression over names and over numbers, and w, which stands for that
pub record Valued (Γ : Setting) (s : State) (i : Instr) (w : Expr ValNum) : Type 0 where
  pub expr : Expr NameIx
  pub numbers : Expr ValNum
  pub performs : form Γ.ctx.types i ≡ pure expr
  pub dest : i.dest.0 < Γ.names
  pub typed : Typed Γ.ctx.types expr (Γ.ctx.types i.dest)
  pub operands : number s.env expr ≡ some numbers
  pub stands : Stands s.vals numbers w
  pub result : TypedBy (TypedNumber s) w (Γ.ctx.types i.dest)

-- what is written behind the decision on the save, in the state s' that it leaves; s: the state before it
abbrev value_written : (State → List Instr) → State → Instr → Expr ValNum → State → Option ValNum → List Instr
value_written rest s i w s' o = emitted rest (number_dest (no_save s') i w (val_to_instr s i w) o)

-- the save stands before it
saves_first :
    (rest : State → List Instr) (s : State) (q : Saved) (i : Instr) (w : Expr ValNum) (o : Option ValNum) →
    emitted rest (number_dest q i w (val_to_instr s i w) o) ≡ q.saves ++ value_written rest s i w q.state o
unfolding number_dest
saves_first rest s q i w none = refl
saves_first rest s q i w (some n) = refl

module _ (Γ : Setting) (i : Instr) (is : List Instr) (rest : State → List Instr) (follows : Follows Γ is rest) where
  abbrev type : ℕ
  type = Γ.ctx.types i.dest

  module _ (s : State) (xs : List NameIx) (w : Expr ValNum) (h : Valued Γ s i w) where
    abbrev i' : Instr
    i' = rewrite_instr s xs i

    module _
        (locs : ValNum → NameIx) (k : ℕ) (env₂ : NameIx → Option ValNum)
        (r : Ready Γ s i.dest (λ v. some w ≡ some (one Id v)) locs k env₂)
      where
        abbrev s' : State
        s' = moved s locs k

        -- "an unknown value gets the next number with dest as home"
        new_value_paired :
            get_val_num s' w ≡ none →
            MadeTypes Γ (rest (new_number s' i.dest (some w))) →
            Paired Γ (joint_of s' env₂) (i ∷ is) (val_to_instr s i' w ∷ rest (new_number s' i.dest (some w)))
        unfolding new_number get_val_num
        new_value_paired none_there types =
            let same : SameDest i written = value_dest s s xs i w in
            pair_pure {k = written} h.expr (over s.locs w) h.numbers w w (vn s.next) h.performs
            (value_form (TypedNumber s) Γ.ctx.types s i' w h.result) same
            (original_not_save Γ.names written (subst (λ d. d.0 < Γ.names) (sym same.dest) h.dest)) h.dest h.typed
            h.operands h.stands fresh_value (number_homes s env₂ r.before w type h.result)
            (by_value (upd_same ValNum-discrete s.vals (vn s.next) (some w) (vn s.next) refl))
            (follows (new_number s' i.dest (some w)) types (upd NameIx-discrete env₂ i.dest (some (vn s.next)))
            (housed_new Γ s' env₂ i.dest (some w) r.housed h.dest
            (λ v b p. none-ne-some v (sym none_there ∙ ap (get_val_num s') (some-injective w (one Id v) (r.sole v b p))))
            (λ c p. rw (some-injective w (constant c) p) at h.result)))
          where
            written : Instr
            written = val_to_instr s i' w

        -- "const if the constant is known, else id of its home"
        old_value_paired :
            (n : ValNum) → get_val_num s' w ≡ some n →
            (o : Option Val) → known s' n ≡ o →
            MadeTypes Γ (rest (update_env s' i.dest n)) →
            Paired Γ (joint_of s' env₂) (i ∷ is) (make_id_instr o s' i' n ∷ rest (update_env s' i.dest n))
        unfolding update_env get_val_num known number
        old_value_paired n there o e types = go o e
          where
            has : Has s.vals w n × TypedNumber s n type
            has = found_has s' w type n h.result there

            after :
                Paired Γ (joint_of (update_env s' i.dest n) (upd NameIx-discrete env₂ i.dest (some n))) is
                (rest (update_env s' i.dest n))
            after =
                follows (update_env s' i.dest n) types (upd NameIx-discrete env₂ i.dest (some n))
                (housed_set Γ s' env₂ i.dest n r.housed
                (λ v b p. some-injective v n (ap (get_val_num s') (sym (some-injective w (one Id v) (r.sole v b p))) ∙ there))
                has.1)

            go :
                (o : Option Val) → known s' n ≡ o →
                Paired Γ (joint_of s' env₂) (i ∷ is) (make_id_instr o s' i' n ∷ rest (update_env s' i.dest n))
            go none e =
                let home : number env₂ (one Id (locs n)) ≡ some (one Id n) = rw (r.housed.homes n has.1.0) in
                pair_pure h.expr (one Id (locs n)) h.numbers (one Id n) w n h.performs
                (one_form Γ.ctx.types i' Id (locs n)) (record { id = refl; dest = refl })
                (original_not_save Γ.names _ h.dest) h.dest h.typed h.operands h.stands (old has.0) home by_id after
            go (some c) e =
                let there : s.vals n ≡ some (constant c) = known_expr_is (s.vals n) c e in
                pair_pure h.expr (constant c) h.numbers (constant c) w n h.performs
                (constant_form Γ.ctx.types i' c (has.1.1 c there)) (record { id = refl; dest = refl })
                (original_not_save Γ.names _ h.dest) h.dest h.typed h.operands h.stands (old has.0) refl
                (by_value there) after

        number_paired :
            (o : Option ValNum) → get_val_num s' w ≡ o →
            MadeTypes Γ (value_written rest s i' w s' o) →
            Paired Γ (joint_of s' env₂) (i ∷ is) (value_written rest s i' w s' o)
        unfolding number_dest
        number_paired none e types = new_value_paired e types.1
        number_paired (some n) e types = old_value_paired n e (known s' n) refl types.1

    value_paired :
        (env₂ : NameIx → Option ValNum) → Housed Γ s env₂ →
        MadeTypes Γ (emitted rest (place Γ.names s i' (some w))) →
        Paired Γ (joint_of s env₂) (i ∷ is) (emitted rest (place Γ.names s i' (some w)))
    unfolding place
    value_paired env₂ g types =
        subst (Paired Γ (joint_of s env₂) (i ∷ is)) (sym split)
        (saved_paired Γ s env₂ g i' h.dest (i ∷ is) (λ v. some w ≡ some (one Id v)) q behind
        (overwrite_decision Γ s env₂ g i' h.dest (some w) below) (subst (MadeTypes Γ) split types)
        (λ locs k env₂' r types'. number_paired locs k env₂' r (get_val_num (moved s locs k) w) refl types'))
      where
        q : Saved
        q = handle_overwrite Γ.names s i' (some w)

        behind : State → List Instr
        behind s'' = value_written rest s i' w s'' (get_val_num s'' w)

        split : emitted rest (number_dest q i' w (val_to_instr s i' w) (get_val_num q.state w)) ≡ q.saves ++ behind q.state
        split = saves_first rest s q i' w (get_val_num q.state w)

        below : (a : ValNum) → some w ≡ some (one Id a) → a.0 < s.next
        below a e =
            let given : TypedNumber s a type = rw (some-injective w (one Id a) e) at h.result in
            given.0

  module _ (s : State) (env₂ : NameIx → Option ValNum) (g : Housed Γ s env₂) (l : i.dest.0 < Γ.names) where
    -- ---- an instruction whose value is new each time; main: the pair itself
    new_paired :
        (xs : List NameIx) →
        MadeTypes Γ (emitted rest (place Γ.names s (rewrite_instr s xs i) none)) →
        ((env₂' : NameIx → Option ValNum) (locs : ValNum → NameIx) (k : ℕ) (ks : List Instr) →
        ((v : ValNum) → v.0 < s.next → env₂' (s.locs v) ≡ some v) →
        Paired Γ (fresh (joint_of (moved s locs k) env₂') i.dest) is ks →
        Paired Γ (joint_of (moved s locs k) env₂') (i ∷ is) (rewrite_instr s xs i ∷ ks)) →
        Paired Γ (joint_of s env₂) (i ∷ is) (emitted rest (place Γ.names s (rewrite_instr s xs i) none))
    unfolding place new_number
    new_paired xs types main =
        saved_paired Γ s env₂ g i'' l (i ∷ is) (λ v. none ≡ some (one Id v)) (handle_overwrite Γ.names s i'' none) behind
        (overwrite_decision Γ s env₂ g i'' l none (λ a e. absurd (none-ne-some (one Id a) e)))
        types
        (λ locs k env₂' r types'. main env₂' locs k (rest (new_number (moved s locs k) i.dest none)) r.before
        (follows (new_number (moved s locs k) i.dest none) types'.1 (upd NameIx-discrete env₂' i.dest (some (vn s.next)))
        (housed_new Γ (moved s locs k) env₂' i.dest none r.housed l
        (λ v b p. none-ne-some (one Id v) (r.sole v b p))
        (λ c p. absurd (none-ne-some (constant c) p)))))
      where
        i'' : Instr
        i'' = rewrite_instr s xs i

        behind : State → List Instr
        behind s'' = i'' ∷ rest (new_number s'' i.dest none)

    -- ---- every operation
    -- its value is what simplify gives of its expression over numbers, e'
    simplified :
        (e : Expr NameIx) (e' : Expr ValNum) → form Γ.ctx.types i ≡ pure e → Typed Γ.ctx.types e type →
        number s.env e ≡ some e' → TypedBy (TypedNumber s) e' type →
        Valued Γ s i (simplify (known s) e')
    unfolding known
    simplified e e' f t n t' =
        record {
          expr = e;
          numbers = e';
          performs = f;
          dest = l;
          typed = t;
          operands = n;
          stands = simplify_stands s.vals e';
          result = simplify_typed (TypedNumber s) (known s) (known_typed s) e' type t';
        }

    pure_paired :
        (e : Expr NameIx) → form Γ.ctx.types i ≡ pure e → Typed Γ.ctx.types e type →
        Given Γ s (operands e) →
        MadeTypes Γ (emitted rest (place Γ.names s (rewrite_instr s (operands e) i) (make_val s e))) →
        Paired Γ (joint_of s env₂) (i ∷ is) (emitted rest (place Γ.names s (rewrite_instr s (operands e) i) (make_val s e)))
    unfolding make_val number reads simplify
    pure_paired (constant v) f t given types = go (numbered v) refl types
      where
        go :
            (b : Bool) → numbered v ≡ b →
            MadeTypes Γ (emitted rest (place Γ.names s (rewrite_instr s [] i) (cond b (some (constant v)) none))) →
            Paired Γ (joint_of s env₂) (i ∷ is) (emitted rest (place Γ.names s (rewrite_instr s [] i) (cond b (some (constant v)) none)))
        go true e types = value_paired s [] (constant v) (simplified (constant v) (constant v) f t refl (t, subst T (sym e) tt)) env₂ g types
        go false e types =
            new_paired [] types
            (λ env₂' locs k ks before p. pair_constant v f (rewritten_form Γ.ctx.types s i (pure (constant v)) f)
            (record { id = refl; dest = refl }) (original_not_save Γ.names (rewrite_instr s [] i) l) l t p)
    pure_paired (one o a) f t given types =
        let e = one o a in
        value_paired s (a ∷ []) _ (simplified e _ f t (number_seen Γ s e given) (typed_one Γ s o a type given t)) env₂ g types
    pure_paired (two o a b) f t given types =
        let e = two o a b in
        value_paired s (a ∷ b ∷ []) _ (simplified e _ f t (number_seen Γ s e given) (typed_two Γ s o a b type given t)) env₂ g types

-- a terminator stands last
last_paired :
    (Γ : Setting) (j : Joint) (i k : Instr) (is : List Instr) (s : State) → is ≡ [] →
    Paired Γ j (i ∷ []) (k ∷ []) →
    Paired Γ j (i ∷ is) (k ∷ (block_lvn Γ.names Γ.ctx.types s is).body)
unfolding block_lvn
last_paired Γ j i k [] s e h = h
last_paired Γ j i k (i' ∷ is) s e h = clash (cc)

-- the rewriting of the instructions behind
abbrev behind : Setting → List Instr → State → List Instr
behind Γ is s = (block_lvn Γ.names Γ.ctx.types s is).body

form_paired :
    (Γ : Setting) (i : Instr) (is : List Instr) → Performed Γ.ctx i → FitInstr Γ.names Γ.ctx.types i →
    Follows Γ is (behind Γ is) →
    (s : State) (env₂ : NameIx → Option ValNum) → Housed Γ s env₂ →
    (f : Form) → form Γ.ctx.types i ≡ f → Dests Γ.names (shape_of i.code).dest i.dest f → (T (terminates f) → is ≡ []) →
    Given Γ s (reads f) →
    MadeTypes Γ (emitted (behind Γ is) (by_form Γ.names s (rewrite_instr s (reads f) i) f)) →
    Paired Γ (joint_of s env₂) (i ∷ is) (emitted (behind Γ is) (by_form Γ.names s (rewrite_instr s (reads f) i) f))
unfolding by_form reads terminates
form_paired Γ i is performed fit follows s env₂ g (pure e) f d last given types =
    pure_paired Γ i is (behind Γ is) follows s env₂ g d.1 e f (fit.typed e f) given types
form_paired Γ i is performed fit follows s env₂ g (new xs) f d last given types =
    new_paired Γ i is (behind Γ is) follows s env₂ g d.1 xs types
    (λ env₂' locs k ks before p. pair_new xs (map (home_of s) xs) (map (number_of s) xs) f (rewritten_form Γ.ctx.types s i (new xs) f)
    (record { id = refl; code = refl; dest = refl; callee = refl }) (original_not_save Γ.names (rewrite_instr s xs i) d.1) d.1 performed
    (number_all_seen Γ s xs given) (number_all_homes Γ s env₂' before xs given) p)
form_paired Γ i is performed fit follows s env₂ g (effect xs) f d last given types =
    pair_effect xs (map (home_of s) xs) (map (number_of s) xs) f (rewritten_form Γ.ctx.types s i (effect xs) f)
    (record { id = refl; code = refl; dest = refl; callee = refl })
    (effect_not_save Γ.names (rewrite_instr s xs i) d)
    (number_all_seen Γ s xs given) (number_all_homes Γ s env₂ g.homes xs given) (follows s types.1 env₂ g)
form_paired Γ i is performed fit follows s env₂ g (return xs) f d last given types =
    last_paired Γ (joint_of s env₂) i (rewrite_instr s xs i) is s (last tt)
    (pair_return xs (map (home_of s) xs) (map (number_of s) xs) f (rewritten_form Γ.ctx.types s i (return xs) f)
    (record { id = refl; code = refl; dest = refl; callee = refl })
    (effect_not_save Γ.names (rewrite_instr s xs i) d)
    (number_all_seen Γ s xs given) (number_all_homes Γ s env₂ g.homes xs given))
form_paired Γ i is performed fit follows s env₂ g nop f d last given types =
    pair_nop f (rewritten_form Γ.ctx.types s i nop f) (effect_not_save Γ.names (rewrite_instr s [] i) d)
    (follows s types.1 env₂ g)
form_paired Γ i is performed fit follows s env₂ g (jump b) f d last given types =
    last_paired Γ (joint_of s env₂) i (rewrite_instr s [] i) is s (last tt)
    (pair_jump b f (rewritten_form Γ.ctx.types s i (jump b) f)
    (effect_not_save Γ.names (rewrite_instr s [] i) d))
form_paired Γ i is performed fit follows s env₂ g (branch x b c) f d last given types =
    let (n, p, t) = given x first in
    let home : env₂ (home_of s x) ≡ some n = home_number_of Γ s env₂ g.homes (x ∷ []) given x first ∙ ap some (number_is s x n p) in
    last_paired Γ (joint_of s env₂) i (rewrite_instr s (x ∷ []) i) is s (last tt)
    (pair_branch x (home_of s x) n b c f (rewritten_form Γ.ctx.types s i (branch x b c) f)
    (effect_not_save Γ.names (rewrite_instr s (x ∷ []) i) d) p home)

-- ---- blocks
block_paired_from :
    (Γ : Setting) → ((i : Instr) → Performed Γ.ctx i) → (is : List Instr) → FitBody Γ.names Γ.ctx.types is →
    Follows Γ is (behind Γ is)
unfolding block_lvn instr_lvn
block_paired_from Γ performed [] fit s types = λ env₂ g. done
block_paired_from Γ performed (i ∷ is) (fit, (last, fits)) s types =
    see_paired Γ i is (behind Γ (i ∷ is) s) xs (λ x h. h) fit.args s
    (λ env₂ g. form_paired Γ i is (performed i) fit (block_paired_from Γ performed is fits) (gen_new_vals s xs) env₂ g
    (form Γ.ctx.types i) refl fit.original last (seen_given Γ (gen_new_vals s xs) env₂ xs g fit.args (seen_all xs s)) types)
  where
    xs : List NameIx
    xs = reads (form Γ.ctx.types i)

-- the rewriting of a block is accepted; k: how many names are made before it
pub block_paired :
    (Γ : Setting) → Γ.args ≤ Γ.names → ((i : Instr) → Performed Γ.ctx i) → (is : List Instr) (k : ℕ) →
    FitBody Γ.names Γ.ctx.types is →
    MadeTypes Γ (block_lvn Γ.names Γ.ctx.types (start Γ.args k) is).body →
    Paired Γ (start_joint Γ.args) is (block_lvn Γ.names Γ.ctx.types (start Γ.args k) is).body
unfolding start
block_paired Γ few performed is k fit types =
    block_paired_from Γ performed is fit (start Γ.args k) types (start_env Γ.args) (housed_start Γ few k)
