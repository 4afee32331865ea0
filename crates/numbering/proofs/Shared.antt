-- Document 02, Point 2: in one block gt a b and lt b a share a number, ge a b and le b a likewise, whichever comes first and whatever stands
-- between them, where a and b have the same numbers at both: the two have one value, and a value keeps the number that it once got.
use Prim.Native.Nat.{ℕ, zero, suc, ◌+◌, ◌<◌, ◌≤◌}
use mathlib.Core.Path.{◌≡◌, refl, sym, ap, ap₂, ◌∙◌, subst}
use mathlib.Core.Bool.{Bool, true, false, cond}
use mathlib.Core.List.{List, [], ◌∷◌}
use mathlib.Core.Option.{Option, none, some}
use native.Mathlib.Omega.{arith}
use Rattle.arith.specs.declared.One.TheVariants.{Not, Id}
use Rattle.arith.specs.declared.Two.{Two}
use Rattle.arith.specs.declared.Two.TheVariants.{Lt, Gt, Le, Ge}
use Rattle.arith.specs.Equal.{Expr-discrete}
use Rattle.arith.specs.Code.{code1, code2, with_code, one_of, two_of}
use Rattle.arith.specs.Value.{Val}
use Rattle.arith.specs.Operation.{Expr, constant, one, two}
use Rattle.arith.proofs.Clash.{clash}
use Rattle.arith.proofs.Map.{pick_yes, upd_same, upd_other}
use Rattle.record.specs.declared.NameIx.{NameIx}
use Rattle.record.specs.Record.{nm, NameIx-discrete, Instr}
use Rattle.record.specs.Form.{Form, pure, new, effect, return, nop, jump, branch, form}
use Rattle.record.specs.Short.{gives}
use Rattle.numbering.specs.declared.ValNum.{ValNum}
use Rattle.numbering.specs.State.{vn, State, ValNum-discrete, start, new_number, update_env, rehome, see_at, see, gen_new_vals, number_of, known_expr, known}
use Rattle.numbering.specs.Simplify.{simplify2, simplify}
use Rattle.numbering.specs.Number.{reads, make_val, val_to_instr, rewrite_instr, Saved, save, handle_overwrite, same_expr, find, get_val_num, number_dest, place, by_form, instr_lvn}
use Rattle.numbering.specs.Shared.{behind, Exchanged, gt_lt, lt_gt, ge_le, le_ge, Have, SharesNumber}
use Rattle.numbering.proofs.Overwritten.{Overwritten, kept, moved, overwritten}
use Rattle.numbering.proofs.Given.{Numbers, start_numbers, behind_numbers}
use Rattle.numbering.proofs.Bare.{both_seen}
use Rattle.numbering.proofs.Greater.{greater_simplified, greater_equal_simplified}

-- ---- the search for a value, f and g being tables that agree below the search's end
-- what is found stays found in a longer table
find_stays :
    (f g : ValNum → Option (Expr ValNum)) (e : Expr ValNum) (i n m : ℕ) (u : ValNum) →
    n ≤ m →
    ((k : ℕ) → k < i + n → g (vn k) ≡ f (vn k)) →
    find f e i n ≡ some u →
    find g e i m ≡ some u
unfolding find
find_stays f g e i zero m u l h p = clash (cc)
find_stays f g e i (suc n) zero u l h p = absurd (omega arith)
find_stays f g e i (suc n) (suc m) u l h p =
    rw (h i (omega arith))
    (go (same_expr (f (vn i)) (some e)) (find_stays f g e (suc i) n m u (omega arith) (λ k b. h k (omega arith))) p)
  where
    go :
        (b : Bool) → (find f e (suc i) n ≡ some u → find g e (suc i) m ≡ some u) →
        cond b (some (vn i)) (find f e (suc i) n) ≡ some u →
        cond b (some (vn i)) (find g e (suc i) m) ≡ some u
    go true rest p = p
    go false rest p = rest p

-- what is not found and put at the end is found there
find_last :
    (f g : ValNum → Option (Expr ValNum)) (e : Expr ValNum) (i n l : ℕ) →
    i + n ≡ l →
    ((k : ℕ) → k < l → g (vn k) ≡ f (vn k)) →
    g (vn l) ≡ some e →
    find f e i n ≡ none →
    find g e i (suc n) ≡ some (vn l)
unfolding find
find_last f g e i zero l z h q p =
    let at : i ≡ l = omega arith in
    rw (at, q, pick_yes (Expr-discrete ValNum-discrete e e) true false refl) refl
find_last f g e i (suc n) l z h q p =
    rw (h i (omega arith)) (go (same_expr (f (vn i)) (some e)) (find_last f g e (suc i) n l (omega arith) h q) p)
  where
    go :
        (b : Bool) → (find f e (suc i) n ≡ none → find g e (suc i) (suc n) ≡ some (vn l)) →
        cond b (some (vn i)) (find f e (suc i) n) ≡ none →
        cond b (some (vn i)) (find g e (suc i) (suc n)) ≡ some (vn l)
    go true rest p = clash (cc)
    go false rest p = rest p

-- ---- the values of s are those of t too, which may have more behind them
record Grown (s t : State) : Type 0 where
  next : s.next ≤ t.next
  vals : (v : ValNum) → v.0 < s.next → t.vals v ≡ s.vals v

grown_same : (s : State) → Grown s s
grown_same s = record { next = omega arith; vals = λ v l. refl }

grown_on : (s t u : State) → Grown s t → Grown t u → Grown s u
grown_on s t u g h =
    let m = g.next in
    let n = h.next in
    record { next = omega arith; vals = λ v l. h.vals v (omega arith) ∙ g.vals v l }

grown_new : (s : State) (x : NameIx) (e : Option (Expr ValNum)) → Grown s (new_number s x e)
unfolding new_number
grown_new s x e =
    record {
      next = omega arith;
      vals = λ v l.
          upd_other ValNum-discrete s.vals (vn s.next) e v
          (λ p. let m : v.0 ≡ s.next = ap (λ (u : ValNum). u.0) p in omega arith);
    }

grown_taken : (s : State) (x : NameIx) (v : ValNum) → Grown s (update_env s x v)
unfolding update_env
grown_taken s x v = record { next = omega arith; vals = λ u l. refl }

grown_seen : (s : State) (x : NameIx) (o : Option ValNum) → Grown s (see_at s x o)
grown_seen s x none = grown_new s x none
grown_seen s x (some v) = grown_same s

grown_gen : (s : State) (xs : List NameIx) → Grown s (gen_new_vals s xs)
unfolding gen_new_vals see
grown_gen s [] = grown_same s
grown_gen s (x ∷ xs) = grown_on s (see s x) (gen_new_vals (see s x) xs) (grown_seen s x (s.env x)) (grown_gen (see s x) xs)

grown_overwritten : (N : ℕ) (s : State) (i : Instr) (q : Saved) → Overwritten N s i q → Grown s q.state
unfolding save rehome
grown_overwritten N s i q kept = grown_same s
grown_overwritten N s i q (moved v) = record { next = omega arith; vals = λ u l. refl }

grown_dest :
    (q : Saved) (i : Instr) (e : Expr ValNum) (w : Instr) (o : Option ValNum) → Grown q.state (number_dest q i e w o).state
unfolding number_dest
grown_dest q i e w none = grown_new q.state i.dest (some e)
grown_dest q i e w (some v) = grown_taken q.state i.dest v

grown_placed : (N : ℕ) (s : State) (i : Instr) (o : Option (Expr ValNum)) → Grown s (place N s i o).state
unfolding place
grown_placed N s i none =
    let q = handle_overwrite N s i none in
    grown_on s q.state _ (grown_overwritten N s i q (overwritten N s i none)) (grown_new q.state i.dest none)
grown_placed N s i (some e) =
    let q = handle_overwrite N s i (some e) in
    grown_on s q.state _ (grown_overwritten N s i q (overwritten N s i (some e)))
    (grown_dest q i e (val_to_instr s i e) (get_val_num q.state e))

grown_form : (N : ℕ) (s : State) (i : Instr) (f : Form) → Grown s (by_form N s i f).state
unfolding by_form
grown_form N s i (pure e) = grown_placed N s i (make_val s e)
grown_form N s i (new xs) = grown_placed N s i none
grown_form N s i (effect xs) = grown_same s
grown_form N s i (return xs) = grown_same s
grown_form N s i nop = grown_same s
grown_form N s i (jump b) = grown_same s
grown_form N s i (branch a b c) = grown_same s

grown_instr : (N : ℕ) (t : NameIx → ℕ) (s : State) (i : Instr) → Grown s (instr_lvn N t s i).state
unfolding instr_lvn
grown_instr N t s i =
    let xs = reads (form t i) in
    let seen = gen_new_vals s xs in
    grown_on s seen _ (grown_gen s xs) (grown_form N seen (rewrite_instr seen xs i) (form t i))

grown_behind : (N : ℕ) (t : NameIx → ℕ) (s : State) (is : List Instr) → Grown s (behind N t s is)
grown_behind N t s [] = grown_same s
grown_behind N t s (i ∷ is) =
    let u = (instr_lvn N t s i).state in
    grown_on s u (behind N t u is) (grown_instr N t s i) (grown_behind N t u is)

-- ---- so a value keeps its number, and a number what is known of it
grown_found : (s t : State) (e : Expr ValNum) (u : ValNum) → Grown s t → get_val_num s e ≡ some u → get_val_num t e ≡ some u
unfolding get_val_num
grown_found s t e u g p = go e p
  where
    held : (e : Expr ValNum) → find s.vals e 0 s.next ≡ some u → find t.vals e 0 t.next ≡ some u
    held e p = find_stays s.vals t.vals e 0 s.next t.next u g.next (λ k l. g.vals (vn k) (omega arith)) p

    go : (e : Expr ValNum) → get_val_num s e ≡ some u → get_val_num t e ≡ some u
    go (constant v) p = held (constant v) p
    go (one Not a) p = held (one Not a) p
    go (one Id a) p = p
    go (two o a b) p = held (two o a b) p

grown_known : (s t : State) (v : ValNum) → Grown s t → v.0 < s.next → known t v ≡ known s v
unfolding known
grown_known s t v g l = ap known_expr (g.vals v l)

-- ---- the number of the value e is that of the name x
record Numbered (s : State) (e : Expr ValNum) (x : NameIx) : Type 0 where
  number : ValNum
  found : get_val_num s e ≡ some number
  taken : s.env x ≡ some number

known_numbered : (s : State) (x : NameIx) (e : Expr ValNum) (v : ValNum) → get_val_num s e ≡ some v → Numbered (update_env s x v) e x
unfolding update_env
known_numbered s x e v p =
    record {
      number = v;
      found = grown_found s (update_env s x v) e v (grown_taken s x v) p;
      taken = upd_same NameIx-discrete s.env x (some v) x refl;
    }

new_numbered : (s : State) (x : NameIx) (e : Expr ValNum) → get_val_num s e ≡ none → Numbered (new_number s x (some e)) e x
unfolding new_number get_val_num
new_numbered s x e p =
    record { number = vn s.next; found = go e p; taken = upd_same NameIx-discrete s.env x (some (vn s.next)) x refl }
  where
    last :
        (e : Expr ValNum) → find s.vals e 0 s.next ≡ none →
        find (new_number s x (some e)).vals e 0 (suc s.next) ≡ some (vn s.next)
    last e p =
        find_last s.vals (new_number s x (some e)).vals e 0 s.next s.next (omega arith)
        (λ k l. (grown_new s x (some e)).vals (vn k) l)
        (upd_same ValNum-discrete s.vals (vn s.next) (some e) (vn s.next) refl)
        p

    go : (e : Expr ValNum) → get_val_num s e ≡ none → get_val_num (new_number s x (some e)) e ≡ some (vn s.next)
    go (constant v) p = last (constant v) p
    go (one Not a) p = last (one Not a) p
    go (one Id a) p = clash (cc)
    go (two o a b) p = last (two o a b) p

placed_numbered : (N : ℕ) (s : State) (i : Instr) (e : Expr ValNum) → Numbered (place N s i (some e)).state e i.dest
unfolding place number_dest
placed_numbered N s i e =
    let q = handle_overwrite N s i (some e) in
    go q (val_to_instr s i e) (get_val_num q.state e) refl
  where
    go :
        (q : Saved) (w : Instr) (o : Option ValNum) → get_val_num q.state e ≡ o → Numbered (number_dest q i e w o).state e i.dest
    go q w none p = new_numbered q.state i.dest e p
    go q w (some v) p = known_numbered q.state i.dest e v p

-- a value that is placed twice has one number
placed_again :
    (N : ℕ) (s t : State) (i j : Instr) (e : Expr ValNum) →
    Grown (place N s i (some e)).state t →
    (place N t j (some e)).state.env j.dest ≡ (place N s i (some e)).state.env i.dest
placed_again N s t i j e g =
    let first = (place N s i (some e)).state in
    let second = (place N t j (some e)).state in
    let h = placed_numbered N s i e in
    let k = placed_numbered N t j e in
    k.taken ∙ sym k.found ∙ grown_found first second e h.number (grown_on first t second g (grown_placed N t j (some e))) h.found ∙
    sym h.taken

-- ---- two instructions of one value
-- x = o a b where a and b have numbers; c: the code of o
compared :
    (N : ℕ) (t : NameIx → ℕ) (s : State) (i x a b c : ℕ) (o : Two) (v w : ValNum) →
    form t (gives i x c (a ∷ b ∷ [])) ≡ pure (two o (nm a) (nm b)) →
    Have s a b v w →
    instr_lvn N t s (gives i x c (a ∷ b ∷ [])) ≡
    place N s (rewrite_instr s (nm a ∷ nm b ∷ []) (gives i x c (a ∷ b ∷ []))) (some (simplify (known s) (two o v w)))
unfolding instr_lvn by_form make_val reads number_of
compared N t s i x a b c o v w f h =
    rw (f, both_seen s (nm a) (nm b) v w h.left h.right, h.left, h.right) refl

one_value :
    (s t : State) (o p : Two) (v w : ValNum) →
    Grown s t →
    v.0 < s.next →
    w.0 < s.next →
    ((f : ValNum → Option Val) → simplify f (two o v w) ≡ simplify f (two p w v)) →
    simplify (known t) (two p w v) ≡ simplify (known s) (two o v w)
unfolding simplify
one_value s t o p v w g l m h =
    ap₂ (λ x y. simplify2 p x y w v) (grown_known s t w g m) (grown_known s t v g l) ∙ sym (h (known s))

-- c and d: the codes of o and p
shares :
    (N : ℕ) (t : NameIx → ℕ) (s : State) (is : List Instr) (i j x y a b c d : ℕ) (o p : Two) →
    form t (gives i x c (a ∷ b ∷ [])) ≡ pure (two o (nm a) (nm b)) →
    form t (gives j y d (b ∷ a ∷ [])) ≡ pure (two p (nm b) (nm a)) →
    ((f : ValNum → Option Val) (v w : ValNum) → simplify f (two o v w) ≡ simplify f (two p w v)) →
    Numbers s →
    SharesNumber c d N t s is i j x y a b
shares N t s is i j x y a b c d o p of_first of_second same given v w h k =
    let is_first = gives i x c (a ∷ b ∷ []) in
    let s₁ = (instr_lvn N t s is_first).state in
    let s₂ = behind N t s₁ is in
    let g = grown_behind N t s₁ is in
    let e = simplify (known s) (two o v w) in
    let one_e : simplify (known s₂) (two p w v) ≡ e =
    one_value s s₂ o p v w (grown_on s s₁ s₂ (grown_instr N t s is_first) g) (given (nm a) v h.left) (given (nm b) w h.right)
    (λ f. same f v w) in
    let i₁ = rewrite_instr s (nm a ∷ nm b ∷ []) is_first in
    let i₂ = rewrite_instr s₂ (nm b ∷ nm a ∷ []) (gives j y d (b ∷ a ∷ [])) in
    let first : instr_lvn N t s is_first ≡ place N s i₁ (some e) = compared N t s i x a b c o v w of_first h in
    let second : instr_lvn N t s₂ (gives j y d (b ∷ a ∷ [])) ≡ place N s₂ i₂ (some e) =
    compared N t s₂ j y b a d p w v of_second (record { left = k.right; right = k.left }) ∙ ap (λ z. place N s₂ i₂ (some z)) one_e in
    ap (λ z. z.state.env (nm y)) second ∙
    placed_again N s s₂ i₁ i₂ e (subst (λ z. Grown z.state s₂) first g) ∙ ap (λ z. z.state.env (nm x)) (sym first)

pub shared_number :
    (c d : ℕ) → Exchanged c d → (N : ℕ) (t : NameIx → ℕ) (A k : ℕ) (js is : List Instr) (i j x y a b : ℕ) →
    SharesNumber c d N t (behind N t (start A k) js) is i j x y a b
unfolding form one_of two_of with_code code1 code2
shared_number c d e N t A k js is i j x y a b = go e (behind_numbers N t (start A k) js (start_numbers A k))
  where
    go : {c d : ℕ} {s : State} → Exchanged c d → Numbers s → SharesNumber c d N t s is i j x y a b
    go gt_lt h = shares N t _ is i j x y a b 7 6 Gt Lt refl refl greater_simplified h
    go lt_gt h = shares N t _ is i j x y a b 6 7 Lt Gt refl refl (λ f v w. sym (greater_simplified f w v)) h
    go ge_le h = shares N t _ is i j x y a b 9 8 Ge Le refl refl greater_equal_simplified h
    go le_ge h = shares N t _ is i j x y a b 8 9 Le Ge refl refl (λ f v w. sym (greater_equal_simplified f w v)) h
