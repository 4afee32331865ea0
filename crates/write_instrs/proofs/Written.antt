-- The parts of an instruction, written one behind the other, are its bytes.
use Prim.Native.Nat.{ℕ, ◌+◌, ◌<◌, ◌≤◌}
use mathlib.Core.Path.{◌≡◌, refl, sym, ap, ◌∙◌, subst}
use mathlib.Core.List.{List, [], ◌∷◌, ◌++◌, map, append_assoc, append-nil}
use mathlib.Core.Bool.{Bool, true, false, not}
use native.Mathlib.Omega.{arith}
use native.Mathlib.Numerals.{add-one}
use lib.ListN.{length, get_or, drop, drop_of_length-le, length-map}
use lib.Seq.{drop-cons}
use Rattle.std.specs.Prelude.{Option}
use Rattle.std.specs.Bool.{then_some}
use Rattle.record.specs.declared.Shape.{Shape}
use Rattle.record.specs.declared.Instruction.{Instruction}
use Rattle.record.specs.Record.{nm, Lit, Instr}
use Rattle.record.specs.Shape.{shape_of}
use Rattle.record.specs.Write.{be, join, when, index_bytes, literal_bytes, argument_bytes, operand_bytes, instr_bytes}
use Rattle.record.specs.View.{code_of, row_of, instr_of}
use Rattle.write_bytes.specs.Put.{put, Wrote}
use Rattle.write_bytes.proofs.Wrote.{wrote_join, wrote_last, wrote_number, wrote_append}
use Rattle.write_instrs.specs.There.{if_there, value_bytes}

-- ---- a part that is there or not
there_when : {A : Type 0} (f : A → List ℕ) (b : Bool) (x : A) → if_there f (then_some b x) ≡ when b (f x)
unfolding when
there_when f true x = refl
there_when f false x = refl

module _ {l m : List ℕ} {i p : ℕ} (b : Bool) (x : Instr) where
  pub literal_there : b ≡ true → Wrote l m i p (literal_bytes x.lit) → Wrote l m i p (value_bytes b x)
  unfolding when
  literal_there e w = rw (e, append-nil) w

  pub args_there : b ≡ false → Wrote l m i p (argument_bytes x.args) → Wrote l m i p (value_bytes b x)
  unfolding when
  args_there e w = rw e w

-- ---- numbers in a row
pub row_less :
    (xs : List ℕ) (i : ℕ) → i < length xs →
    join (map (be 2) (drop i xs)) ≡ be 2 (get_or xs i 0) ++ join (map (be 2) (drop (i + 1) xs))
unfolding join
row_less xs i h =
    ap (λ (l : List ℕ). join (map (be 2) l)) (drop-cons xs i 0 h ∙ ap (λ (k : ℕ). get_or xs i 0 ∷ drop k xs) (sym (add-one i)))

pub row_none : (xs : List ℕ) (i : ℕ) → length xs ≤ i → join (map (be 2) (drop i xs)) ≡ []
unfolding join
row_none xs i h = ap (λ (l : List ℕ). join (map (be 2) l)) (drop_of_length-le xs h)

indexes : (xs : List ℕ) → map index_bytes (map nm xs) ≡ map (be 2) xs
unfolding index_bytes
indexes [] = refl
indexes (x ∷ xs) = ap (λ (l : List (List ℕ)). be 2 x ∷ l) (indexes xs)

-- ---- literal and arguments
pub literal_wrote :
    {l m r : List ℕ} {i k b : ℕ} (x : Lit) →
    k ≡ x.kind →
    b ≡ x.bits →
    m ≡ put l i (be 1 k) →
    r ≡ put m (i + 1) (be 8 b) →
    Wrote l r i (i + 9) (literal_bytes x)
unfolding literal_bytes
literal_wrote {l} {m} {r} {i} {k} {b} x e f g h =
    let d : i + 1 + 8 ≡ i + 9 = omega arith in
    let w : Wrote l r i (i + 1 + 8) (join (be 1 k ∷ be 8 b ∷ [])) =
    wrote_join (be 1 k) (be 8 b ∷ []) (wrote_number 1 k g) (wrote_last (be 8 b) (wrote_number 8 b h)) in
    rw (d, e, f) at w

pub args_wrote :
    {l m r : List ℕ} {i p : ℕ} (xs : List ℕ) →
    m ≡ put l i (be 1 (length xs)) →
    Wrote m r (i + 1) p (join (map (be 2) xs)) →
    Wrote l r i p (argument_bytes (map nm xs))
unfolding argument_bytes
args_wrote xs a b =
    rw (length-map xs nm, indexes xs)
    (wrote_join (be 1 (length xs)) (join (map (be 2) xs) ∷ []) (wrote_number 1 (length xs) a) (wrote_last (join (map (be 2) xs)) b))

-- ---- all that stands behind the code
pub operands_wrote :
    {l m₁ m₂ m₃ r : List ℕ} {i p₁ p₂ p₃ p : ℕ} {d c : Option ℕ} (sh : Shape) (x : Instruction) →
    d ≡ then_some sh.dest x.dest.0 →
    c ≡ then_some sh.callee x.callee →
    Wrote l m₁ i p₁ (if_there (be 2) d) →
    Wrote m₁ m₂ p₁ p₂ (value_bytes sh.literal (instr_of x)) →
    Wrote m₂ m₃ p₂ p₃ (if_there (be 2) c) →
    Wrote m₃ r p₃ p (join (map (be 2) (row_of x.blocks))) →
    Wrote l r i p (operand_bytes sh (instr_of x))
unfolding operand_bytes instr_of index_bytes join
operands_wrote {l} {m₁} {m₂} {m₃} {r} {i} {p₁} {p₂} {p₃} {p} sh x dest callee a b c f =
    let v = instr_of x in
    let callee_too : Wrote m₂ m₃ p₂ p₃ (when sh.callee (be 2 x.callee)) =
    subst (Wrote m₂ m₃ p₂ p₃) (ap (if_there (be 2)) callee ∙ there_when (be 2) sh.callee x.callee) c in
    let dest_too : Wrote l m₁ i p₁ (when sh.dest (be 2 x.dest.0)) =
    subst (Wrote l m₁ i p₁) (ap (if_there (be 2)) dest ∙ there_when (be 2) sh.dest x.dest.0) a in
    wrote_append _ _ dest_too
    (subst (Wrote m₁ r p₁ p) (append_assoc (when sh.literal (literal_bytes v.lit)) (when (not sh.literal) (argument_bytes v.args)) _)
    (wrote_append _ _ b (wrote_append _ _ callee_too (wrote_last _ f))))

pub instr_wrote :
    {l m n r : List ℕ} {i p : ℕ} (w code : ℕ) (sh : Shape) (x : Instruction) →
    code ≡ code_of x.op →
    sh ≡ shape_of code →
    m ≡ put l i (be w x.id) →
    n ≡ put m (i + w) (be 1 code) →
    Wrote n r (i + w + 1) p (operand_bytes sh (instr_of x)) →
    Wrote l r i p (instr_bytes w (instr_of x))
unfolding instr_bytes instr_of
instr_wrote {l} {m} {n} {r} {i} {p} w code sh x e f a b c =
    let d : n ≡ put m (i + w) (be 1 (code_of x.op)) = b ∙ ap (λ (k : ℕ). put m (i + w) (be 1 k)) e in
    wrote_join _ _ (wrote_number w x.id a) (wrote_join _ _ (wrote_number 1 (code_of x.op) d)
    (wrote_last _ (subst (λ (t : Shape). Wrote n r (i + w + 1) p (operand_bytes t (instr_of x))) (f ∙ ap shape_of e) c)))
