-- What a reader gives and the bytes that it takes for it: the property `Takes` of readers, combinator by combinator.
-- A field takes the bytes of the number that it gives, where the bytes are bytes. Rests on the laws of lists and of division.
use Prim.Native.Nat.{ℕ, zero, suc, ◌+◌, ◌-◌, ◌^◌, ◌<◌, ◌≤◌}
use mathlib.Core.Path.{◌≡◌, refl, sym, ap, ◌∙◌, subst}
use mathlib.Core.List.{List, [], ◌∷◌, ◌++◌, map, append_assoc, append-nil}
use mathlib.Core.Bool.{Bool, true, false}
use native.Mathlib.Omega.{arith}
use native.Mathlib.Nat.{add-zero}
use Rattle.std.proofs.lemmas.Nat.{div-mul-add, mod-mul-add}
use lib.ListN.{length, get_or, take, drop, take-append-drop, length-append, length-drop}
use lib.Seq.{drop-cons, drop-drop, length-take-le}
use Rattle.record.specs.Reader.{Test}
use Rattle.record.specs.Record.{Bytes}
use Rattle.record.specs.Reader.{got, Reader, give, ◌>>=◌, here, num_at, field, text, if_there, times}
use Rattle.record.specs.Write.{be, join, when}
use Rattle.record.proofs.Gives.{num_at_below}
use Rattle.record.proofs.Stands.{length_be}
use Rattle.record.proofs.Fields.{field_tells, text_tells}
pub use Rattle.record.proofs.Fields.{bind_got}

-- the bytes from `at` to p satisfy P
pub record Between (s : List ℕ) (at p : ℕ) (P : List ℕ → Type 0) : Type 0 where
  pub taken : List ℕ
  pub stand : drop at s ≡ taken ++ drop p s
  pub ends : p ≡ at + length taken
  pub told : P taken

-- whatever r gives from s, with the bytes that it takes, satisfies P
pub record Takes (s : List ℕ) {A : Type 0} (r : Reader A) (P : A → List ℕ → Type 0) : Type 0 where
  pub takes : (at : ℕ) (x : A) (p : ℕ) → r s at ≡ got x p → Between s at p (P x)

-- ---- numbers
-- the number of w bytes is written as those bytes
pub be_num : (s : List ℕ) → Bytes s → (at w : ℕ) → w ≤ length s - at → drop at s ≡ be w (num_at s at w) ++ drop (at + w) s
unfolding be
be_num s h at zero k = ap (λ (n : ℕ). drop n s) (sym (add-zero at))
be_num s h at (suc zero) k =
    let one : suc at ≡ at + 1 = omega arith in
    drop-cons s at 0 (omega arith) ∙ ap (λ (n : ℕ). get_or s at 0 ∷ drop n s) one
be_num s h at (suc (suc w)) k =
    let m = 256 ^ suc w in
    let b = get_or s at 0 in
    let x = num_at s (at + 1) (suc w) in
    let l : x < m = num_at_below s h (at + 1) (suc w) in
    let next : drop (at + 1) s ≡ be (suc w) x ++ drop (at + 1 + suc w) s = be_num s h (at + 1) (suc w) (omega arith) in
    let one : suc at ≡ at + 1 = omega arith in
    let two : at + 1 + suc w ≡ at + suc (suc w) = omega arith in
    drop-cons s at 0 (omega arith)
    ∙ ap (λ (n : ℕ). b ∷ drop n s) one
    ∙ ap (◌∷◌ b) (next ∙ ap (λ (n : ℕ). be (suc w) x ++ drop n s) two)
    ∙ λ i. sym (div-mul-add b m x l) i ∷ be (suc w) (sym (mod-mul-add b m x l) i) ++ drop (at + suc (suc w)) s

module _ {s : List ℕ} where
  -- ---- fields
  pub field_takes : Bytes s → (w : ℕ) (test : ℕ → Test) → Takes s (field w test) (λ x b. be w x ≡ b)
  field_takes h w test =
      record {
        takes =
            λ at x p e.
            let t = field_tells w test s at x p e in
            record {
              taken = be w x;
              stand = be_num s h at w t.room ∙ λ i. be w (sym t.value i) ++ drop (sym t.ends i) s;
              ends = omega (arith, t.ends, length_be w x);
              told = refl;
            };
      }

  -- the n bytes at a place
  pub part_stands : (at n p : ℕ) → n ≤ length s - at → p ≡ at + n → Between s at p (λ b. (length b ≡ n) × (take n (drop at s) ≡ b))
  part_stands at n p l q =
      let k : length (take n (drop at s)) ≡ n = length-take-le n (drop at s) (omega (arith, l, length-drop at s)) in
      record {
        taken = take n (drop at s);
        stand = sym (take-append-drop n (drop at s)) ∙ λ i. take n (drop at s) ++ (drop-drop n at s ∙ ap (λ (o : ℕ). drop o s) (sym q)) i;
        ends = omega (arith, q, k);
        told = (k, refl);
      }

  pub text_takes : (n : ℕ) (test : List ℕ → Test) → Takes s (text n test) (λ t b. (length t ≡ n) × (t ≡ b))
  text_takes n test =
      record {
        takes =
            λ at x p e.
            let t = text_tells n test s at x p e in
            let b = part_stands at n p t.room t.ends in
            let same = t.value ∙ b.told.1 in
            record { taken = b.taken; stand = b.stand; ends = b.ends; told = (ap length same ∙ b.told.0, same) };
      }

  -- ---- combinators
  pub give_takes : {A : Type 0} {x : A} (P : A → List ℕ → Type 0) → P x [] → Takes s (give x) P
  unfolding give
  give_takes {A} {x} P h =
      record {
        takes = λ at y p e.
            let j : x ≡ y = cc in
            let q : at ≡ p = cc in
            record {
              taken = [];
              stand = ap (λ (n : ℕ). drop n s) q;
              ends = sym q ∙ sym (add-zero at);
              told = subst (λ z. P z []) j h;
            };
      }

  -- the bytes of the second stand behind those of the first
  pub bind_takes :
      {A B : Type 0} {r : Reader A} (f : A → Reader B) (P : A → List ℕ → Type 0) {Q : B → List ℕ → Type 0} →
      Takes s r P →
      ((x : A) (b : List ℕ) → P x b → Takes s (f x) (λ y c. Q y (b ++ c))) →
      Takes s (r >>= f) Q
  bind_takes {A} {B} {r} f P {Q} d e =
      record {
        takes = λ at y p h.
            let k = bind_got r f s at y p h in
            let one = d.takes at k.value k.place k.first in
            let two = (e k.value one.taken one.told).takes k.place y p k.second in
            record {
              taken = one.taken ++ two.taken;
              stand = one.stand ∙ ap (λ l. one.taken ++ l) two.stand ∙ sym (append_assoc one.taken two.taken (drop p s));
              ends = omega (arith, one.ends, two.ends, length-append one.taken two.taken);
              told = two.told;
            };
      }

  pub last_takes :
      {A B : Type 0} {r : Reader A} (g : A → B) (P : A → List ℕ → Type 0) {Q : B → List ℕ → Type 0} →
      Takes s r P →
      ((x : A) (b : List ℕ) → P x b → Q (g x) b) →
      Takes s (r >>= λ x. give (g x)) Q
  last_takes {A} {B} {r} g P {Q} d e =
      bind_takes _ P d (λ x b h. give_takes (λ y c. Q y (b ++ c)) (subst (Q (g x)) (sym (append-nil b)) (e x b h)))

  pub here_takes :
      {B : Type 0} (f : ℕ → Reader B) {Q : B → List ℕ → Type 0} → ((at : ℕ) → Takes s (f at) Q) → Takes s (here >>= f) Q
  unfolding ◌>>=◌ here
  here_takes f h = record { takes = λ at y p e. (h at).takes at y p e }

  -- a part that is not there takes nothing
  pub there_takes :
      {A : Type 0} (b : Bool) (d : A) {r : Reader A} (f : A → List ℕ) →
      Takes s r (λ x bs. f x ≡ bs) →
      Takes s (if_there b d r) (λ x bs. when b (f x) ≡ bs)
  unfolding if_there when
  there_takes true d f h = h
  there_takes false d f h = give_takes _ refl

  -- f: the bytes of an item
  pub times_takes :
      {A : Type 0} (r : ℕ → Reader A) (f : A → List ℕ) →
      ((left : ℕ) → Takes s (r left) (λ x b. f x ≡ b)) →
      (n : ℕ) →
      Takes s (times n r) (λ xs b. (length xs ≡ n) × (join (map f xs) ≡ b))
  unfolding times join
  times_takes r f h zero = give_takes _ (refl, refl)
  times_takes r f h (suc n) =
      bind_takes _ (λ x b. f x ≡ b) (h n) (λ x b hx.
      last_takes _ _ (times_takes r f h n) (λ xs c hs. (ap suc hs.0, λ i. hx i ++ hs.1 i)))
