-- Lists of answers in the house form read back, whatever their number.
use Prim.Native.Nat.{ℕ, zero, suc, ◌+◌, ◌%◌, ◌≤◌, ◌<◌}
use mathlib.Core.Path.{◌≡◌, refl, ap}
use mathlib.Core.List.{List, [], ◌∷◌, ◌++◌, map}
use mathlib.Core.Bool.{true, false}
use native.Mathlib.Omega.{arith}
use lib.ListN.{length, drop, length-append}
use lib.Dec.{ltb, leb, eqb}
use borrow.Author.Tests.{lt-ltb, le-ltb}
use Rattle.arith.specs.Value.{Val, type_of, in_range, has_type}
use Rattle.std.specs.Prelude.{Ok}
use Rattle.record.specs.declared.Refusal.TheVariants.{Limit}
use Rattle.record.specs.Reader.{got, Reader, give, ◌>>=◌}
use Rattle.record.specs.Write.{be, join}
use Rattle.record.specs.Tests.{type_test}
use Rattle.record.specs.Good.{Each}
use Rattle.record.proofs.Tests.{and_right, passes_need}
use Rattle.std.proofs.lemmas.Bool.{or_right}
use Rattle.record.proofs.Stands.{Reads, past, field_reads, give_reads, bind_reads, last_reads}
use Rattle.machine.specs.Machine.{Answer, value, go_on, halt}
use Rattle.running.specs.House.{go_on_byte, halt_byte, value_type, answer_test, value_answer, answer_behind, house_answer, to_end, answers, type_byte, value_bytes, answer_bytes, form_bytes, answers_bytes}
use Rattle.running.proofs.House.{byte_is_type, byte_no_mark, behind_reads, type_half, form_longer, in_form_reads}

-- ---- one answer
-- a value of some type that a name may have, go on, or halt
abbrev pub Answerable : Answer → Type 0
Answerable (value v) = (t : ℕ) × (type_test t ≡ Ok tt) × (has_type t v ≡ true)
Answerable go_on = Unit {0}
Answerable halt = Unit {0}

value_reads :
    (at : ℕ) (v : Val) →
    in_range v ≡ true →
    eqb (type_byte v) go_on_byte ≡ false →
    eqb (type_byte v) halt_byte ≡ false →
    answer_test (type_byte v) ≡ Ok tt →
    Reads house_answer at (value v) (value_bytes v)
unfolding house_answer value_bytes answer_behind value_answer
value_reads at v r m n k =
    bind_reads _ _ (field_reads 0 _ (type_byte v) answer_test k)
    (bind_reads _ _ (rw (m, n) (last_reads value (behind_reads _ v r))) give_reads)

answer_reads : (at : ℕ) (x : Answer) → Answerable x → Reads house_answer at x (answer_bytes x)
unfolding house_answer answer_bytes answer_behind answer_test be join
answer_reads at (value v) h =
    let l : leb (type_of v % 16) 3 ≡ true = type_half h.0 v h.1 h.2 in
    let r : in_range v ≡ true = and_right (eqb (type_of v) h.0) (in_range v) h.2 in
    let k : answer_test (type_byte v) ≡ Ok tt =
    passes_need _ Limit
    (or_right (eqb (type_byte v) go_on_byte) _
    (or_right (eqb (type_byte v) halt_byte) (value_type (type_byte v)) (byte_is_type v l))) in
    value_reads at v r (byte_no_mark go_on_byte v (omega arith) l) (byte_no_mark halt_byte v (omega arith) l) k
answer_reads at go_on h = bind_reads _ [] (field_reads 0 at go_on_byte answer_test refl) (last_reads (λ v. v) give_reads)
answer_reads at halt h = bind_reads _ [] (field_reads 0 at halt_byte answer_test refl) (last_reads (λ v. v) give_reads)

value_takes : (v : Val) → 0 < length (value_bytes v)
unfolding value_bytes join be
value_takes v = omega arith

answer_takes : (x : Answer) → 0 < length (answer_bytes x)
unfolding answer_bytes be
answer_takes (value v) = value_takes v
answer_takes go_on = omega arith
answer_takes halt = omega arith

-- ---- items up to the end; f: the bytes of an item, of which there is at least one
module _
    {A : Type 0} (r : Reader A) (f : A → List ℕ) (P : A → Type 0)
    (one : (at : ℕ) (x : A) → P x → Reads r at x (f x))
    (takes : (x : A) → 0 < length (f x)) where
  many : (xs : List A) → length xs ≤ length (join (map f xs))
  unfolding join
  many [] = omega arith
  many (x ∷ xs) = omega (arith, many xs, takes x, length-append (f x) (join (map f xs)))

  to_end_reads :
      (xs : List A) → Each (λ left x. P x) xs → (n : ℕ) → length xs ≤ n → (s : List ℕ) (at : ℕ) →
      drop at s ≡ join (map f xs) →
      at + length (join (map f xs)) ≡ length s →
      to_end n r s at ≡ got xs (at + length (join (map f xs)))
  unfolding to_end give ◌>>=◌ join
  to_end_reads [] h zero l s at d e = ap (got []) (omega arith)
  to_end_reads [] h (suc n) l s at d e =
      let b : ltb at (length s) ≡ false = le-ltb at (length s) (omega (arith, e)) in
      let z : at ≡ at + 0 = omega arith in
      rw b (ap (got []) z)
  to_end_reads (x ∷ xs) h zero l s at d e = absurd (omega (arith, l))
  to_end_reads (x ∷ xs) h (suc n) l s at d e =
      let rest = join (map f xs) in
      let w : length (f x ++ rest) ≡ length (f x) + length rest = length-append (f x) rest in
      let b : ltb at (length s) ≡ true = lt-ltb at (length s) (omega (arith, e, w, takes x)) in
      let p : r s at ≡ got x (at + length (f x)) = (one at x h.0).reads s rest d in
      let q : to_end n r s (at + length (f x)) ≡ got xs (at + length (f x) + length rest) =
      to_end_reads xs h.1 n (omega (arith, l)) s (at + length (f x)) (past s (f x) rest at d) (omega (arith, e, w)) in
      let z : at + length (f x) + length rest ≡ at + length (f x ++ rest) = omega (arith, w) in
      simp (b, p, q, z)

pub answers_back :
    (xs : List Answer) → Each (λ left x. Answerable x) xs → answers (answers_bytes xs) 0 ≡ got xs (length (answers_bytes xs))
unfolding answers answers_bytes
answers_back xs h =
    let items = join (map answer_bytes xs) in
    let n = length (form_bytes items) in
    let l : length xs ≤ n = omega (arith, many house_answer answer_bytes Answerable answer_reads answer_takes xs, form_longer items) in
    in_form_reads (to_end n house_answer) xs items
    (λ s at d e. to_end_reads house_answer answer_bytes Answerable answer_reads answer_takes xs h n l s at d e)
