-- A program that answers every longer input alike may read one byte more than the longest that it takes: what it writes then is what it has
-- to write for the whole input.
use Rattle.std.proofs.Common.{◌≡◌, ℕ, ◌+◌, ◌<◌, ◌≤◌, List, [], ◌++◌, ◌⊎◌, Option, None, Some, IfSome, Result, Ok, Err, OnOk, length, take, append-nil, length-append, length-take-le, arith, sym, ap, ◌∙◌, subst, inl, inr, eq-or-lt_of_le}
use Rattle.std.specs.Io.KnownBytes.{Consumes, Appends, IsAtEnd}

-- output: what the program has to write for an input; most: the bytes of the longest that it takes; v: what it writes for any longer one
module _ (output : List ℕ → List ℕ) (most : ℕ) (v : List ℕ) (over : (s : List ℕ) → most < length s → output s ≡ v) where
  -- n bytes were read, of a reader that held xs and holds ys
  output_read :
      (xs ys s : List ℕ) (n : ℕ) → length s ≡ most + 1 → n ≤ length s → xs ≡ take n s ++ ys → (n < length s → ys ≡ []) →
      output (take n s) ≡ output xs
  output_read xs ys s n long within e end = go (eq-or-lt_of_le within)
    where
      go : (n ≡ length s) ⊎ (n < length s) → output (take n s) ≡ output xs
      go (inl q) =
          let few : most < length (take n s) = omega (arith, length-take-le n s within) in
          let many : most < length (take n s ++ ys) = omega (arith, length-append (take n s) ys) in
          over (take n s) few ∙ sym (over (take n s ++ ys) many) ∙ ap output (sym e)
      go (inr q) = ap output (sym (e ∙ ap (λ l. take n s ++ l) (end q) ∙ append-nil (take n s)))

  wrote_read :
      (a b o w : Option (List ℕ)) (s out : List ℕ) (n : ℕ) → length s ≡ most + 1 → n ≤ length s → Consumes a b (take n s) →
      (n < length s → IsAtEnd b) → out ≡ output (take n s) → Appends o w out → IfSome a (λ xs. Appends o w (output xs))
  wrote_read None b o w s out n long within read end e h = tt
  wrote_read (Some xs) None o w s out n long within read end e h = absurd read
  wrote_read (Some xs) (Some ys) o w s out n long within read end e h =
      subst (Appends o w) (e ∙ output_read xs ys s n long within read end) h

  -- a and b: what the reader held and holds; o and w: what the writer held and holds
  pub wrote_whole :
      {T E : Type 0} (r : Result T E) (a b o w : Option (List ℕ)) (s out : List ℕ) (n : ℕ) →
      length s ≡ most + 1 →
      n ≤ length s →
      Consumes a b (take n s) →
      (n < length s → IsAtEnd b) →
      out ≡ output (take n s) →
      OnOk r (Appends o w out) →
      OnOk r (IfSome a (λ xs. Appends o w (output xs)))
  wrote_whole (Ok x) a b o w s out n long within read end e h = wrote_read a b o w s out n long within read end e h
  wrote_whole (Err x) a b o w s out n long within read end e h = tt
