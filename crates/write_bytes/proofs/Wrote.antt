-- Writes in a row, each from where the one before it ends: whole texts, numbers, lists of parts, and loops.
use Prim.Native.Nat.{ℕ, ◌+◌}
use mathlib.Core.Path.{◌≡◌, refl, sym, ap, ◌∙◌}
use mathlib.Core.List.{List, [], ◌∷◌, ◌++◌, append-nil}
use native.Mathlib.Omega.{arith}
use lib.ListN.{length, length-append}
use Rattle.record.specs.Write.{be, join}
use Rattle.write_bytes.specs.Put.{put, Wrote}
use Rattle.write_bytes.proofs.Put.{put_put, put_before}
use Rattle.record.proofs.Stands.{length_be}

pub wrote_nothing : {l : List ℕ} {i : ℕ} → Wrote l l i i []
unfolding put
wrote_nothing {l} {i} = record { out = refl; end = omega arith }

module _ {l m : List ℕ} {i p : ℕ} where
  pub wrote_append : {r : List ℕ} {q : ℕ} (xs ys : List ℕ) → Wrote l m i p xs → Wrote m r p q ys → Wrote l r i q (xs ++ ys)
  wrote_append {r} {q} xs ys a b =
      record {
        out = b.out ∙ ap (λ (k : ℕ). put m k ys) a.end ∙ ap (λ (n : List ℕ). put n (i + length xs) ys) a.out ∙ put_put l i xs ys;
        end = let e : length (xs ++ ys) ≡ length xs + length ys = length-append xs ys in
            let f : p ≡ i + length xs = a.end in
            let g : q ≡ p + length ys = b.end in
            omega arith;
      }

  pub wrote_join :
      {r : List ℕ} {q : ℕ} (xs : List ℕ) (yss : List (List ℕ)) →
      Wrote l m i p xs →
      Wrote m r p q (join yss) →
      Wrote l r i q (join (xs ∷ yss))
  unfolding join
  wrote_join xs yss a b = wrote_append xs (join yss) a b

  pub wrote_last : (xs : List ℕ) → Wrote l m i p xs → Wrote l m i p (join (xs ∷ []))
  unfolding join
  wrote_last xs a = rw append-nil a

-- a number of k bytes
pub wrote_number : {l m : List ℕ} {i : ℕ} (k x : ℕ) → m ≡ put l i (be k x) → Wrote l m i (i + k) (be k x)
wrote_number {l} {m} {i} k x e = record { out = e; end = ap (λ (n : ℕ). i + n) (sym (length_be k x)) }

-- what stands first, k bytes, is written behind the rest
pub wrote_before :
    {l m r : List ℕ} {i p : ℕ} (k : ℕ) (xs ys : List ℕ) →
    length xs ≡ k →
    Wrote l m (i + k) p ys →
    r ≡ put m i xs →
    Wrote l r i p (xs ++ ys)
wrote_before {l} {m} {r} {i} {p} k xs ys e a b =
    record {
      out =
          b ∙ ap (λ (n : List ℕ). put n i xs) a.out ∙ ap (λ (n : ℕ). put (put l (i + n) ys) i xs) (sym e) ∙ put_before l i xs ys;
      end =
          let d : length (xs ++ ys) ≡ length xs + length ys = length-append xs ys in
          let f : p ≡ i + k + length ys = a.end in
          omega arith;
    }

-- ---- loops: what is left to write from here gives the whole
pub record Rest (l : List ℕ) (i : ℕ) (xs l₀ : List ℕ) (i₀ : ℕ) (whole : List ℕ) : Type 0 where
  pub out : put l i xs ≡ put l₀ i₀ whole
  pub end : i + length xs ≡ i₀ + length whole

pub rest_all : {l : List ℕ} {i : ℕ} {xs : List ℕ} → Rest l i xs l i xs
rest_all = record { out = refl; end = refl }

module _ {l l₀ whole : List ℕ} {i i₀ : ℕ} where
  pub rest_less :
      {m : List ℕ} {p : ℕ} (xs ys zs : List ℕ) →
      zs ≡ xs ++ ys →
      Wrote l m i p xs →
      Rest l i zs l₀ i₀ whole →
      Rest m p ys l₀ i₀ whole
  rest_less {m} {p} xs ys zs e a b =
      record {
        out = (wrote_append xs ys a (record { out = refl; end = refl })).out ∙ ap (put l i) (sym e) ∙ b.out;
        end =
            let d : p ≡ i + length xs = a.end in
            let f : length zs ≡ length xs + length ys = ap length e ∙ length-append xs ys in
            let g : i + length zs ≡ i₀ + length whole = b.end in
            omega arith;
      }

  pub rest_none : (xs : List ℕ) → xs ≡ [] → Rest l i xs l₀ i₀ whole → Wrote l₀ l i₀ i whole
  unfolding put
  rest_none xs e b =
      record {
        out = sym (ap (put l i) e) ∙ b.out;
        end =
            let f : length xs ≡ 0 = ap length e in
            let g : i + length xs ≡ i₀ + length whole = b.end in
            omega arith;
      }
