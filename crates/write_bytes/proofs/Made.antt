-- Made names, written part by part.
use Prim.Native.Nat.{ℕ, ◌+◌, ◌-◌}
use mathlib.Core.Path.{◌≡◌, ap, ◌∙◌}
use mathlib.Core.List.{List, [], ◌∷◌, ◌++◌}
use native.Mathlib.Omega.{arith}
use lib.ListN.{length}
use Rattle.record.specs.Write.{be, join, name_bytes}
use Rattle.numbering.specs.Made.{digits, made_text}
use Rattle.write_bytes.specs.Put.{put, Wrote}
use Rattle.record.proofs.Stands.{length_be}
use Rattle.write_bytes.proofs.Wrote.{wrote_append, wrote_join, wrote_last, wrote_number, wrote_before}

-- `_`, the text, `_lvn`, the digits
pub text_wrote :
    {l m n o r : List ℕ} {i p j q : ℕ} (t : List ℕ) (k : ℕ) →
    m ≡ put l i (be 1 0x5F) →
    Wrote m n (i + 1) p t →
    Wrote n o p j (0x5F ∷ 0x6C ∷ 0x76 ∷ 0x6E ∷ []) →
    Wrote o r j q (digits k) →
    Wrote l r i q (made_text t k)
unfolding be made_text
text_wrote t k a b c d =
    wrote_append (be 1 0x5F ++ t) (0x5F ∷ 0x6C ∷ 0x76 ∷ 0x6E ∷ digits k)
    (wrote_append (be 1 0x5F) t (wrote_number 1 0x5F a) b)
    (wrote_append (0x5F ∷ 0x6C ∷ 0x76 ∷ 0x6E ∷ []) (digits k) c d)

-- the length is written behind the text
pub name_wrote :
    {l m n r : List ℕ} {i p : ℕ} (ty : ℕ) (t : List ℕ) →
    m ≡ put l i (be 1 ty) →
    Wrote m n (i + 2) p t →
    r ≡ put n (i + 1) (be 1 (p - i - 2)) →
    Wrote l r i p (name_bytes (record { type = ty; text = t }))
unfolding name_bytes join
name_wrote {l} {m} {n} {r} {i} {p} ty t a b c =
    let e : p - i - 2 ≡ length t = let f : p ≡ i + 2 + length t = b.end in omega arith in
    let g : Wrote m n (i + 1 + 1) p t = let h : i + 2 ≡ i + 1 + 1 = omega arith in rw h at b in
    wrote_join (be 1 ty) (be 1 (length t) ∷ t ∷ []) (wrote_number 1 ty a)
    (wrote_before 1 (be 1 (length t)) (join (t ∷ [])) (length_be 1 (length t)) (wrote_last t g) (c ∙ ap (λ (k : ℕ). put n (i + 1) (be 1 k)) e))
