-- How many bytes a made name has, by the place of the name that it is made of, and made names one after the other.
use Prim.Native.Nat.{ℕ, zero, suc, ◌+◌, ◌<◌, ◌≤◌}
use mathlib.Core.Path.{◌≡◌, sym, ap, ◌∙◌}
use mathlib.Core.List.{List, [], ◌∷◌, ◌++◌}
use native.Mathlib.Omega.{arith}
use lib.ListN.{length, get_or, length-append}
use Rattle.record.specs.Record.{nm, Name, plain}
use Rattle.record.specs.Write.{name_bytes}
use Rattle.record.specs.Decode.{behind, name_from, name_end, names_count, names_end, record_from}
use Rattle.record.proofs.Sizes.{name_size}
use Rattle.numbering.specs.Made.{digits, made_text, made_name}
use Rattle.write_names.proofs.Copied.{text_whole}
use Rattle.write_names.proofs.Laws.{made_at, names_left, names_less, names_none}

-- a name that lies inside has a text as long as is said before it
text_there :
    (s : List ℕ) (n at x : ℕ) → behind (name_end s) at n ≤ length s → x < n →
    length (name_from s (behind (name_end s) at x)).text ≡ get_or s (behind (name_end s) at x + 1) 0
unfolding behind
text_there s zero at x h j = absurd (omega arith)
text_there s (suc n) at zero h j = text_whole s n at h
text_there s (suc n) at (suc x) h j = text_there s n (name_end s at) x h (omega arith)

text_size : (t : List ℕ) (k : ℕ) → length (made_text t k) ≡ 5 + length t + length (digits k)
unfolding made_text
text_size t k =
    let a = length-append (0x5F ∷ t) ((0x5F ∷ 0x6C ∷ 0x76 ∷ 0x6E ∷ []) ++ digits k) in
    let b = length-append (0x5F ∷ 0x6C ∷ 0x76 ∷ 0x6E ∷ []) (digits k) in
    omega (arith, a, b)

-- p: the place of the name x, n: the length of its text, d: how many digits k has
pub made_size :
    (s : List ℕ) (k x p n d : ℕ) → x < names_count s → names_end s ≤ length s →
    p ≡ behind (name_end s) 8 x → n ≡ get_or s (p + 1) 0 → d ≡ length (digits k) →
    7 + n + d ≡ length (name_bytes (made_name (plain (record_from s)) k (nm x)))
unfolding names_end
made_size s k x p n d j h ep en ed =
    let at = behind (name_end s) 8 x in
    let t = (name_from s at).text in
    let whole : length t ≡ get_or s (at + 1) 0 = text_there s (names_count s) 8 x h j in
    let same : get_or s (p + 1) 0 ≡ get_or s (at + 1) 0 = ap (λ (z : ℕ). get_or s (z + 1) 0) ep in
    let size : length (name_bytes (record { type = (name_from s at).type; text = made_text t k })) ≡ 2 + length (made_text t k) =
    name_size (record { type = (name_from s at).type; text = made_text t k }) in
    let e : 7 + n + d ≡ length (name_bytes (record { type = (name_from s at).type; text = made_text t k })) =
    omega (arith, en, ed, same, whole, size, text_size t k) in
    e ∙ ap (λ (y : Name). length (name_bytes y)) (sym (made_at s k x j))

-- ---- a loop over a row
module _ (s row : List ℕ) (i : ℕ) where
  pub size_less :
      (size m : ℕ) → i < length row →
      m ≡ length (name_bytes (made_name (plain (record_from s)) i (nm (get_or row i 0)))) →
      size + m + length (names_left s row (i + 1)) ≡ size + length (names_left s row i)
  size_less size m h e =
      let first = name_bytes (made_name (plain (record_from s)) i (nm (get_or row i 0))) in
      let rest = names_left s row (i + 1) in
      omega (arith, e, ap length (names_less s row i h), length-append first rest)

  pub size_none : (size : ℕ) → length row ≤ i → size ≡ size + length (names_left s row i)
  size_none size h = omega (arith, ap length (names_none s row i h))
