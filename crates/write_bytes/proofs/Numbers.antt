-- Big-endian numbers by their bytes, and the width of an id.
use Prim.Native.Nat.{ℕ, zero, suc, ◌+◌, ◌-◌, ◌*◌, ◌/◌, ◌%◌, ◌^◌, ◌<◌, ◌≤◌}
use mathlib.Core.Path.{◌≡◌, refl, sym, ap, ◌∙◌}
use mathlib.Core.Logic.{inl, inr}
use mathlib.Core.Bool.{Bool, true, false, cond}
use mathlib.Core.List.{List, ◌∷◌}
use lib.ListN.{take, drop}
use lib.Dec.{ltb, eqb}
use borrow.Author.Tests.{lt-ltb}
use native.Mathlib.Omega.{arith}
use native.Mathlib.Nat.{add_assoc, add-mul, one-mul, mul_comm, mul_assoc, mul-le-mul_right, one-le-pow, pow-suc, mod-lt, mod-mod, mod-eq_of_lt, div-eq_of_lt, div-add-mod', mul-add-mod_self_right, mul-add-div_right}
use Rattle.record.specs.Record.{id_bytes}
use Rattle.record.specs.Write.{be}
use Rattle.std.specs.Int.{byte_at, bytes_high_first}
use Rattle.write_bytes.specs.Put.{put, IdWidth}

-- ---- digits in two bases
-- the low digits of x in base p * q, by those in base p
module _ (x q p : ℕ) (hq : 0 < q) (hp : 0 < p) where
  rest_under : x / p % q * p + x % p < q * p
  rest_under =
      let a : x / p % q < q = mod-lt (x / p) hq in
      let b : x % p < p = mod-lt x hp in
      let c : (x / p % q + 1) * p ≤ q * p = mul-le-mul_right p (omega arith) in
      let d : (x / p % q + 1) * p ≡ x / p % q * p + p = add-mul (x / p % q) 1 p ∙ ap (λ (n : ℕ). x / p % q * p + n) (one-mul p) in
      omega arith

  mod_both : x % (q * p) ≡ x / p % q * p + x % p
  mod_both =
      let e : x ≡ x / p / q * (q * p) + (x / p % q * p + x % p) =
      sym (div-add-mod' x p) ∙ ap (λ (n : ℕ). n * p + x % p) (sym (div-add-mod' (x / p) q)) ∙
      ap (λ (n : ℕ). n + x % p) (add-mul (x / p / q * q) (x / p % q) p ∙ ap (λ (n : ℕ). n + x / p % q * p) (mul_assoc (x / p / q) q p)) ∙
      add_assoc (x / p / q * (q * p)) (x / p % q * p) (x % p) in
      ap (λ (n : ℕ). n % (q * p)) e ∙ mul-add-mod_self_right (x / p / q) (q * p) (x / p % q * p + x % p) ∙ mod-eq_of_lt rest_under

  -- the digits of x in base p * q: those in base p without the last, then the last
  mod_both_div : x % (q * p) / p ≡ x / p % q
  mod_both_div =
      ap (λ (n : ℕ). n / p) mod_both ∙ mul-add-div_right hp (x / p % q) (x % p) ∙
      ap (λ (n : ℕ). x / p % q + n) (div-eq_of_lt (mod-lt x hp)) ∙ (let e : x / p % q + 0 ≡ x / p % q = omega arith in e)

  mod_both_mod : x % (q * p) % p ≡ x % p
  mod_both_mod = ap (λ (n : ℕ). n % p) mod_both ∙ mul-add-mod_self_right (x / p % q) p (x % p) ∙ mod-mod x p

-- ---- the bytes of a number, as the integers' own `to_be_bytes` has them
be_low : (w x : ℕ) → bytes_high_first (suc w) x ≡ be (suc w) (x % 256 ^ suc w)
unfolding be
be_low zero x = refl
be_low (suc w) x =
    let p = 256 ^ suc w in
    let hp : 0 < p = one-le-pow (suc w) 256 (omega arith) in
    let e : 256 ^ suc (suc w) ≡ 256 * p = pow-suc 256 (suc w) ∙ mul_comm p 256 in
    let f : x % 256 ^ suc (suc w) / p ≡ x / p % 256 = ap (λ (n : ℕ). x % n / p) e ∙ mod_both_div x 256 p (omega arith) hp in
    let g : x % 256 ^ suc (suc w) % p ≡ x % p = ap (λ (n : ℕ). x % n % p) e ∙ mod_both_mod x 256 p (omega arith) hp in
    ap (λ (l : List ℕ). x / p % 256 ∷ l) (be_low w x) ∙ rw (f, g)

-- the last n of m bytes
all_bytes : (n x : ℕ) → take n (bytes_high_first n x) ≡ bytes_high_first n x
all_bytes zero x = refl
all_bytes (suc n) x = ap (λ (l : List ℕ). byte_at n x ∷ l) (all_bytes n x)

low_bytes : (m k n x : ℕ) → m ≡ k + n → take n (drop k (bytes_high_first m x)) ≡ bytes_high_first n x
low_bytes m zero n x e = let f : m ≡ n = omega arith in ap (λ (m : ℕ). take n (bytes_high_first m x)) f ∙ all_bytes n x
low_bytes zero (suc k) n x e = absurd (omega arith)
low_bytes (suc m) (suc k) n x e = low_bytes m k n x (omega arith)

number_bytes : (n x : ℕ) → x < 256 ^ n → bytes_high_first n x ≡ be n x
unfolding be
number_bytes zero x g = refl
number_bytes (suc w) x g = be_low w x ∙ ap (be (suc w)) (mod-eq_of_lt g)

-- put in n bytes, from what is put by the last of the eight
pub bytes_put :
    (l : List ℕ) (i n x : ℕ) {m bs : List ℕ} → n ≤ 8 → x < 256 ^ n → bs ≡ bytes_high_first 8 x →
    m ≡ put l i (take (8 - (8 - n)) (drop (8 - n) bs)) → m ≡ put l i (be n x)
bytes_put l i n x h g e p =
    let k : 8 - (8 - n) ≡ n = omega arith in
    p ∙ ap (put l i) (rw (k, e) (low_bytes 8 (8 - n) n x (omega arith)) ∙ number_bytes n x g)

-- ---- the width of an id
pub width_four : {w : ℕ} → IdWidth w → (w ≡ 8 → ⊥) → w ≡ 4
width_four (inl e) h = e
width_four (inr e) h = absurd (h e)

pub width_most : {w : ℕ} → IdWidth w → w ≤ 8
width_most (inl e) = omega arith
width_most (inr e) = omega arith

-- whether a number has room
pub fits_eight : (w x : ℕ) → w ≡ 8 → x < 256 ^ 8 → true ≡ ltb x (256 ^ w)
fits_eight w x e h = rw e (sym (lt-ltb x (256 ^ 8) h))

pub fits_four : (w x : ℕ) → IdWidth w → (w ≡ 8 → ⊥) → ltb x (256 ^ 4) ≡ ltb x (256 ^ w)
fits_four w x d n = ap (λ (k : ℕ). ltb x (256 ^ k)) (sym (width_four d n))

pub id_width : (version : ℕ) → IdWidth (id_bytes version)
unfolding id_bytes
id_width version = go (eqb version 2)
  where
    go : (b : Bool) → IdWidth (cond b 8 4)
    go true = inr refl
    go false = inl refl
