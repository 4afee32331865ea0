-- A decimal number, digit by digit.
use Rattle.std.proofs.Common.{ℕ, suc, ◌+◌, ◌-◌, ◌*◌, ◌%◌, ◌^◌, ◌≡◌, ◌≢◌, Bool, true, false, MatchBool, List, [], ◌∷◌, length, take, drop, refl, sym, ap, ◌∙◌, arith}
use Rattle.std.specs.List.{fold, take_while, prefix_len}
use Rattle.std.specs.Char.{is_ascii_digit}
use Rattle.std.proofs.lemmas.Grind.{common_steps}
use Rattle.replay_lines.specs.Decimal.{behind_space}

abbrev pub with_digit : ℕ → ℕ → ℕ
with_digit n c = n * 10 + (c - 0x30)

-- the value of the digits that come next, n standing before them
abbrev pub value_after : ℕ → List ℕ → ℕ
value_after n s = fold with_digit n (take_while is_ascii_digit s) % 2 ^ 64

-- what is behind them
abbrev pub behind : List ℕ → List ℕ
behind s = drop (length (take_while is_ascii_digit s)) s

-- the last 64 bits are of the last 64 bits
fold_wraps : (ds : List ℕ) (a b : ℕ) → a % 2 ^ 64 ≡ b % 2 ^ 64 → fold with_digit a ds % 2 ^ 64 ≡ fold with_digit b ds % 2 ^ 64
fold_wraps [] a b h = h
fold_wraps (d ∷ ds) a b h = fold_wraps ds (with_digit a d) (with_digit b d) (omega arith)

-- one more digit
digits_more : (c : ℕ) (s : List ℕ) → is_ascii_digit c ≡ true → take_while is_ascii_digit (c ∷ s) ≡ c ∷ take_while is_ascii_digit s
digits_more c s h =
    let n = prefix_len is_ascii_digit s in
    let next : 1 + n ≡ suc n = omega arith in
    rw h (ap (λ k. take k (c ∷ s)) next)

pub value_more :
    (n m c : ℕ) (s : List ℕ) → is_ascii_digit c ≡ true → m ≡ (n * 10 % 2 ^ 64 + (c - 0x30)) % 2 ^ 64 →
    value_after m s ≡ value_after n (c ∷ s)
value_more n m c s h e =
    fold_wraps (take_while is_ascii_digit s) m (with_digit n c) (omega arith)
    ∙ sym (ap (λ ds. fold with_digit n ds % 2 ^ 64) (digits_more c s h))

pub behind_more : (c : ℕ) (s : List ℕ) → is_ascii_digit c ≡ true → behind s ≡ behind (c ∷ s)
behind_more c s h = sym (ap (λ ds. drop (length ds) (c ∷ s)) (digits_more c s h))

-- no more
pub behind_none : (c : ℕ) (s : List ℕ) → is_ascii_digit c ≡ false → c ∷ s ≡ behind (c ∷ s)
behind_none c s h = rw h refl

-- what a skipped space leaves
pub skipped :
    (b : Bool) (s t : List ℕ) → MatchBool b (s ≡ 0x20 ∷ t) ((t ≡ s) × ((rest : List ℕ) → s ≢ 0x20 ∷ rest)) → t ≡ behind_space s
skipped true s t h = rw h refl
skipped false [] t h = h.0
skipped false (c ∷ s) t h = grind (arith, common_steps, h.0, h.1 s)
