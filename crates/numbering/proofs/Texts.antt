-- The texts of made names: well formed, reserved, at most ten bytes longer, and different for different K. Rests on the laws of digits.
use Prim.Native.Nat.{ℕ, zero, suc, ◌+◌, ◌-◌, ◌<◌, ◌≤◌}
use mathlib.Core.Path.{◌≡◌, refl, sym, ap, ◌∙◌}
use mathlib.Core.List.{List, [], ◌∷◌, ◌++◌, append_assoc}
use mathlib.Core.Bool.{true, false, ◌||◌}
use native.Mathlib.Omega.{arith}
use native.Mathlib.Nat.{add-suc, add-zero}
use lib.ListN.{length, get_or, drop, length-append}
use lib.Seq.{get_or-append-add, drop-append-add}
use lib.Dec.{ltb, leb, eqb}
use borrow.Author.Tests.{eq-eqb, lt-ltb, le-leb}
use Rattle.arith.proofs.Clash.{clash}
use Rattle.std.proofs.lemmas.Bool.{false_from_ne_true, or_right, or_parts, or_from}
use Rattle.record.specs.Text.{digit, letter, all_text, well_formed, undigited, ends_lvn, reserved, same_bytes, among}
use Rattle.record.specs.Good.{Each}
use Rattle.record.proofs.Tests.{and_left, and_right, and_both, same_bytes_eq}
use Rattle.numbering.specs.Decimal.{Digits}
use Rattle.numbering.specs.Made.{digits, made_text}
use Rattle.numbering.proofs.Digits.{digits_are, digits_few, digits_injective}

-- ---- the bytes of texts
pub all_text_append : (s t : List ℕ) → all_text s ≡ true → all_text t ≡ true → all_text (s ++ t) ≡ true
unfolding all_text
all_text_append [] t p q = q
all_text_append (b ∷ s) t p q =
    and_both (letter b || digit b) _ (and_left (letter b || digit b) _ p) (all_text_append s t (and_right (letter b || digit b) _ p) q)

pub all_text_digits : (ds : List ℕ) → Digits ds → all_text ds ≡ true
unfolding all_text
all_text_digits [] h = refl
all_text_digits (b ∷ ds) h = and_both (letter b || digit b) _ (or_right (letter b) (digit b) h.0) (all_text_digits ds h.1)

pub all_text_cons : (b : ℕ) (t : List ℕ) → letter b ≡ true → all_text t ≡ true → all_text (b ∷ t) ≡ true
unfolding all_text
all_text_cons b t p q = rw (p, q)

pub well_formed_text : (t : List ℕ) → well_formed t ≡ true → all_text t ≡ true
unfolding well_formed
well_formed_text [] h = clash (cc)
well_formed_text (b ∷ t) h = all_text_cons b t (and_left (letter b) _ h) (and_right (letter b) _ h)

pub well_formed_some : (t : List ℕ) → well_formed t ≡ true → 0 < length t
unfolding well_formed
well_formed_some [] h = clash (cc)
well_formed_some (b ∷ t) h = omega arith

-- ---- the closing digits
digit_at : (ds : List ℕ) (n : ℕ) → Digits ds → n < length ds → digit (get_or ds n 0) ≡ true
digit_at [] n h l = absurd (omega arith)
digit_at (b ∷ ds) zero h l = h.0
digit_at (b ∷ ds) (suc n) h l = digit_at ds n h.1 (omega arith)

undigited_digit : (t : List ℕ) (n : ℕ) → digit (get_or t n 0) ≡ true → undigited t (suc n) ≡ undigited t n
unfolding undigited
undigited_digit t n e = rw e

undigited_other : (t : List ℕ) (n : ℕ) → digit (get_or t n 0) ≡ false → undigited t (suc n) ≡ suc n
unfolding undigited
undigited_other t n e = rw e

undigited_digits : (s ds : List ℕ) (n : ℕ) → Digits ds → n ≤ length ds → undigited (s ++ ds) (length s + n) ≡ undigited (s ++ ds) (length s)
undigited_digits s ds zero h l = rw add-zero
undigited_digits s ds (suc n) h l =
    let d : digit (get_or (s ++ ds) (length s + n) 0) ≡ true = rw get_or-append-add (digit_at ds n h (omega arith)) in
    rw add-suc (undigited_digit (s ++ ds) (length s + n) d ∙ undigited_digits s ds n h (omega arith))

-- ---- the bytes of `_lvn`
abbrev pub lvn_bytes : List ℕ
lvn_bytes = 0x5F ∷ 0x6C ∷ 0x76 ∷ 0x6E ∷ []

lvn_text : all_text lvn_bytes ≡ true
unfolding all_text
lvn_text = refl

module _ (t : List ℕ) (k : ℕ) where
  pub made_text_length : length (made_text t k) ≡ length t + 5 + length (digits k)
  unfolding made_text
  made_text_length = simp length-append (omega arith)

  -- a byte behind the text
  made_at : (m n : ℕ) → m ≡ suc (length t) + n → get_or (made_text t k) m 0 ≡ get_or (lvn_bytes ++ digits k) n 0
  unfolding made_text
  made_at m n e = rw e (get_or-append-add (0x5F ∷ t) (lvn_bytes ++ digits k) n 0)

  made_first : get_or (made_text t k) 0 0 ≡ 0x5F
  unfolding made_text
  made_first = refl

  made_split : made_text t k ≡ (0x5F ∷ t) ++ lvn_bytes ++ digits k
  unfolding made_text
  made_split = sym (append_assoc (0x5F ∷ t) lvn_bytes (digits k))

  -- where the digits of K begin
  pub made_undigited : undigited (made_text t k) (length (made_text t k)) ≡ length t + 5
  made_undigited =
      let s = (0x5F ∷ t) ++ lvn_bytes in
      let m : length s ≡ suc (length t + 4) = simp length-append (omega arith) in
      let e : digit (get_or (made_text t k) (length t + 4) 0) ≡ false = rw (made_at (length t + 4) 3 (omega arith)) in
      let l : length (made_text t k) ≡ length s + length (digits k) = rw made_split (length-append s (digits k)) in
      let u : undigited (made_text t k) (length s + length (digits k)) ≡ undigited (made_text t k) (length s) =
      rw made_split (undigited_digits s (digits k) (length (digits k)) (digits_are k).each (omega arith)) in
      ap (undigited (made_text t k)) l ∙ u ∙ ap (undigited (made_text t k)) m ∙
      undigited_other (made_text t k) (length t + 4) e ∙
      omega arith

  pub made_digits : drop (length t + 5) (made_text t k) ≡ digits k
  unfolding made_text
  made_digits =
      let e : length t + 5 ≡ length (0x5F ∷ t) + 4 = omega arith in
      rw (e, drop-append-add (0x5F ∷ t) (lvn_bytes ++ digits k) 4)

  pub made_well_formed : well_formed t ≡ true → well_formed (made_text t k) ≡ true
  unfolding well_formed made_text
  made_well_formed h =
      all_text_append t (lvn_bytes ++ digits k) (well_formed_text t h)
      (all_text_append lvn_bytes (digits k) lvn_text (all_text_digits (digits k) (digits_are k).each))

  made_ends : ends_lvn (made_text t k) (length t + 5) ≡ true
  made_ends =
      simp (
        made_at (length t + 5 - 4) 0 (omega arith),
        made_at (length t + 5 - 3) 1 (omega arith),
        made_at (length t + 5 - 2) 2 (omega arith),
        made_at (length t + 5 - 1) 3 (omega arith),
      )

  pub made_reserved : well_formed t ≡ true → reserved (made_text t k) ≡ true
  unfolding reserved
  made_reserved h =
      let s : 0 < length t = well_formed_some t h in
      let l : length (made_text t k) ≡ length t + 5 + length (digits k) = made_text_length in
      let d : 0 < length (digits k) = (digits_are k).some in
      let below : length t + 5 < length (made_text t k) = omega arith in
      rw (made_undigited, made_first)
      (and_both (ltb (length t + 5) (length (made_text t k))) _ (lt-ltb (length t + 5) (length (made_text t k)) below)
      (and_both (leb 6 (length t + 5)) _ (le-leb 6 (length t + 5) (omega arith)) made_ends))

  pub made_short : k < 100000 → length (made_text t k) ≤ length t + 10
  made_short h =
      let d : length (digits k) ≤ 5 = digits_few k 4 h in
      rw made_text_length (omega arith)

-- K stands in the text
pub made_injective : (t u : List ℕ) (j k : ℕ) → made_text t j ≡ made_text u k → j ≡ k
made_injective t u j k e =
    let n : length t + 5 ≡ length u + 5 = sym (made_undigited t j) ∙ ap (λ (s : List ℕ). undigited s (length s)) e ∙ made_undigited u k in
    digits_injective j k (sym (made_digits t j) ∙ ap (drop (length t + 5)) e ∙ ap (λ (m : ℕ). drop m (made_text u k)) n ∙ made_digits u k)

-- a text that is not reserved is not that of a made name
pub made_unlike : (t u : List ℕ) (k : ℕ) → well_formed t ≡ true → reserved u ≡ false → made_text t k ≡ u → ⊥
made_unlike t u k h r e =
    let p : reserved u ≡ true = ap reserved (sym e) ∙ made_reserved t k h in
    clash (cc)

-- ---- equality of texts
pub same_bytes_refl : (s : List ℕ) → same_bytes s s ≡ true
unfolding same_bytes
same_bytes_refl [] = refl
same_bytes_refl (x ∷ s) = and_both (eqb x x) _ (eq-eqb x x refl) (same_bytes_refl s)

-- ---- texts among others
pub among_apart : (t : List ℕ) (us : List (List ℕ)) → Each (λ left u. t ≡ u → ⊥) us → among t us ≡ false
unfolding among
among_apart t [] h = refl
among_apart t (u ∷ us) h =
    let p : same_bytes t u ≡ false = false_from_ne_true (same_bytes t u) (λ e. h.0 (same_bytes_eq t u e)) in
    rw (p, among_apart t us h.1)

pub among_append : (t : List ℕ) (us vs : List (List ℕ)) → among t us ≡ false → among t vs ≡ false → among t (us ++ vs) ≡ false
unfolding among
among_append t [] vs p q = q
among_append t (u ∷ us) vs p q =
    let (x, y) = or_parts (same_bytes t u) (among t us) p in
    or_from (same_bytes t u) (among t (us ++ vs)) x (among_append t us vs y q)
