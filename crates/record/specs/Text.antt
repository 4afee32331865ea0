-- "Text is letters, digits, `_` and `.`, no digit first", and the reserved texts.
use Rattle.std.specs.Prelude.{ℕ, zero, suc, ◌-◌, List, [], ◌∷◌, Bool, true, false, cond, ◌&&◌, ◌||◌, length, get_or, ltb, leb, eqb}

abbrev pub digit : ℕ → Bool
digit b = leb 0x30 b && leb b 0x39

-- letters, `_` and `.`
abbrev pub letter : ℕ → Bool
letter b = (leb 0x41 b && leb b 0x5A) || (leb 0x61 b && leb b 0x7A) || eqb b 0x5F || eqb b 0x2E

unfoldable pub all_text : List ℕ → Bool
all_text [] = true
all_text (b ∷ t) = (letter b || digit b) && all_text t

unfoldable pub well_formed : List ℕ → Bool
well_formed [] = false
well_formed (b ∷ t) = letter b && all_text t

-- how long the first n bytes are without their closing digits
unfoldable pub undigited : List ℕ → ℕ → ℕ
undigited t zero = 0
undigited t (suc n) = cond (digit (get_or t n 0)) (undigited t n) (suc n)

-- the first n bytes end with `_lvn`
abbrev pub ends_lvn : List ℕ → ℕ → Bool
ends_lvn t n = eqb (get_or t (n - 4) 0) 0x5F && (eqb (get_or t (n - 3) 0) 0x6C && (eqb (get_or t (n - 2) 0) 0x76 && eqb (get_or t (n - 1) 0) 0x6E))

-- "an underscore, one or more bytes, `_lvn` and one or more digits"
unfoldable pub reserved : List ℕ → Bool
reserved t = let n = undigited t (length t) in eqb (get_or t 0 0) 0x5F && (ltb n (length t) && (leb 6 n && ends_lvn t n))

unfoldable pub same_bytes : List ℕ → List ℕ → Bool
same_bytes [] [] = true
same_bytes [] (y ∷ u) = false
same_bytes (x ∷ t) [] = false
same_bytes (x ∷ t) (y ∷ u) = eqb x y && same_bytes t u

unfoldable pub among : List ℕ → List (List ℕ) → Bool
among t [] = false
among t (u ∷ us) = same_bytes t u || among t us
