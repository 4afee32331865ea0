-- The texts of a name table differ, in an accepted record and in a rewriting.
use Prim.Native.Nat.{ℕ, zero, suc, ◌<◌}
use mathlib.Core.Path.{◌≡◌, sym, ap, ◌∙◌}
use mathlib.Core.Logic.{◌≢◌}
use mathlib.Core.Bool.{false, true≢false}
use mathlib.Core.List.{List, [], ◌∷◌, ◌++◌, map}
use native.Mathlib.Omega.{arith}
use lib.ListN.{length, get_or}
use Rattle.std.proofs.lemmas.Bool.{or_parts}
use Rattle.record.specs.declared.Limits.{Limits}
use Rattle.record.specs.Record.{Name}
use Rattle.record.specs.Text.{same_bytes, among}
use Rattle.record.specs.Good.{NamesOk}
use Rattle.numbering.proofs.Texts.{same_bytes_refl}
use Rattle.numbering.proofs.Names.{text_apart}

-- t is none of these
abbrev Apart : List ℕ → List (List ℕ) → Type 0
Apart t us = (k : ℕ) → k < length us → get_or us k [] ≢ t

apart : (t : List ℕ) (us : List (List ℕ)) → among t us ≡ false → Apart t us
unfolding among
apart t [] e k l p = absurd (omega arith)
apart t (u ∷ us) e zero l p =
    let (x, y) = or_parts (same_bytes t u) (among t us) e in
    true≢false (sym (same_bytes_refl t) ∙ ap (same_bytes t) (sym p) ∙ x)
apart t (u ∷ us) e (suc k) l p =
    let (x, y) = or_parts (same_bytes t u) (among t us) e in
    apart t us y k (omega arith) p

-- what stood before and one more
apart_before : (t : List ℕ) (us vs : List (List ℕ)) → Apart t (us ++ vs) → Apart t us
apart_before t [] vs h k l p = absurd (omega arith)
apart_before t (u ∷ us) vs h zero l p = h zero (omega arith) p
apart_before t (u ∷ us) vs h (suc k) l p =
    apart_before t us vs (λ j m q. h (suc j) (omega arith) q) k (omega arith) p

apart_last : (t u : List ℕ) (us : List (List ℕ)) → Apart t (us ++ (u ∷ [])) → u ≢ t
apart_last t u [] h p = h zero (omega arith) p
apart_last t u (x ∷ us) h p = apart_last t u us (λ j m q. h (suc j) (omega arith) q) p

-- a text further on is none of those seen
later_apart :
    (lim : Limits) (seen : List (List ℕ)) (xs : List Name) → NamesOk lim seen xs →
    (j : ℕ) → j < length xs → Apart (get_or (map (λ x. x.text) xs) j []) seen
later_apart lim seen [] h j l = absurd (omega arith)
later_apart lim seen (x ∷ xs) h zero l = apart x.text seen (text_apart lim.made seen x.text h.0.text)
later_apart lim seen (x ∷ xs) h (suc j) l =
    let t = get_or (map (λ x. x.text) xs) j [] in
    apart_before t seen (x.text ∷ []) (later_apart lim (seen ++ (x.text ∷ [])) xs h.1 j (omega arith))

pub texts_differ :
    (lim : Limits) (seen : List (List ℕ)) (xs : List Name) → NamesOk lim seen xs →
    (i j : ℕ) → i < j → j < length xs →
    get_or (map (λ x. x.text) xs) i [] ≢ get_or (map (λ x. x.text) xs) j []
texts_differ lim seen [] h i j m l = absurd (omega arith)
texts_differ lim seen (x ∷ xs) h i zero m l = absurd (omega arith)
texts_differ lim seen (x ∷ xs) h zero (suc j) m l =
    let t = get_or (map (λ x. x.text) xs) j [] in
    apart_last t x.text seen (later_apart lim (seen ++ (x.text ∷ [])) xs h.1 j (omega arith))
texts_differ lim seen (x ∷ xs) h (suc i) (suc j) m l =
    texts_differ lim (seen ++ (x.text ∷ [])) xs h.1 i j (omega arith) (omega arith)
