-- The names of a record stand in it as they are written: what is copied from place 8 on is their bytes, and the lengths that stand there
-- are those of their texts.
use Prim.Native.Nat.{ℕ, zero, suc, ◌+◌, ◌-◌, ◌<◌, ◌≤◌}
use mathlib.Core.Path.{◌≡◌, refl, sym, ap, ◌∙◌}
use mathlib.Core.List.{List, [], ◌∷◌, ◌++◌, map, append-nil}
use native.Mathlib.Omega.{arith}
use lib.ListN.{length, get_or, take, drop, length-drop}
use lib.Seq.{length-take-le, drop-drop, take-add}
use lib.Dec.{leb}
use borrow.Author.Tests.{leb-true}
use Rattle.record.specs.declared.Refusal.TheVariants.{Limit}
use Rattle.record.specs.Record.{limits}
use Rattle.record.specs.Tests.{text_length_test}
use Rattle.record.specs.Good.{NamesOk}
use Rattle.record.specs.Write.{be, join, name_bytes}
use Rattle.record.specs.Decode.{items, behind, name_from, name_end, names_count, names_end, record_from}
use Rattle.record.proofs.Tests.{and_right, need_passes}
use Rattle.record.proofs.Rows.{behind_on, name_grows}
use Rattle.write_names.specs.Named.{Short}
use Rattle.write_bytes.specs.Put.{longest_text}
use Rattle.write_bytes.proofs.Parts.{part_less}

-- n: the length of its text
name_stands :
    (s : List ℕ) (at n : ℕ) →
    n ≡ get_or s (at + 1) 0 →
    at + 2 + n ≤ length s →
    take (2 + n) (drop at s) ≡ name_bytes (name_from s at)
unfolding name_bytes join be
name_stands s at n e h =
    let t : List ℕ = take n (drop (at + 1 + 1) s) in
    let d : length (drop (at + 1 + 1) s) ≡ length s - (at + 1 + 1) = length-drop (at + 1 + 1) s in
    let f : length t ≡ n = length-take-le n (drop (at + 1 + 1) s) (omega arith) in
    let a : 2 + n - 1 ≡ 1 + n = omega arith in
    let b : 1 + n - 1 ≡ n = omega arith in
    let p : take (2 + n) (drop at s) ≡ get_or s at 0 ∷ take (1 + n) (drop (at + 1) s) =
    part_less s at (2 + n) (omega arith) (omega arith) ∙ ap (λ (k : ℕ). get_or s at 0 ∷ take k (drop (at + 1) s)) a in
    let q : take (1 + n) (drop (at + 1) s) ≡ get_or s (at + 1) 0 ∷ t =
    part_less s (at + 1) (1 + n) (omega arith) (omega arith) ∙ ap (λ (k : ℕ). get_or s (at + 1) 0 ∷ take k (drop (at + 1 + 1) s)) b in
    let g : get_or s (at + 1) 0 ≡ length t = sym e ∙ sym f in
    p ∙ ap (λ (l : List ℕ). get_or s at 0 ∷ l) (q ∙ ap (λ (k : ℕ). k ∷ t) g) ∙
    ap (λ (l : List ℕ). get_or s at 0 ∷ length t ∷ l) (sym (append-nil t)) ∙
    ap
    (λ (k : ℕ). get_or s at 0 ∷ length (take k (drop (at + 1 + 1) s)) ∷ (take k (drop (at + 1 + 1) s) ++ []))
    e

names_stand :
    (s : List ℕ) (n at : ℕ) →
    behind (name_end s) at n ≤ length s →
    take (behind (name_end s) at n - at) (drop at s) ≡ join (map name_bytes (items (name_from s) (name_end s) at n))
unfolding behind items join name_end
names_stand s zero at h = let e : at - at ≡ 0 = omega arith in ap (λ (k : ℕ). take k (drop at s)) e
names_stand s (suc n) at h =
    let next : ℕ = name_end s at in
    let end : ℕ = behind (name_end s) next n in
    let l : ℕ = get_or s (at + 1) 0 in
    let o : next ≤ end = behind_on (name_end s) (name_grows s) next n in
    let e : end - at ≡ 2 + l + (end - next) = omega arith in
    let f : at + (2 + l) ≡ next = omega arith in
    ap (λ (k : ℕ). take k (drop at s)) e ∙ take-add (2 + l) (end - next) (drop at s) ∙
    ap (λ (x : List ℕ). x ++ take (end - next) (drop (2 + l) (drop at s))) (name_stands s at l refl (omega arith)) ∙
    ap (λ (x : List ℕ). name_bytes (name_from s at) ++ take (end - next) x) (drop-drop (2 + l) at s ∙ ap (λ (k : ℕ). drop k s) f) ∙
    ap (λ (x : List ℕ). name_bytes (name_from s at) ++ x) (names_stand s n next h)

-- all names of the input
pub names_copied :
    (s : List ℕ) →
    names_end s ≤ length s →
    take (names_end s - 8) (drop 8 s) ≡ join (map name_bytes (record_from s).names)
unfolding names_end record_from
names_copied s h = names_stand s _ 8 h

-- ---- the lengths that stand there
pub text_whole : (s : List ℕ) (n at : ℕ) → behind (name_end s) at (suc n) ≤ length s → length (name_from s at).text ≡ get_or s (at + 1) 0
unfolding behind name_end
text_whole s n at h =
    let o : name_end s at ≤ behind (name_end s) (name_end s at) n = behind_on (name_end s) (name_grows s) (name_end s at) n in
    let d : length (drop (at + 1 + 1) s) ≡ length s - (at + 1 + 1) = length-drop (at + 1 + 1) s in
    length-take-le (get_or s (at + 1) 0) (drop (at + 1 + 1) s) (omega arith)

lengths_short :
    (s : List ℕ) (seen : List (List ℕ)) (n at x : ℕ) →
    behind (name_end s) at n ≤ length s →
    NamesOk limits seen (items (name_from s) (name_end s) at n) →
    x < n →
    get_or s (behind (name_end s) at x + 1) 0 ≤ longest_text
unfolding behind items text_length_test
lengths_short s seen zero at x h ok j = absurd (omega arith)
lengths_short s seen (suc n) at zero h ok j =
    let l : ℕ = length (name_from s at).text in
    let m : l ≤ 32 = leb-true l 32 (and_right (leb 1 l) _ (need_passes _ Limit ok.0.size)) in
    let e : l ≡ get_or s (at + 1) 0 = text_whole s n at h in
    omega arith
lengths_short s seen (suc n) at (suc x) h ok j =
    lengths_short s (seen ++ ((name_from s at).text ∷ [])) n (name_end s at) x h ok.1 (omega arith)

-- of an accepted input
pub names_short : (s : List ℕ) → names_end s ≤ length s → NamesOk limits [] (record_from s).names → Short s (names_count s)
unfolding names_end record_from
names_short s h ok x j = lengths_short s [] (names_count s) 8 x h ok j
