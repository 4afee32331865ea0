-- The place of a name and what stands there, the head, and made names one after the other.
use Prim.Native.Nat.{ℕ, ◌+◌, ◌<◌, ◌≤◌}
use mathlib.Core.Path.{◌≡◌, refl, sym, ap, subst, ◌∙◌}
use mathlib.Core.List.{List, [], ◌++◌, map}
use native.Mathlib.Omega.{arith}
use native.Mathlib.Numerals.{add-one}
use lib.ListN.{length, get_or, take, drop, get_or-map, drop_of_length-le}
use lib.Seq.{drop-cons, get_or-take, length-take-le}
use Rattle.record.specs.Record.{nm, Name, plain, type_in}
use Rattle.record.specs.Write.{be, join, name_bytes}
use Rattle.record.specs.Decode.{items, behind, name_from, name_end, names_count, record_from}
use Rattle.numbering.specs.Made.{made_text, made_name, made_names}
use Rattle.write_names.specs.Named.{text_length, Named}
use Rattle.write_bytes.specs.Put.{put, Wrote, longest_text}
use Rattle.record.proofs.Decode.{item_at}
use Rattle.write_bytes.proofs.Wrote.{wrote_append, wrote_number}

-- ---- the head
pub head_wrote :
    {l m n r : List ℕ} (v a c : ℕ) →
    m ≡ put l 4 (be 1 v) →
    n ≡ put m 5 (be 1 a) →
    r ≡ put n 6 (be 2 c) →
    Wrote l r 4 8 (be 1 v ++ (be 1 a ++ be 2 c))
head_wrote v a c e f g =
    wrote_append (be 1 v) (be 1 a ++ be 2 c) (wrote_number 1 v e) (wrote_append (be 1 a) (be 2 c) (wrote_number 1 a f) (wrote_number 2 c g))

-- ---- made names by their places
-- the name made with K = k of the one at a place
abbrev made_of : List ℕ → ℕ → ℕ → Name
made_of s k p = record { type = (name_from s p).type; text = made_text (name_from s p).text k }

pub made_at : (s : List ℕ) (k x : ℕ) → x < names_count s → made_name (plain (record_from s)) k (nm x) ≡ made_of s k (behind (name_end s) 8 x)
unfolding record_from made_name type_in
made_at s k x h =
    let d : Name = record { type = 0; text = [] } in
    let l : List Name = items (name_from s) (name_end s) 8 (names_count s) in
    let e : get_or l x d ≡ name_from s (behind (name_end s) 8 x) = item_at (name_from s) (name_end s) d x (names_count s) 8 h in
    rw (get_or-map (λ (y : Name). y.type) l x d, get_or-map (λ (y : Name). y.text) l x d, e) refl

-- the name made of the input's name x: by the place p of that, its type t and the length n of its text
pub made_wrote :
    {l m : List ℕ} {i q : ℕ} (s : List ℕ) (k x p t n : ℕ) →
    x < names_count s →
    p ≡ behind (name_end s) 8 x →
    t ≡ get_or s p 0 →
    n ≡ get_or s (p + 1) 0 →
    Wrote l m i q (name_bytes (record { type = t; text = made_text (take n (drop (p + 2) s)) k })) →
    Wrote l m i q (name_bytes (made_name (plain (record_from s)) k (nm x)))
made_wrote {l} {m} {i} {q} s k x p t n h e f g w =
    let d : p + 2 ≡ p + 1 + 1 = omega arith in
    let z : ◌≡◌ {A = Name} (record { type = t; text = made_text (take n (drop (p + 2) s)) k }) (made_of s k p) = rw (f, g, d) in
    let y : made_name (plain (record_from s)) k (nm x) ≡ made_of s k p = made_at s k x h ∙ ap (made_of s k) (sym e) in
    subst (λ (o : Name). Wrote l m i q (name_bytes o)) (z ∙ sym y) w

-- its text is as short as the lengths of the names are
pub text_short :
    (s : List ℕ) (x p n : ℕ) →
    p ≡ behind (name_end s) 8 x →
    n ≡ get_or s (p + 1) 0 →
    text_length s x ≤ longest_text →
    n ≤ longest_text
text_short s x p n e f h =
    let g : get_or s (p + 1) 0 ≡ text_length s x = ap (λ (k : ℕ). get_or s (k + 1) 0) e in omega arith

-- ---- the made names left to write, from the i-th of a row on
abbrev pub names_left : List ℕ → List ℕ → ℕ → List ℕ
names_left s row i = join (map name_bytes (made_names (plain (record_from s)) i (map nm (drop i row))))

pub names_less :
    (s row : List ℕ) (i : ℕ) →
    i < length row →
    names_left s row i ≡ name_bytes (made_name (plain (record_from s)) i (nm (get_or row i 0))) ++ names_left s row (i + 1)
unfolding join made_names
names_less s row i h =
    let r = plain (record_from s) in
    ap (λ (l : List ℕ). join (map name_bytes (made_names r i (map nm l)))) (drop-cons row i 0 h) ∙
    ap
    (λ (k : ℕ). name_bytes (made_name r i (nm (get_or row i 0))) ++ join (map name_bytes (made_names r k (map nm (drop k row)))))
    (sym (add-one i))

pub names_none : (s row : List ℕ) (i : ℕ) → length row ≤ i → names_left s row i ≡ []
unfolding join made_names
names_none s row i h =
    ap (λ (l : List ℕ). join (map name_bytes (made_names (plain (record_from s)) i (map nm l)))) (drop_of_length-le row h)

-- the first entries of a row by themselves
pub named_front : (row : List ℕ) (k n : ℕ) → k ≤ length row → Named row k n → Named (take k row) (length (take k row)) n
named_front row k n h named j l =
    let t : length (take k row) ≡ k = length-take-le k row h in
    let i : j < k = omega (arith, l, t) in
    subst (λ (x : ℕ). x < n) (sym (get_or-take k row j 0 i)) (named j i)
