-- The names of a rewriting pass the wide tests: those of the input pass them too, and those that are made have the type of a name of the
-- input and a text that none before them has.
use Prim.Native.Nat.{ℕ, zero, suc, ◌+◌, ◌<◌, ◌≤◌}
use mathlib.Core.Path.{◌≡◌, refl, sym, ap, subst}
use mathlib.Core.Bool.{Bool, true, false, not, ◌||◌}
use mathlib.Core.List.{List, [], ◌∷◌, ◌++◌, map, append-nil, append_assoc}
use native.Mathlib.Omega.{arith}
use lib.ListN.{length, get_or}
use lib.Dec.{leb}
use borrow.Author.Tests.{leb-true, le-leb, not-true}
use Rattle.record.specs.declared.NameIx.{NameIx}
use Rattle.std.specs.Prelude.{Ok}
use Rattle.record.specs.Record.{nm, Instr, Name, Record, function, texts, type_in, limits, wide}
use Rattle.record.specs.Text.{well_formed, reserved, among}
use Rattle.record.specs.Tests.{type_test, text_length_test, text_test}
use Rattle.record.specs.Good.{Each, NameOk, NamesOk}
use Rattle.record.proofs.Tests.{and_left, and_right, need_passes}
use Rattle.numbering.specs.Made.{made_text, made_name, made_names}
use Rattle.numbering.proofs.Texts.{made_well_formed, made_short, made_text_length, made_injective, made_unlike, among_apart, among_append}

-- ---- the names of an input
-- a type u and a text t of one of them
pub record NameFine (u : ℕ) (t : List ℕ) : Type 0 where
  pub type : type_test u ≡ Ok tt
  pub shaped : well_formed t ≡ true
  pub short : length t ≤ 32

text_passes :
    (made : Bool) (seen : List (List ℕ)) (t : List ℕ) →
    well_formed t ≡ true →
    (made || not (reserved t)) ≡ true →
    among t seen ≡ false →
    text_test made seen t ≡ Ok tt
unfolding text_test
text_passes made seen t w r a = rw (w, r, a)

text_shaped : (made : Bool) (seen : List (List ℕ)) (t : List ℕ) → text_test made seen t ≡ Ok tt → well_formed t ≡ true
unfolding text_test
text_shaped made seen t e = and_left (well_formed t) _ (need_passes _ _ e)

text_allowed : (made : Bool) (seen : List (List ℕ)) (t : List ℕ) → text_test made seen t ≡ Ok tt → (made || not (reserved t)) ≡ true
unfolding text_test
text_allowed made seen t e = and_left (made || not (reserved t)) _ (and_right (well_formed t) _ (need_passes _ _ e))

pub text_apart : (made : Bool) (seen : List (List ℕ)) (t : List ℕ) → text_test made seen t ≡ Ok tt → among t seen ≡ false
unfolding text_test
text_apart made seen t e = not-true (among t seen) (and_right (made || not (reserved t)) _ (and_right (well_formed t) _ (need_passes _ _ e)))

length_passes : (most n : ℕ) → 1 ≤ n → n ≤ most → text_length_test most n ≡ Ok tt
unfolding text_length_test
length_passes most n l h = rw (le-leb 1 n l, le-leb n most h)

length_least : (most n : ℕ) → text_length_test most n ≡ Ok tt → 1 ≤ n
unfolding text_length_test
length_least most n e = leb-true 1 n (and_left (leb 1 n) _ (need_passes _ _ e))

length_most : (most n : ℕ) → text_length_test most n ≡ Ok tt → n ≤ most
unfolding text_length_test
length_most most n e = leb-true n most (and_right (leb 1 n) _ (need_passes _ _ e))

name_fine : (seen : List (List ℕ)) (x : Name) → NameOk limits seen x → NameFine x.type x.text
name_fine seen x h =
    record { type = h.type; shaped = text_shaped false seen x.text h.text; short = length_most 32 (length x.text) h.size }

-- the type and the text of the name with index n
pub fine_at :
    (seen : List (List ℕ)) (xs : List Name) (n : ℕ) →
    NamesOk limits seen xs →
    n < length xs →
    NameFine (get_or (map (λ x. x.type) xs) n 0) (get_or (map (λ x. x.text) xs) n [])
fine_at seen [] n h l = absurd (omega arith)
fine_at seen (x ∷ xs) zero h l = name_fine seen x h.0
fine_at seen (x ∷ xs) (suc n) h l = fine_at (seen ++ (x.text ∷ [])) xs n h.1 (omega arith)

name_wider : (seen : List (List ℕ)) (x : Name) → NameOk limits seen x → NameOk wide seen x
name_wider seen x h =
    let l : length x.text ≤ 32 = length_most 32 (length x.text) h.size in
    record {
      type = h.type;
      size = length_passes 42 (length x.text) (length_least 32 (length x.text) h.size) (omega arith);
      text = text_passes true seen x.text (text_shaped false seen x.text h.text) refl (text_apart false seen x.text h.text);
    }

pub names_wider : (seen : List (List ℕ)) (xs : List Name) → NamesOk limits seen xs → NamesOk wide seen xs
names_wider seen [] h = tt
names_wider seen (x ∷ xs) h = (name_wider seen x h.0, names_wider (seen ++ (x.text ∷ [])) xs h.1)

-- ---- names behind others
pub names_append :
    (seen : List (List ℕ)) (xs ys : List Name) →
    NamesOk wide seen xs →
    NamesOk wide (seen ++ map (λ x. x.text) xs) ys →
    NamesOk wide seen (xs ++ ys)
names_append seen [] ys h k = subst (λ (us : List (List ℕ)). NamesOk wide us ys) (append-nil seen) k
names_append seen (x ∷ xs) ys h k = (
  h.0,
  names_append (seen ++ (x.text ∷ [])) xs ys h.1
      (subst (λ (us : List (List ℕ)). NamesOk wide us ys) (sym (append_assoc seen (x.text ∷ []) (map (λ x. x.text) xs))) k),
)

-- ---- made names
-- no text made with K from k on is among these
abbrev pub Fresh : ℕ → List (List ℕ) → Type 0
Fresh k seen = (t : List ℕ) (j : ℕ) → well_formed t ≡ true → k ≤ j → among (made_text t j) seen ≡ false

pub input_fresh : (seen : List (List ℕ)) (xs : List Name) (k : ℕ) → NamesOk limits seen xs → Fresh k (map (λ x. x.text) xs)
input_fresh seen xs k h t j w l = among_apart (made_text t j) (map (λ x. x.text) xs) (unlike seen xs h)
  where
    unlike :
        (seen : List (List ℕ)) (xs : List Name) → NamesOk limits seen xs → Each (λ left u. made_text t j ≡ u → ⊥) (map (λ x. x.text) xs)
    unlike seen [] h = tt
    unlike seen (x ∷ xs) h = (
      made_unlike t x.text j w (not-true (reserved x.text) (text_allowed false seen x.text h.0.text)),
      unlike (seen ++ (x.text ∷ [])) xs h.1,
    )

fresh_more : (k : ℕ) (seen : List (List ℕ)) (u : List ℕ) → Fresh k seen → Fresh (suc k) (seen ++ (made_text u k ∷ []))
fresh_more k seen u f t j w l =
    among_append (made_text t j) seen (made_text u k ∷ []) (f t j w (omega arith))
    (among_apart (made_text t j) (made_text u k ∷ []) ((λ e. let q : j ≡ k = made_injective t u j k e in omega arith), tt))

module _ (r : Record Instr) (h : NamesOk limits [] r.names) where
  -- a name that is saved
  saved_fine : (x : NameIx) → x.0 < length r.names → NameFine (type_in (function r).types x) (get_or (texts r) x.0 [])
  unfolding type_in
  saved_fine x l = fine_at [] r.names x.0 h l

  made_name_passes :
      (k : ℕ) (x : NameIx) (seen : List (List ℕ)) →
      x.0 < length r.names →
      k < 100000 →
      Fresh k seen →
      NameOk wide seen (made_name r k x)
  unfolding made_name
  made_name_passes k x seen l b f =
      let t = get_or (texts r) x.0 [] in
      let g = saved_fine x l in
      let s : length (made_text t k) ≤ length t + 10 = made_short t k b in
      let n : length t ≤ 32 = g.short in
      let e = made_text_length t k in
      record {
        type = g.type;
        size = length_passes 42 (length (made_text t k)) (omega arith) (omega arith);
        text = text_passes true seen (made_text t k) (made_well_formed t k g.shaped) refl (f t k g.shaped (omega arith));
      }

  pub made_names_pass :
      (xs : List NameIx) (k : ℕ) (seen : List (List ℕ)) →
      ((j : ℕ) → j < length xs → (get_or xs j (nm 0)).0 < length r.names) →
      k + length xs ≤ 100000 →
      Fresh k seen →
      NamesOk wide seen (made_names r k xs)
  unfolding made_names made_name
  made_names_pass [] k seen l b f = tt
  made_names_pass (x ∷ xs) k seen l b f = (
    made_name_passes k x seen (l 0 (omega arith)) (omega arith) f,
    made_names_pass xs (suc k) (seen ++ (made_text (get_or (texts r) x.0 []) k ∷ [])) (λ j m. l (suc j) (omega arith)) (omega arith)
        (fresh_more k seen (get_or (texts r) x.0 []) f),
  )

  -- the bytes of a made text
  pub made_name_short : (k : ℕ) (x : NameIx) → x.0 < length r.names → k < 100000 → length (made_name r k x).text ≤ 42
  unfolding made_name
  made_name_short k x l b =
      let t = get_or (texts r) x.0 [] in
      let s : length (made_text t k) ≤ length t + 10 = made_short t k b in
      let n : length t ≤ 32 = (saved_fine x l).short in
      omega arith

pub made_names_length : (r : Record Instr) (k : ℕ) (xs : List NameIx) → length (made_names r k xs) ≡ length xs
unfolding made_names
made_names_length r k [] = refl
made_names_length r k (x ∷ xs) = ap suc (made_names_length r (suc k) xs)
