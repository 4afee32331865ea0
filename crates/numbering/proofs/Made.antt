-- The names that a rewriting makes: as many as its blocks have saves, numbered on from block to block, each with the type of the name
-- that it saves. Rests on the saves of one block, Saves.
use Prim.Native.Nat.{ℕ, zero, suc, ◌+◌, ◌<◌}
use mathlib.Core.Path.{◌≡◌, refl, sym, ap, ◌∙◌, subst}
use mathlib.Core.Bool.{Bool, true, false, cond}
use mathlib.Core.List.{List, [], ◌∷◌, ◌++◌, map, map-append}
use native.Mathlib.Nat.{zero-add, add-zero, suc-add, add-suc, add_assoc}
use native.Mathlib.Numerals.{one-add}
use native.Mathlib.Omega.{arith}
use lib.ListN.{length, get_or, length-append, get_or-append}
use lib.Seq.{get_or-append-add}
use Rattle.std.proofs.lemmas.List.{get_or-map}
use Rattle.record.specs.declared.NameIx.{NameIx}
use Rattle.record.specs.Record.{nm, Instr, Block, Function, names_of, type_in, arg}
use Rattle.numbering.specs.State.{start}
use Rattle.numbering.specs.Number.{block_lvn, is_save, count_saves, blocks_lvn, saved_in, made_from, lvn}
use Rattle.numbering.specs.Ways.{all_saves}
use Rattle.numbering.proofs.Saves.{Originals, Makes, no_more, a_save, another, block_makes, block_temps}

-- ---- what the saves of a list save
pub saved_in_save : (N : ℕ) (i : Instr) (is : List Instr) → is_save N i ≡ true → saved_in N (i ∷ is) ≡ arg i 0 ∷ saved_in N is
unfolding saved_in
saved_in_save N i is e = rw e

pub saved_in_other : (N : ℕ) (i : Instr) (is : List Instr) → is_save N i ≡ false → saved_in N (i ∷ is) ≡ saved_in N is
unfolding saved_in
saved_in_other N i is e = rw e

saved_step :
    (b : Bool) (x : NameIx) (xs : List NameIx) (n : ℕ) → length xs ≡ n → length (cond b (x ∷ xs) xs) ≡ cond b 1 0 + n
saved_step true x xs n e = omega arith
saved_step false x xs n e = omega arith

pub saved_in_length : (N : ℕ) (is : List Instr) → length (saved_in N is) ≡ count_saves N is
unfolding saved_in count_saves
saved_in_length N [] = refl
saved_in_length N (i ∷ is) = saved_step (is_save N i) (arg i 0) (saved_in N is) (count_saves N is) (saved_in_length N is)

-- they are original names
pub saved_below : {N k : ℕ} {is : List Instr} → Makes N k is → (j : ℕ) → j < length (saved_in N is) → (get_or (saved_in N is) j (nm 0)).0 < N
unfolding saved_in
saved_below no_more j l = absurd (omega arith)
saved_below {N} (a_save {i = i} {is = is} s d a m) zero l = rw (saved_in_save N i is s) a
saved_below {N} (a_save {i = i} {is = is} s d a m) (suc j) l =
    let h : suc j < length (arg i 0 ∷ saved_in N is) = rw (saved_in_save N i is s) at l in
    rw (saved_in_save N i is s) (saved_below m j (omega arith))
saved_below {N} (another {i = i} {is = is} s m) j l = rw (saved_in_other N i is s) (saved_below m j (rw (saved_in_other N i is s) at l))

-- ---- K from block to block
-- each block makes the names that follow those of the blocks before it
abbrev pub MakesAll : ℕ → ℕ → List (Block Instr) → Type 0
MakesAll N k [] = Unit {0}
MakesAll N k (b ∷ bs) = Makes N k b.body × MakesAll N (k + count_saves N b.body) bs

abbrev pub OriginalBlocks : ℕ → (NameIx → ℕ) → List (Block Instr) → Type 0
OriginalBlocks N t [] = Unit {0}
OriginalBlocks N t (b ∷ bs) = Originals N t b.body × OriginalBlocks N t bs

pub blocks_make :
    (f : Function) (bs : List (Block Instr)) (k : ℕ) →
    OriginalBlocks (names_of f) (type_in f.types) bs →
    MakesAll (names_of f) k (blocks_lvn f k bs)
unfolding blocks_lvn start
blocks_make f [] k h = tt
blocks_make f (b ∷ bs) k h =
    let N = names_of f in
    let t = type_in f.types in
    let q = block_lvn N t (start f.args k) b.body in (
      block_makes N t b.body (start f.args k) h.0,
      subst (λ n. MakesAll N n (blocks_lvn f q.temps bs)) (block_temps N t b.body (start f.args k) h.0)
          (blocks_make f bs q.temps h.1),
    )

-- K behind the last block
abbrev pub temps_behind : Function → ℕ → List (Block Instr) → ℕ
temps_behind f k [] = k
temps_behind f k (b ∷ bs) = temps_behind f (block_lvn (names_of f) (type_in f.types) (start f.args k) b.body).temps bs

-- as many names are made as there are saves
pub made_length :
    (f : Function) (bs : List (Block Instr)) (k : ℕ) →
    length (made_from (names_of f) (blocks_lvn f k bs)) ≡ all_saves (blocks_lvn f k bs)
unfolding blocks_lvn made_from
made_length f [] k = refl
made_length f (b ∷ bs) k =
    let N = names_of f in
    let q = block_lvn N (type_in f.types) (start f.args k) b.body in
    rw (length-append (saved_in N q.body), saved_in_length N q.body, made_length f bs q.temps)

pub made_temps :
    (f : Function) (bs : List (Block Instr)) (k : ℕ) →
    OriginalBlocks (names_of f) (type_in f.types) bs →
    temps_behind f k bs ≡ k + all_saves (blocks_lvn f k bs)
unfolding blocks_lvn start
made_temps f [] k h = omega arith
made_temps f (b ∷ bs) k h =
    let N = names_of f in
    let t = type_in f.types in
    let q = block_lvn N t (start f.args k) b.body in
    let counted : q.temps ≡ k + count_saves N q.body = block_temps N t b.body (start f.args k) h.0 in
    let rest : temps_behind f q.temps bs ≡ q.temps + all_saves (blocks_lvn f q.temps bs) = made_temps f bs q.temps h.1 in
    omega arith

-- ---- the saves of all blocks in order
abbrev pub saves_in : ℕ → List Instr → List Instr
saves_in N [] = []
saves_in N (i ∷ is) = cond (is_save N i) (i ∷ saves_in N is) (saves_in N is)

abbrev pub saves_of : ℕ → List (Block Instr) → List Instr
saves_of N [] = []
saves_of N (b ∷ bs) = saves_in N b.body ++ saves_of N bs

made_step :
    (b : Bool) (i : Instr) (is : List Instr) (xs : List NameIx) →
    map (λ k. arg k 0) is ≡ xs →
    map (λ k. arg k 0) (cond b (i ∷ is) is) ≡ cond b (arg i 0 ∷ xs) xs
made_step true i is xs e = ap (λ z. arg i 0 ∷ z) e
made_step false i is xs e = e

saves_in_args : (N : ℕ) (is : List Instr) → map (λ k. arg k 0) (saves_in N is) ≡ saved_in N is
unfolding saved_in
saves_in_args N [] = refl
saves_in_args N (i ∷ is) = made_step (is_save N i) i (saves_in N is) (saved_in N is) (saves_in_args N is)

-- their arguments are what K = 0, 1, .. are made from
pub saves_args : (N : ℕ) (bs : List (Block Instr)) → map (λ i. arg i 0) (saves_of N bs) ≡ made_from N bs
unfolding made_from
saves_args N [] = refl
saves_args N (b ∷ bs) = map-append (λ i. arg i 0) (saves_in N b.body) (saves_of N bs) ∙ rw (saves_in_args N b.body, saves_args N bs)

-- the names n, n + 1, .., so many
abbrev pub names_from : ℕ → ℕ → List NameIx
names_from n zero = []
names_from n (suc many) = nm n ∷ names_from (suc n) many

names_from_append : (n a b : ℕ) → names_from n (a + b) ≡ names_from n a ++ names_from (n + a) b
names_from_append n zero b = ap (names_from n) (zero-add b) ∙ ap (λ m. names_from m b) (sym (add-zero n))
names_from_append n (suc a) b =
    ap (names_from n) (suc-add a b) ∙
    ap (λ z. nm n ∷ z) (names_from_append (suc n) a b ∙ ap (λ m. names_from (suc n) a ++ names_from m b) (shift n a))
  where
    shift : (n a : ℕ) → suc n + a ≡ n + suc a
    shift n a = omega arith

saves_in_dests : {N k : ℕ} {is : List Instr} → Makes N k is → map (λ i. i.dest) (saves_in N is) ≡ names_from (N + k) (count_saves N is)
unfolding count_saves
saves_in_dests no_more = refl
saves_in_dests {N} (a_save {k = k} {i = i} {is = is} s d a m) =
    rw (s, d, saves_in_dests m, add-suc N k) (ap (names_from (N + k)) (sym (one-add (count_saves N is))))
saves_in_dests {N} (another {is = is} s m) = rw (s, zero-add (count_saves N is)) (saves_in_dests m)

-- the j-th of them makes the name N + j
pub saves_dests :
    (N k : ℕ) (bs : List (Block Instr)) →
    MakesAll N k bs →
    map (λ i. i.dest) (saves_of N bs) ≡ names_from (N + k) (length (made_from N bs))
unfolding made_from
saves_dests N k [] m = refl
saves_dests N k (b ∷ bs) m =
    let c = count_saves N b.body in
    let many = length (made_from N bs) in
    map-append (λ i. i.dest) (saves_in N b.body) (saves_of N bs) ∙
    rw (saves_in_dests m.0, saves_dests N (k + c) bs m.1) (
    rw (length-append (saved_in N b.body), saved_in_length N b.body, ← add_assoc N k c) (sym (names_from_append (N + k) c many)))

-- ---- of a whole rewriting
-- K runs from 0 over all blocks
pub lvn_makes :
    (f : Function) → OriginalBlocks (names_of f) (type_in f.types) f.blocks → MakesAll (names_of f) 0 (lvn f).blocks
unfolding lvn
lvn_makes f h = blocks_make f f.blocks 0 h

-- an element of two lists put together stands in one of them
get_or_either :
    {A : Type 0} (P : A → Type 0) (xs ys : List A) (d : A) (j : ℕ) →
    j < length (xs ++ ys) →
    ((i : ℕ) → i < length xs → P (get_or xs i d)) →
    ((i : ℕ) → i < length ys → P (get_or ys i d)) →
    P (get_or (xs ++ ys) j d)
get_or_either P [] ys d j l h k = k j l
get_or_either P (x ∷ xs) ys d zero l h k = h 0 (omega arith)
get_or_either P (x ∷ xs) ys d (suc j) l h k = get_or_either P xs ys d j (omega arith) (λ i m. h (suc i) (omega arith)) k

pub made_below :
    (N k : ℕ) (bs : List (Block Instr)) → MakesAll N k bs → (j : ℕ) → j < length (made_from N bs) → (get_or (made_from N bs) j (nm 0)).0 < N
unfolding made_from
made_below N k [] m j l = absurd (omega arith)
made_below N k (b ∷ bs) m j l =
    get_or_either (λ x. x.0 < N) (saved_in N b.body) (made_from N bs) (nm 0) j l (saved_below m.0)
    (made_below N (k + count_saves N b.body) bs m.1)

-- ---- types of the names of a rewriting
-- an original name keeps its type
pub lvn_type_original : (f : Function) (x : NameIx) → x.0 < names_of f → type_in (lvn f).types x ≡ type_in f.types x
unfolding type_in lvn
lvn_type_original f x l = get_or-append f.types _ 0 x.0 l

-- "the name made with K has index N+K and dest's type"
pub lvn_type_made :
    (f : Function) (j : ℕ) →
    j < length (made_from (names_of f) (lvn f).blocks) →
    type_in (lvn f).types (nm (names_of f + j)) ≡ type_in f.types (get_or (made_from (names_of f) (lvn f).blocks) j (nm 0))
unfolding type_in lvn
lvn_type_made f j l = get_or-append-add f.types _ j 0 ∙ get_or-map (type_in f.types) (made_from (names_of f) (lvn f).blocks) j (nm 0) 0 l

-- the names n, n + 1, .. have the types of these
abbrev pub TypedFrom : (NameIx → ℕ) → ℕ → List NameIx → Type 0
TypedFrom t n xs = (j : ℕ) → j < length xs → t (nm (n + j)) ≡ t (get_or xs j (nm 0))

pub lvn_typed :
    (f : Function) →
    OriginalBlocks (names_of f) (type_in f.types) f.blocks →
    TypedFrom (type_in (lvn f).types) (names_of f) (made_from (names_of f) (lvn f).blocks)
lvn_typed f h j l =
    let N = names_of f in
    let bs = (lvn f).blocks in
    lvn_type_made f j l ∙ sym (lvn_type_original f (get_or (made_from N bs) j (nm 0)) (made_below N 0 bs (lvn_makes f h) j l))

-- the types of the names made in a list, and in what follows it
pub typed_left : (t : NameIx → ℕ) (n : ℕ) (xs ys : List NameIx) → TypedFrom t n (xs ++ ys) → TypedFrom t n xs
typed_left t n xs ys h j l = h j (let e = length-append xs ys in omega arith) ∙ ap t (get_or-append xs ys (nm 0) j l)

pub typed_right : (t : NameIx → ℕ) (n : ℕ) (xs ys : List NameIx) → TypedFrom t n (xs ++ ys) → TypedFrom t (n + length xs) ys
typed_right t n xs ys h j l =
    ap (λ m. t (nm m)) (add_assoc n (length xs) j) ∙
    h (length xs + j) (let e = length-append xs ys in omega arith) ∙
    ap t (get_or-append-add xs ys j (nm 0))
