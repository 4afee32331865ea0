-- The bytes of a record by its parts: what stands before the blocks, and the blocks; written one behind the other, or measured.
use Prim.Native.Nat.{ℕ, ◌+◌, ◌-◌, ◌≤◌}
use mathlib.Core.Path.{◌≡◌, refl, sym, ap, ◌∙◌, subst}
use mathlib.Core.List.{List, [], ◌∷◌, ◌++◌, map, append-nil, append_assoc, map-append}
use native.Mathlib.Omega.{arith}
use lib.ListN.{length, take, drop, length-append}
use Rattle.record.specs.Record.{Instr, Name, Record}
use Rattle.record.specs.Write.{be, join, name_bytes, content_bytes, bytes}
use Rattle.record.proofs.Stands.{length_be}
use Rattle.record.proofs.Sizes.{join_cons, join_nil, total, record_size}
use Rattle.write_bytes.specs.Put.{put, Wrote}
use Rattle.write_bytes.proofs.Put.{put_before, put_over, put_part}
use Rattle.write_bytes.proofs.Wrote.{wrote_append, wrote_number}
use Rattle.rewrite.specs.Parts.{front_parts, blocks_bytes}

join_append : (xs ys : List (List ℕ)) → join xs ++ join ys ≡ join (xs ++ ys)
unfolding join
join_append [] ys = refl
join_append (x ∷ xs) ys = append_assoc x (join xs) (join ys) ∙ ap (λ (l : List ℕ). x ++ l) (join_append xs ys)

-- x: L
parts_whole : (r : Record Instr) (x : ℕ) → join (be 4 x ∷ front_parts r) ++ blocks_bytes r ≡ be 4 x ++ content_bytes r
unfolding content_bytes join
parts_whole r x =
    ap (λ (l : List ℕ). join (be 4 x ∷ front_parts r) ++ l) (sym (append-nil (blocks_bytes r))) ∙
    join_append (be 4 x ∷ front_parts r) (blocks_bytes r ∷ [])

-- L has four bytes, whatever it says
front_size : (r : Record Instr) (x : ℕ) → length (join (be 4 x ∷ front_parts r)) ≡ 4 + length (join (front_parts r))
front_size r x = join_cons (be 4 x) (front_parts r) ∙ ap (λ (n : ℕ). n + length (join (front_parts r))) (length_be 4 x)

pub front_total : (r : Record Instr) → length (join (be 4 0 ∷ front_parts r)) ≡ 10 + total name_bytes r.names
front_total r = simp (join_cons, join_nil, length_be) (omega arith)

-- ---- measured
pub parts_size :
    (r : Record Instr) (x p q : ℕ) →
    p ≡ length (join (be 4 x ∷ front_parts r)) →
    q ≡ length (blocks_bytes r) →
    p + q ≡ length (bytes r)
parts_size r x p q e f =
    let a : length (join (be 4 x ∷ front_parts r) ++ blocks_bytes r) ≡
    length (join (be 4 x ∷ front_parts r)) + length (blocks_bytes r) =
    length-append (join (be 4 x ∷ front_parts r)) (blocks_bytes r) in
    let b : length (join (be 4 x ∷ front_parts r) ++ blocks_bytes r) ≡ length (be 4 x ++ content_bytes r) = ap length (parts_whole r x) in
    let c : length (be 4 x ++ content_bytes r) ≡ length (be 4 x) + length (content_bytes r) = length-append (be 4 x) (content_bytes r) in
    let d : length (be 4 x) ≡ 4 = length_be 4 x in
    let g : length (bytes r) ≡ 4 + length (content_bytes r) = record_size r in
    omega arith

pub four_bytes : (r : Record Instr) → 4 ≤ length (bytes r)
four_bytes r = let e : length (bytes r) ≡ 4 + length (content_bytes r) = record_size r in omega arith

-- ---- written; x: L
pub parts_written :
    {l m n : List ℕ} {p q : ℕ} (r : Record Instr) (x size : ℕ) →
    Wrote l m 0 p (join (be 4 x ∷ front_parts r)) →
    Wrote m n p q (blocks_bytes r) →
    size ≡ length (bytes r) →
    x ≡ size - 4 →
    n ≡ put l 0 (bytes r)
unfolding bytes
parts_written {l} r x size a b e f =
    let g : length (bytes r) ≡ 4 + length (content_bytes r) = record_size r in
    let h : x ≡ length (content_bytes r) = omega arith in
    (wrote_append (join (be 4 x ∷ front_parts r)) (blocks_bytes r) a b).out ∙
    ap (put l 0) (parts_whole r x ∙ ap (λ (k : ℕ). be 4 k ++ content_bytes r) h)

-- ---- written once: the blocks from i on, then moved behind what stands before them, which is written last
pub parts_moved :
    {l m n o : List ℕ} {p q : ℕ} (r : Record Instr) (i x : ℕ) →
    Wrote l m i q (blocks_bytes r) →
    p ≡ length (join (be 4 0 ∷ front_parts r)) →
    i ≤ p →
    length (bytes r) ≤ length l →
    n ≡ put m p (take (q - i) (drop i m)) →
    o ≡ put n 0 (join (be 4 x ∷ front_parts r)) →
    x ≡ p + (q - i) - 4 →
    o ≡ put l 0 (bytes r)
unfolding bytes
parts_moved {l} {m} {n} {o} {p} {q} r i x a e h room f g y =
    let B = blocks_bytes r in
    let F = join (be 4 x ∷ front_parts r) in
    let k : q - i ≡ length B = let z : q ≡ i + length B = a.end in omega arith in
    let same : length F ≡ p = omega (arith, front_size r x, front_size r 0, e) in
    let size : p + length B ≡ length (bytes r) = parts_size r 0 p (length B) e refl in
    let L : x ≡ length (content_bytes r) = omega (arith, y, k, size, record_size r) in
    let part : take (q - i) (drop i m) ≡ B =
    (λ z. take (k z) (drop i (a.out z))) ∙ put_part l i B (omega (arith, h, size, room)) in
    let at : p ≡ 0 + length F = omega (arith, same) in
    let moved : n ≡ put (put l i B) (0 + length F) B = f ∙ (λ z. put (a.out z) (at z) (part z)) in
    g ∙ ap (λ (t : List ℕ). put t 0 F) moved ∙ put_before (put l i B) 0 F B ∙
    put_over l i 0 B (F ++ B) (omega arith) (omega (arith, h, same, length-append F B)) ∙
    ap (put l 0) (parts_whole r x ∙ ap (λ (k : ℕ). be 4 k ++ content_bytes r) L)

-- ---- what stands before the blocks: L, the head, the input's names, the made ones, B
-- v: version, a: A, n: N, xs and ys: the names
front_join :
    (l v a n b : List ℕ) (xs ys : List Name) →
    l ++ ((v ++ (a ++ n)) ++ (join (map name_bytes xs) ++ (join (map name_bytes ys) ++ b))) ≡
    join (l ∷ v ∷ a ∷ n ∷ join (map name_bytes (xs ++ ys)) ∷ b ∷ [])
unfolding join
front_join l v a n b xs ys =
    let ns = join (map name_bytes xs) in
    let ms = join (map name_bytes ys) in
    let both : join (map name_bytes (xs ++ ys)) ≡ ns ++ ms =
    ap join (map-append name_bytes xs ys) ∙ sym (join_append (map name_bytes xs) (map name_bytes ys)) in
    let names : ns ++ (ms ++ b) ≡ join (map name_bytes (xs ++ ys)) ++ (b ++ []) =
    sym (append_assoc ns ms b) ∙ (λ i. sym both i ++ sym (append-nil b) i) in
    ap (λ (t : List ℕ). l ++ t)
    (append_assoc v (a ++ n) (ns ++ (ms ++ b)) ∙
    ap (λ (t : List ℕ). v ++ t) (append_assoc a n (ns ++ (ms ++ b)) ∙ ap (λ (t : List ℕ). a ++ (n ++ t)) names))

pub front_written :
    {o1 o2 o3 o4 o5 o6 : List ℕ} {p q : ℕ} (x v a n b : ℕ) (xs ys : List Name) →
    o2 ≡ put o1 0 (be 4 x) →
    Wrote o2 o3 4 8 (be 1 v ++ (be 1 a ++ be 2 n)) →
    Wrote o3 o4 8 p (join (map name_bytes xs)) →
    Wrote o4 o5 p q (join (map name_bytes ys)) →
    o6 ≡ put o5 q (be 2 b) →
    Wrote o1 o6 0 (q + 2) (join (be 4 x ∷ be 1 v ∷ be 1 a ∷ be 2 n ∷ join (map name_bytes (xs ++ ys)) ∷ be 2 b ∷ []))
front_written {o1} {o6 = o6} {q = q} x v a n b xs ys e f g h k =
    subst (Wrote o1 o6 0 (q + 2)) (front_join (be 4 x) (be 1 v) (be 1 a) (be 2 n) (be 2 b) xs ys)
    (wrote_append (be 4 x) _ (wrote_number 4 x e)
    (wrote_append _ _ f (wrote_append _ _ g (wrote_append _ _ h (wrote_number 2 b k)))))
