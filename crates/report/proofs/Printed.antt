-- What the program prints, with any buffer of 65,536 bytes: it stands in the buffer's first bytes, and what the buffer held does not count.
use Prim.Native.Nat.{ℕ, ◌+◌, ◌<◌, ◌≤◌}
use mathlib.Core.Path.{◌≡◌, refl, sym, ap, ◌∙◌}
use mathlib.Core.Bool.{Bool, true, false, cond}
use mathlib.Core.List.{List, [], ◌∷◌, ◌++◌}
use native.Mathlib.Omega.{arith}
use lib.ListN.{length, take, drop, replicate, length-replicate}
use lib.Seq.{take-append_seam}
use lib.Dec.{ltb}
use borrow.Author.Tests.{ltb-false, lt-ltb, le-ltb}
use Rattle.arith.proofs.Clash.{clash}
use Rattle.record.specs.Record.{Placed, Record, plain, limits}
use Rattle.record.specs.Reader.{Res, got, fault}
use Rattle.record.specs.Typing.{accept}
use Rattle.std.specs.Prelude.{Ok, Err}
use Rattle.record.specs.Answer.{Returned}
use Rattle.numbering.specs.declared.Totals.{Totals}
use Rattle.numbering.specs.declared.RewriteError.{RewriteError}
use Rattle.numbering.specs.declared.RewriteError.TheVariants.{Room}
use Rattle.numbering.specs.Made.{made}
use Rattle.numbering.specs.Rewrite.{Rewritten, totals, rewrite_answer, rewritten_bytes, rewrite_result, rewrite_output, rewrite, rewrite_leaves}
use Rattle.numbering.specs.Program.{most_input, buffer_size, refused_line, shown, output_with, program_output}
use Rattle.write_bytes.specs.Put.{Wrote}
use Rattle.write_bytes.proofs.Put.{length_put, put_first}

-- ---- the program's buffer
-- of a record with these bytes; t: whether it has no room
shown_same :
    (new b c : List ℕ) (k : ℕ) (t : Bool) →
    shown (cond t (Err (Room (length new))) (Ok (totals (length new) k))) (cond t b (new ++ drop (length new) b)) ≡
    shown (cond t (Err (Room (length new))) (Ok (totals (length new) k))) (cond t c (new ++ drop (length new) c))
unfolding shown
shown_same new b c k true = refl
shown_same new b c k false = take-append_seam new (drop (length new) b) ∙ sym (take-append_seam new (drop (length new) c))

answer_same :
    (b c : List ℕ) → length b ≡ length c → (v : Res (Record Placed)) →
    shown (rewrite_result (length b) v) (rewrite_output b v) ≡ shown (rewrite_result (length c) v) (rewrite_output c v)
unfolding shown rewrite_result rewrite_output
answer_same b c e (fault f o) = refl
answer_same b c e (got r p) =
    let new = rewritten_bytes r in
    let k = length (made (plain r)) in
    rw e (shown_same new b c k (ltb (length c) (length new)))

-- what is printed depends on the buffer's length alone
prints_same : (b c s : List ℕ) → length b ≡ length c → output_with b s ≡ output_with c s
unfolding output_with rewrite rewrite_leaves
prints_same b c s e =
    ap (λ (t : List ℕ). cond (ltb most_input (length s)) (refused_line (record { number = 10; values = most_input ∷ [] })) t)
    (answer_same b c e (accept limits s))

-- so with any buffer of 65,536 bytes it is the program's output
program_prints : (b s : List ℕ) → length b ≡ buffer_size → output_with b s ≡ program_output s
unfolding program_output
program_prints b s e = prints_same b (replicate buffer_size 0) s (e ∙ sym (length-replicate {A = ℕ} buffer_size 0))

-- ---- the definition by cases
pub prints_long : (s : List ℕ) → most_input < length s → program_output s ≡ refused_line (record { number = 10; values = most_input ∷ [] })
unfolding program_output output_with
prints_long s h = rw (lt-ltb most_input (length s) h)

prints_answer :
    (b s : List ℕ) (a : Rewritten) →
    length b ≡ buffer_size →
    length s ≤ most_input →
    rewrite s b ≡ a →
    program_output s ≡ shown a (rewrite_leaves s b)
unfolding output_with
prints_answer b s a l h e = sym (program_prints b s l) ∙ rw (le-ltb most_input (length s) h, e)

pub prints_refused :
    (b s : List ℕ) (e : RewriteError) (n v : ℕ) →
    length b ≡ buffer_size →
    length s ≤ most_input →
    rewrite s b ≡ Err e →
    n ≡ (rewrite_answer (Err e)).number →
    (rewrite_answer (Err e)).values ≡ v ∷ [] →
    program_output s ≡ refused_line (record { number = n; values = v ∷ [] })
unfolding shown
prints_refused b s e n v l h q f g =
    prints_answer b s (Err e) l h q ∙
    ap (λ (m : ℕ). refused_line (record { number = m; values = (rewrite_answer (Err e)).values })) (sym f) ∙
    ap (λ (vs : List ℕ). refused_line (record { number = n; values = vs })) g

-- ---- what stands in the buffer
-- m: the buffer after the line, or the rewriting, was put there
abbrev pub Prints : List ℕ → ℕ → List ℕ → Type 0
Prints s r m = (r ≤ length m) × (take r m ≡ program_output s)

-- a line
pub prints_line :
    (s l : List ℕ) {m : List ℕ} {r : ℕ} (a : Returned) →
    program_output s ≡ refused_line a →
    Wrote l m 0 r (refused_line a) × (r ≤ 36) →
    length l ≡ buffer_size →
    Prints s r m
prints_line s l {m} {r} a e w h =
    let t = refused_line a in
    let z : r ≡ 0 + length t = w.0.end in
    let n : r ≡ length t = omega arith in
    let p : m ≡ t ++ drop (length t) l = w.0.out ∙ put_first l t (omega arith) in
    let q : length m ≡ length l = ap length w.0.out ∙ length_put l 0 t in
    (omega arith, ap (λ (k : ℕ). take k m) n ∙ ap (take (length t)) p ∙ take-append_seam t (drop (length t) l) ∙ sym e)

-- a rewriting: what is written fits
written_by : (room m j : ℕ) (r : Totals) (t : Bool) → ltb room m ≡ t → ◌≡◌ {A = Rewritten} (cond t (Err (Room m)) (Ok (totals m j))) (Ok r) → r.bytes ≤ room
written_by room m j r true q e = clash (cc)
written_by room m j r false q e =
    let g : totals m j ≡ r = cc in
    let f : m ≡ r.bytes = ap (λ (x : Totals). x.bytes) g in
    let h : m ≤ room = ltb-false room m q in
    omega arith

written_fits : (s b : List ℕ) (r : Totals) → rewrite s b ≡ Ok r → r.bytes ≤ length b
unfolding rewrite rewrite_result
written_fits s b r e = go (accept limits s) e
  where
    go : (v : Res (Record Placed)) → rewrite_result (length b) v ≡ Ok r → r.bytes ≤ length b
    go (fault f o) q = clash (cc)
    go (got x p) q =
        let m = length (rewritten_bytes x) in
        written_by (length b) m (length (made (plain x))) r (ltb (length b) m) refl q

pub prints_rewriting :
    (b s : List ℕ) {m : List ℕ} (r : Totals) →
    length b ≡ buffer_size →
    length s ≤ most_input →
    rewrite s b ≡ Ok r →
    m ≡ rewrite_leaves s b →
    length m ≡ length b →
    Prints s r.bytes m
unfolding shown
prints_rewriting b s {m} r l h e f q =
    let g : r.bytes ≤ length b = written_fits s b r e in
    (omega arith, ap (take r.bytes) f ∙ sym (prints_answer b s (Ok r) l h e))
