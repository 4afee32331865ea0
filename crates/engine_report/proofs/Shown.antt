-- What the program has to write: of a refusal the answer alone, of a run the answer, the events and the store.
use Prim.Native.Nat.{ℕ, ◌+◌, ◌-◌, ◌<◌, ◌≤◌}
use mathlib.Core.Path.{◌≡◌, sym, ap, ◌∙◌, subst}
use mathlib.Core.Bool.{Bool, cond}
use mathlib.Core.List.{List, ◌++◌, append-nil}
use native.Mathlib.Omega.{arith}
use lib.ListN.{length, take, drop, length-append}
use lib.Seq.{take-append_seam}
use borrow.Author.Tests.{lt-ltb, le-ltb, eq-eqb, ne_eqb}
use Rattle.record.specs.Record.{limits}
use Rattle.record.specs.Reader.{num_at}
use Rattle.std.specs.Prelude.{Ok, Err}
use Rattle.running.specs.Engine.{Ran, Outcome, outcome, events_left, store_left, written, result, events_out, store_out, engine, engine_events, engine_store, engine_answer}
use Rattle.running.specs.Program.{most_run_input, events_room, store_room, part, part_end, returned_bytes, bytes_left, when_done, ran_bytes, refused_input, output_of, output_with, run_output}
use Rattle.running.proofs.Engine.{result_tells, events_written, store_written}
use Rattle.engine_report.specs.declared.Parts.{Parts}
use Rattle.engine_report.specs.Shows.{Shows, parts_of}

-- ---- an answer alone
pub shows_only :
    {head events left bytes : List ℕ} (n : ℕ) →
    n ≤ length head →
    take n head ≡ bytes →
    Shows (record { head = n; events = 0; left = 0 }) head events left bytes
shows_only {head} {events} {left} {bytes} n h e =
    record {
      head_within = h;
      events_within = omega arith;
      left_within = omega arith;
      all = append-nil (take n head) ∙ e;
    }

pub shows_refused :
    {r : Parts} {head events left bytes : List ℕ} (v : ℕ) →
    (r ≡ record { head = 9; events = 0; left = 0 }) × (take 9 head ≡ refused_input v) →
    41 ≤ length head →
    bytes ≡ refused_input v →
    Shows r head events left bytes
shows_refused {r} {head} {events} {left} {bytes} v w h e =
    subst (λ (p : Parts). Shows p head events left bytes) (sym w.0) (shows_only 9 (omega arith) (w.1 ∙ sym e))

-- ---- a run
-- the first bytes of what was lent
stands : (b lent : List ℕ) {out : List ℕ} (n : ℕ) → out ≡ written b lent → length b ≡ n → (n ≤ length out) × (take n out ≡ b)
stands b lent {out} n p q =
    let l : length out ≡ length b + length (drop (length b) lent) = ap length p ∙ length-append b (drop (length b) lent) in
    (omega arith, ap (take n) p ∙ ap (λ (k : ℕ). take k (written b lent)) (sym q) ∙ take-append_seam b (drop (length b) lent))

-- a: what the outcome o comes to; n: the bytes of the answer
outcome_shown :
    {head events' left' : List ℕ} (events left : List ℕ) (o : Outcome) (a : Ran) (n : ℕ) →
    result (length events) (length left) o ≡ a →
    events' ≡ events_out events (length left) o →
    left' ≡ store_out (length events) left o →
    n ≤ length head →
    take n head ≡ returned_bytes (engine_answer a) →
    Shows (parts_of n a) head events' left' (ran_bytes a (bytes_left o))
unfolding parts_of when_done bytes_left
outcome_shown {head} {events'} {left'} events left o (Ok r) n d p q h w =
    let t = result_tells (length events) (length left) o r.events r.store r.steps r.ending d in
    let es = events_left t.width t.config in
    let ls = store_left t.names t.config in
    let x =
    stands es events r.events (p ∙ events_written events (length left) o t.width t.names t.config t.comes t.enough)
    t.events_count in
    let y =
    stands ls left r.store (q ∙ store_written (length events) left o t.width t.names t.config t.comes t.enough)
    t.store_count in
    record {
      head_within = h;
      events_within = x.0;
      left_within = y.0;
      all =
          (λ i. w i ++ (x.1 i ++ y.1 i))
          ∙ ap (λ (z : Outcome). returned_bytes (engine_answer (Ok r)) ++ bytes_left z) (sym t.comes);
    }
outcome_shown events left o (Err e) n d p q h w = shows_only n h (w ∙ sym (append-nil _))

-- what the engine answers and leaves, of the parts of an input whose limit has eight bytes
pub run_shown :
    {r : Parts} {head events' left' : List ℕ} (s : List ℕ) (a b c limit : ℕ) (events left : List ℕ) (x : Ran) (n : ℕ) →
    length s - c ≡ 8 →
    limit ≡ num_at s c 8 →
    (x ≡ engine (take a s) (part s a b) (part s b c) limit events left) ×
    ((events' ≡ engine_events (take a s) (part s a b) (part s b c) limit events left) ×
    (left' ≡ engine_store (take a s) (part s a b) (part s b c) limit events left)) →
    (n ≤ 41) × (take n head ≡ returned_bytes (engine_answer x)) →
    41 ≤ length head →
    r ≡ parts_of n x →
    Shows r head events' left' (output_of (length events) (length left) s a b c)
unfolding engine engine_events engine_store output_of
run_shown {r} {head} {events'} {left'} s a b c limit events left x n eight limit_is said w h e =
    let o = outcome limits (take a s) (part s a b) (part s b c) limit in
    let o' = outcome limits (take a s) (part s a b) (part s b c) (num_at s c 8) in
    let same : o ≡ o' = ap (λ (k : ℕ). outcome limits (take a s) (part s a b) (part s b c) k) limit_is in
    let t : Shows (parts_of n x) head events' left' (ran_bytes x (bytes_left o)) =
    outcome_shown events left o x n (sym said.0) said.1.0 said.1.1 (omega (arith, w.0)) w.1 in
    let all : ran_bytes x (bytes_left o) ≡ output_of (length events) (length left) s a b c =
    (λ i. ran_bytes (said.0 i) (bytes_left o))
    ∙ ap (λ (z : Outcome). ran_bytes (result (length events) (length left) z) (bytes_left z)) same
    ∙ ap (λ (t : Bool). cond t (ran_bytes (result (length events) (length left) o') (bytes_left o')) (refused_input c))
    (sym (eq-eqb (length s - c) 8 eight)) in
    subst (λ (p : Parts). Shows p head events' left' (output_of (length events) (length left) s a b c)) (sym e)
    (subst (λ (z : List ℕ). Shows (parts_of n x) head events' left' z) all t)

-- an input whose limit has not
pub no_limit :
    (room more : ℕ) (s : List ℕ) (a b c : ℕ) → (length s - c ≡ 8 → ⊥) → output_of room more s a b c ≡ refused_input c
unfolding output_of
no_limit room more s a b c h = rw (ne_eqb (length s - c) 8 h)

-- ---- the whole input
-- a, b and c: where its parts end
pub input_shown :
    {r : Parts} {head events' left' : List ℕ} (room more : ℕ) (s : List ℕ) (a b c : ℕ) →
    length s ≤ most_run_input →
    a ≡ part_end s 0 →
    b ≡ part_end s a →
    c ≡ part_end s b →
    Shows r head events' left' (output_of room more s a b c) →
    Shows r head events' left' (output_with room more s)
unfolding output_with
input_shown {r} {head} {events'} {left'} room more s a b c h p q e w =
    let b-is : b ≡ part_end s (part_end s 0) = q ∙ ap (part_end s) p in
    let c_is : c ≡ part_end s (part_end s (part_end s 0)) = e ∙ ap (part_end s) b-is in
    let all : output_of room more s a b c ≡ output_with room more s =
    (λ i. output_of room more s (p i) (b-is i) (c_is i)) ∙ rw (le-ltb most_run_input (length s) h) in
    subst (λ (z : List ℕ). Shows r head events' left' z) all w

pub too_long : (s : List ℕ) → most_run_input < length s → run_output s ≡ refused_input most_run_input
unfolding run_output output_with
too_long s h = rw (lt-ltb most_run_input (length s) h)

-- with buffers of the program's sizes
pub program_shown :
    {r : Parts} {head events' left' : List ℕ} (s : List ℕ) (room more : ℕ) →
    room ≡ events_room →
    more ≡ store_room →
    Shows r head events' left' (output_with room more s) →
    Shows r head events' left' (run_output s)
unfolding run_output
program_shown {r} {head} {events'} {left'} s room more p q w =
    subst (λ (z : List ℕ). Shows r head events' left' z) (λ i. output_with (p i) (q i) s) w

-- ---- the end of a part
pub part_cut : (s : List ℕ) (at n x : ℕ) → n ≡ 4 + x → x ≡ num_at s at 4 → length s - at < n → length s ≡ part_end s at
unfolding part_end
part_cut s at n x e f h =
    let d : n ≡ 4 + num_at s at 4 = e ∙ ap (λ (k : ℕ). 4 + k) f in
    rw (lt-ltb (length s - at) (4 + num_at s at 4) (subst (λ (k : ℕ). length s - at < k) d h))

pub part_whole : (s : List ℕ) (at n x : ℕ) → n ≡ 4 + x → x ≡ num_at s at 4 → n ≤ length s - at → at + n ≡ part_end s at
unfolding part_end
part_whole s at n x e f h =
    let d : n ≡ 4 + num_at s at 4 = e ∙ ap (λ (k : ℕ). 4 + k) f in
    ap (λ (k : ℕ). at + k) d ∙ rw (le-ltb (length s - at) (4 + num_at s at 4) (subst (λ (k : ℕ). k ≤ length s - at) d h))
