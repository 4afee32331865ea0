-- The end of a record, and the part of its contents behind N by the verdict of `names_and_blocks`.
use Prim.Native.Nat.{ℕ, ◌<◌, ◌≤◌}
use mathlib.Core.Path.{◌≡◌, refl, sym, ap, ◌∙◌}
use mathlib.Core.List.{List, []}
use lib.ListN.{length}
use borrow.Author.Tests.{lt-ltb, le-ltb}
use Rattle.record.specs.declared.Limits.{Limits}
use Rattle.record.specs.declared.Refusal.TheVariants.{Length}
use Rattle.std.specs.Prelude.{Ok, Err}
use Rattle.record.specs.Record.{Name, Placed, Block, Record, most_blocks, id_bytes}
use Rattle.record.specs.Reader.{Res, got, fault, Reader, then, give, ◌>>=◌, field, times}
use Rattle.record.specs.Tests.{at_most}
use Rattle.record.specs.Read.{block, names, end}
use Rattle.record.specs.Answer.{fault_at, verdict}
use Rattle.record.proofs.Following.{made}
use Rattle.check_record.specs.Parts.{names_and_blocks}

pub bytes_left : (s : List ℕ) (at : ℕ) → at < length s → Err (fault_at Length at) ≡ verdict (end s at)
unfolding end
bytes_left s at h = rw (lt-ltb at (length s) h)

pub no_byte_left : (s : List ℕ) (at : ℕ) → length s ≤ at → Ok at ≡ verdict (end s at)
unfolding end
no_byte_left s at h = rw (le-ltb at (length s) h)

-- readers whose rests have the same verdicts have the same verdict
bind_verdict : {A B C : Type 0} (r : Reader A) (f : A → Reader B) (g : A → Reader C) →
    ((x : A) (s : List ℕ) (p : ℕ) → verdict (f x s p) ≡ verdict (g x s p)) →
    (s : List ℕ) (at : ℕ) → verdict ((r >>= f) s at) ≡ verdict ((r >>= g) s at)
unfolding ◌>>=◌
bind_verdict {A} r f g h s at = go (r s at)
  where
    go : (z : Res A) → verdict (then z (λ x p. f x s p)) ≡ verdict (then z (λ x p. g x s p))
    go (got x p) = h x s p
    go (fault k o) = refl

-- w: the bytes of an id that the code found for version v; a: the arguments
module _ (lim : Limits) (w v a n : ℕ) (e : w ≡ id_bytes v) where
  abbrev record_of : List Name → List (Block Placed) → Record Placed
  record_of xs bs = record { version = v; args = a; names = xs; blocks = bs }

  pub contents_rest : (s : List ℕ) (at : ℕ) →
      verdict (names_and_blocks lim w n s at) ≡
      verdict
      ((names lim [] n >>= λ xs.
      field 2 (at_most most_blocks) >>= λ b.
      times b (λ left. block lim (id_bytes v) n b) >>= λ bs. give (record_of xs bs)) s at)
  unfolding names_and_blocks
  contents_rest s at =
      ap (λ (w : ℕ). verdict (names_and_blocks lim w n s at)) e
      ∙ bind_verdict (names lim [] n) _ _ (λ xs.
      bind_verdict (field 2 (at_most most_blocks)) _ _ (λ b t p.
      sym (made (times b (λ left. block lim (id_bytes v) n b)) (record_of xs) t p))) s at
