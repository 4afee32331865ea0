-- The names of a record that is read without a fault, and B behind them, lie inside it.
use Prim.Native.Nat.{ℕ, ◌+◌, ◌<◌, ◌≤◌}
use mathlib.Core.Path.{◌≡◌, sym, ◌∙◌}
use mathlib.Core.List.{List, []}
use native.Mathlib.Omega.{arith}
use lib.ListN.{length}
use Rattle.record.specs.declared.Limits.{Limits}
use Rattle.record.specs.Reader.{Test}
use Rattle.record.specs.Record.{Placed, Record, most_args, most_blocks}
use Rattle.record.specs.Reader.{got, Reader, ◌>>=◌, num_at, field}
use Rattle.record.specs.Tests.{at_most, version_test, names_test}
use Rattle.record.specs.Read.{contents, read}
use Rattle.record.specs.Decode.{names_count, names_end}
use Rattle.record.proofs.Fields.{field_tells, bind_got}
use Rattle.record.proofs.Decode.{Decodes, field_decodes, names_decode, length_decodes}

-- if the reader passes, s has at least k bytes
record Reaches {A : Type 0} (r : Reader A) (s : List ℕ) (at k : ℕ) : Type 0 where
  pub told : (y : A) (q : ℕ) → r s at ≡ got y q → k ≤ length s

field_reaches : (w : ℕ) (test : ℕ → Test) (s : List ℕ) (at : ℕ) → 0 < w → Reaches (field w test) s at (at + w)
field_reaches w test s at h = record { told = λ y q e. omega (arith, h, (field_tells w test s at y q e).room) }

module _ {A B : Type 0} {r : Reader A} (f : A → Reader B) {s : List ℕ} {at k : ℕ} where
  first_reaches : Reaches r s at k → Reaches (r >>= f) s at k
  first_reaches h =
      record { told = λ z o e. let b = bind_got r f s at z o e in h.told b.value b.place b.first }

  then_reaches : {x : A} {p : ℕ} → Decodes r s at x p → Reaches (f x) s p k → Reaches (r >>= f) s at k
  then_reaches {x} {p} d h =
      record {
        told = λ z o e.
            let b = bind_got r f s at z o e in
            let t : (b.value ≡ x) × (b.place ≡ p) = d.told b.value b.place b.first in
            h.told z o (sym (λ i. f (t.0 i) s (t.1 i)) ∙ b.second);
      }

contents_reach : (lim : Limits) (s : List ℕ) → Reaches (contents lim) s 4 (names_end s + 2)
unfolding contents names_end
contents_reach lim s =
    then_reaches _ (field_decodes 1 version_test s 4)
    (then_reaches _ (field_decodes 1 (at_most most_args) s 5)
    (then_reaches _ (field_decodes 2 (names_test lim.names (num_at s 5 1)) s 6)
    (then_reaches _ (names_decode lim [] s (names_count s) 8)
    (first_reaches _ (field_reaches 2 (at_most most_blocks) s (names_end s) (omega arith))))))

pub names_inside : (lim : Limits) (s : List ℕ) (r : Record Placed) (p : ℕ) → read lim s 0 ≡ got r p → names_end s + 2 ≤ length s
unfolding read
names_inside lim s r p e = (then_reaches _ (length_decodes s) (first_reaches _ (contents_reach lim s))).told r p e
