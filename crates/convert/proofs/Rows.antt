-- Rows of parts: what is asked of a row is asked of its first part and of the rest, and what is done of both is done of the row.
use Prim.Native.Nat.{ℕ, suc, ◌+◌, ◌-◌, ◌<◌, ◌≤◌}
use mathlib.Core.Path.{◌≡◌, refl, sym, ap, ◌∙◌, subst}
use mathlib.Core.List.{List, ◌++◌, append_assoc}
use native.Mathlib.Omega.{arith}
use lib.ListN.{length, drop, length-append}
use Rattle.record.specs.Record.{Instr, Block}
use Rattle.record.specs.Ranged.{RangedInstr, RangedBlock}
use Rattle.record.specs.Write.{row_bytes, instr_bytes, block_bytes, join}
use Rattle.record.specs.Decode.{items, behind, instr_from, instr_end, block_end}
use Rattle.record.specs.Again.{block_in}
use Rattle.record.specs.Good.{Each}
use Rattle.record.specs.Sizes.{places_end}
use Rattle.record.proofs.Rows.{one_more, behind_on}
use Rattle.record.proofs.Stands.{past}
use Rattle.record.proofs.Ends.{instr_past, block_past}
use Rattle.read_layout.specs.declared.Spot.{Spot}
use Rattle.write_bytes.proofs.Wrote.{Rest, rest_all, rest_less, rest_none}
use Rattle.convert.specs.Parts.{Stands, Done}

-- a kind of parts: the bytes of one, by those of an id; what fits that; the part at a place of s, where ids have so many bytes, and where it ends
pub record Kind (A : Type 0) (from : ℕ) (s : List ℕ) : Type 1 where
  pub bytes : ℕ → A → List ℕ
  pub ok : ℕ → A → Type 0
  pub one : ℕ → A
  pub next : ℕ → ℕ
  pub long : (p : ℕ) → next p ≡ p + length (bytes from (one p))

abbrev pub instrs : (w : ℕ) (s : List ℕ) → Kind Instr w s
instrs w s =
    record { bytes = instr_bytes; ok = RangedInstr; one = instr_from w s; next = instr_end w s; long = instr_past w s }

abbrev pub blocks : (w : ℕ) (s : List ℕ) → Kind (Block Instr) w s
blocks w s =
    record { bytes = block_bytes; ok = RangedBlock; one = block_in w s; next = block_end w s; long = block_past w s }

-- s holds a row of such parts with ids of the one width, and it is written with ids of the other
module _ {A : Type 0} {from : ℕ} {s : List ℕ} (k : Kind A from s) (to : ℕ) where
  abbrev f : ℕ → A → List ℕ
  f = k.bytes

  abbrev one : ℕ → A
  one = k.one

  abbrev next : ℕ → ℕ
  next = k.next

  abbrev row : ℕ → ℕ → List A
  row p n = items one next p n

  abbrev One : Spot → Type 0
  One at = Stands f (k.ok to) from to s at (one at.p) (next at.p)

  abbrev pub Row : Spot → ℕ → Type 0
  Row at n = Stands (row_bytes f) (Each (λ left x. k.ok to x)) from to s at (row at.p n) (behind next at.p n)

  grows : (p : ℕ) → p ≤ next p
  grows p = omega (arith, k.long p)

  bytes_more : (w p n : ℕ) → row_bytes f w (row p (suc n)) ≡ f w (one p) ++ row_bytes f w (row (next p) n)
  unfolding items join
  bytes_more w p n = refl

  -- ---- what a row asks
  first_of : (at : Spot) (n : ℕ) → Row at (suc n) → One at
  unfolding items behind join
  first_of at n a =
      let x = f from (one at.p) in
      let y = row_bytes f from (row (next at.p) n) in
      let l : length (row_bytes f to (row at.p (suc n))) ≡ length (f to (one at.p)) + length (row_bytes f to (row (next at.p) n)) =
      length-append (f to (one at.p)) (row_bytes f to (row (next at.p) n)) in
      record {
        rest = y ++ a.rest;
        stands = a.stands ∙ append_assoc x y a.rest;
        fits = a.fits.0;
        reads = omega (arith, a.reads, behind_on next grows (next at.p) n);
        writes = omega (arith, a.writes, l);
      }

  rest_of : (at r : Spot) (n : ℕ) {out out' : List ℕ} → Row at (suc n) → Done f to out out' at r (one at.p) (next at.p) → Row r n
  unfolding items behind join
  rest_of at r n a d =
      let x = f from (one at.p) in
      let y = row_bytes f from (row (next at.p) n) in
      let l : length (row_bytes f to (row at.p (suc n))) ≡ length (f to (one at.p)) + length (row_bytes f to (row (next at.p) n)) =
      length-append (f to (one at.p)) (row_bytes f to (row (next at.p) n)) in
      let here : drop (next at.p) s ≡ y ++ a.rest =
      ap (λ (p : ℕ). drop p s) (k.long at.p) ∙ past s x (y ++ a.rest) at.p (a.stands ∙ append_assoc x y a.rest) in
      let q : r.q + length (row_bytes f to (row (next at.p) n)) < places_end = omega (arith, a.writes, l, d.wrote.end) in
      rw d.next (record { rest = a.rest; stands = here; fits = a.fits.1; reads = a.reads; writes = q })

  pub row_first : (at : Spot) (n : ℕ) → 0 < n → Row at n → One at
  row_first at n h a = first_of at (n - 1) (subst (Row at) (one_more n h) a)

  -- m: one less than n
  pub row_rest :
      (at r : Spot) (n m : ℕ) {out out' : List ℕ} → 0 < n → m ≡ n - 1 → Done f to out out' at r (one at.p) (next at.p) → Row at n → Row r m
  row_rest at r n m h e d a = subst (Row r) (sym e) (rest_of at r (n - 1) (subst (Row at) (one_more n h) a) d)

  -- ---- the loop over a row: what is left from here gives the whole
  pub record Going (at₀ : Spot) (n₀ : ℕ) (out₀ : List ℕ) (at : Spot) (n : ℕ) (out : List ℕ) : Type 0 where
    pub wrote : Rest out at.q (row_bytes f to (row at.p n)) out₀ at₀.q (row_bytes f to (row at₀.p n₀))
    pub ends : behind next at.p n ≡ behind next at₀.p n₀

  pub going_all : (at : Spot) (n n₀ : ℕ) {out : List ℕ} → n ≡ n₀ → Going at n₀ out at n out
  going_all at n n₀ {out} e = subst (λ (m : ℕ). Going at n₀ out at m out) (sym e) (record { wrote = rest_all; ends = refl })

  pub going_less :
      (at₀ : Spot) (n₀ : ℕ) {out₀ : List ℕ} (at r : Spot) (n m : ℕ) {out out' : List ℕ} → 0 < n → m ≡ n - 1 →
      Done f to out out' at r (one at.p) (next at.p) → Going at₀ n₀ out₀ at n out → Going at₀ n₀ out₀ r m out'
  unfolding behind
  going_less at₀ n₀ {out₀} at r n m {out} {out'} h e d g =
      let left = n - 1 in
      let a = subst (λ (j : ℕ). Going at₀ n₀ out₀ at j out) (one_more n h) g in
      subst (λ (j : ℕ). Going at₀ n₀ out₀ r j out') (sym e)
      (record {
        wrote =
            rest_less (f to (one at.p)) _ _ (bytes_more to at.p left ∙ ap (λ (p : ℕ). f to (one at.p) ++ row_bytes f to (row p left)) (sym d.next)) d.wrote
            a.wrote;
        ends = ap (λ (p : ℕ). behind next p left) d.next ∙ a.ends;
      })

  pub going_none :
      (at₀ : Spot) (n₀ : ℕ) {out₀ : List ℕ} (at : Spot) (n : ℕ) {out : List ℕ} → n ≡ 0 → Going at₀ n₀ out₀ at n out →
      Done (row_bytes f) to out₀ out at₀ at (row at₀.p n₀) (behind next at₀.p n₀)
  unfolding items behind join
  going_none at₀ n₀ at n z g =
      record {
        wrote = rest_none _ (ap (λ (j : ℕ). row_bytes f to (row at.p j)) z) g.wrote;
        next = ap (behind next at.p) (sym z) ∙ g.ends;
      }
