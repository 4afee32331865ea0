-- The table of the names' types as the types of the record, and the answer of check by the two passes.
use Prim.Native.Nat.{ℕ, zero, suc, ◌+◌, ◌≤◌}
use mathlib.Core.Path.{◌≡◌, refl, sym, ap, ◌∙◌}
use mathlib.Core.List.{List, [], ◌∷◌, ◌++◌}
use mathlib.Core.Bool.{Bool, true, false, not}
use native.Mathlib.Omega.{arith}
use lib.ListN.{length, get_or, drop, replicate, length-replicate}
use lib.Seq.{sets, sets-eq, get_or-drop}
use Rattle.arith.proofs.Clash.{clash}
use Rattle.record.specs.declared.NameIx.{NameIx}
use Rattle.record.specs.declared.Refusal.TheVariants.{Types}
use Rattle.std.specs.Prelude.{⊤, Result, Ok, Err}
use Rattle.record.specs.declared.Fault.{Fault}
use Rattle.record.specs.Record.{Placed, Block, Record, type_in, function, plain, limits}
use Rattle.record.specs.Reader.{Res, got, fault, refuse, then}
use Rattle.record.specs.Read.{read}
use Rattle.record.specs.Typing.{well_typed, body_types, block_types, accept}
use Rattle.record.specs.Answer.{fault_at, verdict, checked_as, checked}
use Rattle.record.specs.Again.{types_in}
use Rattle.record.specs.Decode.{name_from, name_end, names_count, blocks_end, record_from}
use Rattle.record.proofs.Tests.{names_limit}
use Rattle.record.proofs.Accepted.{read_ok}
use Rattle.record.proofs.Decode.{length_items, read_decodes}
use Rattle.read_layout.specs.declared.Layout.{Layout}
use Rattle.read_layout.specs.Layout.{types_from, layout_of}
use Rattle.read_layout.proofs.Tables.{types_are, length_types}
use Rattle.check_types.specs.Passes.{blocks_verdict}
use Rattle.checker.specs.Pass.{typed_verdict}

-- ---- the table
-- zeros behind a list change no entry, past the end it is 0
zeros_behind : (ts zs : List ℕ) → ((x : ℕ) → get_or zs x 0 ≡ 0) → (x : ℕ) → get_or (ts ++ zs) x 0 ≡ get_or ts x 0
zeros_behind [] zs h x = h x
zeros_behind (t ∷ ts) zs h zero = refl
zeros_behind (t ∷ ts) zs h (suc x) = zeros_behind ts zs h x

abbrev zeros : ℕ → List ℕ
zeros n = replicate n 0

zeros_at : (n x : ℕ) → get_or (zeros n) x 0 ≡ 0
zeros_at zero x = refl
zeros_at (suc n) zero = refl
zeros_at (suc n) (suc x) = zeros_at n x

-- a table of zeros with the types put in says of each name what the types say
table_types : (m : ℕ) (ts : List ℕ) → length ts ≤ m → (x : NameIx) → type_in (sets (zeros m) 0 ts) x ≡ type_in ts x
unfolding type_in
table_types m ts h x =
    let room : 0 + length ts ≤ length (zeros m) = omega (arith, length-replicate {A = ℕ} m 0, h) in
    let rest = drop (0 + length ts) (zeros m) in
    ap (λ (l : List ℕ). get_or l x.0 0) (sets-eq ts (zeros m) 0 room)
    ∙ zeros_behind ts rest (λ y. get_or-drop (0 + length ts) (zeros m) y 0 ∙ zeros_at m (0 + length ts + y)) x.0

-- ---- the second pass; l: what the head says
pub typed_is :
    (s table : List ℕ) (l : Layout) (r : Result ℕ Fault) →
    l ≡ layout_of s →
    table ≡ sets (zeros 256) 0 (types_from s 8 (names_count s)) →
    r ≡ blocks_verdict l.width table s (l.end + 2) l.blocks →
    names_count s ≤ 256 →
    r ≡ typed_verdict s
unfolding typed_verdict record_from blocks_end blocks_verdict layout_of
typed_is s table l r el et er h =
    let ts = types_in s in
    let room : length ts ≤ 256 = omega (arith, ap length (types_are s), length_types s 8 (names_count s), h) in
    let t : (x : NameIx) → type_in table x ≡ type_in ts x =
    λ x. ap (λ (l : List ℕ). type_in l x) (et ∙ ap (sets (zeros 256) 0) (types_are s)) ∙ table_types 256 ts room x in
    er
    ∙ ap (λ (k : Layout). blocks_verdict k.width table s (k.end + 2) k.blocks) el
    ∙ ap
    (λ (f : NameIx → ℕ). verdict (block_types {A = Unit {0}} f (record_from s).blocks (got tt (blocks_end s))))
    (λ i x. t x i)

names_length : (s : List ℕ) → length (record_from s).names ≡ names_count s
unfolding record_from
names_length s = length_items (name_from s) (name_end s) (names_count s) 8

-- ---- the answer
-- the place forgotten
abbrev as_checked : Result ℕ Fault → Result ⊤ Fault
as_checked (Ok p) = Ok tt
as_checked (Err f) = Err f

-- it does not depend on what is given at the end, nor on the place
module _ {A B : Type 0} (t : NameIx → ℕ) where
  same_refuse :
      (b : Bool) (o : ℕ) (r : Res A) (q : Res B) → checked_as r ≡ as_checked (verdict q) →
      checked_as (refuse b Types o r) ≡ as_checked (verdict (refuse b Types o q))
  same_refuse true o r q h = refl
  same_refuse false o r q h = h

  same_body :
      (is : List Placed) (r : Res A) (q : Res B) → checked_as r ≡ as_checked (verdict q) →
      checked_as (body_types t is r) ≡ as_checked (verdict (body_types t is q))
  unfolding body_types
  same_body [] r q h = h
  same_body (i ∷ is) r q h = same_refuse (not (well_typed t i.it)) i.at (body_types t is r) (body_types t is q) (same_body is r q h)

  same_blocks :
      (bs : List (Block Placed)) (r : Res A) (q : Res B) → checked_as r ≡ as_checked (verdict q) →
      checked_as (block_types t bs r) ≡ as_checked (verdict (block_types t bs q))
  unfolding block_types
  same_blocks [] r q h = h
  same_blocks (b ∷ bs) r q h = same_body b.body (block_types t bs r) (block_types t bs q) (same_blocks bs r q h)

-- a fault of reading is the answer
pub checked_refused : (s : List ℕ) (f : Fault) → verdict (read limits s 0) ≡ Err f → Err f ≡ checked s
unfolding checked accept
checked_refused s f h = go (read limits s 0) h
  where
    go :
        (v : Res (Record Placed)) → verdict v ≡ Err f →
        Err f ≡ checked_as (then v (λ r p. block_types (type_in (function (plain r)).types) r.blocks (got r p)))
    go (got r p) h = clash (cc)
    go (fault a p) h = let e : fault_at a p ≡ f = cc in ap Err (sym e)

-- otherwise the second pass answers; v: its verdict
checked_typed :
    (s : List ℕ) (p : ℕ) (v : Result ℕ Fault) → verdict (read limits s 0) ≡ Ok p → (names_count s ≤ 256 → v ≡ typed_verdict s) →
    as_checked v ≡ checked s
unfolding checked accept typed_verdict
checked_typed s p v h e = go (read limits s 0) refl h
  where
    go :
        (z : Res (Record Placed)) → read limits s 0 ≡ z → verdict z ≡ Ok p →
        as_checked v ≡ checked_as (then z (λ r p. block_types (type_in (function (plain r)).types) r.blocks (got r p)))
    go (got r q) k h =
        let d = (read_decodes limits s).told r q k in
        let ok = names_limit 256 r.args (length r.names) (read_ok limits s r q k).size in
        let n : names_count s ≤ 256 = omega (arith, ok, ap (λ (x : Record Placed). length x.names) d.0, names_length s) in
        let t = type_in (function (plain (record_from s))).types in
        ap as_checked (e n)
        ∙ sym (same_blocks t (record_from s).blocks (got r q) (got tt (blocks_end s)) refl)
        ∙ sym (ap (λ (x : Record Placed). checked_as (block_types (type_in (function (plain x)).types) x.blocks (got r q))) d.0)
    go (fault a o) k h = clash (cc)

module _ (s : List ℕ) (p : ℕ) (v : Result ℕ Fault) (h : verdict (read limits s 0) ≡ Ok p) (e : names_count s ≤ 256 → v ≡ typed_verdict s) where
  pub typed_refused : (f : Fault) → v ≡ Err f → Err f ≡ checked s
  typed_refused f g = ap as_checked (sym g) ∙ checked_typed s p v h e

  pub typed_accepted : (q : ℕ) → v ≡ Ok q → Ok tt ≡ checked s
  typed_accepted q g = ap as_checked (sym g) ∙ checked_typed s p v h e
