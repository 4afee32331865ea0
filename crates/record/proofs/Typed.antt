-- What accept adds to read: every instruction keeps to the rule of its code. What is written of a good, well_typed record is accepted.
use Prim.Native.Nat.{ℕ}
use mathlib.Core.Path.{◌≡◌, refl, sym, ap, ◌∙◌, subst}
use mathlib.Core.List.{List, [], ◌∷◌, map}
use mathlib.Core.Bool.{Bool, true, false, not}
use lib.ListN.{length}
use Rattle.arith.proofs.Clash.{clash}
use Rattle.record.specs.declared.NameIx.{NameIx}
use Rattle.record.specs.declared.Limits.{Limits}
use Rattle.record.specs.declared.Refusal.TheVariants.{Types}
use Rattle.record.specs.Record.{Instr, Placed, Block, Record, Function, function, plain_block, plain, type_in}
use Rattle.record.specs.Reader.{Res, got, fault, refuse, then}
use Rattle.record.specs.Read.{read}
use Rattle.record.specs.Typing.{well_typed, body_types, block_types, accept}
use Rattle.record.specs.Write.{bytes}
use Rattle.record.specs.Good.{Each, RecordOk}
use Rattle.record.proofs.ReadBack.{reads_back}

abbrev pub TypedBody : (NameIx → ℕ) → List Instr → Type 0
TypedBody t is = Each (λ left i. well_typed t i ≡ true) is

abbrev pub TypedFunction : Function → Type 0
TypedFunction f = Each (λ left b. TypedBody (type_in f.types) b.body) f.blocks

module _ {A : Type 0} (t : NameIx → ℕ) (x : A) (p : ℕ) where
  passed : (b : Bool) (o : ℕ) (next : Res A) → refuse (not b) Types o next ≡ got x p → (b ≡ true) × (next ≡ got x p)
  passed true o next e = (refl, e)
  passed false o next e = clash (cc)

  body_typed : (is : List Placed) (next : Res A) → body_types t is next ≡ got x p → TypedBody t (map (λ i. i.it) is) × (next ≡ got x p)
  unfolding body_types
  body_typed [] next e = (tt, e)
  body_typed (i ∷ is) next e =
      let h = passed (well_typed t i.it) i.at (body_types t is next) e in
      let k = body_typed is next h.1 in
      ((h.0, k.0), k.1)

  blocks_typed :
      (bs : List (Block Placed)) (next : Res A) →
      block_types t bs next ≡ got x p →
      Each (λ left b. TypedBody t b.body) (map plain_block bs) × (next ≡ got x p)
  unfolding block_types
  blocks_typed [] next e = (tt, e)
  blocks_typed (b ∷ bs) next e =
      let h = body_typed b.body (block_types t bs next) e in
      let k = blocks_typed bs next h.1 in
      ((h.0, k.0), k.1)

-- an accepted record
pub record Accepts (lim : Limits) (s : List ℕ) (r : Record Placed) (p : ℕ) : Type 0 where
  pub reads : read lim s 0 ≡ got r p
  pub typed : TypedFunction (function (plain r))

pub accept_typed : (lim : Limits) (s : List ℕ) (r : Record Placed) (p : ℕ) → accept lim s ≡ got r p → Accepts lim s r p
unfolding accept
accept_typed lim s r p e = go (read lim s 0) refl e
  where
    go :
        (v : Res (Record Placed)) → read lim s 0 ≡ v →
        then v (λ r p. block_types (type_in (function (plain r)).types) r.blocks (got r p)) ≡ got r p →
        Accepts lim s r p
    go (got q o) k e =
        let h = blocks_typed (type_in (function (plain q)).types) r p q.blocks (got q o) e in
        let j : q ≡ r = cc in
        record { reads = k ∙ h.1; typed = subst (λ (z : Record Placed). TypedFunction (function (plain z))) j h.0 }
    go (fault a o) k e = clash (cc)

-- ---- the other way round: what is read and well typed is accepted
passes : {A : Type 0} (b : Bool) (o : ℕ) (next : Res A) → b ≡ true → refuse (not b) Types o next ≡ next
passes b o next e = rw e

typed_body :
    {A : Type 0} (t : NameIx → ℕ) (is : List Placed) (next : Res A) →
    TypedBody t (map (λ i. i.it) is) →
    body_types t is next ≡ next
unfolding body_types
typed_body t [] next h = refl
typed_body t (i ∷ is) next h = passes (well_typed t i.it) i.at (body_types t is next) h.0 ∙ typed_body t is next h.1

typed_blocks :
    {A : Type 0} (t : NameIx → ℕ) (bs : List (Block Placed)) (next : Res A) →
    Each (λ left b. TypedBody t b.body) (map plain_block bs) →
    block_types t bs next ≡ next
unfolding block_types
typed_blocks t [] next h = refl
typed_blocks t (b ∷ bs) next h = typed_body t b.body (block_types t bs next) h.0 ∙ typed_blocks t bs next h.1

pub typed_accept : (lim : Limits) (s : List ℕ) (r : Record Placed) (p : ℕ) → Accepts lim s r p → accept lim s ≡ got r p
unfolding accept
typed_accept lim s r p h =
    ap (λ v. then v (λ r p. block_types (type_in (function (plain r)).types) r.blocks (got r p))) h.reads
    ∙ typed_blocks (type_in (function (plain r)).types) r.blocks (got r p) h.typed

pub record AcceptsBack (lim : Limits) (r : Record Instr) : Type 0 where
  pub back : Record Placed
  pub accepts : accept lim (bytes r) ≡ got back (length (bytes r))
  pub same : plain back ≡ r

pub accepts_back : (lim : Limits) (r : Record Instr) → RecordOk lim r → TypedFunction (function r) → AcceptsBack lim r
accepts_back lim r ok typed =
    let b = reads_back lim r ok in
    let h : TypedFunction (function (plain b.back)) = subst (λ (z : Record Instr). TypedFunction (function z)) (sym b.same) typed in
    record {
      back = b.back;
      accepts = typed_accept lim (bytes r) b.back (length (bytes r)) (record { reads = b.reads; typed = h });
      same = b.same;
    }
