-- The ids of a record's instructions: which of them fit so many bytes, and that this is all that stands between a record and another version of it.
use Prim.Native.Nat.{ℕ, ◌^◌, ◌<◌, ◌≤◌}
use mathlib.Core.Path.{◌≡◌, refl, sym, ap, ◌∙◌, subst}
use mathlib.Core.List.{List, [], ◌∷◌, ◌++◌, map, flat_map, map-append}
use mathlib.Core.Bool.{Bool, true, false, cond}
use native.Mathlib.Omega.{arith}
use native.Mathlib.Nat.{pow-le-pow_right}
use lib.Dec.{ltb}
use borrow.Author.Tests.{ltb-true, ltb-false, lt-ltb, le-ltb}
use Rattle.arith.proofs.Clash.{clash}
use Rattle.std.specs.Prelude.{Some, None, Ok}
use Rattle.record.specs.Record.{Instr, Placed, Block, Record, plain_block, plain, limits, id_bytes}
use Rattle.record.specs.Tests.{version_test}
use Rattle.record.specs.Versions.{in_version, instructions, first_wide}
use Rattle.record.specs.Good.{Each, RecordOk}
use Rattle.record.specs.Ranged.{RangedInstr, RangedBlock, Ranged}
use Rattle.record.proofs.Gives.{each_append, each_parts}

-- of a list, and of all instructions, block by block
abbrev pub ids_in : List Instr → List ℕ
ids_in is = map (λ i. i.id) is

abbrev pub ids : Record Instr → List ℕ
ids r = flat_map (λ b. ids_in b.body) r.blocks

-- each is below 2^32, or 2^64: it fits w bytes
abbrev pub Fit : ℕ → List ℕ → Type 0
Fit w xs = Each (λ left x. x < 256 ^ w) xs

-- ---- the first that does not fit
-- no instruction is wide exactly if each id fits
pub none_fit : (w : ℕ) (is : List Placed) → first_wide w is ≡ None → Fit w (map (λ i. i.it.id) is)
unfolding first_wide
none_fit w [] e = tt
none_fit w (i ∷ is) e = go (ltb i.it.id (256 ^ w)) refl (none_fit w is) e
  where
    go :
        (b : Bool) → ltb i.it.id (256 ^ w) ≡ b → (first_wide w is ≡ None → Fit w (map (λ i. i.it.id) is)) →
        cond b (first_wide w is) (Some i.at) ≡ None →
        (i.it.id < 256 ^ w) × Fit w (map (λ i. i.it.id) is)
    go true l h e = (ltb-true i.it.id (256 ^ w) l, h e)
    go false l h e = clash (cc)

pub fit_none : (w : ℕ) (is : List Placed) → Fit w (map (λ i. i.it.id) is) → first_wide w is ≡ None
unfolding first_wide
fit_none w [] h = refl
fit_none w (i ∷ is) h = rw (lt-ltb i.it.id (256 ^ w) h.0) (fit_none w is h.1)

-- "at the first such instruction's offset": those before fit, and that one does not
pub record FirstWide (w : ℕ) (is : List Placed) (o : ℕ) : Type 0 where
  pub before : List Placed
  pub first : Placed
  pub rest : List Placed
  pub split : is ≡ before ++ (first ∷ rest)
  pub fit : Fit w (map (λ i. i.it.id) before)
  pub wide : 256 ^ w ≤ first.it.id
  pub place : first.at ≡ o

pub first_is : (w : ℕ) (is : List Placed) (o : ℕ) → first_wide w is ≡ Some o → FirstWide w is o
unfolding first_wide
first_is w [] o e = clash (cc)
first_is w (i ∷ is) o e = go (ltb i.it.id (256 ^ w)) refl (first_is w is o) e
  where
    go :
        (b : Bool) → ltb i.it.id (256 ^ w) ≡ b → (first_wide w is ≡ Some o → FirstWide w is o) →
        cond b (first_wide w is) (Some i.at) ≡ Some o → FirstWide w (i ∷ is) o
    go true l f e =
        let h = f e in
        record {
          before = i ∷ h.before;
          first = h.first;
          rest = h.rest;
          split = ap (λ (t : List Placed). i ∷ t) h.split;
          fit = (ltb-true i.it.id (256 ^ w) l, h.fit);
          wide = h.wide;
          place = h.place;
        }
    go false l f e =
        record {
          before = [];
          first = i;
          rest = is;
          split = refl;
          fit = tt;
          wide = ltb-false i.it.id (256 ^ w) l;
          place = cc;
        }

-- and whatever is so is what is found
first_at :
    (w : ℕ) (before : List Placed) (i : Placed) (rest : List Placed) →
    Fit w (map (λ i. i.it.id) before) →
    256 ^ w ≤ i.it.id →
    first_wide w (before ++ (i ∷ rest)) ≡ Some i.at
unfolding first_wide
first_at w [] i rest h k = rw (le-ltb i.it.id (256 ^ w) k) refl
first_at w (j ∷ before) i rest h k = rw (lt-ltb j.it.id (256 ^ w) h.0) (first_at w before i rest h.1 k)

pub is_first : (w : ℕ) (is : List Placed) (o : ℕ) → FirstWide w is o → first_wide w is ≡ Some o
is_first w is o h =
    ap (λ (t : List Placed). first_wide w t) h.split ∙ first_at w h.before h.first h.rest h.fit h.wide ∙ ap (λ (n : ℕ). Some n) h.place

-- ---- of a record
-- the offsets do not matter
ids_of_body : (is : List Placed) → map (λ i. i.it.id) is ≡ ids_in (map (λ i. i.it) is)
ids_of_body [] = refl
ids_of_body (i ∷ is) = ap (λ (xs : List ℕ). i.it.id ∷ xs) (ids_of_body is)

ids_of_blocks :
    (bs : List (Block Placed)) →
    map (λ i. i.it.id) (flat_map (λ b. b.body) bs) ≡ flat_map (λ b. ids_in b.body) (map plain_block bs)
unfolding flat_map
ids_of_blocks [] = refl
ids_of_blocks (b ∷ bs) =
    map-append (λ (i : Placed). i.it.id) b.body (flat_map (λ b. b.body) bs)
    ∙ (λ i. ids_of_body b.body i ++ ids_of_blocks bs i)

pub ids_of : (r : Record Placed) → map (λ i. i.it.id) (instructions r) ≡ ids (plain r)
ids_of r = ids_of_blocks r.blocks

-- no instruction of it is wide exactly if each of its ids fits
pub none_wide : (w : ℕ) (r : Record Placed) → Fit w (ids (plain r)) → first_wide w (instructions r) ≡ None
none_wide w r h = fit_none w (instructions r) (subst (Fit w) (sym (ids_of r)) h)

pub all_fit : (w : ℕ) (r : Record Placed) → first_wide w (instructions r) ≡ None → Fit w (ids (plain r))
all_fit w r e = subst (Fit w) (ids_of r) (none_fit w (instructions r) e)

-- the ids of a record that fits its fields
body_fits : (w : ℕ) (is : List Instr) → Each (λ left i. RangedInstr w i) is → Fit w (ids_in is)
body_fits w [] h = tt
body_fits w (i ∷ is) h = (h.0.id, body_fits w is h.1)

blocks_fit : (w : ℕ) (bs : List (Block Instr)) → Each (λ left b. RangedBlock w b) bs → Fit w (flat_map (λ b. ids_in b.body) bs)
unfolding flat_map
blocks_fit w [] h = tt
blocks_fit w (b ∷ bs) h =
    each_append (λ x. x < 256 ^ w) (ids_in b.body) (flat_map (λ b. ids_in b.body) bs) (body_fits w b.body h.0.body) (blocks_fit w bs h.1)

pub ranged_fit : (r : Record Instr) → Ranged r → Fit (id_bytes r.version) (ids r)
ranged_fit r h = blocks_fit (id_bytes r.version) r.blocks h.blocks

-- and the other way round: the rest of its fields are as wide in each version
module _ (v w : ℕ) where
  body_ranged : (is : List Instr) → Each (λ left i. RangedInstr v i) is → Fit w (ids_in is) → Each (λ left i. RangedInstr w i) is
  body_ranged [] h k = tt
  body_ranged (i ∷ is) h k = (record { id = k.0; bits = h.0.bits; callee = h.0.callee }, body_ranged is h.1 k.1)

  blocks_ranged :
      (bs : List (Block Instr)) →
      Each (λ left b. RangedBlock v b) bs →
      Fit w (flat_map (λ b. ids_in b.body) bs) →
      Each (λ left b. RangedBlock w b) bs
  unfolding flat_map
  blocks_ranged [] h k = tt
  blocks_ranged (b ∷ bs) h k =
      let both = each_parts (λ x. x < 256 ^ w) (ids_in b.body) (flat_map (λ b. ids_in b.body) bs) k in
      (record { saves = h.0.saves; body = body_ranged b.body h.0.body both.0 }, blocks_ranged bs h.1 both.1)

pub ranged_in : (v : ℕ) (r : Record Instr) → Ranged r → Fit (id_bytes v) (ids r) → Ranged (in_version v r)
ranged_in v r h k = record { names = h.names; blocks = blocks_ranged (id_bytes r.version) (id_bytes v) r.blocks h.blocks k }

-- a good record is one in each version
pub good_in : (v : ℕ) (r : Record Instr) → version_test v ≡ Ok tt → RecordOk limits r → RecordOk limits (in_version v r)
good_in v r e h = record { version = e; args = h.args; size = h.size; names = h.names; count = h.count; blocks = h.blocks }

-- what fits so many bytes fits more
pub fit_more : (w v : ℕ) (xs : List ℕ) → w ≤ v → Fit w xs → Fit v xs
fit_more w v [] l h = tt
fit_more w v (x ∷ xs) l h =
    let m : 256 ^ w ≤ 256 ^ v = pow-le-pow_right (omega arith) l in
    (omega (arith, h.0), fit_more w v xs l h.1)
