-- What is written of a good record whose numbers fit their fields is bytes.
-- The tests bound every number but those of Ranged, for limits that their fields can hold, and L by what stands behind it.
use Prim.Native.Nat.{ℕ, zero, suc, ◌*◌, ◌%◌, ◌^◌, ◌<◌, ◌≤◌}
use mathlib.Core.Path.{◌≡◌, refl}
use mathlib.Core.Logic.{◌⊎◌, inl, inr}
use mathlib.Core.List.{List, [], ◌∷◌, ◌++◌, map}
use mathlib.Core.Bool.{Bool, true, false, not, ◌||◌}
use native.Mathlib.Omega.{arith}
use native.Mathlib.Nat.{div-lt_iff_lt-mul, mod-lt, one-le-pow}
use lib.ListN.{length}
use lib.Dec.{leb, eqb}
use borrow.Author.Tests.{leb-true}
use Rattle.record.specs.declared.NameIx.{NameIx}
use Rattle.record.specs.declared.Shape.{Shape}
use Rattle.record.specs.declared.Limits.{Limits}
use Rattle.record.specs.declared.Refusal.TheVariants.{Limit}
use Rattle.std.specs.Prelude.{Ok}
use Rattle.record.specs.Record.{Bytes, Lit, Instr, Block, Name, Record, most_args, most_blocks, id_bytes}
use Rattle.record.specs.Shape.{shape_of}
use Rattle.record.specs.Tests.{below, text_length_test}
use Rattle.record.specs.Write.{be, join, when, index_bytes, literal_bytes, argument_bytes, operand_bytes, instr_bytes, block_bytes, name_bytes, content_bytes, bytes}
use Rattle.record.specs.Good.{There, Each, IndexOk, LitOk, ArgsOk, OperandsOk, InstrOk, BlockOk, NameOk, NamesOk, RecordOk}
use Rattle.record.specs.Ranged.{RangedInstr, RangedBlock, RangedName, Ranged}
use Rattle.record.proofs.Tests.{and_right, need_passes, version_is, at_most_le, below_lt, names_limit, count_most, code_known}
use Rattle.record.proofs.Gives.{each_both}
use Rattle.record.proofs.Form.{all_below, at_known, known_below}

-- ---- bytes one after the other
pub append_bytes : (a b : List ℕ) → Bytes a → Bytes b → Bytes (a ++ b)
append_bytes [] b h k = k
append_bytes (x ∷ a) b h k = (h.0, append_bytes a b h.1 k)

nothing_bytes : Bytes (join [])
unfolding join
nothing_bytes = tt

join_bytes : (b : List ℕ) (bs : List (List ℕ)) → Bytes b → Bytes (join bs) → Bytes (join (b ∷ bs))
unfolding join
join_bytes b bs h k = append_bytes b (join bs) h k

-- a part that is there
when_bytes : {A : Type 0} (b : Bool) (P : A → Type 0) (d x : A) (bs : List ℕ) → There b P d x → (P x → Bytes bs) → Bytes (when b bs)
unfolding when
when_bytes true P d x bs h k = k h
when_bytes false P d x bs h k = tt

map_bytes :
    {A : Type 0} (f : A → List ℕ) (P : ℕ → A → Type 0) →
    ((left : ℕ) (x : A) → P left x → Bytes (f x)) →
    (xs : List A) →
    Each P xs →
    Bytes (join (map f xs))
map_bytes f P one [] h = nothing_bytes
map_bytes f P one (x ∷ xs) h = join_bytes (f x) (map f xs) (one (length xs) x h.0) (map_bytes f P one xs h.1)

-- ---- a number in w bytes
pub be_bytes : (w x : ℕ) → x < 256 ^ w → Bytes (be w x)
unfolding be
be_bytes zero x h = tt
be_bytes (suc zero) x h = (h, tt)
be_bytes (suc (suc w)) x h =
    let p : 0 < 256 ^ suc w = one-le-pow (suc w) 256 (omega arith) in
    let q : x < 256 * 256 ^ suc w = omega arith in
    ((div-lt_iff_lt-mul p).1 q, be_bytes (suc w) (x % 256 ^ suc w) (mod-lt x p))

-- a number with a bound that its field can hold
bounded : (w x most : ℕ) → x ≤ most → most < 256 ^ w → Bytes (be w x)
bounded w x most h k = be_bytes w x (omega arith)

-- ---- shapes
pub few_enough : (c : ℕ) → (shape_of c).known ≡ true → (shape_of c).most ≤ 8
unfolding shape_of
few_enough c k = leb-true (shape_of c).most 8 (at_known (λ c. leb (shape_of c).most 8) computed c k)
  where
    computed : all_below 72 (λ c. not (shape_of c).known || leb (shape_of c).most 8) ≡ true
    computed = refl

-- ---- an instruction, in a record of N names and B blocks
module _ (N B : ℕ) (many : N ≤ 256 ^ 2) (blocks : B ≤ 256 ^ 2) where
  index_written : (x : NameIx) → IndexOk N x → Bytes (index_bytes x)
  unfolding index_bytes
  index_written x h = be_bytes 2 x.0 (omega (arith, below_lt N x.0 h))

  literal_written : (l : Lit) → LitOk l → l.bits < 256 ^ 8 → Bytes (literal_bytes l)
  unfolding literal_bytes
  literal_written l h k =
      join_bytes _ _ (bounded 1 l.kind 3 (at_most_le 3 l.kind h.kind) (omega arith))
      (join_bytes _ _ (be_bytes 8 l.bits k) nothing_bytes)

  arguments_written : (sh : Shape) (xs : List NameIx) → sh.most ≤ 8 → ArgsOk N sh xs → Bytes (argument_bytes xs)
  unfolding argument_bytes
  arguments_written sh xs m h =
      let n : length xs ≤ sh.most = count_most sh (length xs) h.count in
      join_bytes _ _ (be_bytes 1 (length xs) (omega arith))
      (join_bytes _ _ (map_bytes index_bytes _ (λ left. index_written) xs h.each) nothing_bytes)

  operands_written : (w : ℕ) (sh : Shape) (i : Instr) → sh.most ≤ 8 → OperandsOk N B sh i → RangedInstr w i → Bytes (operand_bytes sh i)
  unfolding operand_bytes
  operands_written w sh i m h k =
      join_bytes _ _ (when_bytes sh.dest (IndexOk N) _ i.dest _ h.dest (index_written i.dest))
      (join_bytes _ _ (when_bytes sh.literal LitOk _ i.lit _ h.lit (λ l. literal_written i.lit l k.bits))
      (join_bytes _ _ (when_bytes (not sh.literal) (ArgsOk N sh) _ i.args _ h.args (arguments_written sh i.args m))
      (join_bytes _ _ (when_bytes sh.callee _ _ i.callee _ h.callee (λ a. be_bytes 2 i.callee k.callee))
      (join_bytes _ _
      (map_bytes (be 2) (λ left x. below B x ≡ Ok tt) (λ left x e. be_bytes 2 x (omega (arith, below_lt B x e))) i.blocks h.blocks)
      nothing_bytes))))

  instr_written : (w left : ℕ) (i : Instr) → InstrOk N B left i → RangedInstr w i → Bytes (instr_bytes w i)
  unfolding instr_bytes
  instr_written w left i h k =
      let known = code_known (eqb left 0) i.code h.code in
      join_bytes _ _ (be_bytes w i.id k.id)
      (join_bytes _ _ (be_bytes 1 i.code (omega (arith, known_below i.code known)))
      (join_bytes _ _ (operands_written w (shape_of i.code) i (few_enough i.code known) h.rest k) nothing_bytes))

-- ---- limits that the fields can hold
pub record Holds (lim : Limits) : Type 0 where
  pub names : lim.names < 256 ^ 2
  pub text : lim.text < 256
  pub body : lim.body < 256 ^ 2

module _ (lim : Limits) (hold : Holds lim) where
  block_written :
      (N B w : ℕ) → N ≤ 256 ^ 2 → B ≤ 256 ^ 2 → (b : Block Instr) →
      BlockOk lim N B b →
      RangedBlock w b →
      Bytes (block_bytes w b)
  unfolding block_bytes
  block_written N B w n m b h k =
      join_bytes _ _ (bounded 2 (length b.body) lim.body (at_most_le lim.body (length b.body) h.size) hold.body)
      (join_bytes _ _ (be_bytes 2 b.saves k.saves)
      (join_bytes _ _
      (map_bytes (instr_bytes w) (λ left i. InstrOk N B left i × RangedInstr w i) (λ left i e. instr_written N B n m w left i e.0 e.1)
      b.body (each_both (InstrOk N B) (λ left i. RangedInstr w i) b.body h.body k.body))
      nothing_bytes))

  name_written : (seen : List (List ℕ)) (x : Name) → NameOk lim seen x → RangedName x → Bytes (name_bytes x)
  unfolding name_bytes text_length_test
  name_written seen x h k =
      let n : length x.text ≤ lim.text =
      leb-true (length x.text) lim.text (and_right (leb 1 (length x.text)) _ (need_passes _ Limit h.size)) in
      join_bytes _ _ (be_bytes 1 x.type k.type)
      (join_bytes _ _ (bounded 1 (length x.text) lim.text n hold.text)
      (join_bytes _ _ k.text nothing_bytes))

  names_written :
      (seen : List (List ℕ)) (xs : List Name) →
      NamesOk lim seen xs →
      Each (λ left x. RangedName x) xs →
      Bytes (join (map name_bytes xs))
  names_written seen [] h k = nothing_bytes
  names_written seen (x ∷ xs) h k =
      join_bytes _ _ (name_written seen x h.0 k.0) (names_written (seen ++ (x.text ∷ [])) xs h.1 k.1)

  version_small : {v : ℕ} → (v ≡ 1) ⊎ (v ≡ 2) → v < 256 ^ 1
  version_small (inl e) = omega arith
  version_small (inr e) = omega arith

  contents_written : (r : Record Instr) → RecordOk lim r → Ranged r → Bytes (content_bytes r)
  unfolding content_bytes
  contents_written r h k =
      let w = id_bytes r.version in
      let N = length r.names in
      let B = length r.blocks in
      let v : r.version < 256 ^ 1 = version_small (version_is r.version h.version) in
      let n : N ≤ lim.names = names_limit lim.names r.args N h.size in
      let m : B ≤ most_blocks = at_most_le most_blocks B h.count in
      let small : lim.names < 256 ^ 2 = hold.names in
      join_bytes _ _ (be_bytes 1 r.version v)
      (join_bytes _ _ (bounded 1 r.args most_args (at_most_le most_args r.args h.args) (omega arith))
      (join_bytes _ _ (bounded 2 N lim.names n small)
      (join_bytes _ _ (names_written [] r.names h.names k.names)
      (join_bytes _ _ (bounded 2 B most_blocks m (omega arith))
      (join_bytes _ _
      (map_bytes (block_bytes w) (λ left b. BlockOk lim N B b × RangedBlock w b)
      (λ left b e. block_written N B w (omega arith) (omega arith) b e.0 e.1)
      r.blocks (each_both (λ left b. BlockOk lim N B b) (λ left b. RangedBlock w b) r.blocks h.blocks k.blocks))
      nothing_bytes)))))

  pub bytes_written : (r : Record Instr) → RecordOk lim r → Ranged r → length (content_bytes r) < 256 ^ 4 → Bytes (bytes r)
  unfolding bytes
  bytes_written r h k l =
      append_bytes (be 4 (length (content_bytes r))) (content_bytes r) (be_bytes 4 (length (content_bytes r)) l) (contents_written r h k)
