-- How many bytes a record has in another version: for each instruction as many as an id has there, in place of as many as it has here.
use Prim.Native.Nat.{ℕ, ◌+◌, ◌-◌, ◌*◌, ◌≤◌}
use mathlib.Core.Path.{◌≡◌, refl, ap, ◌∙◌}
use mathlib.Core.List.{List, [], ◌∷◌, map, flat_map}
use native.Mathlib.Omega.{arith}
use native.Mathlib.Nat.{add-mul, mul-le-mul_left}
use lib.ListN.{length, length-append}
use Rattle.record.specs.Record.{Instr, Block, Record, id_bytes}
use Rattle.record.specs.Write.{instr_bytes, block_bytes, bytes}
use Rattle.record.specs.Versions.{in_version}
use Rattle.record.proofs.Ids.{ids_in, ids}
use Rattle.record.proofs.Sizes.{join_cons, join_nil, total, id_bytes_are, instr_size, block_size, content_size, record_size}

-- the ids of blocks
abbrev ids_at : List (Block Instr) → List ℕ
ids_at bs = flat_map (λ b. ids_in b.body) bs

module _ (v w : ℕ) where
  body_sizes :
      (is : List Instr) → total (instr_bytes v) is + length (ids_in is) * w ≡ total (instr_bytes w) is + length (ids_in is) * v
  body_sizes [] = omega (arith, join_nil)
  body_sizes (i ∷ is) =
      omega (
        arith,
        body_sizes is,
        instr_size v i,
        instr_size w i,
        join_cons (instr_bytes v i) (map (instr_bytes v) is),
        join_cons (instr_bytes w i) (map (instr_bytes w) is),
        add-mul 1 (length (ids_in is)) v,
        add-mul 1 (length (ids_in is)) w,
      )

  blocks_sizes :
      (bs : List (Block Instr)) → total (block_bytes v) bs + length (ids_at bs) * w ≡ total (block_bytes w) bs + length (ids_at bs) * v
  unfolding flat_map
  blocks_sizes [] = omega (arith, join_nil)
  blocks_sizes (b ∷ bs) =
      let n : length (ids_at (b ∷ bs)) ≡ length (ids_in b.body) + length (ids_at bs) = length-append (ids_in b.body) (ids_at bs) in
      omega (
        arith,
        body_sizes b.body,
        blocks_sizes bs,
        block_size v b,
        block_size w b,
        join_cons (block_bytes v b) (map (block_bytes v) bs),
        join_cons (block_bytes w b) (map (block_bytes w) bs),
        ap (λ (k : ℕ). k * v) n ∙ add-mul (length (ids_in b.body)) (length (ids_at bs)) v,
        ap (λ (k : ℕ). k * w) n ∙ add-mul (length (ids_in b.body)) (length (ids_at bs)) w,
      )

-- as much is taken off and added for its n ids
pub version_size :
    (version n : ℕ) (r : Record Instr) → n ≡ length (ids r) →
    (n * id_bytes r.version ≤ length (bytes r)) × (n * id_bytes version ≤ length (bytes (in_version version r))) ×
    (length (bytes r) - n * id_bytes r.version + n * id_bytes version ≡ length (bytes (in_version version r)))
version_size version n r e =
    let new = in_version version r in
    let v = id_bytes version in
    let w = id_bytes r.version in
    let both : total (block_bytes v) r.blocks + n * w ≡ total (block_bytes w) r.blocks + n * v =
    rw e (blocks_sizes v w r.blocks) in
    let here : n * w ≤ total (block_bytes w) r.blocks = rw e (omega (arith, blocks_sizes 0 w r.blocks)) in
    let there : n * v ≤ total (block_bytes v) r.blocks = rw e (omega (arith, blocks_sizes 0 v r.blocks)) in (
      omega (arith, here, content_size r, record_size r),
      omega (arith, there, content_size new, record_size new),
      omega (arith, both, here, content_size r, record_size r, content_size new, record_size new),
    )

-- an id has at most twice as many bytes there as here, so the record has too
pub at_most_twice : (version : ℕ) (r : Record Instr) → length (bytes (in_version version r)) ≤ 2 * length (bytes r)
at_most_twice version r =
    let n = length (ids r) in
    let z = version_size version n r refl in
    let there : n * id_bytes version ≤ n * 8 = mul-le-mul_left n (id_bytes_are version).1 in
    let here : n * 4 ≤ n * id_bytes r.version = mul-le-mul_left n (id_bytes_are r.version).0 in
    omega (arith, z.0, z.2, there, here)

-- and where an id has no more, nor has the record
pub no_longer : (version : ℕ) (r : Record Instr) → id_bytes version ≤ id_bytes r.version → length (bytes (in_version version r)) ≤ length (bytes r)
no_longer version r l =
    let n = length (ids r) in
    let z = version_size version n r refl in
    let fewer : n * id_bytes version ≤ n * id_bytes r.version = mul-le-mul_left n l in
    omega (arith, z.0, z.2, fewer)
