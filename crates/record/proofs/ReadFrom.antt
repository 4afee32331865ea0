-- What is read is what stands there: the bytes of an accepted record are those that it was read from.
-- Each part by the laws of readers in Takes.
use Prim.Native.Nat.{ℕ, zero, suc, ◌+◌, ◌-◌, ◌≤◌}
use mathlib.Core.Path.{◌≡◌, refl, sym, ap, ◌∙◌, subst}
use mathlib.Core.List.{List, [], ◌∷◌, ◌++◌, map, map-map, append-nil}
use mathlib.Core.Bool.{Bool, true, false, not}
use native.Mathlib.Omega.{arith}
use lib.ListN.{length, drop, length-append, length-map, drop_of_length-le}
use lib.Dec.{ltb, eqb}
use borrow.Author.Tests.{ltb-false, eqb-true}
use Rattle.arith.proofs.Clash.{clash}
use Rattle.record.specs.declared.Shape.{Shape}
use Rattle.record.specs.declared.Limits.{Limits}
use Rattle.record.specs.declared.Refusal.TheVariants.{Length}
use Rattle.record.specs.Record.{Bytes, nm, no_lit, Placed, Block, Record, plain_block, plain, most_args, most_blocks, id_bytes}
use Rattle.record.specs.Shape.{targets, shape_of}
use Rattle.record.specs.Tests.{any, at_most, below, length_test, version_test, names_test, type_test, text_length_test, text_test, saves_test, code_test, count_test, literal_test}
use Rattle.record.specs.Reader.{got, refuse, give}
use Rattle.record.specs.Read.{name_index, literal, arguments, operands, instr, block, name, names, length_field, end, contents, read}
use Rattle.record.specs.Typing.{accept}
use Rattle.record.specs.Write.{be, join, index_bytes, literal_bytes, argument_bytes, operand_bytes, instr_bytes, block_bytes, name_bytes, content_bytes, bytes}
use Rattle.record.proofs.Tests.{need_passes}
use Rattle.record.proofs.Gives.{field_gives}
use Rattle.record.proofs.Stands.{length_be}
use Rattle.record.proofs.Typed.{accept_typed}
use Rattle.record.proofs.Takes.{Takes, Between, bind_got, field_takes, text_takes, give_takes, bind_takes, last_takes, here_takes, there_takes, times_takes}

module _ {s : List ℕ} (h : Bytes s) where
  -- ---- an instruction
  index_takes : (N : ℕ) → Takes s (name_index N) (λ x b. index_bytes x ≡ b)
  unfolding name_index index_bytes
  index_takes N = last_takes nm _ (field_takes h 2 (below N)) (λ x b e. e)

  literal_takes : Takes s literal (λ l b. literal_bytes l ≡ b)
  unfolding literal literal_bytes join
  literal_takes =
      bind_takes _ _ (field_takes h 1 (at_most 3)) (λ kind a ha.
      bind_takes _ _ (field_takes h 8 (literal_test kind)) (λ bits b hb.
      give_takes _ (λ i. join (ha i ∷ hb i ∷ []))))

  arguments_take : (N : ℕ) (sh : Shape) → Takes s (arguments N sh) (λ xs b. argument_bytes xs ≡ b)
  unfolding arguments argument_bytes join
  arguments_take N sh =
      bind_takes _ _ (field_takes h 1 (count_test sh)) (λ count a ha.
      bind_takes _ _ (times_takes _ index_bytes (λ left. index_takes N) count) (λ xs b hb.
      give_takes _ (λ i. join ((ap (be 1) hb.0 ∙ ha) i ∷ hb.1 i ∷ []))))

  operands_take :
      (N B : ℕ) (sh : Shape) (id code : ℕ) →
      Takes s (operands N B sh id code) (λ i b. (i.id ≡ id) × (i.code ≡ code) × (operand_bytes sh i ≡ b))
  unfolding operands operand_bytes join
  operands_take N B sh id code =
      bind_takes _ _ (there_takes sh.dest (nm 0) index_bytes (index_takes N)) (λ dest a ha.
      bind_takes _ _ (there_takes sh.literal no_lit literal_bytes literal_takes) (λ lit b hb.
      bind_takes _ _ (there_takes (not sh.literal) [] argument_bytes (arguments_take N sh)) (λ args c hc.
      bind_takes _ _ (there_takes sh.callee 0 (be 2) (field_takes h 2 any)) (λ callee d hd.
      bind_takes _ _ (times_takes _ (be 2) (λ left. field_takes h 2 (below B)) (targets sh (length args))) (λ blocks e he.
      give_takes _ (refl, refl, λ i. join (ha i ∷ hb i ∷ hc i ∷ hd i ∷ he.1 i ∷ [])))))))

  instr_takes : (w N B : ℕ) (last : Bool) → Takes s (instr w N B last) (λ i b. instr_bytes w i.it ≡ b)
  unfolding instr instr_bytes join
  instr_takes w N B last =
      here_takes _ (λ at.
      bind_takes _ _ (field_takes h w any) (λ id a ha.
      bind_takes _ _ (field_takes h 1 (code_test last)) (λ code b hb.
      bind_takes _ _ (operands_take N B (shape_of code) id code) (λ j c hc.
      let rest : operand_bytes (shape_of j.code) j ≡ c = ap (λ (k : ℕ). operand_bytes (shape_of k) j) hc.1 ∙ hc.2 in
      give_takes _ (λ i. join ((ap (be w) hc.0 ∙ ha) i ∷ (ap (be 1) hc.1 ∙ hb) i ∷ rest i ∷ []))))))

  -- ---- blocks, names, the record
  block_takes : (lim : Limits) (w N B : ℕ) → Takes s (block lim w N B) (λ b bs. block_bytes w (plain_block b) ≡ bs)
  unfolding block block_bytes join
  block_takes lim w N B =
      bind_takes _ _ (field_takes h 2 (at_most lim.body)) (λ n a ha.
      bind_takes _ _ (field_takes h 2 (saves_test lim.made)) (λ saves b hb.
      bind_takes _ _ (times_takes _ (λ (i : Placed). instr_bytes w i.it) (λ left. instr_takes w N B (eqb left 0)) n) (λ body c hc.
      let size : length (map (λ (i : Placed). i.it) body) ≡ n = length-map body (λ (i : Placed). i.it) ∙ hc.0 in
      let each = ap join (map-map (instr_bytes w) (λ (i : Placed). i.it) body) ∙ hc.1 in
      give_takes _ (λ i. join ((ap (be 2) size ∙ ha) i ∷ hb i ∷ each i ∷ [])))))

  name_takes : (lim : Limits) (seen : List (List ℕ)) → Takes s (name lim seen) (λ x b. name_bytes x ≡ b)
  unfolding name name_bytes join
  name_takes lim seen =
      bind_takes _ _ (field_takes h 1 type_test) (λ type a ha.
      bind_takes _ _ (field_takes h 1 (text_length_test lim.text)) (λ n b hb.
      bind_takes _ _ (text_takes n (text_test lim.made seen)) (λ t c hc.
      give_takes _ (λ i. join (ha i ∷ (ap (be 1) hc.0 ∙ hb) i ∷ hc.1 i ∷ [])))))

  names_take :
      (lim : Limits) (seen : List (List ℕ)) (n : ℕ) →
      Takes s (names lim seen n) (λ xs b. (length xs ≡ n) × (join (map name_bytes xs) ≡ b))
  unfolding names join
  names_take lim seen zero = give_takes _ (refl, refl)
  names_take lim seen (suc n) =
      bind_takes _ _ (name_takes lim seen) (λ x a ha.
      last_takes _ _ (names_take lim (seen ++ (x.text ∷ [])) n) (λ xs b hb. (ap suc hb.0, λ i. ha i ++ hb.1 i)))

  contents_take : (lim : Limits) → Takes s (contents lim) (λ r b. content_bytes (plain r) ≡ b)
  unfolding contents content_bytes join
  contents_take lim =
      bind_takes _ _ (field_takes h 1 version_test) (λ v a ha.
      bind_takes _ _ (field_takes h 1 (at_most most_args)) (λ args b hb.
      bind_takes _ _ (field_takes h 2 (names_test lim.names args)) (λ n c hc.
      bind_takes _ _ (names_take lim [] n) (λ xs d hd.
      bind_takes _ _ (field_takes h 2 (at_most most_blocks)) (λ k e he.
      let w = id_bytes v in
      bind_takes _ _ (times_takes _ (λ (b : Block Placed). block_bytes w (plain_block b)) (λ left. block_takes lim w n k) k) (λ bs f hf.
      let count : length (map plain_block bs) ≡ k = length-map bs plain_block ∙ hf.0 in
      let each = ap join (map-map (block_bytes w) plain_block bs) ∙ hf.1 in
      give_takes _
      (λ i. join (ha i ∷ hb i ∷ (ap (be 2) hd.0 ∙ hc) i ∷ hd.1 i ∷ (ap (be 2) count ∙ he) i ∷ each i ∷ []))))))))

  -- L, which is the number of the bytes that follow it
  length_takes : (at l p : ℕ) → length_field s at ≡ got l p → (l ≡ length s - 4) × Between s at p (λ b. be 4 l ≡ b)
  unfolding length_field length_test
  length_takes at l p e =
      let test = length_test (length s - 4) in
      let ok = (field_gives {s = s} 4 test).gives at l p e in
      (eqb-true l (length s - 4) (need_passes (eqb l (length s - 4)) Length ok), (field_takes h 4 test).takes at l p e)

-- the end takes nothing and stands behind all bytes
end_got : (s : List ℕ) (at : ℕ) (u : Unit {0}) (p : ℕ) → end s at ≡ got u p → (at ≡ p) × (length s ≤ p)
unfolding end
end_got s at u p e = go (ltb at (length s)) refl e
  where
    go : (b : Bool) → ltb at (length s) ≡ b → refuse b Length at (got tt at) ≡ got u p → (at ≡ p) × (length s ≤ p)
    go true l e = clash (cc)
    go false l e =
        let q : at ≡ p = cc in
        (q, omega (arith, ltb-false at (length s) l))

-- s is what is written of r, and reading ends behind it
pub record ReadFrom (s : List ℕ) (r : Record Placed) (p : ℕ) : Type 0 where
  pub same : bytes (plain r) ≡ s
  pub ends : p ≡ length s

-- L, then c, then nothing
whole :
    (s c : List ℕ) (l q p : ℕ) →
    Between s 0 q (λ b. be 4 l ≡ b) →
    Between s q p (λ b. c ≡ b) →
    l ≡ length s - 4 →
    length s ≤ p →
    (be 4 (length c) ++ c ≡ s) × (p ≡ length s)
whole s c l q p one two size behind =
    let rest : drop q s ≡ c = two.stand ∙ (λ i. sym two.told i ++ drop_of_length-le s behind i) ∙ append-nil c in
    let all : s ≡ be 4 l ++ c = one.stand ∙ λ i. sym one.told i ++ rest i in
    let four : length (be 4 l) ≡ 4 = length_be 4 l in
    let sum : length s ≡ length (be 4 l) + length c = ap length all ∙ length-append (be 4 l) c in
    let count : length c ≡ l = omega arith in
    let wide : length one.taken ≡ 4 = ap length (sym one.told) ∙ four in
    let long : length two.taken ≡ length c = ap length (sym two.told) in
    (ap (λ (n : ℕ). be 4 n ++ c) count ∙ sym all, omega (arith, one.ends, two.ends))

module _ (lim : Limits) (s : List ℕ) (h : Bytes s) where
  -- L, the contents and the end, each read behind the one before
  parts_from :
      (l q : ℕ) (r : Record Placed) (o : ℕ) (u : Unit {0}) (p : ℕ) →
      length_field s 0 ≡ got l q →
      contents lim s q ≡ got r o →
      end s o ≡ got u p →
      ReadFrom s r p
  unfolding bytes
  parts_from l q r o u p e f g =
      let c = content_bytes (plain r) in
      let first = length_takes h 0 l q e in
      let last = end_got s o u p g in
      let middle = subst (λ (n : ℕ). Between s q n (λ b. c ≡ b)) last.0 ((contents_take h lim).takes q r o f) in
      let both = whole s c l q p first.1 middle first.0 last.1 in
      record { same = both.0; ends = both.1 }

  pub reads_from : (r : Record Placed) (p : ℕ) → read lim s 0 ≡ got r p → ReadFrom s r p
  unfolding read give
  reads_from r p e =
      let one = bind_got length_field _ s 0 r p e in
      let two = bind_got (contents lim) _ s one.place r p one.second in
      let three = bind_got end _ s two.place r p two.second in
      let x : two.value ≡ r = cc in
      let y : three.place ≡ p = cc in
      subst (λ z. ReadFrom s z p) x (subst (λ (n : ℕ). ReadFrom s two.value n) y
      (parts_from one.value one.place two.value two.place three.value three.place
      one.first two.first three.first))

  -- the bytes of what is read
  pub read_from : (r : Record Placed) (p : ℕ) → read lim s 0 ≡ got r p → bytes (plain r) ≡ s
  read_from r p e = (reads_from r p e).same

  pub read_length : (r : Record Placed) (p : ℕ) → read lim s 0 ≡ got r p → length (bytes (plain r)) ≡ length s
  read_length r p e = ap length (read_from r p e)

  pub read_ends : (r : Record Placed) (p : ℕ) → read lim s 0 ≡ got r p → p ≡ length s
  read_ends r p e = (reads_from r p e).ends

  pub accept_from : (r : Record Placed) (p : ℕ) → accept lim s ≡ got r p → bytes (plain r) ≡ s
  accept_from r p e = read_from r p (accept_typed lim s r p e).reads
