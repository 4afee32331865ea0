-- A record that is read without a fault is no longer than what it is read from, whatever the bytes: how many bytes each reader takes.
-- Each part by the laws of readers in record/proofs/Takes and by the sizes of what is written in record/proofs/Sizes.
use Prim.Native.Nat.{ℕ, zero, suc, ◌+◌, ◌-◌, ◌*◌, ◌≤◌}
use mathlib.Core.Path.{◌≡◌, refl, sym, ap, ◌∙◌, subst}
use mathlib.Core.List.{List, [], ◌∷◌, ◌++◌, map}
use mathlib.Core.Bool.{Bool, true, false, cond, not}
use native.Mathlib.Omega.{arith}
use lib.ListN.{length, drop, length-append}
use lib.Dec.{eqb}
use Rattle.record.specs.declared.Shape.{Shape}
use Rattle.record.specs.declared.Limits.{Limits}
use Rattle.record.specs.Reader.{Test}
use Rattle.record.specs.Record.{nm, no_lit, Placed, Record, plain_block, plain, most_args, most_blocks, id_bytes, limits}
use Rattle.record.specs.Shape.{targets, shape_of}
use Rattle.record.specs.Tests.{any, at_most, below, length_test, version_test, names_test, type_test, text_length_test, text_test, saves_test, code_test, count_test, literal_test}
use Rattle.record.specs.Reader.{got, Reader, give, field, if_there, times}
use Rattle.record.specs.Read.{name_index, literal, arguments, operands, instr, block, name, names, length_field, end, contents, read}
use Rattle.record.specs.Write.{instr_bytes, block_bytes, name_bytes, content_bytes, bytes}
use Rattle.record.proofs.Fields.{field_tells}
use Rattle.record.proofs.Sizes.{join_cons, join_nil, total, operand_size, instr_size, block_size, name_size, content_size, record_size}
use Rattle.record.proofs.Takes.{Takes, bind_got, part_stands, text_takes, give_takes, bind_takes, last_takes, here_takes}

-- for what r gives from s it takes as many bytes as n says
abbrev Spans : List ℕ → {A : Type 0} → Reader A → (A → ℕ) → Type 0
Spans s r n = Takes s r (λ x b. n x ≡ length b)

module _ {s : List ℕ} where
  -- ---- combinators
  field_spans : (w : ℕ) (test : ℕ → Test) → Spans s (field w test) (λ x. w)
  field_spans w test =
      record {
        takes =
            λ at x p e.
            let t = field_tells w test s at x p e in
            let b = part_stands at w p t.room t.ends in
            record { taken = b.taken; stand = b.stand; ends = b.ends; told = sym b.told.0 };
      }

  there_spans :
      {A : Type 0} (b : Bool) (d : A) {r : Reader A} (n : A → ℕ) →
      Spans s r n →
      Spans s (if_there b d r) (λ x. cond b (n x) 0)
  unfolding if_there
  there_spans true d n h = h
  there_spans false d n h = give_takes _ refl

  -- all: the bytes of a row, the sum of those of its items
  times_span :
      {A : Type 0} (r : ℕ → Reader A) (one : A → ℕ) (all : List A → ℕ) →
      all [] ≡ 0 →
      ((x : A) (xs : List A) → all (x ∷ xs) ≡ one x + all xs) →
      ((left : ℕ) → Spans s (r left) one) →
      (n : ℕ) →
      Spans s (times n r) all
  unfolding times
  times_span r one all none more h zero = give_takes _ none
  times_span r one all none more h (suc n) =
      bind_takes _ _ (h n) (λ x a ha.
      last_takes _ _ (times_span r one all none more h n) (λ xs b hb. omega (arith, more x xs, length-append a b)))

  twos_span : {A : Type 0} {r : Reader A} → Spans s r (λ x. 2) → (n : ℕ) → Spans s (times n (λ left. r)) (λ xs. 2 * length xs)
  twos_span {A} {r} h n =
      times_span (λ left. r) (λ x. 2) (λ xs. 2 * length xs) refl (λ x xs. omega arith) (λ left. h) n

  -- f: the bytes of an item, of which g forgets the place
  total_spans :
      {A C : Type 0} (f : C → List ℕ) (g : A → C) {r : ℕ → Reader A} →
      ((left : ℕ) → Spans s (r left) (λ x. length (f (g x)))) →
      (n : ℕ) →
      Spans s (times n r) (λ xs. total f (map g xs))
  total_spans f g {r} h n =
      times_span r (λ x. length (f (g x))) (λ xs. total f (map g xs)) join_nil (λ x xs. join_cons (f (g x)) (map f (map g xs))) h n

  -- ---- an instruction
  index_spans : (N : ℕ) → Spans s (name_index N) (λ x. 2)
  unfolding name_index
  index_spans N = last_takes nm _ (field_spans 2 (below N)) (λ x b e. e)

  literal_spans : Spans s literal (λ l. 9)
  unfolding literal
  literal_spans =
      bind_takes _ _ (field_spans 1 (at_most 3)) (λ kind a ha.
      last_takes _ _ (field_spans 8 (literal_test kind)) (λ bits b hb. omega (arith, length-append a b)))

  arguments_span : (N : ℕ) (sh : Shape) → Spans s (arguments N sh) (λ xs. 1 + 2 * length xs)
  unfolding arguments
  arguments_span N sh =
      bind_takes _ _ (field_spans 1 (count_test sh)) (λ count a ha.
      last_takes _ _ (twos_span (index_spans N) count) (λ xs b hb. omega (arith, length-append a b)))

  operands_span :
      (N B : ℕ) (sh : Shape) (id code : ℕ) →
      Takes s (operands N B sh id code) (λ i b. (i.code ≡ code) × (operand_size sh (length i.args) (length i.blocks) ≡ length b))
  unfolding operands
  operands_span N B sh id code =
      bind_takes _ _ (there_spans sh.dest (nm 0) (λ x. 2) (index_spans N)) (λ dest a ha.
      bind_takes _ _ (there_spans sh.literal no_lit (λ x. 9) literal_spans) (λ lit b hb.
      bind_takes _ _ (there_spans (not sh.literal) [] (λ xs. 1 + 2 * length xs) (arguments_span N sh)) (λ args c hc.
      bind_takes _ _ (there_spans sh.callee 0 (λ x. 2) (field_spans 2 any)) (λ callee d hd.
      last_takes _ _ (twos_span (field_spans 2 (below B)) (targets sh (length args))) (λ blocks e he.
      (refl, simp length-append (omega (arith, ha, hb, hc, hd, he))))))))

  instr_spans : (w N B : ℕ) (last : Bool) → Spans s (instr w N B last) (λ i. length (instr_bytes w i.it))
  unfolding instr
  instr_spans w N B last =
      here_takes _ (λ at.
      bind_takes _ _ (field_spans w any) (λ id a ha.
      bind_takes _ _ (field_spans 1 (code_test last)) (λ code b hb.
      last_takes _ _ (operands_span N B (shape_of code) id code) (λ i c hc.
      let rest = ap (λ (k : ℕ). operand_size (shape_of k) (length i.args) (length i.blocks)) hc.0 ∙ hc.1 in
      simp (instr_size, length-append) (omega (arith, ha, hb, rest))))))

  -- ---- blocks, names, the record
  block_spans : (lim : Limits) (w N B : ℕ) → Spans s (block lim w N B) (λ b. length (block_bytes w (plain_block b)))
  unfolding block
  block_spans lim w N B =
      bind_takes _ _ (field_spans 2 (at_most lim.body)) (λ n a ha.
      bind_takes _ _ (field_spans 2 (saves_test lim.made)) (λ saves b hb.
      last_takes _ _ (total_spans (instr_bytes w) (λ (i : Placed). i.it) (λ left. instr_spans w N B (eqb left 0)) n) (λ body c hc.
      simp (block_size, length-append) (omega (arith, ha, hb, hc)))))

  name_spans : (lim : Limits) (seen : List (List ℕ)) → Spans s (name lim seen) (λ x. length (name_bytes x))
  unfolding name
  name_spans lim seen =
      bind_takes _ _ (field_spans 1 type_test) (λ type a ha.
      bind_takes _ _ (field_spans 1 (text_length_test lim.text)) (λ n b hb.
      last_takes _ _ (text_takes n (text_test lim.made seen)) (λ t c hc.
      simp (name_size, length-append) (omega (arith, ha, hb, ap length hc.1)))))

  names_span : (lim : Limits) (seen : List (List ℕ)) (n : ℕ) → Spans s (names lim seen n) (λ xs. total name_bytes xs)
  unfolding names
  names_span lim seen zero = give_takes _ join_nil
  names_span lim seen (suc n) =
      bind_takes _ _ (name_spans lim seen) (λ x a ha.
      last_takes _ _ (names_span lim (seen ++ (x.text ∷ [])) n) (λ xs b hb.
      omega (arith, join_cons (name_bytes x) (map name_bytes xs), length-append a b)))

  contents_span : (lim : Limits) → Spans s (contents lim) (λ r. length (content_bytes (plain r)))
  unfolding contents
  contents_span lim =
      bind_takes _ _ (field_spans 1 version_test) (λ v a ha.
      bind_takes _ _ (field_spans 1 (at_most most_args)) (λ args b hb.
      bind_takes _ _ (field_spans 2 (names_test lim.names args)) (λ n c hc.
      bind_takes _ _ (names_span lim [] n) (λ xs d hd.
      bind_takes _ _ (field_spans 2 (at_most most_blocks)) (λ k e he.
      let w = id_bytes v in
      last_takes _ _ (total_spans (block_bytes w) plain_block (λ left. block_spans lim w n k) k) (λ bs f hf.
      simp (content_size, length-append) (omega (arith, ha, hb, hc, hd, he, hf))))))))

  length_spans : Spans s length_field (λ l. 4)
  unfolding length_field
  length_spans = record { takes = λ at x p e. (field_spans 4 (length_test (length s - 4))).takes at x p e }

-- L and the contents stand in s
pub read_size : (s : List ℕ) (r : Record Placed) (p : ℕ) → read limits s 0 ≡ got r p → length (bytes (plain r)) ≤ length s
unfolding read give
read_size s r p e =
    let one = bind_got length_field _ s 0 r p e in
    let two = bind_got (contents limits) _ s one.place r p one.second in
    let three = bind_got end _ s two.place r p two.second in
    let same : two.value ≡ r = cc in
    let a = (length_spans {s = s}).takes 0 one.value one.place one.first in
    let b = (contents_span {s = s} limits).takes one.place two.value two.place two.first in
    let all : s ≡ a.taken ++ (b.taken ++ drop two.place s) = a.stand ∙ ap (λ t. a.taken ++ t) b.stand in
    subst (λ (z : Record Placed). length (bytes (plain z)) ≤ length s) same
    (omega (
      arith,
      ap length all,
      length-append a.taken (b.taken ++ drop two.place s),
      length-append b.taken (drop two.place s),
      a.told,
      b.told,
      record_size (plain two.value),
    ))
