-- How many bytes a rewriting has: at most eight for each byte of the input, so that 65,536 suffice for 8,192.
-- With ids of w bytes, a save and the name that it makes have at most w + 50; an instruction with a destination has w + 4 or more. What is
-- not written itself, a const or an operator, has w + 6 or more and becomes at most w + 12.
use Prim.Native.Nat.{ℕ, suc, ◌+◌, ◌*◌, ◌<◌, ◌≤◌}
use mathlib.Core.Path.{◌≡◌, refl, sym, ap, ◌∙◌, subst}
use mathlib.Core.Bool.{Bool, true, false, cond, not}
use mathlib.Core.List.{List, [], ◌∷◌, ◌++◌, map}
use native.Mathlib.Omega.{arith}
use lib.ListN.{length, get_or, length-map}
use Rattle.arith.proofs.Clash.{clash}
use Rattle.arith.specs.declared.One.TheVariants.{Id}
use Rattle.arith.specs.Code.{code1, code2}
use Rattle.record.specs.declared.NameIx.{NameIx}
use Rattle.record.specs.declared.Shape.{Shape}
use Rattle.record.specs.Record.{nm, Instr, Block, Name, Record, Function, function, names_of, type_in, limits, id_bytes}
use Rattle.record.specs.Shape.{shape_of, value}
use Rattle.record.specs.Form.{form, Form}
use Rattle.record.specs.Good.{Each, ArgsOk, InstrOk, RecordOk, There}
use Rattle.record.specs.Write.{instr_bytes, block_bytes, name_bytes, bytes}
use Rattle.record.proofs.Tests.{count_few, names_args}
use Rattle.record.proofs.Form.{one_shape, two_shape, FormOf, of_constant, of_one, of_two, of_new, of_jump, of_branch, of_return, of_nop, of_effect, form_of}
use Rattle.record.proofs.Sizes.{join_cons, join_nil, total, total_append, operand_size, instr_size, block_size, name_size, content_size, record_size, id_bytes_are}
use Rattle.numbering.specs.State.{State, start, gen_new_vals, home_of}
use Rattle.numbering.specs.Number.{reads, make_const_instr, make_val_instr, instr_lvn, block_lvn, blocks_lvn, count_saves, lvn, by_form, place}
use Rattle.numbering.specs.Made.{made_name, made_names, made, rewriting}
use Rattle.numbering.proofs.Codes.{reads_args, instr_original}
use Rattle.numbering.proofs.Saves.{Saves, no_saves, one_save, instr_emits, save_of}
use Rattle.numbering.proofs.Made.{temps_behind}
use Rattle.numbering.proofs.Homes.{Homed, start_homed}
use Rattle.numbering.proofs.Written.{Written, itself, constant_of, over_one, over_two}
use Rattle.numbering.proofs.Passes.{LiteralOk, instr_literals, with_args, const_shape, saves_count}
use Rattle.numbering.proofs.Names.{made_name_short}
use Rattle.numbering.proofs.Wide.{BlocksOk, input_blocks, made_count, made_few, made_original}

-- ---- the bytes of instructions, blocks and names; w: the bytes of an id
abbrev body_total : ℕ → List Instr → ℕ
body_total w is = total (instr_bytes w) is

abbrev blocks_total : ℕ → List (Block Instr) → ℕ
blocks_total w bs = total (block_bytes w) bs

abbrev names_total : List Name → ℕ
names_total xs = total name_bytes xs

-- behind the code, of one with a dest: a literal, or the count of its arguments
dest_least : (d l : Bool) (n c m : ℕ) → d ≡ true → 3 ≤ cond d 2 0 + (cond l 9 0 + (cond (not l) (1 + 2 * n) 0 + (c + 2 * m)))
dest_least true true n c m e = omega arith
dest_least true false n c m e = omega arith
dest_least false l n c m e = clash (cc)

module _ (w : ℕ) (four : 4 ≤ w) where
  -- ---- an instruction of the input
  abbrev size : Instr → ℕ
  size i = length (instr_bytes w i)

  dest_size : (i : Instr) → (shape_of i.code).dest ≡ true → w + 4 ≤ size i
  dest_size i d =
      let sh = shape_of i.code in
      let s : 3 ≤ operand_size sh (length i.args) (length i.blocks) =
      dest_least sh.dest sh.literal (length i.args) (cond sh.callee 2 0) (length i.blocks) d in
      rw (instr_size w i) (omega (arith, s))

  const_size : (k : Instr) → k.code ≡ 0 → size k ≡ w + 12 + 2 * length k.blocks
  const_size k c = rw (instr_size w k, c, const_shape) (omega arith)

  value_size : (k : Instr) (n : ℕ) → shape_of k.code ≡ value n → size k ≡ w + 4 + 2 * length k.args + 2 * length k.blocks
  value_size k n c = rw (instr_size w k, c) (omega arith)

  -- an operator has an argument
  operator_size : (N B left n : ℕ) (i : Instr) → InstrOk N B left i → shape_of i.code ≡ value (suc n) → w + 6 ≤ size i
  operator_size N B left n i p c =
      let e : size i ≡ w + 4 + 2 * length i.args + 2 * length i.blocks = value_size i (suc n) c in
      let few : suc n ≤ length i.args =
      count_few (value (suc n)) (length i.args)
      (subst (λ (sh : Shape). There (not sh.literal) (ArgsOk N sh) [] i.args) c p.rest.args).count in
      omega (arith, e, few)

  -- ---- what is written of it; n: the bytes of a save that is written before it, and of the name that it makes
  -- itself, where a save is written only if it has a dest
  itself_size : (n s : ℕ) (d : Bool) → (d ≡ false → n ≡ 0) → (d ≡ true → w + 4 ≤ s) → n ≤ w + 50 → n + s ≤ 8 * s
  itself_size n s true f g l = let h : w + 4 ≤ s = g refl in omega (arith, four)
  itself_size n s false f g l = let h : n ≡ 0 = f refl in omega arith

  with_args_size : (i : Instr) (ys : List NameIx) → length ys ≡ length i.args → size (with_args i ys) ≡ size i
  with_args_size i ys e =
      instr_size w (with_args i ys) ∙ ap (λ (m : ℕ). w + (1 + operand_size (shape_of i.code) m (length i.blocks))) e ∙
      sym (instr_size w i)

  kept_size :
      (n : ℕ) (i : Instr) (ys : List NameIx) →
      n ≤ w + 50 →
      ((shape_of i.code).dest ≡ false → n ≡ 0) →
      length ys ≡ length i.args →
      n + size (with_args i ys) ≤ 8 * size i
  kept_size n i ys l d e = rw (with_args_size i ys e) (itself_size n (size i) (shape_of i.code).dest d (dest_size i) l)

  -- a const or an operator may become another one
  written_size :
      (M n : ℕ) (i : Instr) (ys : List NameIx) (k : Instr) →
      n ≤ w + 50 →
      w + 6 ≤ size i →
      length ys ≡ length i.args →
      Written LiteralOk M (with_args i ys) k →
      n + size k ≤ 8 * size i
  written_size M n i ys k l s e itself = rw (with_args_size i ys e) (omega (arith, four))
  written_size M n i ys k l s e (constant_of v o) =
      let q : size (make_const_instr (with_args i ys) v) ≡ w + 12 + 0 = const_size (make_const_instr (with_args i ys) v) refl in
      omega (arith, four)
  written_size M n i ys k l s e (over_one o {a = a} b) =
      let k = make_val_instr (with_args i ys) (code1 o) (a ∷ []) in
      let q : size k ≡ w + 4 + 2 + 0 = value_size k 1 (one_shape o) in
      omega (arith, four)
  written_size M n i ys k l s e (over_two o {a = a} {b = b} c d) =
      let k = make_val_instr (with_args i ys) (code2 o) (a ∷ b ∷ []) in
      let q : size k ≡ w + 4 + 4 + 0 = value_size k 2 (two_shape o) in
      omega (arith, four)

  -- of another form it is written itself
  module _ (N B left : ℕ) (t : NameIx → ℕ) (s : State) (i : Instr) (ys : List NameIx) (M n : ℕ) (p : InstrOk N B left i) where
    form_size :
        {f : Form} →
        FormOf t i f →
        n ≤ w + 50 →
        ((shape_of i.code).dest ≡ false → n ≡ 0) →
        length ys ≡ length i.args →
        Written LiteralOk M (with_args i ys) (by_form N s (with_args i ys) f).instr →
        n + size (by_form N s (with_args i ys) f).instr ≤ 8 * size i
    unfolding by_form place
    form_size (of_constant c) l d e q = written_size M n i ys _ l (rw (const_size i c) (omega arith)) e q
    form_size (of_one o c) l d e q =
        written_size M n i ys _ l (operator_size N B left 0 i p (ap shape_of (sym c) ∙ one_shape o)) e q
    form_size (of_two o c) l d e q =
        written_size M n i ys _ l (operator_size N B left 1 i p (ap shape_of (sym c) ∙ two_shape o)) e q
    form_size of_new l d e q = kept_size n i ys l d e
    form_size (of_jump c) l d e q = kept_size n i ys l d e
    form_size (of_branch c) l d e q = kept_size n i ys l d e
    form_size (of_return c) l d e q = kept_size n i ys l d e
    form_size (of_nop c) l d e q = kept_size n i ys l d e
    form_size of_effect l d e q = kept_size n i ys l d e

  saves_size :
      {N id : ℕ} {x : NameIx} {k k' : ℕ} {ss : List Instr} → Saves N id x k ss k' → body_total w ss + 44 * length ss ≤ w + 50
  saves_size no_saves = rw join_nil (omega arith)
  saves_size {N = N} {id = id} {x = x} {k = k} (one_save l) =
      let e : size (save_of N id x k) ≡ w + 4 + 2 + 0 = value_size (save_of N id x k) 1 (one_shape Id) in
      rw (join_cons (instr_bytes w (save_of N id x k)) [], join_nil, e) (omega arith)

  -- a save and 44 bytes for the name that it makes, and the instruction
  emitted_size :
      (N B left : ℕ) (t : NameIx → ℕ) (s : State) (i : Instr) →
      Homed LiteralOk N s →
      InstrOk N B left i →
      body_total w (instr_lvn N t s i).saves + 44 * length (instr_lvn N t s i).saves + size (instr_lvn N t s i).instr ≤ 8 * size i
  unfolding instr_lvn
  emitted_size N B left t s i h p =
      let xs = reads (form t i) in
      let seen = gen_new_vals s xs in
      let e = instr_emits N t s i (instr_original N B left t i p) in
      form_size N B left t seen i (map (home_of seen) xs) _
      (body_total w (instr_lvn N t s i).saves + 44 * length (instr_lvn N t s i).saves) p
      (form_of t i)
      (saves_size e.saves)
      (λ d. rw (e.unsaved d, join_nil) (omega arith))
      (length-map xs (home_of seen) ∙ ap length (reads_args N B left t i p))
      (instr_literals N B left t s i h p).written

  -- ---- a block
  body_size :
      (N B : ℕ) (t : NameIx → ℕ) (is : List Instr) (s : State) →
      Homed LiteralOk N s →
      Each (InstrOk N B) is →
      body_total w (block_lvn N t s is).body + 44 * (block_lvn N t s is).temps ≤ 8 * body_total w is + 44 * s.temps
  unfolding block_lvn
  body_size N B t [] s h p = rw join_nil (omega arith)
  body_size N B t (i ∷ is) s h p =
      let e = instr_lvn N t s i in
      let rest = block_lvn N t e.state is in
      let o = instr_emits N t s i (instr_original N B (length is) t i p.0) in
      let c : e.state.temps ≡ s.temps + length e.saves = saves_count o.saves in
      let b : body_total w e.saves + 44 * length e.saves + size e.instr ≤ 8 * size i =
      emitted_size N B (length is) t s i h p.0 in
      let g : body_total w rest.body + 44 * rest.temps ≤ 8 * body_total w is + 44 * e.state.temps =
      body_size N B t is e.state (instr_literals N B (length is) t s i h p.0).homed p.1 in
      let x : body_total w (i ∷ is) ≡ size i + body_total w is = join_cons (instr_bytes w i) (map (instr_bytes w) is) in
      let y : body_total w (e.instr ∷ rest.body) ≡ size e.instr + body_total w rest.body =
      join_cons (instr_bytes w e.instr) (map (instr_bytes w) rest.body) in
      let z : body_total w (e.saves ++ (e.instr ∷ rest.body)) ≡ body_total w e.saves + body_total w (e.instr ∷ rest.body) =
      total_append (instr_bytes w) e.saves (e.instr ∷ rest.body) in
      omega arith

  blocks_size :
      (f : Function) (B : ℕ) (bs : List (Block Instr)) (k : ℕ) →
      f.args ≤ names_of f →
      BlocksOk limits (names_of f) B bs →
      blocks_total w (blocks_lvn f k bs) + 44 * temps_behind f k bs ≤ 8 * blocks_total w bs + 44 * k
  unfolding blocks_lvn start
  blocks_size f B [] k a h = rw join_nil (omega arith)
  blocks_size f B (b ∷ bs) k a h =
      let N = names_of f in
      let t = type_in f.types in
      let q = block_lvn N t (start f.args k) b.body in
      let c : Block Instr = record { saves = count_saves N q.body; body = q.body } in
      let g : body_total w q.body + 44 * q.temps ≤ 8 * body_total w b.body + 44 * k =
      body_size N B t b.body (start f.args k) (start_homed LiteralOk N f.args k a) h.0.body in
      let m : blocks_total w (blocks_lvn f q.temps bs) + 44 * temps_behind f q.temps bs ≤ 8 * blocks_total w bs + 44 * q.temps =
      blocks_size f B bs q.temps a h.1 in
      let x : blocks_total w (b ∷ bs) ≡ length (block_bytes w b) + blocks_total w bs = join_cons (block_bytes w b) (map (block_bytes w) bs) in
      let y : blocks_total w (c ∷ blocks_lvn f q.temps bs) ≡ length (block_bytes w c) + blocks_total w (blocks_lvn f q.temps bs) =
      join_cons (block_bytes w c) (map (block_bytes w) (blocks_lvn f q.temps bs)) in
      let u : length (block_bytes w b) ≡ 4 + body_total w b.body = block_size w b in
      let v : length (block_bytes w c) ≡ 4 + body_total w q.body = block_size w c in
      omega arith

-- ---- names
made_names_size :
    (r : Record Instr) → RecordOk limits r → (xs : List NameIx) (k : ℕ) →
    ((j : ℕ) → j < length xs → (get_or xs j (nm 0)).0 < length r.names) →
    k + length xs ≤ 100000 →
    names_total (made_names r k xs) ≤ 44 * length xs
unfolding made_names
made_names_size r h [] k l b = rw join_nil (omega arith)
made_names_size r h (x ∷ xs) k l b =
    let s : length (made_name r k x).text ≤ 42 = made_name_short r h.names k x (l 0 (omega arith)) (omega arith) in
    let e : length (name_bytes (made_name r k x)) ≡ 2 + length (made_name r k x).text = name_size (made_name r k x) in
    let g : names_total (made_names r (suc k) xs) ≤ 44 * length xs =
    made_names_size r h xs (suc k) (λ j m. l (suc j) (omega arith)) (omega arith) in
    rw (join_cons (name_bytes (made_name r k x)) (map name_bytes (made_names r (suc k) xs))) (omega arith)

-- ---- a record
input_size : (r : Record Instr) → length (bytes r) ≡ 10 + (names_total r.names + blocks_total (id_bytes r.version) r.blocks)
input_size r = omega (arith, record_size r, content_size r)

pub rewriting_size : (r : Record Instr) → RecordOk limits r → length (bytes (rewriting r)) ≤ 8 * length (bytes r)
unfolding rewriting lvn
rewriting_size r h =
    let f = function r in
    let w = id_bytes r.version in
    let K : length (made r) ≤ 16384 = made_few r h in
    let n : names_of f ≡ length r.names = length-map r.names (λ x. x.type) in
    let a : r.args ≤ length r.names = names_args 256 r.args (length r.names) h.size in
    let c : length (made r) ≡ temps_behind f 0 r.blocks = made_count r h in
    let m : names_total (made_names r 0 (made r)) ≤ 44 * length (made r) =
    made_names_size r h (made r) 0 (made_original r h) (omega arith) in
    let x : names_total (r.names ++ made_names r 0 (made r)) ≡ names_total r.names + names_total (made_names r 0 (made r)) =
    total_append name_bytes r.names (made_names r 0 (made r)) in
    let b : blocks_total w (blocks_lvn f 0 r.blocks) + 44 * temps_behind f 0 r.blocks ≤ 8 * blocks_total w r.blocks + 44 * 0 =
    blocks_size w (id_bytes_are r.version).0 f (length r.blocks) r.blocks 0 (omega arith) (input_blocks r h) in
    let u : length (bytes r) ≡ 10 + (names_total r.names + blocks_total w r.blocks) = input_size r in
    let v : length (bytes (rewriting r)) ≡ 10 + (names_total (rewriting r).names + blocks_total w (rewriting r).blocks) =
    input_size (rewriting r) in
    omega arith

-- "Its output buffer is 65,536 bytes, which suffices."
pub rewriting_room : (r : Record Instr) → RecordOk limits r → length (bytes r) ≤ 8192 → length (bytes (rewriting r)) ≤ 65536
rewriting_room r h l = let s : length (bytes (rewriting r)) ≤ 8 * length (bytes r) = rewriting_size r h in omega arith
