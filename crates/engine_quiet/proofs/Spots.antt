-- The instruction at a spot by its operation, as the code reads it: the place behind it, that its operands lie in the record and dest has a
-- cell, and from what was done to where a run stands then.
use Prim.Native.Nat.{ℕ, ◌+◌, ◌-◌, ◌*◌, ◌<◌, ◌≤◌}
use mathlib.Core.Path.{◌≡◌, refl, sym}
use mathlib.Core.List.{List}
use mathlib.Core.Bool.{true}
use mathlib.Core.Option.{some}
use native.Mathlib.Omega.{arith}
use lib.ListN.{length}
use borrow.Author.Tests.{lt-leb, ne_eqb}
use Rattle.std.proofs.Common.{Result as CodeResult, Ok, Err}
use Rattle.arith.specs.declared.One.{One}
use Rattle.arith.specs.declared.Two.{Two}
use Rattle.arith.specs.Map.{upd}
use Rattle.arith.specs.Code.{code1, code2, with_code, one_of, two_of}
use Rattle.arith.specs.Operation.{Expr, constant, one, two, eval}
use Rattle.arith.proofs.Clash.{clash}
use Rattle.record.specs.declared.NameIx.{NameIx}
use Rattle.record.specs.declared.Op.{Op}
use Rattle.record.specs.declared.Op.TheVariants as op
use Rattle.record.specs.Record.{NameIx-discrete, type_in}
use Rattle.record.specs.Shape.{value, shape_of}
use Rattle.record.specs.Reader.{num_at}
use Rattle.record.specs.Decode.{id_width, names_count, index_from, instr_from, instr_end}
use Rattle.record.specs.Form.{pure, jump, value_of, form}
use Rattle.record.specs.Again.{Passes}
use Rattle.running.specs.Steps.{first_of, land}
use Rattle.codes.specs.Op.{op_of}
use Rattle.codes.proofs.Op.{op_test}
use Rattle.engine_cells.specs.declared.Cells.{Cells}
use Rattle.engine_cells.specs.Cells.{store_in}
use Rattle.engine_pure.specs.declared.Stop.{Stop}
use Rattle.engine_pure.specs.declared.Stop.TheVariants as stop
use Rattle.engine_pure.specs.Works.{Works, Lies}
use Rattle.engine_quiet.specs.declared.Ground.{Ground}
use Rattle.engine_quiet.specs.declared.Spot.{Spot}
use Rattle.engine_quiet.specs.Spot.{blocks_of, body_at, quiet, quiet_op, code_at, Facing, Landed, Behind, Moved}
use Rattle.engine_quiet.proofs.Bodies.{first_passes, first_inside}
use Rattle.engine_quiet.proofs.Forms.{value_is, value_below, value_end, one_shaped, one_form, two_shaped, two_form, const_is, const_form, const_end, const_below, const_kind, jump_form, nop_form, nop_end}
use Rattle.engine_quiet.proofs.Moved.{Run, here, sets_moved, done_moved, stops_moved, lacks_moved, jump_moved, nop_moved}

-- ---- operations and codes
-- without an event by the one as by the other
pub quiet_of : (c : ℕ) → quiet_op (op_of c) ≡ quiet c
unfolding quiet quiet_op op_of one_of two_of with_code code1 code2
quiet_of =
    op_test quiet_op quiet refl
    (λ c h. rw (lt-leb c 14 (omega (arith, h)), ne_eqb c 64 (λ e. omega (arith, h, e)), ne_eqb c 65 (λ e. omega (arith, h, e)), ne_eqb c 69 (λ e. omega (arith, h, e))) refl)

-- what is left of those without one is nop
pub nop_left :
    (o : Op) → quiet_op o ≡ true → (o ≡ op.Const → ⊥) → ((p : One) → o ≡ op.One p → ⊥) → ((p : Two) → o ≡ op.Two p → ⊥) →
    (o ≡ op.Jmp → ⊥) → (o ≡ op.Br → ⊥) → op.Nop ≡ o
unfolding quiet_op
nop_left op.Const q a b c d e = absurd (a refl)
nop_left (op.One p) q a b c d e = absurd (b p refl)
nop_left (op.Two p) q a b c d e = absurd (c p refl)
nop_left (op.New k) q a b c d e = clash (cc q)
nop_left (op.Effect k) q a b c d e = clash (cc q)
nop_left op.Nop q a b c d e = refl
nop_left op.Jmp q a b c d e = absurd (d refl)
nop_left op.Br q a b c d e = absurd (e refl)
nop_left op.Ret q a b c d e = clash (cc q)

-- p: the spot, at: the place behind the code of its instruction
module _ {g : Ground} {p : Spot} (facing : Facing g p) (at : ℕ) (place : at ≡ p.at + g.w + 1) where
  abbrev s : List ℕ
  s = g.s.now

  abbrev types : List ℕ
  types = g.types.now

  passes : Passes (names_count s) (instr_from (id_width s) s p.at)
  passes = first_passes s p.at p.left facing.standing.sound facing.standing.some

  there : p.at + id_width s + 1 ≡ at
  there = rw (← facing.grounded.width) (sym place)

  -- as onward has it
  abbrev On : ℕ → Run → Type 0
  On next r = Landed g (first_of p.block (body_at s next (p.left - 1)) (land (blocks_of g) (p.block + 1))) r

  inside_by : (next : ℕ) → next ≡ instr_end (id_width s) s p.at → next ≤ length s
  inside_by next e = omega (arith, e, first_inside s p.at p.left facing.standing.sound facing.standing.some)

  dest_few : (few : ℕ) → few < names_count s → few < 256
  dest_few few f = omega (arith, facing.grounded.laid.names, f)

  -- ---- an operator of n names, which has so many bytes behind its code, and its expression
  module _
      (n : ℕ) (shaped : shape_of (code_at s p.at) ≡ value n) (size : ℕ) (es : size ≡ 3 + 2 * n)
      (x : Expr NameIx) (formed : form (type_in types) (here s p) ≡ pure x) where
    pub value_next : at + size ≡ instr_end (id_width s) s p.at
    value_next = omega (arith, there, es, value_end (id_width s) s p.at (names_count s) passes n shaped)

    pub value_lies : Lies 256 s at size
    value_lies =
        let below : num_at s at 2 < names_count s =
        rw (← there) (value_below (id_width s) s p.at (names_count s) passes n shaped) in
        (inside_by (at + size) value_next, dest_few (num_at s at 2) below)

    pub value_moved :
        (before after : Cells 256) (r : Run) (worked : CodeResult Unit Stop) →
        Works before after (index_from s at) (eval (store_in before) x) worked → Behind g p worked r → Moved g before after p r
    unfolding Behind
    value_moved before after r worked works behind = go worked works_here behind
      where
        works_here : Works before after (here s p).dest (eval (store_in before) x) worked
        works_here =
            let d : (here s p).dest ≡ index_from s at =
            rw (← there) (value_is (id_width s) s p.at (names_count s) passes n shaped) in
            rw d works

        go :
            (k : CodeResult Unit Stop) → Works before after (here s p).dest (eval (store_in before) x) k → Behind g p k r →
            Moved g before after p r
        go (Ok u) w b = done_moved g before p facing after r x formed (Ok u) w refl b
        go (Err stop.Division) w b =
            stops_moved g before p facing after r x formed (Err stop.Division) w refl (num_at s p.at (id_width s)) refl b
        go (Err stop.Unset) w b = lacks_moved g before p facing after r x formed (Err stop.Unset) w refl b

  module _ (o : One) (coded : op.One o ≡ op_of (code_at s p.at)) where
    pub one_here : form (type_in types) (here s p) ≡ pure (one o (index_from s (at + 3)))
    one_here = rw (← there) (one_form (id_width s) s p.at (names_count s) passes o coded (type_in types))

    pub one_value : shape_of (code_at s p.at) ≡ value 1
    one_value = one_shaped (id_width s) s p.at (names_count s) passes o coded

  module _ (o : Two) (coded : op.Two o ≡ op_of (code_at s p.at)) where
    pub two_here : form (type_in types) (here s p) ≡ pure (two o (index_from s (at + 3)) (index_from s (at + 5)))
    two_here = rw (← there) (two_form (id_width s) s p.at (names_count s) passes o coded (type_in types))

    pub two_value : shape_of (code_at s p.at) ≡ value 2
    two_value = two_shaped (id_width s) s p.at (names_count s) passes o coded

  -- ---- const
  module _ (coded : op.Const ≡ op_of (code_at s p.at)) where
    pub const_next : at + 11 ≡ instr_end (id_width s) s p.at
    const_next = rw (← there) (sym (const_end (id_width s) s p.at (names_count s) passes coded))

    const_inside : at + 11 ≤ length s
    const_inside = inside_by (at + 11) const_next

    pub const_lies : (num_at s (at + 2) 1 ≤ 3) × Lies 256 s at 11
    const_lies =
        let below : num_at s at 2 < names_count s =
        rw (← there) (const_below (id_width s) s p.at (names_count s) passes coded) in
        let kind : num_at s (at + 2) 1 ≤ 3 =
        rw (← there) (const_kind (id_width s) s p.at (names_count s) passes coded) in
        (kind, (const_inside, dest_few (num_at s at 2) below))

    pub const_done :
        (before after : Cells 256) (r : Run) →
        store_in after ≡
        upd NameIx-discrete (store_in before) (index_from s at)
        (some (value_of (type_in types (index_from s at)) (num_at s (at + 2) 1) (num_at s (at + 3) 8))) →
        On (at + 11) r → Moved g before after p r
    unfolding eval
    const_done before after r set l =
        let v = value_of (type_in types (index_from s at)) (num_at s (at + 2) 1) (num_at s (at + 3) 8) in
        let formed : form (type_in types) (here s p) ≡ pure (constant v) =
        rw (← there) (const_form (id_width s) s p.at (names_count s) passes coded (type_in types)) in
        let d : (here s p).dest ≡ index_from s at =
        rw (← there) (const_is (id_width s) s p.at (names_count s) passes coded) in
        sets_moved g before p facing after r (constant v) formed v refl (rw d set) (rw const_next at l)

  -- ---- jmp
  pub jump_done :
      op.Jmp ≡ op_of (code_at s p.at) → (before : Cells 256) (r : Run) (b : ℕ) → b ≡ num_at s (at + 1) 2 →
      Landed g (land (blocks_of g) b) r → Moved g before before p r
  jump_done coded before r b eb l =
      let formed : form (type_in types) (here s p) ≡ jump b =
      let two : p.at + id_width s + 2 ≡ at + 1 = omega (arith, there) in
      rw (eb, ← two) (jump_form (id_width s) s p.at (names_count s) passes coded (type_in types)) in
      jump_moved g before p facing r b formed l

  -- ---- nop
  module _ (coded : op.Nop ≡ op_of (code_at s p.at)) where
    pub nop_next : at + 1 ≡ instr_end (id_width s) s p.at
    nop_next = omega (arith, there, nop_end (id_width s) s p.at (names_count s) passes coded)

    pub nop_done : (before : Cells 256) (r : Run) → On (at + 1) r → Moved g before before p r
    nop_done before r l =
        nop_moved g before p facing r
        (nop_form (id_width s) s p.at (names_count s) passes coded (type_in types)) (rw nop_next at l)
