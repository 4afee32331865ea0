-- The world's answer to an event that was told: whether it fits, what it does to the store, and where the run is then.
use Rattle.std.specs.Prelude.{ℕ, ◌+◌, ◌-◌, ◌<◌, ◌≤◌, List, [], ◌∷◌, Bool, true, false, ◌||◌, ◌≡◌, ◌≢◌, ltb, eqb, Err}
use Rattle.std.proofs.Math.Option.{some}
use Rattle.arith.specs.Map.{upd}
use Rattle.record.specs.declared.NameIx.{NameIx}
use Rattle.record.specs.declared.Op.{Op}
use Rattle.record.specs.declared.Op.TheVariants as op
use Rattle.record.specs.Record.{NameIx-discrete, Instr, type_in}
use Rattle.record.specs.Reader.{num_at}
use Rattle.record.specs.Decode.{id_width, instr_end}
use Rattle.machine.specs.Machine.{Store, Answer, value, go_on, halt, Event, Mach, Step, tick, answered, acknowledged}
use Rattle.running.specs.House.{go_on_byte, halt_byte, value_type}
use Rattle.running.specs.Steps.{Config, moved, shifted}
use Rattle.running.specs.Engine.{fits_value, fits_effect}
use Rattle.read_fields.specs.Places.{places}
use Rattle.codes.specs.Op.{op_of}
use Rattle.engine_cells.specs.declared.Cells.{Cells}
use Rattle.engine_quiet.specs.declared.Ground.{Ground}
use Rattle.engine_quiet.specs.declared.Over.TheVariants.{Unfit}
use Rattle.engine_quiet.specs.declared.Spot.{Spot}
use Rattle.engine_quiet.specs.Spot.{body_at, blocks_of, code_at, Grounded}
use Rattle.engine_events.specs.declared.Turn.{Turn}
use Rattle.engine_events.specs.Turn.{most_event, answers_left, config_in, instr_at, count_place, Ready, Loud}

-- ---- by the code: below 64 it has a dest, which the world gives a value
abbrev pub has_dest : ℕ → Bool
has_dest code = ltb code 64

-- the machine's answer from the world, for a code with a dest or without
unfoldable pub reply : Bool → ℕ → Instr → Mach → Event → List Answer → Step
reply true t i m e xs = answered t i m e xs
reply false t i m e xs = acknowledged m e xs

-- t: the type of dest
unfoldable pub fits_reply : Bool → ℕ → List Answer → Bool
fits_reply true t xs = fits_value t xs
fits_reply false t xs = fits_effect xs

-- the store with an answer that fits, where that is not halt
unfoldable pub given : Bool → Answer → Store → NameIx → Store
given true (value v) σ d = upd NameIx-discrete σ d (some v)
given true go_on σ d = σ
given true halt σ d = σ
given false x σ d = σ

-- the codes with a callee
abbrev pub has_callee : ℕ → Bool
has_callee code = eqb code 20 || eqb code 67

-- ---- by the operation: of those with an event the new values have a dest
unfoldable pub dest_op : Op → Bool
dest_op op.Const = false
dest_op (op.One o) = false
dest_op (op.Two o) = false
dest_op (op.New c) = true
dest_op (op.Effect c) = false
dest_op op.Nop = false
dest_op op.Jmp = false
dest_op op.Br = false
dest_op op.Ret = false

-- the operations with a callee
unfoldable pub callee_op : Op → Bool
callee_op op.Const = false
callee_op (op.One o) = false
callee_op (op.Two o) = false
callee_op (op.New c) = eqb c 20
callee_op (op.Effect c) = eqb c 67
callee_op op.Nop = false
callee_op op.Jmp = false
callee_op op.Br = false
callee_op op.Ret = false

-- ---- how far the code goes from the place of an instruction, so that no sum passes the last place
-- w: the bytes of an id, row: where its argument count stands, which is at most eight
abbrev pub Near : List ℕ → ℕ → ℕ → ℕ → Type 0
Near s w at row = (w ≤ 8) × ((at + 16 < places) × ((row + 32 < places) × (num_at s row 1 ≤ 8)))

-- ---- what an event is told by: the operation of the instruction at a place, the place of its argument count, and that of the event
pub record Telling (g : Ground) (o : Op) (at row to : ℕ) : Type 0 where
  pub grounded : Grounded g
  pub loud : Loud g.s.now at
  pub coded : o ≡ op_of (code_at g.s.now at)
  pub counted : row ≡ count_place g.s.now at
  pub near : Near g.s.now g.w at row
  pub room : to + most_event < places

-- ---- an answer's first byte: one that stands alone, or the type byte of a value
abbrev pub Known : ℕ → Type 0
Known b = (eqb b go_on_byte || (eqb b halt_byte || value_type b)) ≡ true

-- ---- the step once its event is told, at the instruction p at which the run t stands
-- whether the answer fits
abbrev pub reply_fits : Ground → Spot → Turn → Bool
reply_fits g p t =
    fits_reply (has_dest (code_at g.s.now p.at)) (type_in g.types.now (instr_at g.s.now p.at).dest) (answers_left g.list.now t)

-- where it leads
abbrev pub replied : Ground → Cells 256 → Spot → Turn → Event → Config
replied g before p t e =
    moved (blocks_of g) p.block
    (body_at g.s.now (instr_end (id_width g.s.now) g.s.now p.at) (p.left - 1))
    (reply (has_dest (code_at g.s.now p.at)) (type_in g.types.now (instr_at g.s.now p.at).dest) (instr_at g.s.now p.at)
    (tick (config_in g before t).mach) e (answers_left g.list.now t))

-- it fits, and the run is at r, whatever the event was
pub record Replies (g : Ground) (before after : Cells 256) (p : Spot) (t r : Turn) : Type 0 where
  pub fits : reply_fits g p t ≡ true
  pub goes : (e : Event) → replied g before p t e ≡ shifted (e ∷ []) 1 (config_in g after r)

-- from t to r, whose events end at a place; or the answer does not fit
pub record Answered (g : Ground) (before after : Cells 256) (event : ℕ) (p : Spot) (t r : Turn) : Type 0 where
  pub ready : Ready g r
  pub more : r.more ≡ t.more
  pub tells : r.tells ≡ t.tells
  pub told : r.event ≡ event
  pub unfit : r.spot ≡ Err Unfit → reply_fits g p t ≡ false
  pub fit : r.spot ≢ Err Unfit → Replies g before after p t r
